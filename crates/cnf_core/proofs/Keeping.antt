-- Lemmas for whoever writes formulas: steps that keep assignments, and what the literals of a clause decide.
use Rattle.std.proofs.Common.{◌≡◌, ◌↔◌, ℕ, ◌+◌, ◌≤◌, Bool, List, [], ◌∷◌, ◌++◌, refl, sym, ◌∙◌, subst, arith}
use Rattle.std.specs.Prelude.{All, Contains}
use Rattle.std.proofs.lemmas.List.Elements.{All-append, All-contains, All-push, Contains-append_left, Contains-append_right, Contains-push}
use Rattle.cnf_core.specs.Literal.{HaveSameLiterals, IsClause, IsVariable, Literal, VariablesUpTo, negation}
use Rattle.cnf_core.specs.Clauses.{AgreeUpTo, Satisfies, SatisfiesClause}
use Rattle.cnf_core.specs.Formula.{Cnf, Keeps, NamesItsVariables, SpeaksOf}
use Rattle.cnf_core.specs.Steps.{IsConsistent}
use Rattle.cnf_core.proofs.Members.{All-from_contains}

pub agree_back : (most : ℕ) (s t : ℕ → Bool) → AgreeUpTo most s t → AgreeUpTo most t s
agree_back most s t agree v one below = sym (agree v one below)

pub agree_below : (low high : ℕ) (s t : ℕ → Bool) → low ≤ high → AgreeUpTo high s t → AgreeUpTo low s t
agree_below low high s t order agree v one below = agree v one (omega arith)

pub agree_on : (most : ℕ) (s t u : ℕ → Bool) → AgreeUpTo most s t → AgreeUpTo most t u → AgreeUpTo most s u
agree_on most s t u first second v one below = first v one below ∙ second v one below

-- a clause is satisfied by what gives its variables the same values
pub clause_along : (most : ℕ) (s t : ℕ → Bool) (c : List Literal) → All (λ l. IsVariable l.var) c → VariablesUpTo most c → AgreeUpTo most s t → SatisfiesClause s c → SatisfiesClause t c
clause_along most s t c variables names agree h =
    let l = h.literal in
    let one = All-contains (λ m. IsVariable m.var) c l variables h.in_clause in
    let low = All-contains (λ m. m.var ≤ most) c l names h.in_clause in
    record { literal = l; in_clause = h.in_clause; is_true = sym (agree l.var one.0 low) ∙ h.is_true }

-- clauses are satisfied by what gives their variables the same values
pub satisfied_along : (most : ℕ) (s t : ℕ → Bool) (clauses : List (List Literal)) → All IsClause clauses → All (VariablesUpTo most) clauses → AgreeUpTo most s t → Satisfies s clauses → Satisfies t clauses
satisfied_along most s t clauses are names agree h =
    All-from_contains (SatisfiesClause t) clauses (λ c found.
    clause_along most s t c (All-contains IsClause clauses c are found).variables (All-contains (VariablesUpTo most) clauses c names found) agree (All-contains (SatisfiesClause s) clauses c h found))

-- a formula keeps itself
pub keeps_itself : (f : Cnf) → Keeps f f (λ s. Unit {0})
keeps_itself f = record {
  variables = omega arith;
  extension = λ s here. (λ far. tt, λ any. record { values = s; agrees = λ v one below. refl; satisfies = here });
  restriction = λ s here. here;
}

-- one more variable, of which nothing is said
pub keeps_fresh : (f : Cnf) → Keeps f (record f { vars = f.vars + 1 }) (λ s. Unit {0})
keeps_fresh f = record {
  variables = omega arith;
  extension = λ s here. (λ far. tt, λ any. record { values = s; agrees = λ v one below. refl; satisfies = here });
  restriction = λ s here. here;
}

front : (xs ys : List (List Literal)) (s : ℕ → Bool) → Satisfies s (xs ++ ys) → Satisfies s xs
front xs ys s h = All-from_contains (SatisfiesClause s) xs (λ c found. All-contains (SatisfiesClause s) (xs ++ ys) c h (Contains-append_left xs ys c found))

last_of : (xs : List (List Literal)) (c : List Literal) (s : ℕ → Bool) → Satisfies s (xs ++ c ∷ []) → SatisfiesClause s c
last_of xs c s h = All-contains (SatisfiesClause s) (xs ++ c ∷ []) c h (Contains-push xs c)

-- one more clause
pub keeps_clause : (f : Cnf) (c : List Literal) → IsClause c → VariablesUpTo f.vars c → Keeps f (record f { clauses = f.clauses ++ c ∷ [] }) (λ s. SatisfiesClause s c)
keeps_clause f c is names = record {
  variables = omega arith;
  extension = λ s here. (
    λ far. clause_along f.vars far.values s c is.variables names (agree_back f.vars s far.values far.agrees) (last_of f.clauses c far.values far.satisfies),
    λ met. record { values = s; agrees = λ v one below. refl; satisfies = All-push (SatisfiesClause s) f.clauses c here met },
  );
  restriction = λ s satisfied. front f.clauses (c ∷ []) s satisfied;
}

-- the condition in other words, which need only agree where the old formula is satisfied
pub keeps_like : (f g : Cnf) (C E : (ℕ → Bool) → Type 0) → Keeps f g C → ((s : ℕ → Bool) → Satisfies s f.clauses → C s ↔ E s) → Keeps f g E
keeps_like f g C E keeps same = record {
  variables = keeps.variables;
  extension = λ s here. (
    λ far. (same s here).0 ((keeps.extension s here).0 far),
    λ met. (keeps.extension s here).1 ((same s here).1 met),
  );
  restriction = keeps.restriction;
}

-- More clauses, over more variables: the condition is what has an extension that satisfies them.
pub keeps_added : (f g : Cnf) (added : List (List Literal)) (C : (ℕ → Bool) → Type 0) → f.vars ≤ g.vars → g.clauses ≡ f.clauses ++ added → All IsClause f.clauses → NamesItsVariables f
    → SpeaksOf f.vars C
    → ((s : ℕ → Bool) → Satisfies s f.clauses → Satisfies s added → C s)
    → ((s : ℕ → Bool) → Satisfies s f.clauses → C s → (t : ℕ → Bool) × AgreeUpTo f.vars s t × Satisfies t added)
    → Keeps f g C
keeps_added f g added C more is are names speaks sound complete =
    let split : (s : ℕ → Bool) → Satisfies s g.clauses → Satisfies s f.clauses × Satisfies s added = λ s h. both f.clauses added s (subst (Satisfies s) is h) in
    record {
      variables = more;
      extension = λ s here. (
        λ far. speaks far.values s (agree_back f.vars s far.values far.agrees) (sound far.values (split far.values far.satisfies).0 (split far.values far.satisfies).1),
        λ met. let t = complete s here met in record {
          values = t.0;
          agrees = t.1;
          satisfies = subst (Satisfies t.0) (sym is) (All-append (SatisfiesClause t.0) f.clauses added (satisfied_along f.vars s t.0 f.clauses are names t.1 here) t.2);
        },
      );
      restriction = λ s satisfied. (split s satisfied).0;
    }
  where
    both : (xs ys : List (List Literal)) (s : ℕ → Bool) → Satisfies s (xs ++ ys) → Satisfies s xs × Satisfies s ys
    both xs ys s h = (
      front xs ys s h,
      All-from_contains (SatisfiesClause s) ys (λ c found. All-contains (SatisfiesClause s) (xs ++ ys) c h (Contains-append_right xs ys c found)),
    )

-- a clause of the same literals names no greater variable
pub same_variables : (most : ℕ) (c literals : List Literal) → HaveSameLiterals c literals → VariablesUpTo most literals → VariablesUpTo most c
same_variables most c literals same names = All-from_contains (λ l. l.var ≤ most) c (λ l found. All-contains (λ m. m.var ≤ most) literals l names (All-contains (Contains literals) c l same.from_first found))

-- a clause of the same literals is satisfied where they are
pub same_satisfied : (s : ℕ → Bool) (c literals : List Literal) → HaveSameLiterals c literals → SatisfiesClause s c ↔ SatisfiesClause s literals
same_satisfied s c literals same = (
  λ h. record { literal = h.literal; in_clause = All-contains (Contains literals) c h.literal same.from_first h.in_clause; is_true = h.is_true },
  λ h. record { literal = h.literal; in_clause = All-contains (Contains c) literals h.literal same.from_second h.in_clause; is_true = h.is_true },
)

-- a clause of the same literals holds none together with its negation where they don't
pub same_consistent : (c literals : List Literal) → HaveSameLiterals c literals → IsConsistent literals → IsConsistent c
same_consistent c literals same consistent l here there = consistent l (All-contains (Contains literals) c l same.from_first here) (All-contains (Contains literals) c (negation l) same.from_first there)
