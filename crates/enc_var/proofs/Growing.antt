-- What a new variable's literals and clauses give.
use Rattle.std.proofs.Common.{◌≡◌, ◌↔◌, inl, inr, ℕ, zero, suc, ◌+◌, ◌-◌, ◌*◌, ◌<◌, ◌≤◌, Bool, true, false, List, [], ◌∷◌, ◌++◌, length, refl, sym, ap, subst, ◌∙◌, arith}
use Rattle.std.specs.List.{All, Contains}
use Rattle.std.proofs.lemmas.List.Elements.{All-append, All-head, Contains-push}
use Rattle.cnf_core.proofs.Keeping.{satisfied_along}
use Rattle.cnf_core.proofs.Members.{All-from_contains, none_in_nil}
use Rattle.cnf_core.specs.Clauses.{IsTrueUnder, Satisfies, SatisfiesClause}
use Rattle.cnf_core.specs.Formula.{Cnf, NamesItsVariables}
use Rattle.cnf_core.specs.Literal.{HaveSameLiterals, IsClause, IsOrdered, Literal, VariablesUpTo}
use Rattle.ep_base.specs.Runs.{IsAscending}
use Rattle.cnf_core.specs.declared.lit.TheConstants.{MOST_VARIABLE}
use Rattle.enc_var.proofs.Places.{IsAtPlace, decoded_at_place, means_at_place, stands_at}
use Rattle.enc_var.proofs.Saying.{only_one, says_nothing}
use Rattle.enc_var.proofs.TiedPlaces.{chosen, chosen_agrees, chosen_reaches, chosen_single, chosen_tied, single_at_place, tied_at_place, tied_somewhere}
use Rattle.enc_var.specs.Decoding.{Means, VariableLiterals, yes}
use Rattle.enc_var.specs.Layouts.{HasFreeChoice}
use Rattle.enc_var.specs.Ties.{AreMet, AreTied, Grows, SaysMore}

by_count : {X : Type 0} (n : ℕ) → (n ≡ 0 → X) → (n ≡ 1 → X) → (1 < n → X) → X
by_count zero none one more = none refl
by_count (suc zero) none one more = one refl
by_count (suc (suc n)) none one more = more (omega arith)

-- where its clauses are met a variable means what it says
pub means_met : (s : ℕ → Bool) (e : VariableLiterals) → IsAscending e.domain → AreMet e.first (length e.domain) s → Means s e
means_met s e up met =
    by_count (length e.domain)
    (λ none. absurd (met.some none))
    (λ one. means_at_place s e 0 (single_at_place s e up one (met.single one)))
    (λ more. let found = tied_somewhere s e up more (met.tied more) in means_at_place s e found.0 found.1)

-- the chosen assignment is at its place
pub chosen_at : (s : ℕ → Bool) (most : ℕ) (e : VariableLiterals) (p : ℕ) → e.first ≡ most + 1 → IsAscending e.domain → p < length e.domain → IsAtPlace (chosen s most (length e.domain) p) e p
chosen_at s most e p begins up low =
    by_count (length e.domain)
    (λ none. absurd (omega (arith, none, low)))
    (λ one. subst (IsAtPlace (chosen s most (length e.domain) p) e) (omega (arith, one, low))
    (single_at_place (chosen s most (length e.domain) p) e up one (ap (chosen s most (length e.domain) p) begins ∙ chosen_single s most (length e.domain) p (omega (arith, one)))))
    (λ more. tied_at_place (chosen s most (length e.domain) p) e p up more low
    (λ j within. ap (λ v. chosen s most (length e.domain) p (v + j)) begins ∙ chosen_reaches s most (length e.domain) p more j within)
    (subst (λ v. AreTied v (length e.domain) (chosen s most (length e.domain) p)) (sym begins) (chosen_tied s most (length e.domain) p more)))

pub chosen_met : (s : ℕ → Bool) (most : ℕ) (e : VariableLiterals) (p : ℕ) → e.first ≡ most + 1 → p < length e.domain → AreMet e.first (length e.domain) (chosen s most (length e.domain) p)
chosen_met s most e p begins low = record {
  some = λ none. absurd (omega (arith, none, low));
  single = λ one. ap (chosen s most (length e.domain) p) begins ∙ chosen_single s most (length e.domain) p (omega (arith, one));
  tied = λ more. subst (λ v. AreTied v (length e.domain) (chosen s most (length e.domain) p)) (sym begins) (chosen_tied s most (length e.domain) p more);
}

-- each value can be chosen
pub free_choice : (f g : Cnf) (e : VariableLiterals) (more : ℕ) → e.first ≡ f.vars + 1 → IsAscending e.domain → All IsClause f.clauses → NamesItsVariables f
    → Grows f g more (AreMet e.first (length e.domain)) → (length e.domain ≡ 1 → Contains g.clauses (yes e.first ∷ [])) → HasFreeChoice f e g
free_choice f g e more begins up are names grows fixed = record {
  choice = λ s v met found.
      let p = found.0 in
      let t = chosen s f.vars (length e.domain) p in
      let agrees = chosen_agrees s f.vars (length e.domain) p in (
        record {
          values = t;
          agrees = agrees;
          satisfies = subst (Satisfies t) (sym grows.clauses) (All-append (SatisfiesClause t) f.clauses grows.added
              (satisfied_along f.vars s t f.clauses are names agrees met)
              ((grows.says t).1 (chosen_met s f.vars e p begins found.1)));
        },
        decoded_at_place t e p (chosen_at s f.vars e p begins up found.1) ∙ stands_at e.domain v found,
      );
  fixed = fixed;
}

-- an ordered clause of one literal is that literal alone
pub ordered_single : (c : List Literal) (a : Literal) → IsOrdered c → HaveSameLiterals c (a ∷ []) → c ≡ a ∷ []
ordered_single [] a ordered same = absurd (none_in_nil a (All-head (Contains []) a [] same.from_second))
ordered_single (x ∷ []) a ordered same = ap (λ l. l ∷ []) (sym (only_one a x (All-head (Contains (a ∷ [])) x [] same.from_first)))
ordered_single (x ∷ y ∷ c) a ordered same =
    let first = only_one a x (same.from_first 0 x (omega arith)) in
    let second = only_one a y (same.from_first 1 y (omega arith)) in
    let order = ordered 0 1 x (omega arith) (omega arith) in
    absurd (elim order as (λ _. ⊥) [
      | inl less ↦ omega (arith, less, ap (λ l. l.var) (sym first ∙ second))
      | inr signs ↦ clash (ap (λ l. l.positive) (sym first ∙ second)) signs.1 signs.2
    ])
  where
    clash : x.positive ≡ y.positive → x.positive ≡ true → y.positive ≡ false → ⊥
    clash e t f = bad (sym t ∙ e ∙ f)
      where
        bad : true ≡ false → ⊥
        bad h = cc

-- clauses that are said after variables were added
pub grown : (f mid g : Cnf) (more : ℕ) (C : (ℕ → Bool) → Type 0) → mid ≡ record f { vars = f.vars + more } → SaysMore mid g C → Grows f g more C
grown f mid g more C is h = record {
  vars = h.vars ∙ ap (λ x. x.vars) is;
  from_new = h.from_new ∙ ap (λ x. x.from_new) is;
  added = h.added;
  clauses = h.clauses ∙ ap (λ x. x.clauses ++ h.added) is;
  consistent = h.consistent;
  says = h.says;
}

pub grown_like : (f g : Cnf) (more : ℕ) (C D : (ℕ → Bool) → Type 0) → Grows f g more C → ((s : ℕ → Bool) → C s ↔ D s) → Grows f g more D
grown_like f g more C D h same = record {
  vars = h.vars;
  from_new = h.from_new;
  added = h.added;
  clauses = h.clauses;
  consistent = h.consistent;
  says = λ s. (λ met. (same s).0 ((h.says s).0 met), λ on. (h.says s).1 ((same s).1 on));
}

pub met_none : (first count : ℕ) (s : ℕ → Bool) → count ≡ 0 → (⊥ ↔ AreMet first count s)
met_none first count s none = (λ no. absurd no, λ met. met.some none)

pub met_single : (first count : ℕ) (s : ℕ → Bool) → count ≡ 1 → (IsTrueUnder s (yes first) ↔ AreMet first count s)
met_single first count s one = (
  λ on. record { some = λ none. omega (arith, one, none); single = λ _. on; tied = λ more. absurd (omega (arith, one, more)) },
  λ met. met.single one,
)

pub met_two : (first count : ℕ) (s : ℕ → Bool) → count ≡ 2 → (Unit {0} ↔ AreMet first count s)
met_two first count s two = (
  λ on. record { some = λ none. omega (arith, two, none); single = λ one. absurd (omega (arith, two, one)); tied = λ more k low. absurd (omega (arith, two, low)) },
  λ met. tt,
)

pub met_more : (first count : ℕ) (s : ℕ → Bool) → 2 < count → (AreTied first count s ↔ AreMet first count s)
met_more first count s many = (
  λ tied. record { some = λ none. omega (arith, many, none); single = λ one. absurd (omega (arith, many, one)); tied = λ more. tied },
  λ met. met.tied (omega (arith, many)),
)

pub one_named : (most : ℕ) (a : Literal) → a.var ≤ most → VariablesUpTo most (a ∷ [])
one_named most a low = All-from_contains (λ l. l.var ≤ most) (a ∷ []) (λ l found. subst (λ (m : Literal). m.var ≤ most) (only_one a l found) low)

pub one_stands : (f g : Cnf) (c : List Literal) (a : Literal) → IsOrdered c → HaveSameLiterals c (a ∷ []) → g ≡ record f { clauses = f.clauses ++ c ∷ [] } → Contains g.clauses (a ∷ [])
one_stands f g c a ordered same is =
    subst (λ (x : Cnf). Contains x.clauses (a ∷ [])) (sym is)
    (subst (λ d. Contains (f.clauses ++ d ∷ []) (a ∷ [])) (sym (ordered_single c a ordered same)) (Contains-push f.clauses (a ∷ [])))

same_vars : (f : Cnf) (more : ℕ) → more ≡ 0 → f ≡ record f { vars = f.vars + more }
same_vars f more none = ap (λ n. record f { vars = n }) (omega (arith, none))

pub grows_none : (f g : Cnf) (first count : ℕ) (c : List Literal) → count ≡ 0 → c ≡ [] → SaysMore f g (λ s. SatisfiesClause s c) → Grows f g (2 * count - 4) (AreMet first count)
grows_none f g first count c none empty h =
    grown_like f g (2 * count - 4) (λ s. SatisfiesClause s c) (AreMet first count) (grown f f g (2 * count - 4) (λ s. SatisfiesClause s c) (same_vars f (2 * count - 4) (omega (arith, none))) h)
    (λ s. (λ met. absurd (none_in_nil met.literal (subst (λ d. Contains d met.literal) empty met.in_clause)), λ met. absurd (met.some none)))

pub grows_single : (f g : Cnf) (first count : ℕ) (l : Literal) → count ≡ 1 → l ≡ yes first → SaysMore f g (λ s. IsTrueUnder s l) → Grows f g (2 * count - 4) (AreMet first count)
grows_single f g first count l one is h =
    grown_like f g (2 * count - 4) (λ s. IsTrueUnder s (yes first)) (AreMet first count)
    (grown f f g (2 * count - 4) (λ s. IsTrueUnder s (yes first)) (same_vars f (2 * count - 4) (omega (arith, one))) (subst (λ m. SaysMore f g (λ s. IsTrueUnder s m)) is h))
    (λ s. met_single first count s one)

pub grows_two : (f : Cnf) (first count : ℕ) → count ≡ 2 → Grows f f (2 * count - 4) (AreMet first count)
grows_two f first count two =
    grown_like f f (2 * count - 4) (λ s. Unit {0}) (AreMet first count) (grown f f f (2 * count - 4) (λ s. Unit {0}) (same_vars f (2 * count - 4) (omega (arith, two))) (says_nothing f))
    (λ s. met_two first count s two)

pub grows_more : (f mid g : Cnf) (first count : ℕ) → 2 < count → mid ≡ record f { vars = f.vars + (2 * count - 4) } → SaysMore mid g (AreTied first count) → Grows f g (2 * count - 4) (AreMet first count)
grows_more f mid g first count many is h =
    grown_like f g (2 * count - 4) (AreTied first count) (AreMet first count) (grown f mid g (2 * count - 4) (AreTied first count) is h) (λ s. met_more first count s many)

-- the literals of so many values lie within the variables that there can be
pub has_room : (first count vars most : ℕ) → first ≡ vars → most ≡ vars + (2 * count - 4) → most ≤ MOST_VARIABLE → first ≤ MOST_VARIABLE → first + 2 * count ≤ MOST_VARIABLE + 4
has_room first count vars most last all within low = omega (arith, last, all, within, low)
