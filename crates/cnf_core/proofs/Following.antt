-- What a valid log's steps follow from.
use Rattle.std.proofs.Common.{◌≡◌, ℕ, ◌<◌, Bool, true, false, not, inl, inr, List, [], ◌∷◌, ◌++◌, length, get_or, refl, ◌∙◌, sym, subst, arith, append_assoc}
use Rattle.std.specs.Prelude.{All, Contains, map}
use Rattle.std.specs.List.{list_any}
use Rattle.std.proofs.lemmas.Bool.{false≢true}
use Rattle.std.proofs.lemmas.List.{append-nil, map-append, length-map}
use Rattle.std.proofs.lemmas.List.Elements.{All-nil, All-cons, All-head, All-tail, All-append, All-map, All-contains, All-get_or, All-weaker}
use Rattle.cnf_core.specs.Literal.{Literal, negation, same_sign}
use Rattle.cnf_core.specs.Clauses.{IsTrueUnder, SatisfiesClause, Satisfies}
use Rattle.cnf_core.specs.Events.{LogEvent, given, step, clause_of, clauses_of, givens, EachStep, HintsAreThere}
use Rattle.cnf_core.specs.Reading.{is_shown_by}
use Rattle.cnf_core.specs.Steps.{clauses_at, IsValidStep, IsValidLog}
use Rattle.cnf_core.proofs.Members.{All-from_contains, either, passes_some, passes_none}
use Rattle.cnf_core.proofs.Reading.{Settled, not_shown}

-- whether a literal is true under an assignment
abbrev is_true : (ℕ → Bool) → Literal → Bool
is_true s l = same_sign (s l.var) l.positive

value_from_test : (p q : Bool) → same_sign p q ≡ true → p ≡ q
value_from_test true true e = refl
value_from_test true false e = absurd (false≢true e)
value_from_test false true e = absurd (false≢true e)
value_from_test false false e = refl

value_from_failed_test : (p q : Bool) → same_sign p q ≡ false → p ≡ not q
value_from_failed_test true true e = absurd (false≢true (sym e))
value_from_failed_test true false e = refl
value_from_failed_test false true e = refl
value_from_failed_test false false e = absurd (false≢true (sym e))

apart : (p q : Bool) → p ≡ q → p ≡ not q → ⊥
apart p true e f = false≢true (sym f ∙ e)
apart p false e f = false≢true (sym e ∙ f)

-- no literal is true together with its negation
pub values_consistent : (s : ℕ → Bool) (l : Literal) → IsTrueUnder s l → IsTrueUnder s (negation l) → ⊥
values_consistent s l t f = apart (s l.var) l.positive t f

pub settled_from_satisfied : (s : ℕ → Bool) (clauses : List (List Literal)) → Satisfies s clauses → All (Settled (IsTrueUnder s)) clauses
settled_from_satisfied s clauses satisfied =
    All-weaker (SatisfiesClause s) (Settled (IsTrueUnder s)) (λ clause t. inl (t.literal, t.in_clause, t.is_true)) clauses satisfied

-- an assignment that satisfies the clauses of the hints satisfies the clause that they show
pub shown_follows : (s : ℕ → Bool) (clause : List Literal) (hints : List (List Literal)) → is_shown_by clause hints ≡ true → Satisfies s hints → SatisfiesClause s clause
shown_follows s clause hints shown satisfied =
    elim (either (list_any (is_true s) clause)) [
      | inl some ↦ let found = passes_some (is_true s) clause some in
          record { literal = found.0; in_clause = found.1; is_true = value_from_test (s found.0.var) found.0.positive found.2 }
      | inr none ↦ absurd (not_shown (IsTrueUnder s) (values_consistent s) clause hints (settled_from_satisfied s hints satisfied) (all_negated clause none) shown)
    ]
  where
    all_negated : (literals : List Literal) → list_any (is_true s) literals ≡ false → (l : Literal) → Contains (map negation literals) l → IsTrueUnder s l
    all_negated literals none l found = All-contains (IsTrueUnder s) (map negation literals) l
        (All-map (IsTrueUnder s) negation literals
        (All-from_contains (λ m. IsTrueUnder s (negation m)) literals
        (λ m stands. value_from_failed_test (s m.var) m.positive (passes_none (is_true s) literals m none stands))))
        found

-- the clauses at positions that are there are among the clauses of the events
pub All-clauses_at : (P : List Literal → Type 0) (events : List LogEvent) (hints : List ℕ) → HintsAreThere events hints → All P (clauses_of events) → All P (clauses_at events hints)
All-clauses_at P events hints there all =
    All-map P (λ h. get_or (clauses_of events) h []) hints
    (All-weaker (λ h. h < length events) (λ h. P (get_or (clauses_of events) h []))
    (λ h below. All-get_or P (clauses_of events) h [] (omega (arith, length-map events clause_of, below)) all) hints there)

-- a valid step follows from the events before it
pub valid_step_follows : (s : ℕ → Bool) (earlier : List LogEvent) (clause : List Literal) (hints : List ℕ) → IsValidStep earlier clause hints → Satisfies s (clauses_of earlier) → SatisfiesClause s clause
valid_step_follows s earlier clause hints valid satisfied =
    shown_follows s clause (clauses_at earlier hints) valid.shown (All-clauses_at (SatisfiesClause s) earlier hints valid.hints_are_there satisfied)

pub clauses_of-push : (events : List LogEvent) (e : LogEvent) → clauses_of (events ++ e ∷ []) ≡ clauses_of events ++ clause_of e ∷ []
clauses_of-push events e = map-append clause_of events (e ∷ [])

satisfies_push : (s : ℕ → Bool) (events : List LogEvent) (e : LogEvent) → Satisfies s (clauses_of events) → SatisfiesClause s (clause_of e) → Satisfies s (clauses_of (events ++ e ∷ []))
satisfies_push s events e satisfied here =
    subst (All (SatisfiesClause s)) (sym (clauses_of-push events e))
    (All-append (SatisfiesClause s) (clauses_of events) (clause_of e ∷ []) satisfied (All-cons (SatisfiesClause s) (clause_of e) [] here (All-nil (SatisfiesClause s))))

-- where each step is valid, what satisfies the givens satisfies all events
pub all_events_follow : (s : ℕ → Bool) (earlier later : List LogEvent) → EachStep IsValidStep earlier later → Satisfies s (clauses_of earlier) → Satisfies s (givens later) → Satisfies s (clauses_of (earlier ++ later))
all_events_follow s earlier [] each before now = subst (λ (es : List LogEvent). Satisfies s (clauses_of es)) (sym (append-nil earlier)) before
all_events_follow s earlier (given clause ∷ later) each before now =
    subst (λ (es : List LogEvent). Satisfies s (clauses_of es)) (append_assoc earlier (given clause ∷ []) later)
    (all_events_follow s (earlier ++ given clause ∷ []) later each
    (satisfies_push s earlier (given clause) before (All-head (SatisfiesClause s) clause (givens later) now))
    (All-tail (SatisfiesClause s) clause (givens later) now))
all_events_follow s earlier (step clause hints ∷ later) each before now =
    subst (λ (es : List LogEvent). Satisfies s (clauses_of es)) (append_assoc earlier (step clause hints ∷ []) later)
    (all_events_follow s (earlier ++ step clause hints ∷ []) later each.1
    (satisfies_push s earlier (step clause hints) before (valid_step_follows s earlier clause hints each.0 before)) now)

-- what holds of each step holds of the steps before one, and of that one
pub EachStep-split : (P : List LogEvent → List Literal → List ℕ → Type 0) (earlier before after : List LogEvent) (clause : List Literal) (hints : List ℕ) → EachStep P earlier (before ++ step clause hints ∷ after) → EachStep P earlier before × P (earlier ++ before) clause hints
EachStep-split P earlier [] after clause hints each = (tt, subst (λ (es : List LogEvent). P es clause hints) (sym (append-nil earlier)) each.0)
EachStep-split P earlier (given first ∷ before) after clause hints each =
    let rest = EachStep-split P (earlier ++ given first ∷ []) before after clause hints each in
    (rest.0, subst (λ (es : List LogEvent). P es clause hints) (append_assoc earlier (given first ∷ []) before) rest.1)
EachStep-split P earlier (step first others ∷ before) after clause hints each =
    let rest = EachStep-split P (earlier ++ step first others ∷ []) before after clause hints each.1 in
    ((each.0, rest.0), subst (λ (es : List LogEvent). P es clause hints) (append_assoc earlier (step first others ∷ []) before) rest.1)

-- in a valid log an assignment that satisfies the givens before a step satisfies the step
pub step_follows : (s : ℕ → Bool) (before after : List LogEvent) (clause : List Literal) (hints : List ℕ) → IsValidLog (before ++ step clause hints ∷ after) → Satisfies s (givens before) → SatisfiesClause s clause
step_follows s before after clause hints valid satisfied =
    let parts = EachStep-split IsValidStep [] before after clause hints valid in
    valid_step_follows s before clause hints parts.1
    (all_events_follow s [] before parts.0 (All-nil (SatisfiesClause s)) satisfied)
