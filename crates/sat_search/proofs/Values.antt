-- The values that a trail gives, and the clauses that they satisfy.
use Rattle.std.proofs.Common.{◌≡◌, ℕ, ◌+◌, ◌<◌, ◌≤◌, Bool, true, false, cond, Option, Some, None, IsSome, ◌⊎◌, inl, inr, List, [], ◌∷◌, ◌++◌, length, take, refl, ap, ◌∙◌, sym, subst, arith, All}
use Rattle.std.specs.Prelude.{Contains}
use Rattle.std.proofs.lemmas.Bool.{false≢true, cases_lt}
use Rattle.std.proofs.lemmas.List.{take-map, length-map, length-take-le, get_or-take, take-append-le, take_all, map_push}
use Rattle.std.proofs.lemmas.List.Elements.{Contains-push, All-contains, All-nil, All-cons, All-head, All-tail}
use Rattle.cnf_core.specs.Literal.{Literal, negation, is_among}
use Rattle.cnf_core.specs.Clauses.{SatisfiesClause, Satisfies}
use Rattle.cnf_core.specs.Events.{LogEvent, given, step, clauses_of, givens}
use Rattle.cnf_core.specs.Steps.{IsAtEnd, IsConsistent, HasTrueLiteral, HasTwoNotFalse}
use Rattle.cnf_core.proofs.Members.{either, or_cases, Contains-from_test, test_from_Contains, All-from_contains}
use Rattle.sat_state.specs.Trail.{Entry, literals, trail_value}
use Rattle.sat_state.proofs.Literals.{true_or_false}
use Rattle.sat_state.proofs.Settling.{length_front, front_again}
use Rattle.sat_search.specs.Analysis.{AllHaveValues, AreInRange, KeepsValues}
use Rattle.sat_search.specs.View.{value_in}

of : ℕ → Bool → Literal
of v p = record { var = v; positive = p }

abbrev choice : Bool → Bool → Option Bool
choice a b = cond a (Some true) (cond b (Some false) None)

choice_some : (a b : Bool) → (a ≡ true) ⊎ (b ≡ true) → IsSome (choice a b)
choice_some true b one = refl
choice_some false true one = refl
choice_some false false (inl e) = absurd (false≢true e)
choice_some false false (inr e) = absurd (false≢true e)

choice_cases : (a b : Bool) → IsSome (choice a b) → (a ≡ true) ⊎ (b ≡ true)
choice_cases true b some = inl refl
choice_cases false true some = inr refl
choice_cases false false some = absurd (false≢true some)

contains_front : {X : Type 0} (n : ℕ) (xs : List X) (x : X) → n ≤ length xs → Contains (take n xs) x → Contains xs x
contains_front n xs x within (k, below, is) =
    let lt : k < n = omega (arith, below, length-take-le n xs within) in
    (k, omega (arith, lt, within), sym (get_or-take n xs k x lt) ∙ is)

-- what is true stays so while the trail grows
stays_true : (old new : List Entry) (l : Literal) → length old ≤ length new → take (length old) new ≡ old → is_among (literals old) l ≡ true → is_among (literals new) l ≡ true
stays_true old new l within front is =
    let get = λ (e : Entry). e.literal in
    test_from_Contains (literals new) l
    (contains_front (length old) (literals new) l (omega (arith, within, length-map new get))
    (subst (λ (ls : List Literal). Contains ls l) (sym (take-map get (length old) new ∙ ap literals front)) (Contains-from_test (literals old) l is)))

pub value_stays : (old new : List Entry) (v : ℕ) → length old ≤ length new → take (length old) new ≡ old → IsSome (trail_value (literals old) v) → IsSome (trail_value (literals new) v)
value_stays old new v within front some =
    choice_some (is_among (literals new) (record { var = v; positive = true })) (is_among (literals new) (record { var = v; positive = false }))
    (elim (choice_cases (is_among (literals old) (record { var = v; positive = true })) (is_among (literals old) (record { var = v; positive = false })) some) [
      | inl one ↦ inl (stays_true old new (record { var = v; positive = true }) within front one)
      | inr other ↦ inr (stays_true old new (record { var = v; positive = false }) within front other)
    ])

-- a literal that is true is so under the values
true_under : (trues : List Literal) (v : ℕ) (p : Bool) → IsConsistent trues → Contains trues (record { var = v; positive = p }) → value_in trues v ≡ p
true_under trues v true consistent found = test_from_Contains trues (record { var = v; positive = true }) found
true_under trues v false consistent found = elim (either (is_among trues (record { var = v; positive = true }))) [
  | inr isnt ↦ isnt
  | inl is ↦ absurd (consistent (record { var = v; positive = true }) (Contains-from_test trues (record { var = v; positive = true }) is) found)
]

satisfied_at_end : (vars : ℕ) (trail : List Entry) (clause : List Literal) → IsConsistent (literals trail) → AllHaveValues vars trail → AreInRange vars clause → HasTrueLiteral (literals trail) clause ⊎ HasTwoNotFalse (literals trail) clause → SatisfiesClause (value_in (literals trail)) clause
satisfied_at_end vars trail clause consistent values range (inl found) =
    record { literal = found.0; in_clause = found.1; is_true = true_under (literals trail) found.0.var found.0.positive consistent found.2 }
satisfied_at_end vars trail clause consistent values range (inr two) =
    let in_range = All-contains (λ (l : Literal). (1 ≤ l.var) × (l.var ≤ vars)) clause two.one range two.one_in in
    elim (or_cases (is_among (literals trail) two.one) (is_among (literals trail) (negation two.one)) (true_or_false (literals trail) two.one (values two.one.var in_range.0 in_range.1))) [
      | inl is ↦ record { literal = two.one; in_clause = two.one_in; is_true = true_under (literals trail) two.one.var two.one.positive consistent (Contains-from_test (literals trail) two.one is) }
      | inr negated ↦ absurd (two.one_not_false (Contains-from_test (literals trail) (negation two.one) negated))
    ]

-- where each variable has a value and propagation is at its end, each clause is satisfied
all_satisfied : (vars : ℕ) (trail : List Entry) (clauses : List (List Literal)) → IsAtEnd (literals trail) clauses → AllHaveValues vars trail → All (AreInRange vars) clauses → Satisfies (value_in (literals trail)) clauses
all_satisfied vars trail clauses at_end values range =
    All-from_contains (SatisfiesClause (value_in (literals trail))) clauses (λ clause found.
    satisfied_at_end vars trail clause at_end.consistent values
    (All-contains (AreInRange vars) clauses clause range found)
    (All-contains (λ c. HasTrueLiteral (literals trail) c ⊎ HasTwoNotFalse (literals trail) c) clauses clause at_end.settled found))

givens_satisfied : (s : ℕ → Bool) (events : List LogEvent) → Satisfies s (clauses_of events) → Satisfies s (givens events)
givens_satisfied s [] all = All-nil (SatisfiesClause s)
givens_satisfied s (given clause ∷ events) all =
    All-cons (SatisfiesClause s) clause (givens events) (All-head (SatisfiesClause s) clause (clauses_of events) all) (givens_satisfied s events (All-tail (SatisfiesClause s) clause (clauses_of events) all))
givens_satisfied s (step clause hints ∷ events) all = givens_satisfied s events (All-tail (SatisfiesClause s) clause (clauses_of events) all)

pub satisfies_givens : (vars : ℕ) (trail : List Entry) (clauses : List (List Literal)) (events : List LogEvent) → clauses ≡ clauses_of events → IsAtEnd (literals trail) clauses → AllHaveValues vars trail → All (AreInRange vars) clauses → Satisfies (value_in (literals trail)) (givens events)
satisfies_givens vars trail clauses events are at_end values range =
    givens_satisfied (value_in (literals trail)) events (subst (Satisfies (value_in (literals trail))) are (all_satisfied vars trail clauses at_end values range))

some_value : (trues : List Literal) (v : ℕ) (p : Bool) → Contains trues (record { var = v; positive = p }) → IsSome (trail_value trues v)
some_value trues v true found = choice_some (is_among trues (record { var = v; positive = true })) (is_among trues (record { var = v; positive = false })) (inl (test_from_Contains trues (record { var = v; positive = true }) found))
some_value trues v false found = choice_some (is_among trues (record { var = v; positive = true })) (is_among trues (record { var = v; positive = false })) (inr (test_from_Contains trues (record { var = v; positive = false }) found))

-- a decision and what follows keep the values, and give the decided variable one
pub stays_decided : (old mid new : List Entry) (e : Entry) → mid ≡ old ++ e ∷ [] → take (length mid) new ≡ mid → KeepsValues old new
stays_decided old mid new e is front v some =
    let first : take (length old) mid ≡ old = ap (take (length old)) is ∙ take-append-le (length old) old (e ∷ []) (omega arith) ∙ take_all (length old) old (omega arith) in
    let both = front_again old mid new first front in
    value_stays old new v (length_front old new both) both some

pub value_decided : (old mid new : List Entry) (e : Entry) → mid ≡ old ++ e ∷ [] → take (length mid) new ≡ mid → IsSome (trail_value (literals new) e.literal.var)
value_decided old mid new e is front =
    value_stays mid new e.literal.var (length_front mid new front) front
    (some_value (literals mid) e.literal.var e.literal.positive
    (subst (λ (es : List Entry). Contains (literals es) e.literal) (sym is)
    (subst (λ (ls : List Literal). Contains ls e.literal) (sym (map_push (λ (x : Entry). x.literal) old e)) (Contains-push (literals old) e.literal))))

pub values_more : (vars : ℕ) (trail : List Entry) → AllHaveValues vars trail → IsSome (trail_value (literals trail) (vars + 1)) → AllHaveValues (vars + 1) trail
values_more vars trail before here v low high = elim (cases_lt vars v) [
  | inl above ↦ subst (λ (w : ℕ). IsSome (trail_value (literals trail) w)) (omega arith) here
  | inr within ↦ before v low within
]
