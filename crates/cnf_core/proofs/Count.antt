-- How many new steps a log can have: each has a number of its own, written with three digits.
use Rattle.std.proofs.Common.{◌≡◌, ℕ, ◌+◌, ◌*◌, ◌^◌, ◌<◌, ◌≤◌, Bool, true, false, if◌then◌else◌, ◌⊎◌, inl, inr, List, [], ◌∷◌, ◌++◌, suc, length, refl, ap, ◌∙◌, sym, subst, cond, eqb, arith}
use Rattle.std.specs.Prelude.{All, Contains}
use Rattle.std.specs.List.{IsDistinct}
use Rattle.std.proofs.lemmas.Bool.{eqb-true}
use Rattle.std.proofs.lemmas.List.{append-nil}
use Rattle.std.proofs.lemmas.List.Sums.{sum_by-append}
use Rattle.std.proofs.lemmas.Map.Steps.{length-le_from_distinct_below}
use Rattle.std.proofs.lemmas.List.Elements.{All-nil, All-cons, All-head, All-tail, All-contains, All-weaker, All-push, Contains-append_left, Contains-push, recursion_from_All}
use Rattle.cnf_core.specs.Literal.{Literal, is_among}
use Rattle.cnf_core.specs.Events.{LogEvent, given, step, clause_of, clauses_of, givens, is_nonempty_step, nonempty_steps, EachStep}
use Rattle.cnf_core.specs.Steps.{StandsInGiven, IsConsistent, Includes, IsNewStep, NonEmptyStepsAreNew, GivensNameOnly}
use Rattle.cnf_core.proofs.Members.{All-from_contains, Contains-cases, none_in_nil, either, passes_some, Contains-from_test, test_from_Contains}
use Rattle.cnf_core.proofs.Following.{clauses_of-push}

-- how a variable stands in a clause: 1 for the positive literal, 2 for the negative one, 0 for neither
abbrev digit : List Literal → ℕ → ℕ
digit clause v =
    if is_among clause (record { var = v; positive = true }) then 1 else (if is_among clause (record { var = v; positive = false }) then 2 else 0)

-- how these variables stand in it, as one number
abbrev number : List ℕ → List Literal → ℕ
number [] clause = 0
number (v ∷ vars) clause = digit clause v + 3 * number vars clause

choice_below : (p q : Bool) → (if p then 1 else (if q then 2 else 0)) < 3
choice_below true q = omega arith
choice_below false true = omega arith
choice_below false false = omega arith

digit_below : (clause : List Literal) (v : ℕ) → digit clause v < 3
digit_below clause v = choice_below _ _

number_below : (vars : List ℕ) (clause : List Literal) → number vars clause < 3 ^ length vars
number_below [] clause = omega arith
number_below (v ∷ vars) clause =
    let rest = number_below vars clause in grind (arith, digit_below clause v)

-- clauses with one number have the same digit at each of the variables
same_digits : (vars : List ℕ) (c d : List Literal) (v : ℕ) → number vars c ≡ number vars d → Contains vars v → digit c v ≡ digit d v
same_digits [] c d v same found = absurd (none_in_nil v found)
same_digits (w ∷ vars) c d v same found =
    elim (Contains-cases w vars v found) [
      | inl here ↦ subst (λ (u : ℕ). digit c u ≡ digit d u) here (omega (arith, same, digit_below c w, digit_below d w))
      | inr there ↦ same_digits vars c d v (omega (arith, same, digit_below c w, digit_below d w)) there
    ]

-- a literal of a clause with no contradiction shows in its digit, and the digit shows the literal
digit_from_literal : (clause : List Literal) (v : ℕ) (p : Bool) → IsConsistent clause → Contains clause (record { var = v; positive = p }) → digit clause v ≡ cond p 1 2
digit_from_literal clause v true consistent found = ap {B = ℕ} (λ b. cond b 1 (cond (is_among clause (record { var = v; positive = false })) 2 0)) (test_from_Contains clause _ found)
digit_from_literal clause v false consistent found =
    elim (either (is_among clause (record { var = v; positive = true }))) [
      | inl positive ↦ absurd (consistent (record { var = v; positive = true }) (Contains-from_test clause _ positive) found)
      | inr absent ↦ ap {B = ℕ} (λ b. cond b 1 (cond (is_among clause (record { var = v; positive = false })) 2 0)) absent
          ∙ ap {B = ℕ} (λ b. cond b 2 0) (test_from_Contains clause _ found)
    ]

literal_from_choice : (a b p : Bool) → ◌≡◌ {A = ℕ} (cond a 1 (cond b 2 0)) (cond p 1 2) → cond p a b ≡ true
literal_from_choice true b true e = refl
literal_from_choice true b false e = absurd (omega arith)
literal_from_choice false true true e = absurd (omega arith)
literal_from_choice false true false e = refl
literal_from_choice false false true e = absurd (omega arith)
literal_from_choice false false false e = absurd (omega arith)

literal_from_digit : (clause : List Literal) (v : ℕ) (p : Bool) → digit clause v ≡ cond p 1 2 → Contains clause (record { var = v; positive = p })
literal_from_digit clause v true e = Contains-from_test clause _ (literal_from_choice _ _ true e)
literal_from_digit clause v false e = Contains-from_test clause _ (literal_from_choice _ _ false e)

-- a clause includes each clause of its number that has no contradiction
included : (vars : List ℕ) (c d : List Literal) → IsConsistent c → All (λ l. Contains vars l.var) c → number vars c ≡ number vars d → Includes d c
included vars c d consistent among same =
    All-from_contains (Contains d) c (λ l found.
    literal_from_digit d l.var l.positive
    (sym (same_digits vars c d l.var same (All-contains (λ m. Contains vars m.var) c l among found))
    ∙ digit_from_literal c l.var l.positive consistent found))

nil_number : (vars : List ℕ) → number vars [] ≡ 0
nil_number [] = refl
nil_number (v ∷ vars) = omega (arith, nil_number vars)

-- where a number in the list comes from: it is 0, or that of an earlier clause
abbrev Origin : List ℕ → List LogEvent → ℕ → Type 0
Origin vars earlier n =
    (n ≡ 0) ⊎ ((other : List Literal) × Contains (clauses_of earlier) other × IsConsistent other × All (λ l. Contains vars l.var) other × (n ≡ number vars other))

origin_push : (vars : List ℕ) (earlier : List LogEvent) (e : LogEvent) (n : ℕ) → Origin vars earlier n → Origin vars (earlier ++ e ∷ []) n
origin_push vars earlier e n (inl zero) = inl zero
origin_push vars earlier e n (inr found) =
    inr (found.0, subst (λ (cs : List (List Literal)). Contains cs found.0) (sym (clauses_of-push earlier e)) (Contains-append_left (clauses_of earlier) (clause_of e ∷ []) found.0 found.1), found.2, found.3, found.4)

origin_below : (vars : List ℕ) (earlier : List LogEvent) (n : ℕ) → Origin vars earlier n → n < 3 ^ length vars
origin_below vars earlier n (inl zero) = omega (arith, zero, number_below vars [])
origin_below vars earlier n (inr found) = omega (arith, found.4, number_below vars found.0)

-- the number of a new step with a literal is no number from before
fresh_number : (vars : List ℕ) (earlier : List LogEvent) (clause : List Literal) → 0 < length clause → IsNewStep earlier clause → All (λ l. Contains vars l.var) clause → (n : ℕ) → Origin vars earlier n → eqb (number vars clause) n ≡ false
fresh_number vars earlier clause some new among n origin =
    elim (either (eqb (number vars clause) n)) [
      | inr differs ↦ differs
      | inl same ↦ absurd (by_origin (eqb-true (number vars clause) n same) origin)
    ]
  where
    nothing_in_nil : (c : List Literal) → 0 < length c → Includes [] c → ⊥
    nothing_in_nil [] some includes = omega arith
    nothing_in_nil (l ∷ c) some includes = none_in_nil l (All-head (Contains []) l c includes)

    by_origin : number vars clause ≡ n → Origin vars earlier n → ⊥
    by_origin same (inl zero) = nothing_in_nil clause some (included vars clause [] new.consistent among (same ∙ zero ∙ sym (nil_number vars)))
    by_origin same (inr found) =
        All-contains (λ other. Includes clause other → ⊥) (clauses_of earlier) found.0 new.not_included found.1
        (included vars found.0 clause found.2 found.3 (sym found.4 ∙ sym same))

givens-append : (xs ys : List LogEvent) → givens (xs ++ ys) ≡ givens xs ++ givens ys
givens-append [] ys = refl
givens-append (given clause ∷ xs) ys = ap (λ (cs : List (List Literal)). clause ∷ cs) (givens-append xs ys)
givens-append (step clause hints ∷ xs) ys = givens-append xs ys

-- the variables of a new step are among those of the givens
variables_among : (vars : List ℕ) (earlier : List LogEvent) (clause : List Literal) → GivensNameOnly vars earlier → IsNewStep earlier clause → All (λ l. Contains vars l.var) clause
variables_among vars earlier clause names new =
    All-weaker (λ l. StandsInGiven earlier l.var) (λ l. Contains vars l.var)
    (λ l stands. subst (Contains vars) stands.names
    (All-contains (λ m. Contains vars m.var) stands.clause stands.literal
    (All-contains (λ c. All (λ m. Contains vars m.var) c) (givens earlier) stands.clause names stands.is_given)
    stands.in_clause))
    clause new.variables

abbrev NewIfNonEmpty : List LogEvent → List Literal → List ℕ → Type 0
NewIfNonEmpty earlier clause hints = 0 < length clause → IsNewStep earlier clause

distinct_nil : IsDistinct eqb []
unfolding IsDistinct
distinct_nil = tt

distinct_cons : (n : ℕ) (seen : List ℕ) → All (λ m. eqb n m ≡ false) seen → IsDistinct eqb seen → IsDistinct eqb (n ∷ seen)
unfolding IsDistinct
distinct_cons n seen differs distinct = (recursion_from_All (λ m. eqb n m ≡ false) seen differs, distinct)

distinct_below : (vars : List ℕ) (earlier : List LogEvent) (seen : List ℕ) → IsDistinct eqb seen → All (Origin vars earlier) seen → length seen ≤ 3 ^ length vars
distinct_below vars earlier seen distinct origins =
    length-le_from_distinct_below seen (3 ^ length vars) distinct (λ q any.
    let found = passes_some (eqb q) seen any in
    let below = origin_below vars earlier found.0 (All-contains (Origin vars earlier) seen found.0 origins found.1) in
    omega (arith, below, eqb-true q found.0 found.2))

names_after_given : (vars : List ℕ) (earlier : List LogEvent) (clause : List Literal) → GivensNameOnly vars earlier → All (λ l. Contains vars l.var) clause → GivensNameOnly vars (earlier ++ given clause ∷ [])
names_after_given vars earlier clause names here =
    subst (All (λ c. All (λ (l : Literal). Contains vars l.var) c)) (sym (givens-append earlier (given clause ∷ [])))
    (All-push (λ c. All (λ (l : Literal). Contains vars l.var) c) (givens earlier) clause names here)

names_after_step : (vars : List ℕ) (earlier : List LogEvent) (clause : List Literal) (hints : List ℕ) → GivensNameOnly vars earlier → GivensNameOnly vars (earlier ++ step clause hints ∷ [])
names_after_step vars earlier clause hints names =
    subst (All (λ c. All (λ (l : Literal). Contains vars l.var) c)) (sym (givens-append earlier (step clause hints ∷ []) ∙ append-nil (givens earlier))) names

-- numbers from before and the new steps still to come are at most as many as there are numbers
at_most : (vars : List ℕ) (earlier later : List LogEvent) (seen : List ℕ) → EachStep NewIfNonEmpty earlier later → GivensNameOnly vars earlier → GivensNameOnly vars later → IsDistinct eqb seen → All (Origin vars earlier) seen → length seen + nonempty_steps later ≤ 3 ^ length vars
at_most vars earlier [] seen each before after distinct origins = omega (arith, distinct_below vars earlier seen distinct origins)
at_most vars earlier (given clause ∷ later) seen each before after distinct origins =
    omega (
      arith,
      at_most vars (earlier ++ given clause ∷ []) later seen each
          (names_after_given vars earlier clause before (All-head (λ c. All (λ l. Contains vars l.var) c) clause (givens later) after))
          (All-tail (λ c. All (λ l. Contains vars l.var) c) clause (givens later) after) distinct
          (All-weaker (Origin vars earlier) (Origin vars (earlier ++ given clause ∷ [])) (origin_push vars earlier (given clause)) seen origins),
    )
at_most vars earlier (step [] hints ∷ later) seen each before after distinct origins =
    omega (
      arith,
      at_most vars (earlier ++ step [] hints ∷ []) later seen each.1
          (names_after_step vars earlier [] hints before) after distinct
          (All-weaker (Origin vars earlier) (Origin vars (earlier ++ step [] hints ∷ [])) (origin_push vars earlier (step [] hints)) seen origins),
    )
at_most vars earlier (step (l ∷ clause) hints ∷ later) seen each before after distinct origins =
    let some : 0 < length (l ∷ clause) = omega arith in
    let one_more : nonempty_steps (step (l ∷ clause) hints ∷ later) ≡ 1 + nonempty_steps later = sum_by-append (λ (x : LogEvent). cond (is_nonempty_step x) 1 0) (step (l ∷ clause) hints ∷ []) later in
    let longer : length (number vars (l ∷ clause) ∷ seen) ≡ suc (length seen) = refl in
    let new = each.0 some in
    let among = variables_among vars earlier (l ∷ clause) before new in
    let now = earlier ++ step (l ∷ clause) hints ∷ [] in
    let stands : Contains (clauses_of now) (l ∷ clause) =
    subst (λ (cs : List (List Literal)). Contains cs (l ∷ clause)) (sym (clauses_of-push earlier (step (l ∷ clause) hints))) (Contains-push (clauses_of earlier) (l ∷ clause)) in
    omega (
      arith,
      at_most vars now later (number vars (l ∷ clause) ∷ seen) each.1
          (names_after_step vars earlier (l ∷ clause) hints before) after
          (distinct_cons (number vars (l ∷ clause)) seen
          (All-weaker (Origin vars earlier) (λ n. eqb (number vars (l ∷ clause)) n ≡ false) (fresh_number vars earlier (l ∷ clause) some new among) seen origins) distinct)
          (All-cons (Origin vars now) (number vars (l ∷ clause)) seen (inr (l ∷ clause, stands, new.consistent, among, refl))
          (All-weaker (Origin vars earlier) (Origin vars now) (origin_push vars earlier (step (l ∷ clause) hints)) seen origins)),
    )

-- a log whose steps with a literal are new has fewer of them than there are ways for the variables of its givens to stand in a clause
pub fewer_new_steps : (events : List LogEvent) (vars : List ℕ) → NonEmptyStepsAreNew events → GivensNameOnly vars events → nonempty_steps events < 3 ^ length vars
fewer_new_steps events vars new names =
    omega (
      arith,
      at_most vars [] events (0 ∷ []) new (All-nil (λ c. All (λ l. Contains vars l.var) c)) names
          (distinct_cons 0 [] (All-nil (λ n. eqb 0 n ≡ false)) distinct_nil)
          (All-cons (Origin vars []) 0 [] (inl refl) (All-nil (Origin vars []))),
    )
