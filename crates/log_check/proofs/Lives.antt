-- The live clauses as a list.
use Rattle.std.proofs.Common.{◌≡◌, ℕ, zero, suc, ◌+◌, Bool, true, false, not, cond, ◌||◌, eqb, List, [], ◌∷◌, ◌++◌, length, map, filter, Option, Some, None, refl, ap, subst, ◌∙◌, arith, inl, inr}
use Rattle.std.proofs.lemmas.Bool.Decides.{nat_tests}
use Rattle.std.proofs.lemmas.Bool.{eqb-true, or_left, or_right}
use Rattle.std.specs.List.{list_any, slice_get}
use Rattle.cnf_core.specs.Literal.{Literal}
use Rattle.log_check.specs.Verdict.{Live, numbered_from, live_clause}
use Rattle.log_check.proofs.Trues.{bool_cases}

pub list_any_map : {X Y : Type 0} (p : Y → Bool) (f : X → Y) (xs : List X) → list_any p (map f xs) ≡ list_any (λ x. p (f x)) xs
list_any_map p f [] = refl
list_any_map p f (x ∷ xs) = ap (λ b. p (f x) || b) (list_any_map p f xs)

-- where a test holds of an element, it holds of some
pub any_there : {X : Type 0} (p : X → Bool) (xs : List X) (place : ℕ) (x : X) → slice_get xs place ≡ Some x → p x ≡ true → list_any p xs ≡ true
any_there p [] place x at e = absurd cc
any_there p (y ∷ ys) zero x at e = let same : y ≡ x = cc in or_left (p y) (list_any p ys) (ap p same ∙ e)
any_there p (y ∷ ys) (suc place) x at e = or_right (p y) (list_any p ys) (any_there p ys place x at e)

-- one more clause at the end has the next id
pub live_clause_push : (n id : ℕ) (clauses : List (List Literal)) (clause : List Literal) → live_clause (numbered_from n (clauses ++ clause ∷ [])) id ≡ cond (eqb id (n + length clauses)) (Some clause) (live_clause (numbered_from n clauses) id)
live_clause_push n id [] clause = grind (arith, nat_tests)
live_clause_push n id (c ∷ clauses) clause =
    let later = live_clause_push (n + 1) id clauses clause in
    grind (arith, nat_tests)

of_choice : (b : Bool) (xs ys : List Live) (id : ℕ) → live_clause (cond b xs ys) id ≡ cond b (live_clause xs id) (live_clause ys id)
of_choice true xs ys id = refl
of_choice false xs ys id = refl

left_step : (p : ℕ → Bool) (id n : ℕ) (clause : List Literal) (whole left : Option (List Literal)) → left ≡ cond (p id) None whole
    → cond (not (p n)) (cond (eqb id n) (Some clause) left) left ≡ cond (p id) None (cond (eqb id n) (Some clause) whole)
left_step p id n clause whole left e =
    elim (bool_cases (eqb id n)) [
      | inl s ↦ subst (λ (m : ℕ). cond (not (p m)) (cond (eqb id m) (Some clause) left) left ≡ cond (p id) None (cond (eqb id m) (Some clause) whole)) (eqb-true _ _ s)
          (elim (bool_cases (p id)) [
            | inl t ↦ rw t (rw t at e)
            | inr t ↦ rw t (grind (arith, nat_tests))
          ])
      | inr s ↦ elim (bool_cases (p n)) [
        | inl t ↦ rw (s, t) e
        | inr t ↦ rw (s, t) e
      ]
    ]

-- what is left once ids are taken out
pub live_clause_left : (p : ℕ → Bool) (live : List Live) (id : ℕ) → live_clause (filter (λ l. not (p l.id)) live) id ≡ cond (p id) None (live_clause live id)
live_clause_left p [] id = elim (bool_cases (p id)) [ inl e ↦ rw e refl | inr e ↦ rw e refl ]
live_clause_left p (l ∷ live) id =
    of_choice (not (p l.id)) (l ∷ filter (λ l. not (p l.id)) live) (filter (λ l. not (p l.id)) live) id
    ∙ left_step p id l.id l.clause (live_clause live id) (live_clause (filter (λ l. not (p l.id)) live) id) (live_clause_left p live id)
