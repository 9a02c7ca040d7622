-- A lexicographic order as a chain of steps: each says that the numbers before it are the same.
use Rattle.std.proofs.Common.{◌≡◌, ◌⊎◌, inl, inr, ℕ, zero, suc, ◌<◌, ◌≤◌, ℤ, ◌≤ℤ◌, ◌<ℤ◌, pos, Bool, true, false, not, ◌&&◌, ◌||◌, List, [], ◌∷◌, length, refl, sym, ap, ◌∙◌, arith, get_or, int_lt}
use Rattle.std.specs.Ordering.{int_eq}
use Rattle.std.proofs.lemmas.Int.{ints}
use Rattle.ep_base.specs.Numbers.{lex_less}
use Rattle.enc_atoms.proofs.Meanings.{either, not_false, same, same_test, other_test}
use Rattle.enc_table.specs.Orders.{EndsBadly, is_before}

below_test : (a b : ℤ) → a <ℤ b → int_lt a b ≡ true
below_test a b h = elim (either (int_lt a b)) as (λ _. int_lt a b ≡ true) [ inl on ↦ on | inr off ↦ absurd (omega (arith, ints, h, off)) ]

not_below : (a b : ℤ) → b ≤ℤ a → int_lt a b ≡ false
not_below a b h = elim (either (int_lt a b)) as (λ _. int_lt a b ≡ false) [ inl on ↦ absurd (omega (arith, ints, h, on)) | inr off ↦ off ]

-- lists whose first numbers are in order are in order, and those with the same first number are as the rest is
before_less : (strict : Bool) (x y : ℤ) (xs ys : List ℤ) → x <ℤ y → is_before strict (x ∷ xs) (y ∷ ys) ≡ true
unfolding is_before lex_less
before_less true x y xs ys low = ap (λ b. b || (int_eq x y && lex_less xs ys)) (below_test x y low)
before_less false x y xs ys low =
    ap (λ b. not (b || (int_eq y x && lex_less ys xs))) (not_below y x (omega (arith, ints, low)))
    ∙ ap (λ b. not (b && lex_less ys xs)) (other_test y x (λ is. absurd (omega (arith, ints, low, is))))

before_more : (strict : Bool) (x y : ℤ) (xs ys : List ℤ) → y <ℤ x → is_before strict (x ∷ xs) (y ∷ ys) ≡ false
unfolding is_before lex_less
before_more true x y xs ys low =
    ap (λ b. b || (int_eq x y && lex_less xs ys)) (not_below x y (omega (arith, ints, low)))
    ∙ ap (λ b. b && lex_less xs ys) (other_test x y (λ is. absurd (omega (arith, ints, low, is))))
before_more false x y xs ys low = ap (λ b. not (b || (int_eq y x && lex_less ys xs))) (below_test y x low)

before_same : (strict : Bool) (x y : ℤ) (xs ys : List ℤ) → x ≡ y → is_before strict (x ∷ xs) (y ∷ ys) ≡ is_before strict xs ys
unfolding is_before lex_less
before_same true x y xs ys is =
    ap (λ b. b || (int_eq x y && lex_less xs ys)) (not_below x y (omega (arith, ints, is)))
    ∙ ap (λ b. b && lex_less xs ys) (same_test x y is)
before_same false x y xs ys is =
    ap (λ b. not (b || (int_eq y x && lex_less ys xs))) (not_below y x (omega (arith, ints, is)))
    ∙ ap (λ b. not (b && lex_less ys xs)) (same_test y x (sym is))

order_cases : (x y : ℤ) → (x <ℤ y) ⊎ ((x ≡ y) ⊎ (y <ℤ x))
order_cases x y = elim (either (int_lt x y)) as (λ _. (x <ℤ y) ⊎ ((x ≡ y) ⊎ (y <ℤ x))) [
  | inl on ↦ inl (omega (arith, ints, on))
  | inr off ↦ inr (elim (either (int_lt y x)) as (λ _. (x ≡ y) ⊎ (y <ℤ x)) [
    | inl on ↦ inr (omega (arith, ints, on))
    | inr none ↦ inl (omega (arith, ints, off, none))
  ])
]

-- Steps, the first of which is taken, and of which the last isn't where the end is out of order: the lists are in order.
pub in_order : (strict : Bool) (xs ys : List ℤ) (E : ℕ → Type 0)
    → ((k : ℕ) → k < length xs → k < length ys → E k → (get_or xs k (pos 0) ≤ℤ get_or ys k (pos 0)) × (get_or ys k (pos 0) ≤ℤ get_or xs k (pos 0) → E (suc k)))
    → ((n : ℕ) → n ≤ length xs → n ≤ length ys → (length xs ≤ n) ⊎ (length ys ≤ n) → EndsBadly strict (length xs) (length ys) → E n → ⊥)
    → E 0 → is_before strict xs ys ≡ true
unfolding is_before lex_less
in_order true [] [] E step end first = absurd (end 0 (omega arith) (omega arith) (inl (omega arith)) (inr (refl, refl)) first)
in_order false [] [] E step end first = refl
in_order true [] (y ∷ ys) E step end first = refl
in_order false [] (y ∷ ys) E step end first = refl
in_order true (x ∷ xs) [] E step end first = absurd (end 0 (omega arith) (omega arith) (inr (omega arith)) (inl (omega arith)) first)
in_order false (x ∷ xs) [] E step end first = absurd (end 0 (omega arith) (omega arith) (inr (omega arith)) (inl (omega arith)) first)
in_order strict (x ∷ xs) (y ∷ ys) E step end first =
    let here = step 0 (omega arith) (omega arith) first in
    elim (order_cases x y) as (λ _. is_before strict (x ∷ xs) (y ∷ ys) ≡ true) [
      | inl low ↦ before_less strict x y xs ys low
      | inr rest ↦ elim rest as (λ _. is_before strict (x ∷ xs) (y ∷ ys) ≡ true) [
        | inl is ↦ before_same strict x y xs ys is ∙ in_order strict xs ys (λ k. E (suc k))
            (λ k low high. step (suc k) (omega (arith, low)) (omega (arith, high)))
            (λ n low high ends bad. end (suc n) (omega (arith, low)) (omega (arith, high))
            (elim ends as (λ _. (length (x ∷ xs) ≤ suc n) ⊎ (length (y ∷ ys) ≤ suc n)) [ inl a ↦ inl (omega (arith, a)) | inr b ↦ inr (omega (arith, b)) ])
            (elim bad as (λ _. EndsBadly strict (length (x ∷ xs)) (length (y ∷ ys))) [ inl a ↦ inl (omega (arith, a)) | inr b ↦ inr (b.0, ap suc b.1) ]))
            (here.1 (omega (arith, ints, is)))
        | inr high ↦ absurd (omega (arith, ints, high, here.0))
      ]
    ]

-- whether so many first numbers of two lists are the same
pub same_first : ℕ → List ℤ → List ℤ → Bool
same_first zero xs ys = true
same_first (suc k) [] ys = false
same_first (suc k) (x ∷ xs) [] = false
same_first (suc k) (x ∷ xs) (y ∷ ys) = int_eq x y && same_first k xs ys

first_same : (k : ℕ) (x y : ℤ) (xs ys : List ℤ) → same_first (suc k) (x ∷ xs) (y ∷ ys) ≡ true → (x ≡ y) × (same_first k xs ys ≡ true)
unfolding same_first
first_same k x y xs ys h = by (int_eq x y) refl
  where
    by : (t : Bool) → int_eq x y ≡ t → (x ≡ y) × (same_first k xs ys ≡ true)
    by true e = (same x y e, ap (λ b. b && same_first k xs ys) (sym e) ∙ h)
    by false e = not_false (int_eq x y && same_first k xs ys) h (ap (λ b. b && same_first k xs ys) e)

same_more : (k : ℕ) (x y : ℤ) (xs ys : List ℤ) → x ≡ y → same_first k xs ys ≡ true → same_first (suc k) (x ∷ xs) (y ∷ ys) ≡ true
unfolding same_first
same_more k x y xs ys is h = ap (λ b. b && same_first k xs ys) (same_test x y is) ∙ h

pub none_first : (xs ys : List ℤ) → same_first 0 xs ys ≡ true
unfolding same_first
none_first xs ys = refl

-- where lists are in order, each step holds of whether the numbers before it are the same
pub steps_hold : (strict : Bool) (xs ys : List ℤ) → is_before strict xs ys ≡ true → (k : ℕ) → k < length xs → k < length ys → same_first k xs ys ≡ true
    → (get_or xs k (pos 0) ≤ℤ get_or ys k (pos 0)) × (get_or ys k (pos 0) ≤ℤ get_or xs k (pos 0) → same_first (suc k) xs ys ≡ true)
steps_hold strict [] ys before k low high so_far = absurd (omega (arith, low))
steps_hold strict (x ∷ xs) [] before k low high so_far = absurd (omega (arith, high))
steps_hold strict (x ∷ xs) (y ∷ ys) before zero low high so_far =
    elim (order_cases x y) as (λ _. (x ≤ℤ y) × (y ≤ℤ x → same_first 1 (x ∷ xs) (y ∷ ys) ≡ true)) [
      | inl less ↦ (omega (arith, ints, less), λ le. absurd (omega (arith, ints, less, le)))
      | inr rest ↦ elim rest as (λ _. (x ≤ℤ y) × (y ≤ℤ x → same_first 1 (x ∷ xs) (y ∷ ys) ≡ true)) [
        | inl is ↦ (omega (arith, ints, is), λ le. same_more 0 x y xs ys is (none_first xs ys))
        | inr more ↦ not_false (is_before strict (x ∷ xs) (y ∷ ys)) before (before_more strict x y xs ys more)
      ]
    ]
steps_hold strict (x ∷ xs) (y ∷ ys) before (suc k) low high so_far =
    let first = first_same k x y xs ys so_far in
    let rest = steps_hold strict xs ys (sym (before_same strict x y xs ys first.0) ∙ before) k (omega (arith, low)) (omega (arith, high)) first.1 in
    (rest.0, λ le. same_more (suc k) x y xs ys first.0 (rest.1 le))

-- and where they are the same as far as both go, the end is in order
pub end_holds : (strict : Bool) (xs ys : List ℤ) → is_before strict xs ys ≡ true → (n : ℕ) → (length xs ≤ n) ⊎ (length ys ≤ n) → same_first n xs ys ≡ true → EndsBadly strict (length xs) (length ys) → ⊥
unfolding is_before lex_less same_first
end_holds true [] [] before n ends so_far bad = not_false false before refl
end_holds false [] [] before n ends so_far bad = elim bad as (λ _. ⊥) [ inl a ↦ omega (arith, a) | inr b ↦ not_false false b.0 refl ]
end_holds strict [] (y ∷ ys) before n ends so_far bad = elim bad as (λ _. ⊥) [ inl a ↦ omega (arith, a) | inr b ↦ omega (arith, b.1) ]
end_holds true (x ∷ xs) [] before n ends so_far bad = not_false false before refl
end_holds false (x ∷ xs) [] before n ends so_far bad = not_false false before refl
end_holds strict (x ∷ xs) (y ∷ ys) before zero ends so_far bad = elim ends as (λ _. ⊥) [ inl a ↦ omega (arith, a) | inr b ↦ omega (arith, b) ]
end_holds strict (x ∷ xs) (y ∷ ys) before (suc n) ends so_far bad =
    let first = first_same n x y xs ys so_far in
    end_holds strict xs ys (sym (before_same strict x y xs ys first.0) ∙ before) n
    (elim ends as (λ _. (length xs ≤ n) ⊎ (length ys ≤ n)) [ inl a ↦ inl (omega (arith, a)) | inr b ↦ inr (omega (arith, b)) ])
    first.1
    (elim bad as (λ _. EndsBadly strict (length xs) (length ys)) [ inl a ↦ inl (omega (arith, a)) | inr b ↦ inr (b.0, omega (arith, b.1)) ])
