-- Counts of ascending values, as a binary search finds them.
use Rattle.std.proofs.Common.{◌≡◌, ◌↔◌, ◌⊎◌, inl, inr, ℕ, zero, suc, ◌<◌, ◌≤◌, ℤ, ◌<ℤ◌, ◌≤ℤ◌, Bool, true, false, int_le, int_lt, List, [], ◌∷◌, length, cond, IsTrue, refl, sym, ap, subst, ◌∙◌, arith, slice_index_or}
use Rattle.std.specs.Prelude.{filter}
use Rattle.std.specs.List.{AllWithin, Contains}
use Rattle.std.specs.List.Sorted.{IsPartitionedBy}
use Rattle.std.specs.Ordering.{int_eq}
use Rattle.std.specs.Bool.{Decides}
use Rattle.std.proofs.lemmas.Bool.Decides.{Decides-int_eq, same_from_decides}
use Rattle.std.proofs.lemmas.List.Folds.{Any-from_list_any, list_any-from_Any}
use Rattle.std.proofs.lemmas.Int.{ints}
use Rattle.ep_base.specs.Numbers.{has_number}
use Rattle.ep_base.specs.Runs.{IsAscending}

by_order : {P : Type 0} (i j : ℕ) → i ≤ j → (i < j → P) → (i ≡ j → P) → P
by_order {P} i j le less same = elim (split i j le) as (λ _. P) [ inl lt ↦ less lt | inr e ↦ same e ]
  where
    split : (i j : ℕ) → i ≤ j → (i < j) ⊎ (i ≡ j)
    split zero zero le = inr refl
    split zero (suc j) le = inl (omega arith)
    split (suc i) zero le = absurd (omega (arith, le))
    split (suc i) (suc j) le = elim (split i j (omega (arith, le))) as (λ _. (suc i < suc j) ⊎ (suc i ≡ suc j)) [ inl lt ↦ inl (omega (arith, lt)) | inr e ↦ inr (ap suc e) ]

pub is_at_most : (a b : ℤ) → a ≤ℤ b → int_le a b ≡ true
is_at_most a b h = by (int_le a b) refl
  where
    by : (t : Bool) → int_le a b ≡ t → t ≡ true
    by true e = refl
    by false e = absurd (omega (arith, ints, h, e))

pub is_below : (a b : ℤ) → a <ℤ b → int_lt a b ≡ true
is_below a b h = by (int_lt a b) refl
  where
    by : (t : Bool) → int_lt a b ≡ t → t ≡ true
    by true e = refl
    by false e = absurd (omega (arith, ints, h, e))

-- ascending values at most v come before the others
pub parted_up_to : (xs : List ℤ) (v : ℤ) → IsAscending xs → IsPartitionedBy (λ w. int_le w v) xs
parted_up_to xs v up i j d le below holds =
    by_order i j le
    (λ lt. let rises = up i j d lt below in is_at_most (slice_index_or xs i d) v (omega (arith, ints, rises, holds)))
    (λ e. subst (λ k. int_le (slice_index_or xs k d) v ≡ true) (sym e) holds)

-- ascending values below v come before the others
pub parted_below : (xs : List ℤ) (v : ℤ) → IsAscending xs → IsPartitionedBy (λ w. int_lt w v) xs
parted_below xs v up i j d le below holds =
    by_order i j le
    (λ lt. let rises = up i j d lt below in is_below (slice_index_or xs i d) v (omega (arith, ints, rises, holds)))
    (λ e. subst (λ k. int_lt (slice_index_or xs k d) v ≡ true) (sym e) holds)

pub none_pass : {X : Type 0} (p : X → Bool) (xs : List X) → AllWithin (λ y. p y ≡ false) xs 0 (length xs) → length (filter p xs) ≡ 0
none_pass p [] none = refl
none_pass {X} p (x ∷ xs) none =
    let here : p x ≡ false = none 0 x (omega arith) (omega arith) in
    ap (λ b. length (cond b (x ∷ filter p xs) (filter p xs))) here ∙ none_pass p xs (λ k d low high. none (suc k) d (omega arith) (omega (arith, high)))

-- as many pass a test as stand before the point where it parts the list
pub passed_at : {X : Type 0} (p : X → Bool) (xs : List X) (i : ℕ) → i ≤ length xs → AllWithin (λ y. p y ≡ true) xs 0 i → AllWithin (λ y. p y ≡ false) xs i (length xs) → i ≡ length (filter p xs)
passed_at p xs zero within pass fail = sym (none_pass p xs fail)
passed_at p [] (suc i) within pass fail = absurd (omega (arith, within))
passed_at p (x ∷ xs) (suc i) within pass fail =
    let here : p x ≡ true = pass 0 x (omega arith) (omega arith) in
    let rest = passed_at p xs i (omega (arith, within)) (λ k d low high. pass (suc k) d (omega arith) (omega (arith, high))) (λ k d low high. fail (suc k) d (omega (arith, low)) (omega (arith, high))) in
    ap suc rest ∙ ap (λ b. length (cond b (x ∷ filter p xs) (filter p xs))) (sym here)

-- whether a list has a number is whether the number stands in it
pub has_number_decides : (xs : List ℤ) (v : ℤ) → Decides (has_number xs v) (Contains xs v)
unfolding has_number
has_number_decides xs v = (
  λ h.
      let a = Any-from_list_any (λ y. int_eq v y) xs h in
      subst (Contains xs) (sym ((Decides-int_eq v a.1).0 a.4)) (a.0, a.2, a.3),
  λ found. list_any-from_Any (λ y. int_eq v y) xs (found.0, v, found.1, found.2, (Decides-int_eq v v).1 refl),
)

-- and so a test that says whether it stands there says what `has_number` does
pub tested : (r : Bool) (xs : List ℤ) (v : ℤ) → (IsTrue r ↔ Contains xs v) → r ≡ has_number xs v
tested r xs v h = same_from_decides r (has_number xs v) h (has_number_decides xs v)
