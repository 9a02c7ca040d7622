-- A list without one of its elements, and with another one in place of two.
use Rattle.std.proofs.Common.{◌≡◌, ℕ, zero, suc, ◌<◌, ◌⊎◌, inl, inr, List, [], ◌∷◌, ◌++◌, length, get_or, refl, sym, ap, subst, arith}
use Rattle.std.specs.Prelude.{slice_set}
use Rattle.std.specs.List.{All, Contains, remove}
use Rattle.std.proofs.lemmas.List.{length-append}
use Rattle.std.proofs.lemmas.List.Elements.{All-append, All-cons, All-head, All-tail, Contains-append_cases, Contains-append_left, Contains-append_right}
use Rattle.ep_reach.proofs.Nodes.{all_first, all_second}

-- an element stands in a list, between these others
pub record Splits {X : Type 0} (xs : List X) (x : X) (rest : List X) : Type 0 where
  pub front : List X
  pub back : List X
  pub is : xs ≡ front ++ x ∷ back
  pub left : rest ≡ front ++ back

pub splits_behind : {X : Type 0} (y : X) (xs : List X) (x : X) (rest : List X) → Splits xs x rest → Splits (y ∷ xs) x (y ∷ rest)
splits_behind y xs x rest s = record { front = y ∷ s.front; back = s.back; is = ap (λ zs. y ∷ zs) s.is; left = ap (λ zs. y ∷ zs) s.left }

pub splits_first : {X : Type 0} (x : X) (xs : List X) → Splits (x ∷ xs) x xs
splits_first x xs = record { front = []; back = xs; is = refl; left = refl }

-- the element at a place, and the list without it
pub splits_at : {X : Type 0} (xs : List X) (k : ℕ) (d : X) → k < length xs → Splits xs (get_or xs k d) (remove xs k)
splits_at [] k d h = absurd (omega (arith, h))
splits_at (x ∷ xs) zero d h = splits_first x xs
splits_at (x ∷ xs) (suc k) d h = splits_behind x xs (get_or xs k d) (remove xs k) (splits_at xs k d (omega (arith, h)))

-- a list, and the same with an element in place of two
pub record Joins {X : Type 0} (xs : List X) (x y : X) (made : List X) (z : X) : Type 0 where
  pub one : List X
  pub both : List X
  pub first : Splits xs x one
  pub second : Splits one y both
  pub put : Splits made z both

pub joined_at : {X : Type 0} (xs : List X) (i j : ℕ) (z d : X) → i < j → j < length xs → Joins xs (get_or xs i d) (get_or xs j d) (remove (slice_set xs i z) j) z
joined_at [] i j z d h l = absurd (omega (arith, l))
joined_at (x ∷ xs) i zero z d h l = absurd (omega (arith, h))
joined_at (x ∷ xs) zero (suc j) z d h l = record {
  one = xs;
  both = remove xs j;
  first = splits_first x xs;
  second = splits_at xs j d (omega (arith, l));
  put = splits_first z (remove xs j);
}
joined_at (x ∷ xs) (suc i) (suc j) z d h l =
    let r = joined_at xs i j z d (omega (arith, h)) (omega (arith, l)) in
    record {
      one = x ∷ r.one;
      both = x ∷ r.both;
      first = splits_behind x xs (get_or xs i d) r.one r.first;
      second = splits_behind x r.one (get_or xs j d) r.both r.second;
      put = splits_behind x (remove (slice_set xs i z) j) z r.both r.put;
    }

-- ---- what holds of the elements

pub splits_length : {X : Type 0} (xs : List X) (x : X) (rest : List X) → Splits xs x rest → length xs ≡ suc (length rest)
splits_length xs x rest s = omega (arith, ap length s.is, ap length s.left, length-append s.front (x ∷ s.back), length-append s.front s.back)

-- one element in place of two makes a list shorter by one
pub joined_length : {X : Type 0} (xs : List X) (x y : X) (made : List X) (z : X) → Joins xs x y made z → suc (length made) ≡ length xs
joined_length xs x y made z j = omega (arith, splits_length made z j.both j.put, splits_length xs x j.one j.first, splits_length j.one y j.both j.second)

pub splits_holds : {X : Type 0} (P : X → Type 0) (xs : List X) (x : X) (rest : List X) → Splits xs x rest → All P xs → P x
splits_holds P xs x rest s h = All-head P x s.back (all_second P s.front (x ∷ s.back) (subst (All P) s.is h))

pub splits_rest : {X : Type 0} (P : X → Type 0) (xs : List X) (x : X) (rest : List X) → Splits xs x rest → All P xs → All P rest
splits_rest P xs x rest s h =
    let all = subst (All P) s.is h in
    subst (All P) (sym s.left) (All-append P s.front s.back (all_first P s.front (x ∷ s.back) all) (All-tail P x s.back (all_second P s.front (x ∷ s.back) all)))

pub splits_all : {X : Type 0} (P : X → Type 0) (xs : List X) (x : X) (rest : List X) → Splits xs x rest → P x → All P rest → All P xs
splits_all P xs x rest s p h =
    let all = subst (All P) s.left h in
    subst (All P) (sym s.is) (All-append P s.front (x ∷ s.back) (all_first P s.front s.back all) (All-cons P x s.back p (all_second P s.front s.back all)))

cons_cases : {X : Type 0} (x : X) (xs : List X) (y : X) → Contains (x ∷ xs) y → (x ≡ y) ⊎ Contains xs y
cons_cases x xs y found = elim (Contains-append_cases (x ∷ []) xs y found) as (λ _. (x ≡ y) ⊎ Contains xs y) [
  | inl h ↦ inl (one h)
  | inr h ↦ inr h
]
  where
    one : Contains (x ∷ []) y → x ≡ y
    one (zero, below, same) = same
    one (suc k, below, same) = absurd (omega (arith, below))

pub splits_itself : {X : Type 0} (xs : List X) (x : X) (rest : List X) → Splits xs x rest → Contains xs x
splits_itself xs x rest s = subst (λ ys. Contains ys x) (sym s.is) (Contains-append_right s.front (x ∷ s.back) x (0, omega arith, refl))

pub splits_other : {X : Type 0} (xs : List X) (x : X) (rest : List X) (y : X) → Splits xs x rest → Contains rest y → Contains xs y
splits_other xs x rest y s found =
    subst (λ ys. Contains ys y) (sym s.is)
    (elim (Contains-append_cases s.front s.back y (subst (λ ys. Contains ys y) s.left found)) as (λ _. Contains (s.front ++ x ∷ s.back) y) [
      | inl h ↦ Contains-append_left s.front (x ∷ s.back) y h
      | inr h ↦ Contains-append_right s.front (x ∷ s.back) y (Contains-append_right (x ∷ []) s.back y h)
    ])

pub splits_cases : {X : Type 0} (xs : List X) (x : X) (rest : List X) (y : X) → Splits xs x rest → Contains xs y → (x ≡ y) ⊎ Contains rest y
splits_cases xs x rest y s found = elim (Contains-append_cases s.front (x ∷ s.back) y (subst (λ ys. Contains ys y) s.is found)) as (λ _. (x ≡ y) ⊎ Contains rest y) [
  | inl h ↦ inr (subst (λ ys. Contains ys y) (sym s.left) (Contains-append_left s.front s.back y h))
  | inr h ↦ elim (cons_cases x s.back y h) as (λ _. (x ≡ y) ⊎ Contains rest y) [
    | inl e ↦ inl e
    | inr g ↦ inr (subst (λ ys. Contains ys y) (sym s.left) (Contains-append_right s.front s.back y g))
  ]
]
