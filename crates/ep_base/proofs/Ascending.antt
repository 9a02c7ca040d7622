-- What holds of numbers that ascend: two such lists with the same numbers are one list.
use Rattle.std.proofs.Common.{◌≡◌, ◌↔◌, ◌⊎◌, inl, inr, suc, ℤ, ◌<ℤ◌, List, [], ◌∷◌, refl, sym, ap, subst, ◌∙◌, arith}
use Rattle.std.specs.List.{All, Contains}
use Rattle.std.proofs.lemmas.Int.{ints}
use Rattle.std.proofs.lemmas.List.Elements.{Contains-append_right, Contains-push_cases, Contains-append_cases}
use Rattle.std.proofs.lemmas.List.Kept.{AllPairs-cons}
use Rattle.ep_base.specs.Runs.{IsAscending}

pub ascending_tail : (x : ℤ) (xs : List ℤ) → IsAscending (x ∷ xs) → IsAscending xs
ascending_tail x xs h = λ i j d lt inside. h (suc i) (suc j) d (omega arith) (omega arith)

-- what follows the first is greater
pub ascending_head : (x y : ℤ) (xs : List ℤ) → IsAscending (x ∷ xs) → Contains xs y → x <ℤ y
ascending_head x y xs h c = subst (λ v. x <ℤ v) c.2 (h 0 (suc c.0) y (omega arith) (omega (arith, c.1)))

pub ascending_cons : (x : ℤ) (xs : List ℤ) → All (λ v. x <ℤ v) xs → IsAscending xs → IsAscending (x ∷ xs)
ascending_cons x xs below up = AllPairs-cons ◌<ℤ◌ x xs below up

pub first_of : (x : ℤ) (xs : List ℤ) → Contains (x ∷ xs) x
first_of x xs = (0, omega arith, refl)

pub later_of : (x y : ℤ) (xs : List ℤ) → Contains xs y → Contains (x ∷ xs) y
later_of x y xs c = Contains-append_right (x ∷ []) xs y c

pub first_or_later : (x y : ℤ) (xs : List ℤ) → Contains (x ∷ xs) y → (x ≡ y) ⊎ Contains xs y
first_or_later x y xs c =
    elim (Contains-append_cases (x ∷ []) xs y c) as (λ _. (x ≡ y) ⊎ Contains xs y) [
      | inl w ↦ elim (Contains-push_cases [] x y w) as (λ _. (x ≡ y) ⊎ Contains xs y) [
        | inl v ↦ absurd (omega (arith, v.1))
        | inr e ↦ inl e
      ]
      | inr w ↦ inr w
    ]

pub nothing_in : {P : Type 0} (y : ℤ) → Contains [] y → P
nothing_in y c = absurd (omega (arith, c.1))

-- numbers that ascend from a first one on have one first number
same_first : (x y : ℤ) (xs ys : List ℤ) → IsAscending (x ∷ xs) → IsAscending (y ∷ ys) → Contains (y ∷ ys) x → Contains (x ∷ xs) y → x ≡ y
same_first x y xs ys up other_up here there =
    elim (first_or_later y x ys here) as (λ _. x ≡ y) [
      | inl e ↦ sym e
      | inr w ↦ elim (first_or_later x y xs there) as (λ _. x ≡ y) [
        | inl e ↦ e
        | inr v ↦ let one = ascending_head y x ys other_up w in let other = ascending_head x y xs up v in absurd (omega (arith, ints, one, other))
      ]
    ]

-- a later number of one list is a later number of the other
kept_later : (x y v : ℤ) (xs ys : List ℤ) → x ≡ y → IsAscending (x ∷ xs) → (Contains (x ∷ xs) v → Contains (y ∷ ys) v) → Contains xs v → Contains ys v
kept_later x y v xs ys e up keeps c =
    elim (first_or_later y v ys (keeps (later_of x v xs c))) as (λ _. Contains ys v) [
      | inl same ↦ let above = ascending_head x v xs up c in absurd (omega (arith, ints, above, e, same))
      | inr w ↦ w
    ]

-- Two ascending lists with the same numbers are equal.
pub ascending_lists_are_equal : (xs ys : List ℤ) → IsAscending xs → IsAscending ys → ((v : ℤ) → Contains xs v ↔ Contains ys v) → xs ≡ ys
ascending_lists_are_equal [] [] up other_up same = refl
ascending_lists_are_equal [] (y ∷ ys) up other_up same = nothing_in y ((same y).1 (first_of y ys))
ascending_lists_are_equal (x ∷ xs) [] up other_up same = nothing_in x ((same x).0 (first_of x xs))
ascending_lists_are_equal (x ∷ xs) (y ∷ ys) up other_up same =
    let e = same_first x y xs ys up other_up ((same x).0 (first_of x xs)) ((same y).1 (first_of y ys)) in
    let rest = ascending_lists_are_equal xs ys (ascending_tail x xs up) (ascending_tail y ys other_up)
    (λ v. (kept_later x y v xs ys e up (same v).0, kept_later y x v ys xs (sym e) other_up (same v).1)) in
    ap (λ v. v ∷ xs) e ∙ ap (λ vs. y ∷ vs) rest
