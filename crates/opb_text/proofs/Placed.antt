-- The place of a variable among those of a problem.
use Rattle.std.proofs.Common.{◌≡◌, ℕ, ◌<◌, ◌≤◌, List, length, get_or, Ok, Err, ap, ◌∙◌, arith, inl, inr}
use Rattle.std.specs.List.{AllPairs, Contains}
use Rattle.std.specs.List.Sorted.{IsBinarySearchResult}
use Rattle.std.specs.Ordering.{nat_cmp}
use Rattle.std.proofs.lemmas.Bool.{cases_lt}
use Rattle.std.proofs.lemmas.List.{get_or_default}
use Rattle.std.proofs.lemmas.List.Sorted.{searched}

rising : (vars : List ℕ) → AllPairs ◌<◌ vars → (i j : ℕ) → i ≤ j → j < length vars → get_or vars i 0 ≤ get_or vars j 0
rising vars up i j le lt = elim (cases_lt i j) [
  | inl less ↦ let h = up i j 0 less lt in omega (arith, h)
  | inr same ↦ let e : get_or vars i 0 ≡ get_or vars j 0 = at_one i j (omega (arith, le, same)) in omega (arith, e)
]
  where
    at_one : (i j : ℕ) → i ≡ j → get_or vars i 0 ≡ get_or vars j 0
    at_one i j e = ap (λ (k : ℕ). get_or vars k 0) e

pub found_at : (vars : List ℕ) (var place : ℕ) → AllPairs ◌<◌ vars → IsBinarySearchResult (λ y. nat_cmp y var) vars (Ok place) → (place < length vars) × (get_or vars place 0 ≡ var)
found_at vars var place up found = searched vars var (Ok place) found (rising vars up)

pub not_found : {A : Type 0} (vars : List ℕ) (var place : ℕ) → AllPairs ◌<◌ vars → Contains vars var → IsBinarySearchResult (λ y. nat_cmp y var) vars (Err place) → A
not_found vars var place up there found =
    let sides = searched vars var (Err place) found (rising vars up) in
    let is : get_or vars there.0 0 ≡ var = get_or_default vars there.0 0 var there.1 ∙ there.2 in
    elim (cases_lt there.0 place) [
      | inl before ↦ absurd (let h = sides.1 there.0 before in omega (arith, h, is))
      | inr behind ↦ absurd (let h = sides.2 there.0 behind there.1 in omega (arith, h, is))
    ]
