-- The place of the event with an id, by a search among ids that ascend.
use Rattle.std.proofs.Common.{◌≡◌, ℕ, ◌<◌, ◌≤◌, ℤ, pos, inl, inr, List, length, get_or, Err, sym, ap, ◌∙◌, arith}
use Rattle.std.specs.List.Sorted.{IsBinarySearchResult}
use Rattle.std.specs.Ordering.{nat_cmp}
use Rattle.std.proofs.lemmas.Bool.{cases_lt}
use Rattle.std.proofs.lemmas.List.Sorted.{searched}
use Rattle.sat_merge.specs.Proofs.{Ascend, IsNoId}

rising : (ids : List ℕ) → Ascend ids → (i j : ℕ) → i ≤ j → j < length ids → get_or ids i 0 ≤ get_or ids j 0
rising ids up i j le there = elim (cases_lt i j) [
  | inl less ↦ let h = up i j less there in omega (arith, h)
  | inr same ↦ let e : get_or ids i 0 ≡ get_or ids j 0 = at_one i j (omega (arith, le, same)) in omega (arith, e)
]
  where
    at_one : (i j : ℕ) → i ≡ j → get_or ids i 0 ≡ get_or ids j 0
    at_one i j e = ap (λ (k : ℕ). get_or ids k 0) e

pub not_found : (ids : List ℕ) (hint : ℤ) (id place : ℕ) → Ascend ids → IsBinarySearchResult (λ y. nat_cmp y id) ids (Err place) → pos id ≡ hint → IsNoId ids hint
not_found ids hint id place up found is = λ other at.
    let sides = searched ids id (Err place) found (rising ids up) in
    let same : get_or ids other 0 ≡ id = of_pos (get_or ids other 0) id (at.named ∙ sym is) in
    elim (cases_lt other place) [
      | inl before ↦ let h = sides.1 other before in omega (arith, h, same)
      | inr behind ↦ let h = sides.2 other behind at.there in omega (arith, h, same)
    ]
  where
    of_pos : (m n : ℕ) → pos m ≡ pos n → m ≡ n
    of_pos m n e = cc e
