-- The search for two parts with a near sum.
use Rattle.std.proofs.Common.{◌≡◌, ℕ, ◌+◌, ◌<◌, ◌⊎◌, inl, inr, ℤ, pos, List, [], ◌∷◌, length, Option, Some, None, refl, sym, ap, subst, ◌∙◌, arith, slice_get}
use Rattle.std.specs.Prelude.{IfSome, slice_index_or}
use Rattle.std.proofs.lemmas.Int.{ints}
use Rattle.std.proofs.lemmas.List.{get_or_default}
use Rattle.std.proofs.lemmas.Option.{get_or_from_slice_get, none-some}
use Rattle.ep_base.specs.Intervals.{Interval, only, scaled}
use Rattle.ep_ground.specs.Bounds.{node_reach, reach_at}
use Rattle.ep_ground.specs.Nodes.{sum}
use Rattle.ep_base.specs.Reads.{IsWithinNumbers}
use Rattle.ep_numbers.specs.Spans.{IsWide, interval_of}
use Rattle.ep_numbers.specs.declared.spans.Span.{Span}
use Rattle.ep_reach.proofs.Reaching.{at_map}
use Rattle.ep_share.proofs.Totals.{both_ends, spread}
use Rattle.ep_share.proofs.TwoParts.{two_reach}
use Rattle.ep_share.specs.Cutting.{AreFarBefore, ArePlacesOfNear, AreTwoPlaces, IsNearPair, addend_at, told_reach}
use Rattle.ep_share.specs.declared.pairs.Places.{Places}
use Rattle.ep_simplify.proofs.Values.{less_or_last}

-- what a table says of a term
pub table_says : (spans : List Span) (t k : ℕ) (d : Span) → k ≡ t → t < length spans → interval_of (slice_index_or spans k d) ≡ told_reach spans t
unfolding reach_at
table_says spans t k d same below = ap (λ n. interval_of (slice_index_or spans n d)) same ∙ at_map interval_of spans t (slice_index_or spans t d) d (only (pos 0)) below refl

-- how far two parts reach together
pub together : (reach : ℕ → Interval) (p q : ℤ × ℕ) (i j : Interval) → i ≡ spread reach p → j ≡ spread reach q → node_reach [] reach (sum (pos 0) (p ∷ q ∷ [])) ≡ both_ends i j
together reach p q i j e f = two_reach [] reach p q ∙ (λ n. both_ends (sym e n) (sym f n))

-- the same by the words of the code
pub together_by : (spans : List Span) (p q : ℤ × ℕ) (w v s t : Interval) (a b : ℤ) → a ≡ p.0 → b ≡ q.0 → w ≡ scaled a s → s ≡ told_reach spans p.1 → v ≡ scaled b t → t ≡ told_reach spans q.1 → node_reach [] (told_reach spans) (sum (pos 0) (p ∷ q ∷ [])) ≡ both_ends w v
together_by spans p q w v s t a b one other e f g h = together (told_reach spans) p q w v (e ∙ (λ i. scaled (one i) (f i))) (g ∙ (λ i. scaled (other i) (h i)))

-- none of the first parts of a sum has a near sum with the one at a place
abbrev pub IsFarRow : (ℕ → Interval) → List (ℤ × ℕ) → ℕ → ℕ → Type 0
IsFarRow reach parts second end =
    (i : ℕ) (p q : ℤ × ℕ) → i < end → slice_get parts i ≡ Some p → slice_get parts second ≡ Some q → IsNearPair reach p q → ⊥

pub row_more : (reach : ℕ → Interval) (parts : List (ℤ × ℕ)) (second k : ℕ) → IsFarRow reach parts second k → (IsNearPair reach (addend_at parts k) (addend_at parts second) → ⊥) → IsFarRow reach parts second (k + 1)
row_more reach parts second k h far = λ i p q below at_i at_second near.
    elim (less_or_last i k (omega (arith, below))) as (λ _. ⊥) [
      | inl less ↦ h i p q less at_i at_second near
      | inr same ↦ far (subst (λ r. IsNearPair reach r (addend_at parts second)) (sym (ap (addend_at parts) (sym same) ∙ get_or_from_slice_get parts i p (pos 0, 0) at_i))
          (subst (λ r. IsNearPair reach p r) (sym (get_or_from_slice_get parts second q (pos 0, 0) at_second)) near))
    ]

pub far_more : (reach : ℕ → Interval) (parts : List (ℤ × ℕ)) (second : ℕ) → AreFarBefore reach parts second → IsFarRow reach parts second second → AreFarBefore reach parts (second + 1)
far_more reach parts second h row = λ i j p q less below at_i at_j near.
    elim (less_or_last j second (omega (arith, below))) as (λ _. ⊥) [
      | inl before ↦ h i j p q less before at_i at_j near
      | inr same ↦ row i p q (subst (λ k. i < k) same less) at_i (subst (λ k. slice_get parts k ≡ Some q) same at_j) near
    ]

-- what holds of the places that are chosen
pub chosen : (P : Places → Type 0) (best : Option Places) (at result : Places) → (result ≡ at) ⊎ (best ≡ Some result) → IfSome best P → P at → P result
chosen P best at result (inl same) h p = subst P (sym same) p
chosen P best at result (inr same) h p = subst (λ o. IfSome o P) same h

-- numbers that are near are words with room
pub near_wide : (n : ℤ) → IsWithinNumbers n → IsWide n
near_wide n h = (omega (arith, ints, h.0, h.1), omega (arith, ints, h.0, h.1))

-- an element that was read
pub read_at : (parts : List (ℤ × ℕ)) (k : ℕ) (p : ℤ × ℕ) → k < length parts → p ≡ slice_index_or parts k p → p ≡ addend_at parts k
read_at parts k p below read = read ∙ get_or_default parts k p (pos 0, 0) below

-- the best places so far, where the later one is at most at a place, and the earlier one before another there
pub record SoFar (reach : ℕ → Interval) (parts : List (ℤ × ℕ)) (second first : ℕ) (found : Option Places) : Type 0 where
  pub places : IfSome found (AreTwoPlaces parts)
  pub near : IfSome found (ArePlacesOfNear reach parts)
  pub far : found ≡ None → AreFarBefore reach parts second
  pub row : found ≡ None → IsFarRow reach parts second first

pub found_one : (reach : ℕ → Interval) (parts : List (ℤ × ℕ)) (second first : ℕ) (found now : Option Places) (at result : Places) → SoFar reach parts second first found → AreTwoPlaces parts at → ArePlacesOfNear reach parts at → (result ≡ at) ⊎ (found ≡ Some result) → now ≡ Some result → SoFar reach parts second (first + 1) now
found_one reach parts second first found now at result h two near choice is = record {
  places = subst (λ o. IfSome o (AreTwoPlaces parts)) (sym is) (chosen (AreTwoPlaces parts) found at result choice h.places two);
  near = subst (λ o. IfSome o (ArePlacesOfNear reach parts)) (sym is) (chosen (ArePlacesOfNear reach parts) found at result choice h.near near);
  far = λ none. absurd (some-none (sym is ∙ none));
  row = λ none. absurd (some-none (sym is ∙ none));
}
  where
    some-none : Some result ≡ None → ⊥
    some-none e = none-some result (sym e)

pub found_none : (reach : ℕ → Interval) (parts : List (ℤ × ℕ)) (second first : ℕ) (found now : Option Places) → SoFar reach parts second first found → (IsNearPair reach (addend_at parts first) (addend_at parts second) → ⊥) → now ≡ found → SoFar reach parts second (first + 1) now
found_none reach parts second first found now h apart is = record {
  places = subst (λ o. IfSome o (AreTwoPlaces parts)) (sym is) h.places;
  near = subst (λ o. IfSome o (ArePlacesOfNear reach parts)) (sym is) h.near;
  far = λ none. h.far (sym is ∙ none);
  row = λ none. row_more reach parts second first (h.row (sym is ∙ none)) apart;
}
