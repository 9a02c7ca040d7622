-- Two parts alone as a sum, in order.
use Rattle.std.proofs.Common.{◌≡◌, ℕ, zero, suc, ◌<◌, ◌⊎◌, inl, inr, Bool, true, false, ℤ, pos, List, [], ◌∷◌, length, Option, Some, refl, sym, ap, subst, ◌∙◌, arith, slice_get}
use Rattle.std.specs.Prelude.{◌==◌, if◌then◌else◌, int_le, nat_lt}
use Rattle.std.specs.List.{All}
use Rattle.std.proofs.lemmas.Bool.{cases_order}
use Rattle.std.proofs.lemmas.Int.{ints}
use Rattle.std.proofs.lemmas.List.Elements.{All-cons, All-nil}
use Rattle.std.proofs.lemmas.Option.{none-some, same_Some, slice_get_within}
use Rattle.ep_base.specs.Intervals.{Interval, IsWithinReach}
use Rattle.ep_base.specs.Reads.{IsWithinNumbers}
use Rattle.ep_ground.specs.Bounds.{node_reach}
use Rattle.ep_ground.specs.Grounds.{additions_in}
use Rattle.ep_ground.specs.Nodes.{GroundNode, sum, coefficients_of, parts_of}
use Rattle.ep_ground.specs.Terms.{node_value}
use Rattle.ep_ground.specs.declared.cells.Cell.{Cell}
use Rattle.ep_share.proofs.Totals.{both_ends, ends_commute, plus, plus_commutes, spread, sum_spread, sum_worth, two_spread, two_worth, worth}
use Rattle.ep_share.specs.Cutting.{AreFarBefore, IsCut, IsNearPair, comes_first, pair_of}
use Rattle.ep_share.specs.Sharing.{HasTwo}

-- a pair is the sum of both parts in one order or in the other
pub pair_forms : (P : GroundNode → Type 0) (p q : ℤ × ℕ) → P (sum (pos 0) (p ∷ q ∷ [])) → P (sum (pos 0) (q ∷ p ∷ [])) → P (pair_of p q)
unfolding pair_of
pair_forms P p q one other = by (comes_first p q)
  where
    by : (b : Bool) → P (if b then sum (pos 0) (p ∷ q ∷ []) else sum (pos 0) (q ∷ p ∷ []))
    by true = one
    by false = other

same_parts : (a b : ℤ) (s t : ℕ) → (if s == t then int_le b a else nat_lt t s) ≡ true → (if t == s then int_le a b else nat_lt s t) ≡ true → (a ≡ b) × (s ≡ t)
same_parts a b s t h g = (grind (arith, ints, h, g), grind (arith, ints, h, g))

one_first : (a b : ℤ) (s t : ℕ) → (if s == t then int_le b a else nat_lt t s) ≡ false → (if t == s then int_le a b else nat_lt s t) ≡ false → ⊥
one_first a b s t h g = grind (arith, ints, h, g)

both_first : (p q : ℤ × ℕ) → comes_first p q ≡ true → comes_first q p ≡ true → p ≡ q
unfolding comes_first
both_first p q h g = let e = same_parts p.0 q.0 p.1 q.1 h g in λ i. (e.0 i, e.1 i)

none_first : (p q : ℤ × ℕ) → comes_first p q ≡ false → comes_first q p ≡ false → ⊥
unfolding comes_first
none_first p q h g = one_first p.0 q.0 p.1 q.1 h g

-- a pair is the same whichever part is named first
pub pair_swap : (p q : ℤ × ℕ) → pair_of p q ≡ pair_of q p
unfolding pair_of
pair_swap p q = by (comes_first p q) (comes_first q p) refl refl
  where
    by : (x y : Bool) → comes_first p q ≡ x → comes_first q p ≡ y → (if x then sum (pos 0) (p ∷ q ∷ []) else sum (pos 0) (q ∷ p ∷ [])) ≡ (if y then sum (pos 0) (q ∷ p ∷ []) else sum (pos 0) (p ∷ q ∷ []))
    by true true h g = let e = both_first p q h g in λ i. sum (pos 0) (e i ∷ sym e i ∷ [])
    by true false h g = refl
    by false true h g = refl
    by false false h g = absurd (none_first p q h g)

-- ---- what a pair is worth and how far it reaches

pub pair_worth : (values : List ℤ) (value : ℕ → Option ℤ) (p q : ℤ × ℕ) → node_value values value (pair_of p q) ≡ plus (worth value p) (worth value q)
pair_worth values value p q = pair_forms (λ n. node_value values value n ≡ plus (worth value p) (worth value q)) p q
    (sum_worth values value (pos 0) (p ∷ q ∷ []) ∙ two_worth (worth value p) (worth value q))
    (sum_worth values value (pos 0) (q ∷ p ∷ []) ∙ two_worth (worth value q) (worth value p) ∙ plus_commutes (worth value q) (worth value p))

pub two_reach : (cells : List Cell) (reach : ℕ → Interval) (p q : ℤ × ℕ) → node_reach cells reach (sum (pos 0) (p ∷ q ∷ [])) ≡ both_ends (spread reach p) (spread reach q)
two_reach cells reach p q = sum_spread cells reach (pos 0) (p ∷ q ∷ []) ∙ two_spread (spread reach p) (spread reach q)

pub pair_reach : (cells : List Cell) (reach : ℕ → Interval) (p q : ℤ × ℕ) → node_reach cells reach (pair_of p q) ≡ both_ends (spread reach p) (spread reach q)
pair_reach cells reach p q = pair_forms (λ n. node_reach cells reach n ≡ both_ends (spread reach p) (spread reach q)) p q
    (two_reach cells reach p q)
    (two_reach cells reach q p ∙ ends_commute (spread reach q) (spread reach p))

-- two parts have a near sum whichever is named first
pub near_swap : (reach : ℕ → Interval) (p q : ℤ × ℕ) → IsNearPair reach p q → IsNearPair reach q p
near_swap reach p q h = subst IsWithinReach (two_reach [] reach p q ∙ ends_commute (spread reach p) (spread reach q) ∙ sym (two_reach [] reach q p)) h

-- ---- which parts a pair has

pub pair_parts : (P : ℕ → Type 0) (p q : ℤ × ℕ) → P p.1 → P q.1 → All P (parts_of (pair_of p q))
unfolding parts_of
pair_parts P p q one other = pair_forms (λ n. All P (parts_of n)) p q
    (All-cons P p.1 (q.1 ∷ []) one (All-cons P q.1 [] other (All-nil P)))
    (All-cons P q.1 (p.1 ∷ []) other (All-cons P p.1 [] one (All-nil P)))

pub pair_weights : (p q : ℤ × ℕ) → IsWithinNumbers p.0 → IsWithinNumbers q.0 → All IsWithinNumbers (coefficients_of (pair_of p q))
unfolding coefficients_of
pair_weights p q one other = pair_forms (λ n. All IsWithinNumbers (coefficients_of n)) p q
    (All-cons IsWithinNumbers p.0 (q.0 ∷ []) one (All-cons IsWithinNumbers q.0 [] other (All-nil IsWithinNumbers)))
    (All-cons IsWithinNumbers q.0 (p.0 ∷ []) other (All-cons IsWithinNumbers p.0 [] one (All-nil IsWithinNumbers)))

pub pair_additions : (p q : ℤ × ℕ) → additions_in (Some (pair_of p q)) ≡ 1
unfolding additions_in
pair_additions p q = pair_forms (λ n. additions_in (Some n) ≡ 1) p q refl refl

pub pair_few : (p q : ℤ × ℕ) → length (coefficients_of (pair_of p q)) ≡ 2
unfolding coefficients_of
pair_few p q = pair_forms (λ n. length (coefficients_of n) ≡ 2) p q refl refl

-- ---- which nodes are cut

-- the parts of a sum
abbrev summands : GroundNode → List (ℤ × ℕ)
summands (sum c parts) = parts
summands _ = []

pub same_summands : (c d : ℤ) (ps qs : List (ℤ × ℕ)) → sum c ps ≡ sum d qs → ps ≡ qs
same_summands c d ps qs e = ap summands e

place_in_two : (a b p : ℤ × ℕ) (k : ℕ) → slice_get (a ∷ b ∷ []) k ≡ Some p → ((k ≡ 0) × (a ≡ p)) ⊎ ((k ≡ 1) × (b ≡ p))
place_in_two a b p zero e = inl (refl, same_Some a p e)
place_in_two a b p (suc zero) e = inr (refl, same_Some b p e)
place_in_two a b p (suc (suc k)) e = absurd (none-some p e)

-- two parts of a sum of two are that pair
two_are_pair : (a b p q : ℤ × ℕ) → HasTwo (a ∷ b ∷ []) p q → pair_of a b ≡ pair_of p q
two_are_pair a b p q h =
    elim (place_in_two a b p h.first h.at_first) as (λ _. pair_of a b ≡ pair_of p q) [
      | inl one ↦ elim (place_in_two a b q h.second h.at_second) as (λ _. pair_of a b ≡ pair_of p q) [
        | inl other ↦ absurd (h.apart (one.0 ∙ sym other.0))
        | inr other ↦ λ i. pair_of (one.1 i) (other.1 i)
      ]
      | inr one ↦ elim (place_in_two a b q h.second h.at_second) as (λ _. pair_of a b ≡ pair_of p q) [
        | inl other ↦ pair_swap a b ∙ (λ i. pair_of (one.1 i) (other.1 i))
        | inr other ↦ absurd (h.apart (one.0 ∙ sym other.0))
      ]
    ]

-- a pair is cut
pub pair_cut : (reach : ℕ → Interval) (p q : ℤ × ℕ) → IsCut reach (pair_of p q)
pair_cut reach p q = λ number parts is few x y two near.
    pair_forms (λ n. n ≡ sum number parts → pair_of p q ≡ pair_of x y) p q
    (λ e. two_are_pair p q x y (subst (λ ps. HasTwo ps x y) (sym (same_summands (pos 0) number (p ∷ q ∷ []) parts e)) two))
    (λ e. pair_swap p q ∙ two_are_pair q p x y (subst (λ ps. HasTwo ps x y) (sym (same_summands (pos 0) number (q ∷ p ∷ []) parts e)) two))
    is

-- a sum without two parts that have a near sum is cut
pub far_cut : (reach : ℕ → Interval) (number : ℤ) (parts : List (ℤ × ℕ)) → AreFarBefore reach parts (length parts) → IsCut reach (sum number parts)
far_cut reach number parts far = λ n ps is few x y two near.
    let same = same_summands number n parts ps is in
    absurd (none same x y (subst (λ qs. HasTwo qs x y) (sym same) two) near)
  where
    none : {ps : List (ℤ × ℕ)} → parts ≡ ps → (x y : ℤ × ℕ) → HasTwo parts x y → IsNearPair reach x y → ⊥
    none same x y two near = elim (cases_order two.first two.second) as (λ _. ⊥) [
      | inl e ↦ two.apart e
      | inr order ↦ elim order as (λ _. ⊥) [
        | inl less ↦ far two.first two.second x y less (slice_get_within parts two.second y two.at_second) two.at_first two.at_second near
        | inr less ↦ far two.second two.first y x less (slice_get_within parts two.first x two.at_first) two.at_second two.at_first (near_swap reach x y near)
      ]
    ]

-- a sum of more parts is cut
pub large_cut : (reach : ℕ → Interval) (number : ℤ) (parts : List (ℤ × ℕ)) → 8 < length parts → IsCut reach (sum number parts)
large_cut reach number parts large = λ n ps is few x y two near.
    let same = same_summands number n parts ps is in
    absurd (omega (arith, large, few, ap length same))
