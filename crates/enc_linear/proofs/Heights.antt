-- How high ladders are, and what that tells of their variables.
use Rattle.std.proofs.Common.{◌≡◌, ◌≢◌, ◌⊎◌, inl, inr, ◌↔◌, ℕ, zero, suc, ◌+◌, ◌<◌, ◌≤◌, ℤ, pos, ◌≤ℤ◌, Bool, true, false, List, [], ◌∷◌, length, map, take, get_or, if◌then◌else◌, refl, sym, ap, subst, ◌∙◌, arith}
use Rattle.std.specs.List.{All}
use Rattle.std.specs.Ordering.{int_eq}
use Rattle.std.proofs.lemmas.Bool.Decides.{Decides-int_eq}
use Rattle.std.proofs.lemmas.Int.{ints}
use Rattle.std.proofs.lemmas.List.{get_or-map, length-map}
use Rattle.std.proofs.lemmas.List.Elements.{All-cons, All-nil}
use Rattle.ep_flat.specs.Cons.{number_at, numbers_of_vars}
use Rattle.enc_atoms.proofs.Decoded.{number_front}
use Rattle.enc_atoms.proofs.NewTruths.{length-numbers_from, numbers_from_at}
use Rattle.enc_atoms.specs.Steps.{IsTruth, numbers_from}
use Rattle.enc_linear.specs.declared.sources.Ladder.{Ladder}
use Rattle.enc_linear.specs.Sources.{Falls, IsLadder, ones_in_front, rungs_of}

pub next : (k : ℕ) → suc k ≡ k + 1
next k = omega arith

pub none_more : (k : ℕ) → k ≡ k + 0
none_more k = omega arith

pub one_later : (k i : ℕ) → suc k + i ≡ k + suc i
one_later k i = omega arith

pub from_none : (k : ℕ) → 0 + k ≡ k
from_none k = omega arith

shift : (k : ℕ) → suc (k + 1) ≡ suc k + 1
shift k = omega arith

-- the numbers of a ladder's variables, one by one
pub length_rungs : (values : List ℤ) (ladder : Ladder) → length (rungs_of values ladder) ≡ ladder.rungs
unfolding rungs_of numbers_of_vars
length_rungs values ladder = length-map (numbers_from ladder.first ladder.rungs) (number_at values) ∙ length-numbers_from ladder.first ladder.rungs

pub rung_at : (values : List ℤ) (ladder : Ladder) (k : ℕ) → k < ladder.rungs → get_or (rungs_of values ladder) k (pos 0) ≡ number_at values (ladder.first + k)
unfolding rungs_of numbers_of_vars
rung_at values ladder k low =
    get_or-map (number_at values) (numbers_from ladder.first ladder.rungs) k 0 (pos 0) (omega (arith, low, length-numbers_from ladder.first ladder.rungs))
    ∙ ap (number_at values) (numbers_from_at ladder.first ladder.rungs k 0 low)

-- the numbers of earlier variables are among the first ones
numbers_front : (values : List ℤ) (n first count : ℕ) → first + count ≤ n → map (number_at (take n values)) (numbers_from first count) ≡ map (number_at values) (numbers_from first count)
unfolding numbers_from
numbers_front values n first zero low = refl
numbers_front values n first (suc count) low =
    ap (λ v. v ∷ map (number_at (take n values)) (numbers_from (first + 1) count)) (number_front values n first (omega (arith, low)))
    ∙ ap (λ vs. number_at values first ∷ vs) (numbers_front values n (first + 1) count (omega (arith, low)))

pub rungs_front : (values : List ℤ) (n : ℕ) (ladder : Ladder) → ladder.first + ladder.rungs ≤ n → rungs_of (take n values) ladder ≡ rungs_of values ladder
unfolding rungs_of numbers_of_vars
rungs_front values n ladder low = numbers_front values n ladder.first ladder.rungs low

-- one number more
height_one : (n : ℤ) (ns : List ℤ) → n ≡ pos 1 → ones_in_front (n ∷ ns) ≡ suc (ones_in_front ns)
unfolding ones_in_front
height_one n ns e = ap (λ (b : Bool). if b then suc (ones_in_front ns) else 0) ((Decides-int_eq n (pos 1)).1 e)

height_other : (n : ℤ) (ns : List ℤ) → n ≢ pos 1 → ones_in_front (n ∷ ns) ≡ 0
unfolding ones_in_front
height_other n ns other = by (int_eq n (pos 1)) refl
  where
    by : (b : Bool) → int_eq n (pos 1) ≡ b → (if b then suc (ones_in_front ns) else 0) ≡ 0
    by true e = absurd (other ((Decides-int_eq n (pos 1)).0 e))
    by false e = refl

-- whether a number is 1
one_or : (n : ℤ) → (n ≡ pos 1) ⊎ (n ≢ pos 1)
one_or n = by (int_eq n (pos 1)) refl
  where
    by : (b : Bool) → int_eq n (pos 1) ≡ b → (n ≡ pos 1) ⊎ (n ≢ pos 1)
    by true e = inl ((Decides-int_eq n (pos 1)).0 e)
    by false e = inr (λ is. let t = (Decides-int_eq n (pos 1)).1 is in cc)

height_of_none : ones_in_front [] ≡ 0
unfolding ones_in_front
height_of_none = refl

-- no more numbers are 1 than there are
pub height_low : (ns : List ℤ) → ones_in_front ns ≤ length ns
height_low [] = omega (arith, height_of_none)
height_low (n ∷ ns) =
    let rest = height_low ns in
    elim (one_or n) as (λ _. ones_in_front (n ∷ ns) ≤ suc (length ns)) [
      | inl e ↦ omega (arith, rest, height_one n ns e)
      | inr other ↦ omega (arith, height_other n ns other)
    ]

-- below its height all numbers are 1
pub ones : (ns : List ℤ) (k : ℕ) → k < ones_in_front ns → get_or ns k (pos 0) ≡ pos 1
ones [] k low = absurd (omega (arith, low, height_of_none))
ones (n ∷ ns) k low = at (λ j less. ones ns j less) k low
  where
    at : ((j : ℕ) → j < ones_in_front ns → get_or ns j (pos 0) ≡ pos 1) → (k : ℕ) → k < ones_in_front (n ∷ ns) → get_or (n ∷ ns) k (pos 0) ≡ pos 1
    at again zero low = elim (one_or n) as (λ _. n ≡ pos 1) [ inl e ↦ e | inr other ↦ absurd (omega (arith, low, height_other n ns other)) ]
    at again (suc k) low = elim (one_or n) as (λ _. get_or ns k (pos 0) ≡ pos 1) [
      | inl e ↦ again k (omega (arith, low, height_one n ns e))
      | inr other ↦ absurd (omega (arith, low, height_other n ns other))
    ]

-- where a number is 1 the first one is
all_before : (ns : List ℤ) → Falls ns → (k : ℕ) → k < length ns → get_or ns k (pos 0) ≡ pos 1 → get_or ns 0 (pos 0) ≡ pos 1
all_before ns falls zero low is = is
all_before ns falls (suc k) low is =
    let before = falls k (omega (arith, low)) (subst (λ j. get_or ns j (pos 0) ≡ pos 1) (next k) is) in
    all_before ns falls k (omega (arith, low)) before

-- a number that is 1 is below the height
below_height : (ns : List ℤ) → Falls ns → (k : ℕ) → k < length ns → get_or ns k (pos 0) ≡ pos 1 → k < ones_in_front ns
below_height [] falls k low is = absurd (omega (arith, low))
below_height (n ∷ ns) falls zero low is = omega (arith, height_one n ns is)
below_height (n ∷ ns) falls (suc k) low is =
    let first : n ≡ pos 1 = all_before (n ∷ ns) falls (suc k) low is in
    let rest = below_height ns
    (λ j less e. falls (suc j) (omega (arith, less)) (subst (λ i. get_or (n ∷ ns) i (pos 0) ≡ pos 1) (shift j) e))
    k (omega (arith, low)) is in
    omega (arith, rest, height_one n ns first)

less_or : (i j : ℕ) → (i < j) ⊎ (j ≤ i)
less_or i zero = inr (omega arith)
less_or zero (suc j) = inl (omega arith)
less_or (suc i) (suc j) = elim (less_or i j) as (λ _. (suc i < suc j) ⊎ (suc j ≤ suc i)) [ inl lt ↦ inl (omega (arith, lt)) | inr le ↦ inr (omega (arith, le)) ]

-- a number of a ladder is 0 exactly where the ladder is no higher than its place
pub at_height : (ns : List ℤ) → IsLadder ns → (k : ℕ) → k < length ns → (get_or ns k (pos 0) ≤ℤ pos 0) ↔ (ones_in_front ns ≤ k)
at_height ns is_ladder k low = (
  λ h. elim (less_or k (ones_in_front ns)) as (λ _. ones_in_front ns ≤ k) [ inl lt ↦ let one = ones ns k lt in absurd (omega (arith, ints, one, h)) | inr le ↦ le ],
  λ h. elim (is_ladder.truths k (pos 0) low) as (λ _. get_or ns k (pos 0) ≤ℤ pos 0) [
    | inl none ↦ omega (arith, ints, none)
    | inr one ↦ let higher = below_height ns is_ladder.falls k low one in absurd (omega (arith, higher, h))
  ],
)

-- ---- a ladder of a given height

unfoldable pub up_to_height : ℕ → ℕ → List ℤ
up_to_height p zero = []
up_to_height zero (suc count) = pos 0 ∷ up_to_height zero count
up_to_height (suc p) (suc count) = pos 1 ∷ up_to_height p count

pub length_up : (p count : ℕ) → length (up_to_height p count) ≡ count
unfolding up_to_height
length_up p zero = refl
length_up zero (suc count) = ap suc (length_up zero count)
length_up (suc p) (suc count) = ap suc (length_up p count)

pub truths_up : (p count : ℕ) → All IsTruth (up_to_height p count)
unfolding up_to_height
truths_up p zero = All-nil IsTruth
truths_up zero (suc count) = All-cons IsTruth (pos 0) (up_to_height zero count) (inl refl) (truths_up zero count)
truths_up (suc p) (suc count) = All-cons IsTruth (pos 1) (up_to_height p count) (inr refl) (truths_up p count)

pub height_up : (p count : ℕ) → p ≤ count → ones_in_front (up_to_height p count) ≡ p
unfolding up_to_height
height_up zero zero low = height_of_none
height_up (suc p) zero low = absurd (omega (arith, low))
height_up zero (suc count) low = height_other (pos 0) (up_to_height zero count) (λ e. omega (arith, ints, e))
height_up (suc p) (suc count) low = height_one (pos 1) (up_to_height p count) refl ∙ ap suc (height_up p count (omega (arith, low)))

-- behind a number that is 0 no number is 1
none_up : (count k : ℕ) → get_or (up_to_height zero count) k (pos 0) ≡ pos 1 → ⊥
unfolding up_to_height
none_up zero k e = omega (arith, ints, e)
none_up (suc count) zero e = omega (arith, ints, e)
none_up (suc count) (suc k) e = none_up count k e

one_before : (p count k : ℕ) → get_or (up_to_height p count) (suc k) (pos 0) ≡ pos 1 → get_or (up_to_height p count) k (pos 0) ≡ pos 1
unfolding up_to_height
one_before p zero k e = absurd (omega (arith, ints, e))
one_before zero (suc count) k e = absurd (none_up count k e)
one_before (suc p) (suc count) zero e = refl
one_before (suc p) (suc count) (suc k) e = one_before p count k e

pub falls_up : (p count : ℕ) → Falls (up_to_height p count)
falls_up p count k low is = one_before p count k (subst (λ j. get_or (up_to_height p count) j (pos 0) ≡ pos 1) (sym (next k)) is)
