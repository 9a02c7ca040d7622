-- What is added up over the parts of a sum: values, some of which may be wanting, and reaches.
use Rattle.std.proofs.Common.{◌≡◌, ℕ, ℤ, pos, ◌+ℤ◌, ◌*ℤ◌, ◌≤ℤ◌, List, [], ◌∷◌, ◌++◌, Option, Some, None, refl, sym, ap, ◌∙◌, arith}
use Rattle.std.specs.Prelude.{fold, map, option_map}
use Rattle.std.specs.Int.{int_max, int_min}
use Rattle.std.proofs.lemmas.Int.{ints}
use Rattle.ep_base.specs.Intervals.{Interval, from_to, greatest_or_zero, least_or_zero, only, product_interval, scaled, spanned, sum_interval}
use Rattle.ep_base.specs.Numbers.{greatest_of, least_of, sum_of}
use Rattle.ep_base.specs.Options.{on_both}
use Rattle.ep_base.specs.Reads.{weighted_sum}
use Rattle.ep_ground.specs.Bounds.{node_reach}
use Rattle.ep_ground.specs.Nodes.{sum}
use Rattle.ep_ground.specs.Terms.{node_value, weighed}
use Rattle.ep_ground.specs.declared.cells.Cell.{Cell}
use Rattle.ep_numbers.proofs.Ends.{max_start, min_start, up}
use Rattle.ep_share.proofs.Splitting.{Splits}

-- what is added up over a list
abbrev pub total : {X A : Type 0} → (A → A → A) → A → (X → A) → List X → A
total plus unit f [] = unit
total plus unit f (x ∷ xs) = plus (f x) (total plus unit f xs)

-- it doesn't matter what is added first
abbrev pub Swaps : {A : Type 0} → (A → A → A) → Type 0
Swaps {A} plus = (a b c : A) → plus a (plus b c) ≡ plus b (plus a c)

pulled : {X A : Type 0} (plus : A → A → A) (unit : A) (f : X → A) → Swaps plus → (front back : List X) (x : X) → total plus unit f (front ++ x ∷ back) ≡ plus (f x) (total plus unit f (front ++ back))
pulled plus unit f swaps [] back x = refl
pulled plus unit f swaps (y ∷ front) back x = ap (plus (f y)) (pulled plus unit f swaps front back x) ∙ swaps (f y) (f x) (total plus unit f (front ++ back))

-- one element first
pub splits_total : {X A : Type 0} (plus : A → A → A) (unit : A) (f : X → A) → Swaps plus → (xs : List X) (x : X) (rest : List X) → Splits xs x rest → total plus unit f xs ≡ plus (f x) (total plus unit f rest)
splits_total plus unit f swaps xs x rest s =
    ap (total plus unit f) s.is ∙ pulled plus unit f swaps s.front s.back x ∙ ap (λ ys. plus (f x) (total plus unit f ys)) (sym s.left)

-- ---- values

-- the sum of two numbers, where both are there
abbrev pub plus : Option ℤ → Option ℤ → Option ℤ
plus None b = None
plus (Some a) None = None
plus (Some a) (Some b) = Some (a +ℤ b)

-- a multiple of a number, where it is there
abbrev pub times : ℤ → Option ℤ → Option ℤ
times c None = None
times c (Some a) = Some (c *ℤ a)

swapped : (a b c : ℤ) → a +ℤ (b +ℤ c) ≡ b +ℤ (a +ℤ c)
swapped a b c = omega (arith, ints)

grouped : (a b c : ℤ) → a +ℤ (b +ℤ c) ≡ (a +ℤ b) +ℤ c
grouped a b c = omega (arith, ints)

pub plus_swaps : Swaps plus
plus_swaps None None c = refl
plus_swaps None (Some b) None = refl
plus_swaps None (Some b) (Some c) = refl
plus_swaps (Some a) None c = refl
plus_swaps (Some a) (Some b) None = refl
plus_swaps (Some a) (Some b) (Some c) = ap (λ n. Some n) (swapped a b c)

pub plus_groups : (a b c : Option ℤ) → plus a (plus b c) ≡ plus (plus a b) c
plus_groups None b c = refl
plus_groups (Some a) None c = refl
plus_groups (Some a) (Some b) None = refl
plus_groups (Some a) (Some b) (Some c) = ap (λ n. Some n) (grouped a b c)

-- the value of a part
abbrev pub worth : (ℕ → Option ℤ) → ℤ × ℕ → Option ℤ
worth value p = times p.0 (value p.1)

weighed_total : (value : ℕ → Option ℤ) (parts : List (ℤ × ℕ)) → option_map weighted_sum (weighed value parts) ≡ total plus (Some (pos 0)) (worth value) parts
unfolding weighed on_both weighted_sum sum_of
weighed_total value [] = refl
weighed_total value (p ∷ parts) = by (value p.1) (weighed value parts) (total plus (Some (pos 0)) (worth value) parts) (weighed_total value parts)
  where
    by : (x : Option ℤ) (ps : Option (List (ℤ × ℤ))) (rest : Option ℤ) → option_map weighted_sum ps ≡ rest → option_map weighted_sum (on_both x ps (λ n ns. Some ((p.0, n) ∷ ns))) ≡ plus (times p.0 x) rest
    by None ps rest e = refl
    by (Some n) None rest e = ap (plus (Some (p.0 *ℤ n))) e
    by (Some n) (Some ns) rest e = ap (plus (Some (p.0 *ℤ n))) e

-- the value of a sum
pub sum_worth : (values : List ℤ) (value : ℕ → Option ℤ) (number : ℤ) (parts : List (ℤ × ℕ)) → node_value values value (sum number parts) ≡ plus (Some number) (total plus (Some (pos 0)) (worth value) parts)
unfolding node_value
sum_worth values value number parts = by (weighed value parts) ∙ ap (plus (Some number)) (weighed_total value parts)
  where
    by : (o : Option (List (ℤ × ℤ))) → option_map (λ ps. number +ℤ weighted_sum ps) o ≡ plus (Some number) (option_map weighted_sum o)
    by None = refl
    by (Some ps) = refl

none_left : (a b : ℤ) → pos 0 +ℤ (a +ℤ (b +ℤ pos 0)) ≡ a +ℤ b
none_left a b = omega (arith, ints)

-- the value of two parts alone, whichever is first
pub two_worth : (a b : Option ℤ) → plus (Some (pos 0)) (plus a (plus b (Some (pos 0)))) ≡ plus a b
two_worth None b = refl
two_worth (Some a) None = refl
two_worth (Some a) (Some b) = ap (λ n. Some n) (none_left a b)

commuted : (a b : ℤ) → a +ℤ b ≡ b +ℤ a
commuted a b = omega (arith, ints)

pub plus_commutes : (a b : Option ℤ) → plus a b ≡ plus b a
plus_commutes None None = refl
plus_commutes None (Some b) = refl
plus_commutes (Some a) None = refl
plus_commutes (Some a) (Some b) = ap (λ n. Some n) (commuted a b)

once : (a : ℤ) → (pos 1 *ℤ a) ≡ a
once a = omega (arith, ints)

pub times_one : (a : Option ℤ) → times (pos 1) a ≡ a
times_one None = refl
times_one (Some a) = ap (λ n. Some n) (once a)

alone : (a : ℤ) → pos 0 +ℤ ((pos 1 *ℤ a) +ℤ pos 0) ≡ a
alone a = omega (arith, ints)

-- one part alone
pub one_worth : (a : Option ℤ) → plus (Some (pos 0)) (plus (times (pos 1) a) (Some (pos 0))) ≡ a
one_worth None = refl
one_worth (Some a) = ap (λ n. Some n) (alone a)

-- ---- reaches

-- the ends of two intervals, added
abbrev pub both_ends : Interval → Interval → Interval
both_ends i j = from_to (i.low +ℤ j.low) (i.high +ℤ j.high)

pub ends_swap : Swaps both_ends
ends_swap i j k = λ n. from_to (swapped i.low j.low k.low n) (swapped i.high j.high k.high n)

pub ends_group : (i j k : Interval) → both_ends i (both_ends j k) ≡ both_ends (both_ends i j) k
ends_group i j k = λ n. from_to (grouped i.low j.low k.low n) (grouped i.high j.high k.high n)

pub ends_commute : (i j : Interval) → both_ends i j ≡ both_ends j i
ends_commute i j = λ n. from_to (commuted i.low j.low n) (commuted i.high j.high n)

-- how far a part reaches
abbrev pub spread : (ℕ → Interval) → ℤ × ℕ → Interval
spread reach p = scaled p.0 (reach p.1)

parts_total : (reach : ℕ → Interval) (parts : List (ℤ × ℕ)) → sum_interval (map (spread reach) parts) ≡ total both_ends (only (pos 0)) (spread reach) parts
unfolding sum_interval sum_of
parts_total reach [] = refl
parts_total reach (p ∷ parts) = ap (both_ends (spread reach p)) (parts_total reach parts)

-- how far a sum reaches
pub sum_spread : (cells : List Cell) (reach : ℕ → Interval) (number : ℤ) (parts : List (ℤ × ℕ)) → node_reach cells reach (sum number parts) ≡ both_ends (only number) (total both_ends (only (pos 0)) (spread reach) parts)
unfolding node_reach sum_interval sum_of
sum_spread cells reach number parts = ap (both_ends (only number)) (parts_total reach parts)

-- two parts alone
pub two_spread : (i j : Interval) → both_ends (only (pos 0)) (both_ends i (both_ends j (only (pos 0)))) ≡ both_ends i j
two_spread i j = λ n. from_to (none_left i.low j.low n) (none_left i.high j.high n)

-- the lower end of a part's reach is below the upper one
pub spread_ascends : (a : ℤ) (i : Interval) → (scaled a i).low ≤ℤ (scaled a i).high
unfolding scaled product_interval spanned least_or_zero greatest_or_zero least_of greatest_of
spread_ascends a i =
    up (fold int_min (a *ℤ i.low) ((a *ℤ i.high) ∷ (a *ℤ i.low) ∷ (a *ℤ i.high) ∷ [])) (a *ℤ i.low) (fold int_max (a *ℤ i.low) ((a *ℤ i.high) ∷ (a *ℤ i.low) ∷ (a *ℤ i.high) ∷ []))
    (min_start (a *ℤ i.low) ((a *ℤ i.high) ∷ (a *ℤ i.low) ∷ (a *ℤ i.high) ∷ []))
    (max_start (a *ℤ i.low) ((a *ℤ i.high) ∷ (a *ℤ i.low) ∷ (a *ℤ i.high) ∷ []))

least_four : (l h a b : ℤ) → a ≡ l → b ≡ h → l ≤ℤ h → int_min (int_min (int_min a b) a) b ≡ l
least_four l h a b e f o = grind (arith, ints, e, f, o)

greatest_four : (l h a b : ℤ) → a ≡ l → b ≡ h → l ≤ℤ h → int_max (int_max (int_max a b) a) b ≡ h
greatest_four l h a b e f o = grind (arith, ints, e, f, o)

-- a part with the coefficient 1 reaches as far as its term
pub spread_one : (i : Interval) → i.low ≤ℤ i.high → scaled (pos 1) i ≡ i
unfolding scaled product_interval spanned least_or_zero greatest_or_zero least_of greatest_of
spread_one i h = λ n. from_to
    (least_four i.low i.high (pos 1 *ℤ i.low) (pos 1 *ℤ i.high) (once i.low) (once i.high) h n)
    (greatest_four i.low i.high (pos 1 *ℤ i.low) (pos 1 *ℤ i.high) (once i.low) (once i.high) h n)

-- the ends of two intervals ascend where theirs do
pub ends_ascend : (i j : Interval) → i.low ≤ℤ i.high → j.low ≤ℤ j.high → (both_ends i j).low ≤ℤ (both_ends i j).high
ends_ascend i j h g = omega (arith, ints, h, g)

alone_end : (a : ℤ) → pos 0 +ℤ (a +ℤ pos 0) ≡ a
alone_end a = omega (arith, ints)

pub one_spread : (i : Interval) → both_ends (only (pos 0)) (both_ends i (only (pos 0))) ≡ i
one_spread i = λ n. from_to (alone_end i.low n) (alone_end i.high n)
