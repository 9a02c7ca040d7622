-- The results of operations lie in the intervals of the operations.
use Rattle.std.specs.Prelude.{◌≡◌, ℕ, zero, suc, ◌≤◌, Bool, true, false, ◌&&◌, List, [], ◌∷◌, ℤ, pos, negsuc, ◌+ℤ◌, ◌-ℤ◌, ◌*ℤ◌, ◌≤ℤ◌, ◌<ℤ◌, neg_ℤ, if◌then◌else◌, int_le, Some, fold, refl}
use Rattle.std.proofs.Common.{ap, arith, subst, sym, ◌∙◌}
use Rattle.std.proofs.lemmas.Int.{ints}
use Rattle.std.specs.Int.{int_max, int_min}
use Rattle.ep_base.specs.Intervals.{Interval, LiesIn, absolute_interval, farthest_end, from_to, greatest_interval, greatest_or_zero, has_zero, highs, least_interval, least_or_zero, lows, negated, nth_power_interval, power_interval, product_interval, products_interval, quotient_interval, remainder_interval, spanned, sum_interval}
use Rattle.ep_base.specs.Numbers.{absolute_of, floor_over, greatest_of, least_of, nth_power, power, product_of, quotient, remainder, sum_of}
use Rattle.ep_tree_laws.specs.Intervals.{LieInEach}
use Rattle.std.proofs.Math.Nat.{div-le_self, mul-le-mul_left, mul_assoc}
use Rattle.std.proofs.lemmas.Nat.{mul-le}
use Rattle.ep_base.proofs.Small.{no_some, some_is}
use Rattle.ep_tree.proofs.NumberLaws.{floor_over-high, floor_over-low}

pub negated_lies : (n : ℤ) (i : Interval) → LiesIn n i → LiesIn (neg_ℤ n) (negated i)
unfolding negated
negated_lies n i h = (omega (arith, ints, h.1), omega (arith, ints, h.0))

pub sum_lies : (ns : List ℤ) (is : List Interval) → LieInEach ns is → LiesIn (sum_of ns) (sum_interval is)
unfolding sum_interval sum_of
sum_lies [] [] h = (omega (arith, ints), omega (arith, ints))
sum_lies [] (i ∷ is) h = absurd h
sum_lies (n ∷ ns) [] h = absurd h
sum_lies (n ∷ ns) (i ∷ is) h =
    let low : i.low ≤ℤ n = h.0.0 in
    let high : n ≤ℤ i.high = h.0.1 in
    let q : LiesIn (sum_of ns) (sum_interval is) = sum_lies ns is h.1 in
    let lows_low : sum_of (lows is) ≤ℤ sum_of ns = q.0 in
    let highs_high : sum_of ns ≤ℤ sum_of (highs is) = q.1 in
    (omega (arith, ints, low, lows_low), omega (arith, ints, high, highs_high))

-- ---- the least and the greatest

min_order : (a b x y : ℤ) → a ≤ℤ b → x ≤ℤ y → int_min a x ≤ℤ int_min b y
min_order a b x y h k = grind (arith, ints)

max_order : (a b x y : ℤ) → a ≤ℤ b → x ≤ℤ y → int_max a x ≤ℤ int_max b y
max_order a b x y h k = grind (arith, ints)

least_from : (a x b : ℤ) (ns : List ℤ) (is : List Interval) → a ≤ℤ x → x ≤ℤ b → LieInEach ns is
    → (fold int_min a (lows is) ≤ℤ fold int_min x ns) × (fold int_min x ns ≤ℤ fold int_min b (highs is))
least_from a x b [] [] p q h = (p, q)
least_from a x b [] (i ∷ is) p q h = absurd h
least_from a x b (n ∷ ns) [] p q h = absurd h
least_from a x b (n ∷ ns) (i ∷ is) p q h =
    least_from (int_min a i.low) (int_min x n) (int_min b i.high) ns is (min_order a x i.low n p h.0.0) (min_order x b n i.high q h.0.1) h.1

greatest_from : (a x b : ℤ) (ns : List ℤ) (is : List Interval) → a ≤ℤ x → x ≤ℤ b → LieInEach ns is
    → (fold int_max a (lows is) ≤ℤ fold int_max x ns) × (fold int_max x ns ≤ℤ fold int_max b (highs is))
greatest_from a x b [] [] p q h = (p, q)
greatest_from a x b [] (i ∷ is) p q h = absurd h
greatest_from a x b (n ∷ ns) [] p q h = absurd h
greatest_from a x b (n ∷ ns) (i ∷ is) p q h =
    greatest_from (int_max a i.low) (int_max x n) (int_max b i.high) ns is (max_order a x i.low n p h.0.0) (max_order x b n i.high q h.0.1) h.1

pub least_lies : (ns : List ℤ) (is : List Interval) → LieInEach ns is → (n : ℤ) → least_of ns ≡ Some n → LiesIn n (least_interval is)
unfolding least_interval least_or_zero least_of
least_lies [] is h n e = no_some e
least_lies (m ∷ ns) [] h n e = absurd h
least_lies (m ∷ ns) (i ∷ is) h n e =
    subst (λ x. LiesIn x (from_to (fold int_min i.low (lows is)) (fold int_min i.high (highs is)))) (some_is e) (least_from i.low m i.high ns is h.0.0 h.0.1 h.1)

pub greatest_lies : (ns : List ℤ) (is : List Interval) → LieInEach ns is → (n : ℤ) → greatest_of ns ≡ Some n → LiesIn n (greatest_interval is)
unfolding greatest_interval greatest_or_zero greatest_of
greatest_lies [] is h n e = no_some e
greatest_lies (m ∷ ns) [] h n e = absurd h
greatest_lies (m ∷ ns) (i ∷ is) h n e =
    subst (λ x. LiesIn x (from_to (fold int_max i.low (lows is)) (fold int_max i.high (highs is)))) (some_is e) (greatest_from i.low m i.high ns is h.0.0 h.0.1 h.1)

-- ---- absolute values

farthest : (low n high : ℤ) → low ≤ℤ n → n ≤ℤ high → absolute_of n ≤ℤ int_max (absolute_of low) (absolute_of high)
unfolding absolute_of
farthest (pos a) (pos b) (pos c) p q = grind (arith, ints)
farthest (negsuc a) (pos b) (pos c) p q = grind (arith, ints)
farthest (negsuc a) (negsuc b) (pos c) p q = grind (arith, ints)
farthest (negsuc a) (negsuc b) (negsuc c) p q = grind (arith, ints)
farthest (pos a) (negsuc b) c p q = absurd (omega (arith, ints, p))
farthest a (pos b) (negsuc c) p q = absurd (omega (arith, ints, q))

nearest : (low n high : ℤ) → low ≤ℤ n → n ≤ℤ high → (b : Bool) → (int_le low (pos 0) && int_le (pos 0) high) ≡ b
    → (if b then pos 0 else int_min (absolute_of low) (absolute_of high)) ≤ℤ absolute_of n
unfolding absolute_of
nearest low (pos n) high p q true e = omega (arith, ints)
nearest low (negsuc n) high p q true e = omega (arith, ints)
nearest (pos a) (pos b) (pos c) p q false e = grind (arith, ints)
nearest (negsuc a) n (pos c) p q false e = grind (arith, ints)
nearest (negsuc a) (negsuc b) (negsuc c) p q false e = grind (arith, ints)
nearest (pos a) (negsuc b) c p q false e = absurd (omega (arith, ints, p))
nearest a (pos b) (negsuc c) p q false e = absurd (omega (arith, ints, q))

pub absolute_lies : (n : ℤ) (i : Interval) → LiesIn n i → LiesIn (absolute_of n) (absolute_interval i)
unfolding absolute_interval farthest_end has_zero
absolute_lies n i h = (nearest i.low n i.high h.0 h.1 (int_le i.low (pos 0) && int_le (pos 0) i.high) refl, farthest i.low n i.high h.0 h.1)

-- ---- products

mono_pos : (k : ℕ) (x y : ℤ) → x ≤ℤ y → (pos k *ℤ x) ≤ℤ (pos k *ℤ y)
mono_pos k (pos a) (pos b) h = let l : a ≤ b = omega (arith, ints, h) in omega (arith, ints, mul-le-mul_left k l)
mono_pos k (negsuc a) (pos b) h = omega (arith, ints)
mono_pos k (negsuc a) (negsuc b) h = let l : suc b ≤ suc a = omega (arith, ints, h) in omega (arith, ints, mul-le-mul_left k l)
mono_pos k (pos a) (negsuc b) h = absurd (omega (arith, ints, h))

mono_neg : (k : ℕ) (x y : ℤ) → x ≤ℤ y → (negsuc k *ℤ y) ≤ℤ (negsuc k *ℤ x)
mono_neg k (pos a) (pos b) h = let l : a ≤ b = omega (arith, ints, h) in omega (arith, ints, mul-le-mul_left (suc k) l)
mono_neg k (negsuc a) (pos b) h = omega (arith, ints)
mono_neg k (negsuc a) (negsuc b) h = let l : suc b ≤ suc a = omega (arith, ints, h) in omega (arith, ints, mul-le-mul_left (suc k) l)
mono_neg k (pos a) (negsuc b) h = absurd (omega (arith, ints, h))

commuted : (x y : ℤ) → (x *ℤ y) ≡ (y *ℤ x)
commuted x y = omega (arith, ints)

-- a number lies between two others, whichever is less
abbrev Between : ℤ → ℤ → ℤ → Type 0
Between x y v = (int_min x y ≤ℤ v) × (v ≤ℤ int_max x y)

ordered : (x y v : ℤ) → x ≤ℤ v → v ≤ℤ y → Between x y v
ordered x y v h k = (grind (arith, ints), grind (arith, ints))

turned : (x y v : ℤ) → y ≤ℤ v → v ≤ℤ x → Between x y v
turned x y v h k = (grind (arith, ints), grind (arith, ints))

mul_between : (m c n d : ℤ) → c ≤ℤ n → n ≤ℤ d → Between (m *ℤ c) (m *ℤ d) (m *ℤ n)
mul_between (pos k) c n d p q = ordered (pos k *ℤ c) (pos k *ℤ d) (pos k *ℤ n) (mono_pos k c n p) (mono_pos k n d q)
mul_between (negsuc k) c n d p q = turned (negsuc k *ℤ c) (negsuc k *ℤ d) (negsuc k *ℤ n) (mono_neg k n d q) (mono_neg k c n p)

left_between : (a m b n : ℤ) → a ≤ℤ m → m ≤ℤ b → Between (a *ℤ n) (b *ℤ n) (m *ℤ n)
left_between a m b n p q =
    subst (λ v. Between (a *ℤ n) (b *ℤ n) v) (commuted n m)
    (subst (λ x. Between x (b *ℤ n) (n *ℤ m)) (commuted n a)
    (subst (λ y. Between (n *ℤ a) y (n *ℤ m)) (commuted n b) (mul_between n a m b p q)))

least_two : (z x y v : ℤ) → z ≤ℤ x → z ≤ℤ y → int_min x y ≤ℤ v → z ≤ℤ v
least_two z x y v h k l = grind (arith, ints)

greatest_two : (z x y v : ℤ) → x ≤ℤ z → y ≤ℤ z → v ≤ℤ int_max x y → v ≤ℤ z
greatest_two z x y v h k l = grind (arith, ints)

min_left : (x y : ℤ) → int_min x y ≤ℤ x
min_left x y = grind (arith, ints)

min_right : (x y : ℤ) → int_min x y ≤ℤ y
min_right x y = grind (arith, ints)

max_left : (x y : ℤ) → x ≤ℤ int_max x y
max_left x y = grind (arith, ints)

max_right : (x y : ℤ) → y ≤ℤ int_max x y
max_right x y = grind (arith, ints)

up : {x y z : ℤ} → x ≤ℤ y → y ≤ℤ z → x ≤ℤ z
up h k = omega (arith, ints, h, k)

four_below : (a b c d : ℤ) → (int_min (int_min (int_min a b) c) d ≤ℤ a) × (int_min (int_min (int_min a b) c) d ≤ℤ b) × (int_min (int_min (int_min a b) c) d ≤ℤ c) × (int_min (int_min (int_min a b) c) d ≤ℤ d)
four_below a b c d =
    let three : _ = min_left (int_min (int_min a b) c) d in
    let two : _ = up three (min_left (int_min a b) c) in
    (up two (min_left a b), up two (min_right a b), up three (min_right (int_min a b) c), min_right (int_min (int_min a b) c) d)

four_above : (a b c d : ℤ) → (a ≤ℤ int_max (int_max (int_max a b) c) d) × (b ≤ℤ int_max (int_max (int_max a b) c) d) × (c ≤ℤ int_max (int_max (int_max a b) c) d) × (d ≤ℤ int_max (int_max (int_max a b) c) d)
four_above a b c d =
    let three : _ = max_left (int_max (int_max a b) c) d in
    let two : _ = up (max_left (int_max a b) c) three in
    (up (max_left a b) two, up (max_right a b) two, up (max_right (int_max a b) c) three, max_right (int_max (int_max a b) c) d)

pub product_lies : (m n : ℤ) (i j : Interval) → LiesIn m i → LiesIn n j → LiesIn (m *ℤ n) (product_interval i j)
unfolding product_interval spanned least_or_zero greatest_or_zero least_of greatest_of
product_lies m n i j h k =
    let ac : ℤ = i.low *ℤ j.low in
    let ad : ℤ = i.low *ℤ j.high in
    let bc : ℤ = i.high *ℤ j.low in
    let bd : ℤ = i.high *ℤ j.high in
    let v : Between (m *ℤ j.low) (m *ℤ j.high) (m *ℤ n) = mul_between m j.low n j.high k.0 k.1 in
    let low : Between ac bc (m *ℤ j.low) = left_between i.low m i.high j.low h.0 h.1 in
    let high : Between ad bd (m *ℤ j.high) = left_between i.low m i.high j.high h.0 h.1 in
    let below : _ = four_below ac ad bc bd in
    let above : _ = four_above ac ad bc bd in
    let least : ℤ = int_min (int_min (int_min ac ad) bc) bd in
    let greatest : ℤ = int_max (int_max (int_max ac ad) bc) bd in (
      least_two least (m *ℤ j.low) (m *ℤ j.high) (m *ℤ n)
          (least_two least ac bc (m *ℤ j.low) below.0 below.2 low.0) (least_two least ad bd (m *ℤ j.high) below.1 below.3 high.0) v.0,
      greatest_two greatest (m *ℤ j.low) (m *ℤ j.high) (m *ℤ n)
          (greatest_two greatest ac bc (m *ℤ j.low) above.0 above.2 low.1) (greatest_two greatest ad bd (m *ℤ j.high) above.1 above.3 high.1) v.1,
    )

-- ---- quotients and remainders

floor_near : (x : ℤ) (y : ℕ) → (neg_ℤ (absolute_of x) ≤ℤ floor_over x (suc y)) × (floor_over x (suc y) ≤ℤ absolute_of x)
unfolding floor_over absolute_of
floor_near (pos a) y = (omega (arith, ints), omega (arith, ints, div-le_self a (suc y)))
floor_near (negsuc a) y = (omega (arith, ints, div-le_self a (suc y)), omega (arith, ints))

absolute_negated : (x : ℤ) → absolute_of (neg_ℤ x) ≡ absolute_of x
unfolding absolute_of
absolute_negated x = grind (arith, ints)

quotient_near : (x y q : ℤ) → quotient x y ≡ Some q → (neg_ℤ (absolute_of x) ≤ℤ q) × (q ≤ℤ absolute_of x)
unfolding quotient
quotient_near x (pos zero) q e = no_some e
quotient_near x (pos (suc y)) q e = subst (λ r. (neg_ℤ (absolute_of x) ≤ℤ r) × (r ≤ℤ absolute_of x)) (some_is e) (floor_near x y)
quotient_near x (negsuc y) q e =
    subst (λ r. (neg_ℤ (absolute_of x) ≤ℤ r) × (r ≤ℤ absolute_of x)) (some_is e)
    (subst (λ a. (neg_ℤ a ≤ℤ floor_over (neg_ℤ x) (suc y)) × (floor_over (neg_ℤ x) (suc y) ≤ℤ a)) (absolute_negated x) (floor_near (neg_ℤ x) y))

wider : (a m q : ℤ) → a ≤ℤ m → (neg_ℤ a ≤ℤ q) × (q ≤ℤ a) → (neg_ℤ m ≤ℤ q) × (q ≤ℤ m)
wider a m q h k = let low : neg_ℤ a ≤ℤ q = k.0 in let high : q ≤ℤ a = k.1 in (omega (arith, ints, h, low), omega (arith, ints, h, high))

pub quotient_lies : (x y q : ℤ) (i : Interval) → LiesIn x i → quotient x y ≡ Some q → LiesIn q (quotient_interval i)
unfolding quotient_interval farthest_end
quotient_lies x y q i h e =
    wider (absolute_of x) (int_max (absolute_of i.low) (absolute_of i.high)) q (farthest i.low x i.high h.0 h.1) (quotient_near x y q e)

-- what is left of a dividend above a multiple of a positive divisor, and below one
left_above : (x t : ℤ) (k : ℕ) → t ≤ℤ x → x <ℤ (t +ℤ pos (suc k)) → (pos 0 ≤ℤ (x -ℤ t)) × ((x -ℤ t) ≤ℤ pos k)
left_above x t k h l = (omega (arith, ints, h), omega (arith, ints, l))

left_below : (x t : ℤ) (k : ℕ) → t ≤ℤ neg_ℤ x → neg_ℤ x <ℤ (t +ℤ pos (suc k)) → ((x -ℤ neg_ℤ t) ≤ℤ pos 0) × (neg_ℤ (pos k) ≤ℤ (x -ℤ neg_ℤ t))
left_below x t k h l = (omega (arith, ints, h), omega (arith, ints, l))

negative_times : (k : ℕ) (q : ℤ) → (negsuc k *ℤ q) ≡ neg_ℤ (pos (suc k) *ℤ q)
negative_times k q = omega (arith, ints)

above_low : (low most r : ℤ) → pos 0 ≤ℤ most → pos 0 ≤ℤ r → (b : Bool) → (if b then pos 0 else neg_ℤ most) ≤ℤ r
above_low low most r h k true = k
above_low low most r h k false = omega (arith, ints, h, k)

below_high : (most r : ℤ) → pos 0 ≤ℤ most → r ≤ℤ pos 0 → (b : Bool) → r ≤ℤ (if b then pos 0 else most)
below_high most r h k true = k
below_high most r h k false = omega (arith, ints, h, k)

positive_high : (high y most r : ℤ) → pos 1 ≤ℤ y → y ≤ℤ high → r ≤ℤ most → (b : Bool) → int_le high (pos 0) ≡ b → r ≤ℤ (if b then pos 0 else most)
positive_high high y most r p h k true e = absurd (grind (arith, ints))
positive_high high y most r p h k false e = k

negative_low : (low y most r : ℤ) → y ≤ℤ neg_ℤ (pos 1) → low ≤ℤ y → neg_ℤ most ≤ℤ r → (b : Bool) → int_le (pos 0) low ≡ b → (if b then pos 0 else neg_ℤ most) ≤ℤ r
negative_low low y most r p h k true e = absurd (grind (arith, ints))
negative_low low y most r p h k false e = k

most_from : (k : ℕ) (f : ℤ) → pos (suc k) ≤ℤ f → (pos k ≤ℤ (int_max (pos 1) f -ℤ pos 1)) × (pos 0 ≤ℤ (int_max (pos 1) f -ℤ pos 1))
most_from k f h = (grind (arith, ints), grind (arith, ints))

negated_order : (a b : ℤ) → a ≤ℤ b → neg_ℤ b ≤ℤ neg_ℤ a
negated_order a b h = omega (arith, ints, h)

-- the ends of the interval of a remainder
abbrev RemainderEnds : Interval → ℤ → ℤ → Type 0
RemainderEnds j most r = ((if int_le (pos 0) j.low then pos 0 else neg_ℤ most) ≤ℤ r) × (r ≤ℤ (if int_le j.high (pos 0) then pos 0 else most))

positive_ends : (j : Interval) (k : ℕ) (most r : ℤ) → LiesIn (pos (suc k)) j → pos k ≤ℤ most → pos 0 ≤ℤ most → (pos 0 ≤ℤ r) × (r ≤ℤ pos k) → RemainderEnds j most r
positive_ends j k most r h m z l = (
  above_low j.low most r z l.0 (int_le (pos 0) j.low),
  positive_high j.high (pos (suc k)) most r (omega (arith, ints)) h.1 (up l.1 m) (int_le j.high (pos 0)) refl,
)

negative_ends : (j : Interval) (k : ℕ) (most r : ℤ) → LiesIn (negsuc k) j → pos k ≤ℤ most → pos 0 ≤ℤ most → (r ≤ℤ pos 0) × (neg_ℤ (pos k) ≤ℤ r) → RemainderEnds j most r
negative_ends j k most r h m z l = (
  negative_low j.low (negsuc k) most r (omega (arith, ints)) h.0 (up (negated_order (pos k) most m) l.1) (int_le (pos 0) j.low) refl,
  below_high most r z l.0 (int_le j.high (pos 0)),
)

pub remainder_lies : (x y r : ℤ) (j : Interval) → LiesIn y j → remainder x y ≡ Some r → LiesIn r (remainder_interval j)
unfolding remainder quotient remainder_interval farthest_end absolute_of
remainder_lies x (pos zero) r j h e = no_some e
remainder_lies x (pos (suc k)) r j h e =
    let m : _ = most_from k (int_max (absolute_of j.low) (absolute_of j.high)) (farthest j.low (pos (suc k)) j.high h.0 h.1) in
    subst (λ s. RemainderEnds j (int_max (pos 1) (int_max (absolute_of j.low) (absolute_of j.high)) -ℤ pos 1) s) (some_is e)
    (positive_ends j k (int_max (pos 1) (int_max (absolute_of j.low) (absolute_of j.high)) -ℤ pos 1) (x -ℤ (pos (suc k) *ℤ floor_over x (suc k))) h m.0 m.1
    (left_above x (pos (suc k) *ℤ floor_over x (suc k)) k (floor_over-low x k) (floor_over-high x k)))
remainder_lies x (negsuc k) r j h e =
    let m : _ = most_from k (int_max (absolute_of j.low) (absolute_of j.high)) (farthest j.low (negsuc k) j.high h.0 h.1) in
    subst (λ s. RemainderEnds j (int_max (pos 1) (int_max (absolute_of j.low) (absolute_of j.high)) -ℤ pos 1) s) (some_is e)
    (subst (λ t. RemainderEnds j (int_max (pos 1) (int_max (absolute_of j.low) (absolute_of j.high)) -ℤ pos 1) (x -ℤ t)) (sym (negative_times k (floor_over (neg_ℤ x) (suc k))))
    (negative_ends j k (int_max (pos 1) (int_max (absolute_of j.low) (absolute_of j.high)) -ℤ pos 1) (x -ℤ neg_ℤ (pos (suc k) *ℤ floor_over (neg_ℤ x) (suc k))) h m.0 m.1
    (left_below x (pos (suc k) *ℤ floor_over (neg_ℤ x) (suc k)) k (floor_over-low (neg_ℤ x) k) (floor_over-high (neg_ℤ x) k))))

-- ---- products of many, and powers

half_negated : (a c : ℤ) → (a *ℤ neg_ℤ c) ≡ neg_ℤ (a *ℤ c)
half_negated a c = grind (arith, ints)

other_negated : (a c : ℤ) → (neg_ℤ a *ℤ c) ≡ neg_ℤ (a *ℤ c)
other_negated a c = grind (arith, ints)

times_third : (a b : ℕ) (c : ℤ) → ((pos a *ℤ pos b) *ℤ c) ≡ (pos a *ℤ (pos b *ℤ c))
times_third a b (pos c) = ap pos (mul_assoc a b c)
times_third a b (negsuc c) =
    half_negated (pos a *ℤ pos b) (pos (suc c)) ∙ ap (λ n. neg_ℤ (pos n)) (mul_assoc a b (suc c)) ∙ sym (half_negated (pos a) (pos b *ℤ pos (suc c)))
    ∙ ap (λ x. pos a *ℤ x) (sym (half_negated (pos b) (pos (suc c))))

times_second : (a : ℕ) (b c : ℤ) → ((pos a *ℤ b) *ℤ c) ≡ (pos a *ℤ (b *ℤ c))
times_second a (pos b) c = times_third a b c
times_second a (negsuc b) c =
    ap (λ x. x *ℤ c) (half_negated (pos a) (pos (suc b))) ∙ other_negated (pos a *ℤ pos (suc b)) c ∙ ap neg_ℤ (times_third a (suc b) c)
    ∙ sym (half_negated (pos a) (pos (suc b) *ℤ c)) ∙ ap (λ x. pos a *ℤ x) (sym (other_negated (pos (suc b)) c))

times_again : (a b c : ℤ) → ((a *ℤ b) *ℤ c) ≡ (a *ℤ (b *ℤ c))
times_again (pos a) b c = times_second a b c
times_again (negsuc a) b c =
    ap (λ x. x *ℤ c) (other_negated (pos (suc a)) b) ∙ other_negated (pos (suc a) *ℤ b) c ∙ ap neg_ℤ (times_second (suc a) b c)
    ∙ sym (other_negated (pos (suc a)) (b *ℤ c))

products_from : (a : ℤ) (i : Interval) (ns : List ℤ) (is : List Interval) → LiesIn a i → LieInEach ns is → LiesIn (a *ℤ product_of ns) (fold product_interval i is)
unfolding product_of
products_from a i [] [] h k = subst (λ x. LiesIn x i) (sym (times_one a)) h
  where
    times_one : (x : ℤ) → (x *ℤ pos 1) ≡ x
    times_one x = omega (arith, ints)
products_from a i [] (j ∷ is) h k = absurd k
products_from a i (n ∷ ns) [] h k = absurd k
products_from a i (n ∷ ns) (j ∷ is) h k =
    subst (λ x. LiesIn x (fold product_interval (product_interval i j) is)) (times_again a n (product_of ns))
    (products_from (a *ℤ n) (product_interval i j) ns is (product_lies a n i j h k.0) k.1)

one_times : (x : ℤ) → (pos 1 *ℤ x) ≡ x
one_times x = omega (arith, ints)

pub products_lie : (ns : List ℤ) (is : List Interval) → LieInEach ns is → LiesIn (product_of ns) (products_interval is)
unfolding products_interval
products_lie ns is h =
    subst (λ x. LiesIn x (products_interval is)) (one_times (product_of ns)) (products_from (pos 1) (from_to (pos 1) (pos 1)) ns is (omega (arith, ints), omega (arith, ints)) h)

-- a product of numbers that aren't negative, of numbers that aren't positive, and of one of each
both_high : (a b c d : ℤ) → pos 0 ≤ℤ a → a ≤ℤ b → pos 0 ≤ℤ c → c ≤ℤ d → (pos 0 ≤ℤ (a *ℤ c)) × ((a *ℤ c) ≤ℤ (b *ℤ d))
both_high (pos a) (pos b) (pos c) (pos d) h k l m =
    let p : a ≤ b = omega (arith, ints, k) in let q : c ≤ d = omega (arith, ints, m) in
    (omega (arith, ints), omega (arith, ints, mul-le a c b d p q))
both_high (negsuc a) b c d h k l m = absurd (omega (arith, ints, h))
both_high (pos a) (negsuc b) c d h k l m = absurd (omega (arith, ints, k))
both_high (pos a) (pos b) (negsuc c) d h k l m = absurd (omega (arith, ints, l))
both_high (pos a) (pos b) (pos c) (negsuc d) h k l m = absurd (omega (arith, ints, m))

negated_product : (a c : ℤ) → (neg_ℤ a *ℤ neg_ℤ c) ≡ (a *ℤ c)
negated_product a c = grind (arith, ints)

-- b ≤ a ≤ 0 and d ≤ c ≤ 0
both_low : (a b c d : ℤ) → a ≤ℤ pos 0 → b ≤ℤ a → c ≤ℤ pos 0 → d ≤ℤ c → (pos 0 ≤ℤ (a *ℤ c)) × ((a *ℤ c) ≤ℤ (b *ℤ d))
both_low a b c d h k l m =
    let p : (pos 0 ≤ℤ (neg_ℤ a *ℤ neg_ℤ c)) × ((neg_ℤ a *ℤ neg_ℤ c) ≤ℤ (neg_ℤ b *ℤ neg_ℤ d)) =
    both_high (neg_ℤ a) (neg_ℤ b) (neg_ℤ c) (neg_ℤ d) (omega (arith, ints, h)) (omega (arith, ints, k)) (omega (arith, ints, l)) (omega (arith, ints, m)) in
    subst (λ x. (pos 0 ≤ℤ x) × (x ≤ℤ (b *ℤ d))) (negated_product a c)
    (subst (λ y. (pos 0 ≤ℤ (neg_ℤ a *ℤ neg_ℤ c)) × ((neg_ℤ a *ℤ neg_ℤ c) ≤ℤ y)) (negated_product b d) p)

-- 0 ≤ a ≤ b and d ≤ c ≤ 0
one_low : (a b c d : ℤ) → pos 0 ≤ℤ a → a ≤ℤ b → c ≤ℤ pos 0 → d ≤ℤ c → ((a *ℤ c) ≤ℤ pos 0) × ((b *ℤ d) ≤ℤ (a *ℤ c))
one_low a b c d h k l m =
    let p : (pos 0 ≤ℤ (a *ℤ neg_ℤ c)) × ((a *ℤ neg_ℤ c) ≤ℤ (b *ℤ neg_ℤ d)) =
    both_high a b (neg_ℤ c) (neg_ℤ d) h k (omega (arith, ints, l)) (omega (arith, ints, m)) in
    let q : (pos 0 ≤ℤ neg_ℤ (a *ℤ c)) × (neg_ℤ (a *ℤ c) ≤ℤ neg_ℤ (b *ℤ d)) =
    subst (λ x. (pos 0 ≤ℤ x) × (x ≤ℤ neg_ℤ (b *ℤ d))) (half_negated a c)
    (subst (λ y. (pos 0 ≤ℤ (a *ℤ neg_ℤ c)) × ((a *ℤ neg_ℤ c) ≤ℤ y)) (half_negated b d) p) in
    let s : pos 0 ≤ℤ neg_ℤ (a *ℤ c) = q.0 in
    let t : neg_ℤ (a *ℤ c) ≤ℤ neg_ℤ (b *ℤ d) = q.1 in
    (omega (arith, ints, s), omega (arith, ints, t))

-- powers of numbers that aren't negative ascend
high_powers : (x y : ℤ) (n : ℕ) → pos 0 ≤ℤ x → x ≤ℤ y → (pos 0 ≤ℤ nth_power x n) × (nth_power x n ≤ℤ nth_power y n)
unfolding nth_power
high_powers x y zero h k = (omega (arith, ints), omega (arith, ints))
high_powers x y (suc n) h k =
    let p : _ = high_powers x y n h k in both_high (nth_power x n) (nth_power y n) x y p.0 p.1 h k

-- of numbers that aren't positive, even powers descend and odd ones ascend
data LowPowers (p q : ℤ) : Type 0 where
  even_powers : pos 0 ≤ℤ p → p ≤ℤ q → LowPowers p q
  odd_powers : p ≤ℤ pos 0 → q ≤ℤ p → LowPowers p q

-- y ≤ x ≤ 0
low_powers : (x y : ℤ) (n : ℕ) → x ≤ℤ pos 0 → y ≤ℤ x → LowPowers (nth_power x n) (nth_power y n)
unfolding nth_power
low_powers x y zero h k = even_powers (omega (arith, ints)) (omega (arith, ints))
low_powers x y (suc n) h k = go (nth_power x n) (nth_power y n) (low_powers x y n h k)
  where
    go : (p q : ℤ) → LowPowers p q → LowPowers (p *ℤ x) (q *ℤ y)
    go p q (even_powers l m) = let r : _ = one_low p q x y l m h k in odd_powers r.0 r.1
    go p q (odd_powers l m) = let r : _ = both_low p q x y l m h k in even_powers r.0 r.1

two_ends : (a b v : ℤ) → Between a b v → LiesIn v (spanned (a ∷ b ∷ []))
unfolding spanned least_or_zero greatest_or_zero least_of greatest_of
two_ends a b v h = h

three_ends : (a b v : ℤ) → int_min (int_min a b) (pos 0) ≤ℤ v → v ≤ℤ int_max (int_max a b) (pos 0) → LiesIn v (spanned (a ∷ b ∷ pos 0 ∷ []))
unfolding spanned least_or_zero greatest_or_zero least_of greatest_of
three_ends a b v h k = (h, k)

-- between one end and 0
from_first : (a b v : ℤ) → Between a (pos 0) v → LiesIn v (spanned (a ∷ b ∷ pos 0 ∷ []))
from_first a b v h =
    three_ends a b v
    (least_two (int_min (int_min a b) (pos 0)) a (pos 0) v (up (min_left (int_min a b) (pos 0)) (min_left a b)) (min_right (int_min a b) (pos 0)) h.0)
    (greatest_two (int_max (int_max a b) (pos 0)) a (pos 0) v (up (max_left a b) (max_left (int_max a b) (pos 0))) (max_right (int_max a b) (pos 0)) h.1)

from_second : (a b v : ℤ) → Between b (pos 0) v → LiesIn v (spanned (a ∷ b ∷ pos 0 ∷ []))
from_second a b v h =
    three_ends a b v
    (least_two (int_min (int_min a b) (pos 0)) b (pos 0) v (up (min_left (int_min a b) (pos 0)) (min_right a b)) (min_right (int_min a b) (pos 0)) h.0)
    (greatest_two (int_max (int_max a b) (pos 0)) b (pos 0) v (up (max_right a b) (max_left (int_max a b) (pos 0))) (max_right (int_max a b) (pos 0)) h.1)

low_between : (p q : ℤ) → LowPowers p q → Between q (pos 0) p
low_between p q (even_powers l m) = turned q (pos 0) p l m
low_between p q (odd_powers l m) = ordered q (pos 0) p m l

low_ends : (b v a : ℤ) → LowPowers b v → LowPowers v a → Between a b v
low_ends b v a (even_powers l m) (even_powers n o) = turned a b v m o
low_ends b v a (even_powers l m) (odd_powers n o) = zero_ends a b v (up l m) n m o l
  where
    zero_ends : (a b v : ℤ) → pos 0 ≤ℤ v → v ≤ℤ pos 0 → b ≤ℤ v → a ≤ℤ v → pos 0 ≤ℤ b → Between a b v
    zero_ends a b v p q r s t = ordered a b v s (up q t)
low_ends b v a (odd_powers l m) (odd_powers n o) = ordered a b v o m
low_ends b v a (odd_powers l m) (even_powers n o) = turned a b v (up l n) o

below_zero : (low high : ℤ) → int_le (pos 0) low ≡ false → (int_le low (pos 0) && int_le (pos 0) high) ≡ false → high ≤ℤ pos 0
below_zero low high p e = grind (arith, ints)

is_high : (x : ℤ) → int_le (pos 0) x ≡ true → pos 0 ≤ℤ x
is_high x p = grind (arith, ints)

is_low : (x : ℤ) → int_le (pos 0) x ≡ false → x ≤ℤ pos 0
is_low x p = grind (arith, ints)

power_between : (i : Interval) (x : ℤ) (n : ℕ) → LiesIn x i → (b : Bool) → (int_le i.low (pos 0) && int_le (pos 0) i.high) ≡ b
    → LiesIn (nth_power x n) (spanned (nth_power i.low n ∷ nth_power i.high n ∷ (if b then pos 0 ∷ [] else [])))
power_between i x n h true e = go (int_le (pos 0) x) refl
  where
    go : (c : Bool) → int_le (pos 0) x ≡ c → LiesIn (nth_power x n) (spanned (nth_power i.low n ∷ nth_power i.high n ∷ pos 0 ∷ []))
    go true p =
        let q : pos 0 ≤ℤ x = is_high x p in
        let r : _ = high_powers x i.high n q h.1 in from_second (nth_power i.low n) (nth_power i.high n) (nth_power x n) (turned (nth_power i.high n) (pos 0) (nth_power x n) r.0 r.1)
    go false p =
        let q : x ≤ℤ pos 0 = is_low x p in
        from_first (nth_power i.low n) (nth_power i.high n) (nth_power x n) (low_between (nth_power x n) (nth_power i.low n) (low_powers x i.low n q h.0))
power_between i x n h false e = go (int_le (pos 0) i.low) refl
  where
    go : (c : Bool) → int_le (pos 0) i.low ≡ c → LiesIn (nth_power x n) (spanned (nth_power i.low n ∷ nth_power i.high n ∷ []))
    go true p =
        let q : pos 0 ≤ℤ i.low = is_high i.low p in
        two_ends (nth_power i.low n) (nth_power i.high n) (nth_power x n)
        (ordered (nth_power i.low n) (nth_power i.high n) (nth_power x n) (high_powers i.low x n q h.0).1 (high_powers x i.high n (up q h.0) h.1).1)
    go false p =
        let q : i.high ≤ℤ pos 0 = below_zero i.low i.high p e in
        two_ends (nth_power i.low n) (nth_power i.high n) (nth_power x n)
        (low_ends (nth_power i.high n) (nth_power x n) (nth_power i.low n) (low_powers i.high x n q h.1) (low_powers x i.low n (up h.1 q) h.0))

pub power_lies : (x n p : ℤ) (i : Interval) → LiesIn x i → power x n ≡ Some p → LiesIn p (power_interval i (Some n))
unfolding power power_interval nth_power_interval nth_power has_zero
power_lies x (negsuc n) p i h e = no_some e
power_lies x (pos zero) p i h e = subst (λ q. LiesIn q (from_to (pos 1) (pos 1))) (some_is e) (omega (arith, ints), omega (arith, ints))
power_lies x (pos (suc n)) p i h e =
    subst (λ q. LiesIn q (power_interval i (Some (pos (suc n))))) (some_is e) (power_between i x (suc n) h (int_le i.low (pos 0) && int_le (pos 0) i.high) refl)
