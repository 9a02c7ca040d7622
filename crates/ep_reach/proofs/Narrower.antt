-- Where the parts of a node reach less far, so does the node.
use Rattle.std.specs.Prelude.{◌≡◌, ◌&&◌, ℕ, zero, suc, Bool, true, false, List, [], ◌∷◌, ◌++◌, map, ℤ, pos, negsuc, ◌+ℤ◌, ◌-ℤ◌, ◌*ℤ◌, ◌≤ℤ◌, neg_ℤ, if◌then◌else◌, int_le, fold, get_or, slice_index_or, refl}
use Rattle.std.proofs.Common.{arith, subst}
use Rattle.std.proofs.lemmas.Int.{ints}
use Rattle.std.specs.Int.{int_max, int_min}
use Rattle.std.specs.List.{All, Contains}
use Rattle.std.proofs.lemmas.List.Elements.{All-cons, All-head, All-nil, All-tail, Contains-append_left, Contains-append_right}
use Rattle.std.proofs.lemmas.Option.{slice_get-get_or}
use Rattle.ep_base.specs.Intervals.{Interval, IsWithinReach, LiesIn, absolute_interval, farthest_end, from_to, greatest_interval, greatest_or_zero, has_zero, highs, hull, least_interval, least_or_zero, lows, nth_power_interval, only, product_interval, quotient_interval, remainder_interval, scaled, spanned, sum_interval, truth_interval}
use Rattle.ep_base.specs.Numbers.{absolute_of, greatest_of, least_of, nth_power, sum_of}
use Rattle.ep_numbers.proofs.Ends.{itself, max_in, max_start, min_in, min_start, up}
use Rattle.ep_ground.specs.Bounds.{node_reach}
use Rattle.ep_ground.specs.Nodes.{GroundNode, constant, undefined, cell, sum, product, quotient, remainder, power, absolute, least, greatest, pick, whole, safe_quotient, safe_remainder, safe_pick, compare, lex, member, negation, all_of, any_of, same_truth, all_different, counts, at_least, at_most, table, parts_of}
use Rattle.ep_ground.specs.declared.cells.Cell.{Cell}
use Rattle.ep_tree_laws.specs.Intervals.{LieInEach}
use Rattle.ep_tree_laws.proofs.Intervals.{absolute_lies, greatest_lies, least_lies, product_lies, sum_lies}
use Rattle.ep_reach.proofs.Lies.{farthest_high, high_end, hull_holds, low_end, most_high, nth_power_lies}
use Rattle.ep_reach.specs.Narrowing.{IsNarrower}

-- what lies in an interval lies in a wider one
pub lies_wider : (n : ℤ) (i j : Interval) → IsNarrower i j → LiesIn n i → LiesIn n j
lies_wider n i j h l = (up j.low i.low n h.low.0 l.0, up n i.high j.high l.1 h.high.1)

pub narrower_still : (i j k : Interval) → IsNarrower i j → IsNarrower j k → IsNarrower i k
narrower_still i j k h g = record { low = lies_wider i.low j k g h.low; high = lies_wider i.high j k g h.high }

-- an interval within another one is near where that is
pub narrower_near : (i j : Interval) → IsNarrower i j → IsWithinReach j → IsWithinReach i
narrower_near i j h w = record {
  low = (up (neg_ℤ (pos 1099511627776)) j.low i.low w.low.0 h.low.0, up i.low j.high (pos 1099511627776) h.low.1 w.high.1);
  high = (up (neg_ℤ (pos 1099511627776)) j.low i.high w.low.0 h.high.0, up i.high j.high (pos 1099511627776) h.high.1 w.high.1);
}

-- ---- lists of intervals

-- each interval of a list lies in that of the other at the same place
abbrev pub AreNarrower : List Interval → List Interval → Type 0
AreNarrower [] [] = Unit {0}
AreNarrower [] (j ∷ js) = ⊥
AreNarrower (i ∷ is) [] = ⊥
AreNarrower (i ∷ is) (j ∷ js) = IsNarrower i j × AreNarrower is js

lows_lie : (is js : List Interval) → AreNarrower is js → LieInEach (lows is) js
lows_lie [] [] h = tt
lows_lie [] (j ∷ js) h = h
lows_lie (i ∷ is) [] h = h
lows_lie (i ∷ is) (j ∷ js) h = (h.0.low, lows_lie is js h.1)

highs_lie : (is js : List Interval) → AreNarrower is js → LieInEach (highs is) js
highs_lie [] [] h = tt
highs_lie [] (j ∷ js) h = h
highs_lie (i ∷ is) [] h = h
highs_lie (i ∷ is) (j ∷ js) h = (h.0.high, highs_lie is js h.1)

-- each of some terms reaches less far by the one function
abbrev pub ReachLess : (ℕ → Interval) → (ℕ → Interval) → List ℕ → Type 0
ReachLess r q ts = (p : ℕ) → Contains ts p → IsNarrower (r p) (q p)

first_less : (r q : ℕ → Interval) (t : ℕ) (ts : List ℕ) → ReachLess r q (t ∷ ts) → IsNarrower (r t) (q t)
first_less r q t ts h = h t (0, omega arith, refl)

rest_less : (r q : ℕ → Interval) (t : ℕ) (ts : List ℕ) → ReachLess r q (t ∷ ts) → ReachLess r q ts
rest_less r q t ts h = λ p found. h p (Contains-append_right (t ∷ []) ts p found)

left_less : (r q : ℕ → Interval) (ts us : List ℕ) → ReachLess r q (ts ++ us) → ReachLess r q ts
left_less r q ts us h = λ p found. h p (Contains-append_left ts us p found)

maps_narrower : (r q : ℕ → Interval) (ts : List ℕ) → ReachLess r q ts → AreNarrower (map r ts) (map q ts)
maps_narrower r q [] h = tt
maps_narrower r q (t ∷ ts) h = (first_less r q t ts h, maps_narrower r q ts (rest_less r q t ts h))

-- ---- operations

spanned_narrower : (x : ℤ) (xs : List ℤ) (k : Interval) → LiesIn x k → All (λ y. LiesIn y k) xs → IsNarrower (spanned (x ∷ xs)) k
unfolding spanned least_or_zero greatest_or_zero least_of greatest_of
spanned_narrower x xs k h all = record { low = min_in k.low k.high x xs h all; high = max_in k.low k.high x xs h all }

only_narrower : (n : ℤ) → IsNarrower (only n) (only n)
only_narrower n = record { low = (itself n, itself n); high = (itself n, itself n) }

truth_narrower : IsNarrower truth_interval truth_interval
truth_narrower = record { low = (omega (arith, ints), omega (arith, ints)); high = (omega (arith, ints), omega (arith, ints)) }

set_narrower : (xs : List ℤ) → IsNarrower (spanned xs) (spanned xs)
unfolding spanned least_or_zero greatest_or_zero least_of greatest_of
set_narrower [] = only_narrower (pos 0)
set_narrower (x ∷ xs) =
    let ends = up (fold int_min x xs) x (fold int_max x xs) (min_start x xs) (max_start x xs) in
    record { low = (itself (fold int_min x xs), ends); high = (ends, itself (fold int_max x xs)) }

product_narrower : (i j k l : Interval) → IsNarrower i k → IsNarrower j l → IsNarrower (product_interval i j) (product_interval k l)
unfolding product_interval
product_narrower i j k l h g =
    let lies = λ (m n : ℤ). product_lies m n k l in
    let in_both : ℤ → Type 0 = λ y. LiesIn y (product_interval k l) in
    spanned_narrower (i.low *ℤ j.low) ((i.low *ℤ j.high) ∷ (i.high *ℤ j.low) ∷ (i.high *ℤ j.high) ∷ []) (product_interval k l)
    (lies i.low j.low h.low g.low)
    (All-cons in_both (i.low *ℤ j.high) ((i.high *ℤ j.low) ∷ (i.high *ℤ j.high) ∷ []) (lies i.low j.high h.low g.high)
    (All-cons in_both (i.high *ℤ j.low) ((i.high *ℤ j.high) ∷ []) (lies i.high j.low h.high g.low)
    (All-cons in_both (i.high *ℤ j.high) [] (lies i.high j.high h.high g.high) (All-nil in_both))))

scaled_narrower : (a : ℤ) (i j : Interval) → IsNarrower i j → IsNarrower (scaled a i) (scaled a j)
unfolding scaled
scaled_narrower a i j h = product_narrower (only a) i (only a) j (only_narrower a) h

weighed_narrower : (r q : ℕ → Interval) (parts : List (ℤ × ℕ)) → ReachLess r q (map (λ p. p.1) parts) → AreNarrower (map (λ p. scaled p.0 (r p.1)) parts) (map (λ p. scaled p.0 (q p.1)) parts)
weighed_narrower r q [] h = tt
weighed_narrower r q (p ∷ parts) h =
    let rest = map (λ (s : ℤ × ℕ). s.1) parts in
    (scaled_narrower p.0 (r p.1) (q p.1) (first_less r q p.1 rest h), weighed_narrower r q parts (rest_less r q p.1 rest h))

sum_narrower : (is js : List Interval) → AreNarrower is js → IsNarrower (sum_interval is) (sum_interval js)
unfolding sum_interval
sum_narrower is js h = record { low = sum_lies (lows is) js (lows_lie is js h); high = sum_lies (highs is) js (highs_lie is js h) }

both_most : (a b c : ℤ) → a ≤ℤ c → b ≤ℤ c → int_max a b ≤ℤ c
both_most a b c h g = grind (arith, ints, h, g)

farthest_less : (i j : Interval) → IsNarrower i j → farthest_end i ≤ℤ farthest_end j
unfolding absolute_interval farthest_end
farthest_less i j h = both_most (absolute_of i.low) (absolute_of i.high) (farthest_end j) (absolute_lies i.low j h.low).1 (absolute_lies i.high j h.high).1

negated_order : (a b : ℤ) → a ≤ℤ b → neg_ℤ b ≤ℤ neg_ℤ a
negated_order a b h = omega (arith, ints, h)

negated_below : (a b : ℤ) → pos 0 ≤ℤ a → pos 0 ≤ℤ b → neg_ℤ a ≤ℤ b
negated_below a b h g = omega (arith, ints, h, g)

quotient_narrower : (i j : Interval) → IsNarrower i j → IsNarrower (quotient_interval i) (quotient_interval j)
unfolding quotient_interval
quotient_narrower i j h =
    let less = farthest_less i j h in
    record {
      low = (negated_order (farthest_end i) (farthest_end j) less, negated_below (farthest_end i) (farthest_end j) (farthest_high i) (farthest_high j));
      high = (negated_below (farthest_end j) (farthest_end i) (farthest_high j) (farthest_high i), less);
    }

low_less : (a b : Bool) (m n : ℤ) → (b ≡ true → a ≡ true) → pos 0 ≤ℤ n → m ≤ℤ n → (if b then pos 0 else neg_ℤ n) ≤ℤ (if a then pos 0 else neg_ℤ m)
low_less true b m n both h g = low_end b n h
low_less false true m n both h g = absurd (let e = both refl in cc)
low_less false false m n both h g = negated_order m n g

high_less : (a b : Bool) (m n : ℤ) → (b ≡ true → a ≡ true) → pos 0 ≤ℤ n → m ≤ℤ n → (if a then pos 0 else m) ≤ℤ (if b then pos 0 else n)
high_less true b m n both h g = high_end b n h
high_less false true m n both h g = absurd (let e = both refl in cc)
high_less false false m n both h g = g

low_high : (a b : Bool) (m n : ℤ) → pos 0 ≤ℤ m → pos 0 ≤ℤ n → (if a then pos 0 else neg_ℤ m) ≤ℤ (if b then pos 0 else n)
low_high a b m n h g = up (if a then pos 0 else neg_ℤ m) (pos 0) (if b then pos 0 else n) (low_end a m h) (high_end b n g)

above_too : (x y : ℤ) → x ≤ℤ y → int_le (pos 0) x ≡ true → int_le (pos 0) y ≡ true
above_too x y h e = grind (arith, ints, h, e)

below_too : (x y : ℤ) → x ≤ℤ y → int_le y (pos 0) ≡ true → int_le x (pos 0) ≡ true
below_too x y h e = grind (arith, ints, h, e)

most_less : (f g : ℤ) → f ≤ℤ g → (int_max (pos 1) f -ℤ pos 1) ≤ℤ (int_max (pos 1) g -ℤ pos 1)
most_less f g h = grind (arith, ints, h)

remainder_narrower : (i j : Interval) → IsNarrower i j → IsNarrower (remainder_interval i) (remainder_interval j)
unfolding remainder_interval
remainder_narrower i j h =
    let m = int_max (pos 1) (farthest_end i) -ℤ pos 1 in
    let n = int_max (pos 1) (farthest_end j) -ℤ pos 1 in
    let m_high = most_high (farthest_end i) in
    let n_high = most_high (farthest_end j) in
    let less = most_less (farthest_end i) (farthest_end j) (farthest_less i j h) in
    record {
      low = (
        low_less (int_le (pos 0) i.low) (int_le (pos 0) j.low) m n (above_too j.low i.low h.low.0) n_high less,
        low_high (int_le (pos 0) i.low) (int_le j.high (pos 0)) m n m_high n_high,
      );
      high = (
        low_high (int_le (pos 0) j.low) (int_le i.high (pos 0)) n m n_high m_high,
        high_less (int_le i.high (pos 0)) (int_le j.high (pos 0)) m n (below_too i.high j.high h.high.1) n_high less,
      );
    }

zero_between : (i : Interval) → has_zero i ≡ true → LiesIn (pos 0) i
unfolding has_zero
zero_between i e = (grind (arith, ints, e), grind (arith, ints, e))

times_zero : (x : ℤ) → (x *ℤ pos 0) ≡ pos 0
times_zero x = omega (arith, ints)

zero_power : (j : Interval) (n : ℕ) → LiesIn (pos 0) j → LiesIn (pos 0) (nth_power_interval j (suc n))
unfolding nth_power
zero_power j n h = by (nth_power (pos 0) (suc n)) (times_zero (nth_power (pos 0) n)) (nth_power_lies (pos 0) (suc n) j h)
  where
    by : (x : ℤ) → x ≡ pos 0 → LiesIn x (nth_power_interval j (suc n)) → LiesIn (pos 0) (nth_power_interval j (suc n))
    by x e l = subst (λ y. LiesIn y (nth_power_interval j (suc n))) e l

power_narrower : (i j : Interval) (n : ℕ) → IsNarrower i j → IsNarrower (nth_power_interval i n) (nth_power_interval j n)
unfolding nth_power_interval
power_narrower i j zero h = only_narrower (pos 1)
power_narrower i j (suc n) h =
    let k = nth_power_interval j (suc n) in
    let in_k : ℤ → Type 0 = λ y. LiesIn y k in
    let zeros : List ℤ = if has_zero i then pos 0 ∷ [] else [] in
    spanned_narrower (nth_power i.low (suc n)) (nth_power i.high (suc n) ∷ zeros) k (nth_power_lies i.low (suc n) j h.low)
    (All-cons in_k (nth_power i.high (suc n)) zeros (nth_power_lies i.high (suc n) j h.high) (by (has_zero i) refl))
  where
    by : (b : Bool) → has_zero i ≡ b → All (λ y. LiesIn y (nth_power_interval j (suc n))) (if b then pos 0 ∷ [] else [])
    by true e = All-cons (λ y. LiesIn y (nth_power_interval j (suc n))) (pos 0) [] (zero_power j n (lies_wider (pos 0) i j h (zero_between i e))) (All-nil (λ y. LiesIn y (nth_power_interval j (suc n))))
    by false e = All-nil (λ y. LiesIn y (nth_power_interval j (suc n)))

greater_lies : (a b : ℤ) (k : Interval) → LiesIn a k → LiesIn b k → LiesIn (int_max a b) k
greater_lies a b k h g = max_in k.low k.high a (b ∷ []) h (All-cons (λ y. LiesIn y k) b [] g (All-nil (λ y. LiesIn y k)))

lesser_lies : (a b : ℤ) (k : Interval) → LiesIn a k → LiesIn b k → LiesIn (int_min a b) k
lesser_lies a b k h g = min_in k.low k.high a (b ∷ []) h (All-cons (λ y. LiesIn y k) b [] g (All-nil (λ y. LiesIn y k)))

absolute_zero : (j : Interval) → LiesIn (pos 0) j → LiesIn (pos 0) (absolute_interval j)
unfolding absolute_of
absolute_zero j h = absolute_lies (pos 0) j h

absolute_narrower : (i j : Interval) → IsNarrower i j → IsNarrower (absolute_interval i) (absolute_interval j)
unfolding absolute_interval farthest_end
absolute_narrower i j h =
    let low = absolute_lies i.low j h.low in
    let high = absolute_lies i.high j h.high in
    record {
      low = by (has_zero i) refl;
      high = greater_lies (absolute_of i.low) (absolute_of i.high) (absolute_interval j) low high;
    }
  where
    by : (b : Bool) → has_zero i ≡ b → LiesIn (if b then pos 0 else int_min (absolute_of i.low) (absolute_of i.high)) (absolute_interval j)
    by true e = absolute_zero j (lies_wider (pos 0) i j h (zero_between i e))
    by false e = lesser_lies (absolute_of i.low) (absolute_of i.high) (absolute_interval j) (absolute_lies i.low j h.low) (absolute_lies i.high j h.high)

least_narrower : (is js : List Interval) → AreNarrower is js → IsNarrower (least_interval is) (least_interval js)
unfolding least_interval least_or_zero least_of
least_narrower [] [] h = only_narrower (pos 0)
least_narrower [] (j ∷ js) h = absurd h
least_narrower (i ∷ is) js h = record {
  low = least_lies (lows (i ∷ is)) js (lows_lie (i ∷ is) js h) (fold int_min i.low (lows is)) refl;
  high = least_lies (highs (i ∷ is)) js (highs_lie (i ∷ is) js h) (fold int_min i.high (highs is)) refl;
}

greatest_narrower : (is js : List Interval) → AreNarrower is js → IsNarrower (greatest_interval is) (greatest_interval js)
unfolding greatest_interval greatest_or_zero greatest_of
greatest_narrower [] [] h = only_narrower (pos 0)
greatest_narrower [] (j ∷ js) h = absurd h
greatest_narrower (i ∷ is) js h = record {
  low = greatest_lies (lows (i ∷ is)) js (lows_lie (i ∷ is) js h) (fold int_max i.low (lows is)) refl;
  high = greatest_lies (highs (i ∷ is)) js (highs_lie (i ∷ is) js h) (fold int_max i.high (highs is)) refl;
}

all_held : (ns : List ℤ) (js : List Interval) → LieInEach ns js → All (λ y. LiesIn y (hull js)) ns
all_held ns js h = λ k d below. hull_holds ns js h k (get_or ns k d) (slice_get-get_or ns k d below)

hull_narrower : (is js : List Interval) → AreNarrower is js → IsNarrower (hull is) (hull js)
unfolding hull least_or_zero greatest_or_zero least_of greatest_of
hull_narrower [] [] h = only_narrower (pos 0)
hull_narrower [] (j ∷ js) h = absurd h
hull_narrower (i ∷ is) js h =
    let k = hull js in
    let low = all_held (lows (i ∷ is)) js (lows_lie (i ∷ is) js h) in
    let high = all_held (highs (i ∷ is)) js (highs_lie (i ∷ is) js h) in
    record {
      low = min_in k.low k.high i.low (lows is) (All-head (λ y. LiesIn y k) i.low (lows is) low) (All-tail (λ y. LiesIn y k) i.low (lows is) low);
      high = max_in k.low k.high i.high (highs is) (All-head (λ y. LiesIn y k) i.high (highs is) high) (All-tail (λ y. LiesIn y k) i.high (highs is) high);
    }

-- ---- nodes

pub node_narrower : (cells : List Cell) (r q : ℕ → Interval) (node : GroundNode) → ReachLess r q (parts_of node) → IsNarrower (node_reach cells r node) (node_reach cells q node)
unfolding node_reach parts_of
node_narrower cells r q (constant n) h = only_narrower n
node_narrower cells r q undefined h = only_narrower (pos 0)
node_narrower cells r q (cell k) h = set_narrower (slice_index_or (map (λ one. one.values) cells) k [])
node_narrower cells r q (sum c parts) h =
    sum_narrower (only c ∷ map (λ p. scaled p.0 (r p.1)) parts) (only c ∷ map (λ p. scaled p.0 (q p.1)) parts) (only_narrower c, weighed_narrower r q parts h)
node_narrower cells r q (product a b) h = product_narrower (r a) (r b) (q a) (q b) (first_less r q a (b ∷ []) h) (first_less r q b [] (rest_less r q a (b ∷ []) h))
node_narrower cells r q (quotient a b) h = quotient_narrower (r a) (q a) (first_less r q a (b ∷ []) h)
node_narrower cells r q (remainder a b) h = remainder_narrower (r b) (q b) (first_less r q b [] (rest_less r q a (b ∷ []) h))
node_narrower cells r q (power a n) h = power_narrower (r a) (q a) n (first_less r q a [] h)
node_narrower cells r q (absolute a) h = absolute_narrower (r a) (q a) (first_less r q a [] h)
node_narrower cells r q (least ts) h = least_narrower (map r ts) (map q ts) (maps_narrower r q ts h)
node_narrower cells r q (greatest ts) h = greatest_narrower (map r ts) (map q ts) (maps_narrower r q ts h)
node_narrower cells r q (pick ts keys indices) h = hull_narrower (map r ts) (map q ts) (maps_narrower r q ts (left_less r q ts indices h))
node_narrower cells r q (whole a ts) h = first_less r q a ts h
node_narrower cells r q (safe_quotient a b) h = quotient_narrower (r a) (q a) (first_less r q a (b ∷ []) h)
node_narrower cells r q (safe_remainder a b) h = remainder_narrower (r b) (q b) (first_less r q b [] (rest_less r q a (b ∷ []) h))
node_narrower cells r q (safe_pick ts keys indices) h = hull_narrower (map r ts) (map q ts) (maps_narrower r q ts (left_less r q ts indices h))
node_narrower cells r q (compare op a b) h = truth_narrower
node_narrower cells r q (lex op ts us) h = truth_narrower
node_narrower cells r q (member a ns) h = truth_narrower
node_narrower cells r q (negation a) h = truth_narrower
node_narrower cells r q (all_of ts) h = truth_narrower
node_narrower cells r q (any_of ts) h = truth_narrower
node_narrower cells r q (same_truth a b) h = truth_narrower
node_narrower cells r q (all_different ts) h = truth_narrower
node_narrower cells r q (counts ts ns us) h = truth_narrower
node_narrower cells r q (at_least ts cs ns) h = truth_narrower
node_narrower cells r q (at_most ts cs ns) h = truth_narrower
node_narrower cells r q (table ts rows) h = truth_narrower
