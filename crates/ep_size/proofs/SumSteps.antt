-- A sum with one number more.
use Rattle.ep_size.proofs.Words.{◌≡◌, ℕ, ◌+◌, ◌*◌, ◌<◌, ◌^◌, Bool, true, false, List, [], ◌∷◌, ◌++◌, length, refl, sym, ap, ◌∙◌, arith, SFits, w64, min, of_z, to_z, ◌-◌, ℤ, pos, negsuc, ◌+ℤ◌, ◌-ℤ◌, ◌≤ℤ◌, neg_ℤ, sum_by, int_lt, nat_abs, saturate_signed, w128, ints, to_z-of_z, append-nil, length_push, filter-append, sum_by_push, from_to, highs, lows, sum_cost, sum_interval, width, sum_of, or_zero, decided_parts, sum_weight, reaches, sum_span, wide_span, Sums, capped, Summed}
use Rattle.ep_tree.specs.Reach as defined
use Rattle.ep_size.proofs.Caps.{product_kept}

low_more : (spans : List defined.Span) (s : defined.Span) → sum_of (lows (reaches (spans ++ s ∷ []))) ≡ sum_of (lows (reaches spans)) +ℤ s.reach.low
unfolding sum_of
low_more [] s = omega (arith, ints)
low_more (t ∷ spans) s = ap (λ n. t.reach.low +ℤ n) (low_more spans s) ∙ omega (arith, ints)

high_more : (spans : List defined.Span) (s : defined.Span) → sum_of (highs (reaches (spans ++ s ∷ []))) ≡ sum_of (highs (reaches spans)) +ℤ s.reach.high
unfolding sum_of
high_more [] s = omega (arith, ints)
high_more (t ∷ spans) s = ap (λ n. t.reach.high +ℤ n) (high_more spans s) ∙ omega (arith, ints)

decided_more : (spans : List defined.Span) (s : defined.Span) → s.decided ≡ true → decided_parts (spans ++ s ∷ []) ≡ decided_parts spans ++ s ∷ []
decided_more spans s h = filter-append (λ x. x.decided) spans (s ∷ []) ∙ rw h refl

undecided_more : (spans : List defined.Span) (s : defined.Span) → s.decided ≡ false → decided_parts (spans ++ s ∷ []) ≡ decided_parts spans
undecided_more spans s h = filter-append (λ x. x.decided) spans (s ∷ []) ∙ rw h (append-nil _)

-- a number that fits in 128 bits is what it is saturated to
pub saturate_fits : (z : ℤ) → SFits w128 z → saturate_signed w128 z ≡ z
saturate_fits (pos n) h = grind arith
saturate_fits (negsuc n) h = grind arith

-- a number that a word holds, or the opposite of one
abbrev pub IsNear : ℤ → Type 0
IsNear x = (neg_ℤ (pos 9223372036854775808) ≤ℤ x) × (x ≤ℤ pos 9223372036854775808)

-- what a sum keeps of its ends, with one number more
record Ends (t u : Summed) (spans : List defined.Span) (s : defined.Span) : Type 0 where
  few : length (spans ++ s ∷ []) < 2 ^ 64
  low : u.low ≡ sum_of (lows (reaches (spans ++ s ∷ [])))
  high : u.high ≡ sum_of (highs (reaches (spans ++ s ∷ [])))
  low_least : neg_ℤ (pos (9223372036854775808 * length (spans ++ s ∷ []))) ≤ℤ u.low
  low_most : u.low ≤ℤ pos (9223372036854775808 * length (spans ++ s ∷ []))
  high_least : neg_ℤ (pos (9223372036854775808 * length (spans ++ s ∷ []))) ≤ℤ u.high
  high_most : u.high ≤ℤ pos (9223372036854775808 * length (spans ++ s ∷ []))

ends_more : (t u : Summed) (spans : List defined.Span) (s : defined.Span) → length spans + 1 < 2 ^ 64 → Sums t spans → IsNear s.reach.low → IsNear s.reach.high
    → u.low ≡ t.low +ℤ s.reach.low → u.high ≡ t.high +ℤ s.reach.high → Ends t u spans s
ends_more t u spans s few h f g low high =
    let more : length (spans ++ s ∷ []) ≡ length spans + 1 = length_push spans s in
    record {
      few = omega (arith, more, few);
      low = low ∙ ap (λ n. n +ℤ s.reach.low) h.low ∙ sym (low_more spans s);
      high = high ∙ ap (λ n. n +ℤ s.reach.high) h.high ∙ sym (high_more spans s);
      low_least = omega (arith, ints, more, h.low_least, low, f.0, f.1);
      low_most = omega (arith, ints, more, h.low_most, low, f.0, f.1);
      high_least = omega (arith, ints, more, h.high_least, high, g.0, g.1);
      high_most = omega (arith, ints, more, h.high_most, high, g.0, g.1);
    }

-- a sum fits where there are not too many numbers
pub low_fits : (t : Summed) (spans : List defined.Span) (x : ℤ) → length spans + 1 < 2 ^ 64 → Sums t spans → IsNear x → SFits w128 (t.low +ℤ x)
low_fits t spans x few h f = omega (arith, ints, few, h.low_least, h.low_most, f.0, f.1)

pub high_fits : (t : Summed) (spans : List defined.Span) (x : ℤ) → length spans + 1 < 2 ^ 64 → Sums t spans → IsNear x → SFits w128 (t.high +ℤ x)
high_fits t spans x few h f = omega (arith, ints, few, h.high_least, h.high_most, f.0, f.1)

-- a number that holds a decision variable
pub sums_decided : (t u : Summed) (spans : List defined.Span) (s : defined.Span) → length spans + 1 < 2 ^ 64 → Sums t spans → IsNear s.reach.low → IsNear s.reach.high
    → u.low ≡ t.low +ℤ s.reach.low → u.high ≡ t.high +ℤ s.reach.high → u.spreads ≡ capped (capped t.spreads + capped s.spread)
    → u.parts ≡ capped (capped t.parts + 1) → s.decided ≡ true → Sums u (spans ++ s ∷ [])
sums_decided t u spans s few h f g low high spreads parts holds =
    let e : Ends t u spans s = ends_more t u spans s few h f g low high in
    let d : decided_parts (spans ++ s ∷ []) ≡ decided_parts spans ++ s ∷ [] = decided_more spans s holds in
    let a : sum_by (λ x. x.spread) (decided_parts (spans ++ s ∷ [])) ≡ sum_by (λ x. x.spread) (decided_parts spans) + s.spread =
    ap (sum_by (λ x. x.spread)) d ∙ sum_by_push (λ x. x.spread) (decided_parts spans) s in
    let b : length (decided_parts (spans ++ s ∷ [])) ≡ length (decided_parts spans) + 1 =
    ap length d ∙ length_push (decided_parts spans) s in
    record {
      few = e.few;
      low = e.low;
      high = e.high;
      low_least = e.low_least;
      low_most = e.low_most;
      high_least = e.high_least;
      high_most = e.high_most;
      spreads = omega (arith, a, spreads, h.spreads);
      parts = omega (arith, b, parts, h.parts);
    }

-- a number without a decision variable
pub sums_fixed : (t u : Summed) (spans : List defined.Span) (s : defined.Span) → length spans + 1 < 2 ^ 64 → Sums t spans → IsNear s.reach.low → IsNear s.reach.high
    → u.low ≡ t.low +ℤ s.reach.low → u.high ≡ t.high +ℤ s.reach.high → u.spreads ≡ t.spreads
    → u.parts ≡ t.parts → s.decided ≡ false → Sums u (spans ++ s ∷ [])
sums_fixed t u spans s few h f g low high spreads parts holds =
    let e : Ends t u spans s = ends_more t u spans s few h f g low high in
    let d : decided_parts (spans ++ s ∷ []) ≡ decided_parts spans = undecided_more spans s holds in
    record {
      few = e.few;
      low = e.low;
      high = e.high;
      low_least = e.low_least;
      low_most = e.low_most;
      high_least = e.high_least;
      high_most = e.high_most;
      spreads = spreads ∙ h.spreads ∙ ap (λ ds. capped (sum_by (λ x. x.spread) ds)) (sym d);
      parts = parts ∙ h.parts ∙ ap (λ ds. capped (length ds)) (sym d);
    }

-- no number
pub sums_none : (t : Summed) → t.low ≡ pos 0 → t.high ≡ pos 0 → t.spreads ≡ 0 → t.parts ≡ 0 → Sums t []
unfolding sum_of
sums_none t low high spreads parts = record {
  few = omega arith;
  low = low;
  high = high;
  low_least = omega (arith, ints, low);
  low_most = omega (arith, ints, low);
  high_least = omega (arith, ints, high);
  high_most = omega (arith, ints, high);
  spreads = spreads;
  parts = parts;
}

-- what a sum costs, by numbers that are told so far
pub cost_kept : (w s p : ℕ) → capped (sum_cost (capped w) (capped s) (capped p)) ≡ capped (sum_cost w s p)
unfolding sum_cost
cost_kept w s p =
    let rows : capped (capped w * capped s) ≡ capped (w * s) = product_kept w s in
    both (capped w * capped s) (w * s) (8 * (capped w + capped s) + 1024 * capped p) (8 * (w + s) + 1024 * p) rows (omega arith)
  where
    both : (a b c d : ℕ) → capped a ≡ capped b → capped c ≡ capped d → capped (min a c) ≡ capped (min b d)
    both a b c d h k = omega arith

-- a number of a word in wide words
widened : (x a : ℤ) → SFits w64 x → a ≡ to_z w64 (of_z w64 x) → to_z w128 (of_z w128 a) ≡ x
widened x a g p = ap (λ n. to_z w128 (of_z w128 n)) (p ∙ to_z-of_z w64 x g) ∙ to_z-of_z w128 x (omega (arith, ints, g))

-- a number that is added to one with wide words
pub added : (t x a r : ℤ) → SFits w128 t → SFits w64 x → SFits w128 (t +ℤ x) → a ≡ to_z w64 (of_z w64 x)
    → r ≡ saturate_signed w128 (to_z w128 (of_z w128 t) +ℤ to_z w128 (of_z w128 a)) → to_z w128 (of_z w128 r) ≡ t +ℤ x
added t x a r f g fit p q =
    let whole : r ≡ t +ℤ x =
    q ∙ ap (λ n. saturate_signed w128 (n +ℤ to_z w128 (of_z w128 a))) (to_z-of_z w128 t f)
    ∙ ap (λ n. saturate_signed w128 (t +ℤ n)) (widened x a g p) ∙ saturate_fits (t +ℤ x) fit in
    ap (λ n. to_z w128 (of_z w128 n)) whole ∙ to_z-of_z w128 (t +ℤ x) fit

less_is : (t x : ℤ) → (t -ℤ x) ≡ (t +ℤ neg_ℤ x)
less_is t x = omega (arith, ints)

-- a number that is taken from one with wide words
pub taken : (t x a r : ℤ) → SFits w128 t → SFits w64 x → SFits w128 (t +ℤ neg_ℤ x) → a ≡ to_z w64 (of_z w64 x)
    → r ≡ saturate_signed w128 (to_z w128 (of_z w128 t) -ℤ to_z w128 (of_z w128 a)) → to_z w128 (of_z w128 r) ≡ t +ℤ neg_ℤ x
taken t x a r f g fit p q =
    let whole : r ≡ t +ℤ neg_ℤ x =
    q ∙ ap (λ n. saturate_signed w128 (n -ℤ to_z w128 (of_z w128 a))) (to_z-of_z w128 t f)
    ∙ ap (λ n. saturate_signed w128 (t -ℤ n)) (widened x a g p) ∙ ap (saturate_signed w128) (less_is t x) ∙ saturate_fits (t +ℤ neg_ℤ x) fit in
    ap (λ n. to_z w128 (of_z w128 n)) whole ∙ to_z-of_z w128 (t +ℤ neg_ℤ x) fit

-- what a word holds is near, and so is its opposite
pub near_own : (x : ℤ) → SFits w64 x → IsNear x
near_own x f = (omega (arith, ints, f), omega (arith, ints, f))

pub near_opposite : (x : ℤ) → SFits w64 x → IsNear (neg_ℤ x)
near_opposite x f = (omega (arith, ints, f), omega (arith, ints, f))

-- the ends of a sum fit
pub low_own : (t : Summed) (spans : List defined.Span) → Sums t spans → SFits w128 t.low
low_own t spans h = omega (arith, ints, h.few, h.low_least, h.low_most)

pub high_own : (t : Summed) (spans : List defined.Span) → Sums t spans → SFits w128 t.high
high_own t spans h = omega (arith, ints, h.few, h.high_least, h.high_most)

-- ---- the width of a sum

below_lower : (a b : ℤ) → int_lt b a ≡ true → ((b +ℤ pos 1) -ℤ a) ≤ℤ pos 0
below_lower a b h = grind (arith, ints)

above_lower : (a b : ℤ) → int_lt b a ≡ false → pos 0 ≤ℤ (b -ℤ a)
above_lower a b h = grind (arith, ints)

none_at_most : (z : ℤ) → z ≤ℤ pos 0 → 0 ≡ capped (or_zero z)
none_at_most (pos n) h = omega (arith, ints, h)
none_at_most (negsuc n) h = refl

test_own : (a b : ℤ) (t : Bool) → SFits w128 a → SFits w128 b → int_lt (to_z w128 (of_z w128 a)) (to_z w128 (of_z w128 b)) ≡ t → int_lt a b ≡ t
test_own a b t f g h =
    ap (λ x. int_lt x b) (sym (to_z-of_z w128 a f)) ∙ ap (int_lt (to_z w128 (of_z w128 a))) (sym (to_z-of_z w128 b g)) ∙ h

pub width_none : (low high : ℤ) → SFits w128 low → SFits w128 high → int_lt (to_z w128 (of_z w128 high)) (to_z w128 (of_z w128 low)) ≡ true
    → 0 ≡ capped (or_zero ((high +ℤ pos 1) -ℤ low))
width_none low high f g h = none_at_most _ (below_lower low high (test_own high low true g f h))

many_from : (z y : ℤ) → y ≡ z +ℤ pos 1 → int_lt (pos 20000000) (saturate_signed w128 z) ≡ true → 20000001 ≡ capped (or_zero y)
many_from (pos n) y e h = (let k : 20000001 ≡ capped (n + 1) = grind arith in k) ∙ ap (λ x. capped (or_zero x)) (sym e)
many_from (negsuc n) y e h = absurd cc

few_from : (z y : ℤ) → y ≡ z +ℤ pos 1 → pos 0 ≤ℤ z → int_lt (pos 20000000) (saturate_signed w128 z) ≡ false
    → nat_abs (saturate_signed w128 z) + 1 ≡ capped (or_zero y)
few_from (pos n) y e p h = (let k : min n (2 ^ 127 - 1) + 1 ≡ capped (n + 1) = grind arith in k) ∙ ap (λ x. capped (or_zero x)) (sym e)
few_from (negsuc n) y e p h = absurd (omega (arith, ints, p))

difference_own : (low high r : ℤ) → SFits w128 low → SFits w128 high
    → r ≡ saturate_signed w128 (to_z w128 (of_z w128 high) -ℤ to_z w128 (of_z w128 low)) → r ≡ saturate_signed w128 (high -ℤ low)
difference_own low high r f g q =
    q ∙ ap (λ n. saturate_signed w128 (n -ℤ to_z w128 (of_z w128 low))) (to_z-of_z w128 high g)
    ∙ ap (λ n. saturate_signed w128 (high -ℤ n)) (to_z-of_z w128 low f)

one_more : (low high : ℤ) → ((high +ℤ pos 1) -ℤ low) ≡ ((high -ℤ low) +ℤ pos 1)
one_more low high = omega (arith, ints)

pub width_many : (low high r : ℤ) → SFits w128 low → SFits w128 high → SFits w128 r
    → r ≡ saturate_signed w128 (to_z w128 (of_z w128 high) -ℤ to_z w128 (of_z w128 low))
    → int_lt (pos 20000000) (to_z w128 (of_z w128 r)) ≡ true → 20000001 ≡ capped (or_zero ((high +ℤ pos 1) -ℤ low))
width_many low high r f g k q h =
    many_from (high -ℤ low) _ (one_more low high)
    (ap (int_lt (pos 20000000)) (sym (difference_own low high r f g q) ∙ sym (to_z-of_z w128 r k)) ∙ h)

pub width_few : (low high r : ℤ) → SFits w128 low → SFits w128 high → SFits w128 r
    → r ≡ saturate_signed w128 (to_z w128 (of_z w128 high) -ℤ to_z w128 (of_z w128 low))
    → int_lt (to_z w128 (of_z w128 high)) (to_z w128 (of_z w128 low)) ≡ false → int_lt (pos 20000000) (to_z w128 (of_z w128 r)) ≡ false
    → nat_abs (to_z w128 (of_z w128 r)) + 1 ≡ capped (or_zero ((high +ℤ pos 1) -ℤ low))
width_few low high r f g k q order h =
    let own : to_z w128 (of_z w128 r) ≡ saturate_signed w128 (high -ℤ low) = to_z-of_z w128 r k ∙ difference_own low high r f g q in
    ap (λ n. nat_abs n + 1) own
    ∙ few_from (high -ℤ low) _ (one_more low high) (above_lower low high (test_own high low false g f order)) (ap (int_lt (pos 20000000)) (sym own) ∙ h)

-- ---- a whole sum

pub sum_reach : (t : Summed) (spans : List defined.Span) → Sums t spans → from_to t.low t.high ≡ sum_interval (reaches spans)
unfolding sum_interval
sum_reach t spans h = ap (λ n. from_to n t.high) h.low ∙ ap (from_to (sum_of (lows (reaches spans)))) h.high

pub sum_is : (t : Summed) (spans : List defined.Span) → Sums t spans → wide_span (from_to t.low t.high) ≡ sum_span spans
unfolding sum_span
sum_is t spans h = ap wide_span (sum_reach t spans h)

pub weight_is : (t : Summed) (spans : List defined.Span) (w s p : ℕ) → Sums t spans → w ≡ capped (width (from_to t.low t.high)) → s ≡ capped t.spreads
    → p ≡ capped t.parts → capped (sum_cost w s p) ≡ capped (sum_weight spans)
unfolding sum_weight
weight_is t spans w s p h wide spreads parts =
    let W : ℕ = width (sum_interval (reaches spans)) in
    let S : ℕ = sum_by (λ x. x.spread) (decided_parts spans) in
    let P : ℕ = length (decided_parts spans) in
    let a : w ≡ capped W = wide ∙ ap (λ i. capped (width i)) (sum_reach t spans h) in
    let b : s ≡ capped S = omega (arith, spreads, h.spreads) in
    let c : p ≡ capped P = omega (arith, parts, h.parts) in
    ap (λ n. capped (sum_cost n s p)) a ∙ ap (λ n. capped (sum_cost (capped W) n p)) b ∙ ap (λ n. capped (sum_cost (capped W) (capped S) n)) c
    ∙ cost_kept W S P

-- the ends of a sum pass through words that are wide enough
pub own_ends : (t : Summed) (spans : List defined.Span) → Sums t spans
    → from_to (to_z w128 (of_z w128 t.low)) (to_z w128 (of_z w128 t.high)) ≡ from_to t.low t.high
own_ends t spans h =
    ap (λ n. from_to n (to_z w128 (of_z w128 t.high))) (to_z-of_z w128 t.low (low_own t spans h))
    ∙ ap (from_to t.low) (to_z-of_z w128 t.high (high_own t spans h))
