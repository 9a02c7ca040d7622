-- The value of each term lies in the term's reach.
use Rattle.std.specs.Prelude.{◌≡◌, ℕ, zero, suc, Bool, true, false, List, [], ◌∷◌, ◌++◌, length, map, ℤ, pos, negsuc, ◌+ℤ◌, ◌-ℤ◌, ◌*ℤ◌, ◌≤ℤ◌, neg_ℤ, if◌then◌else◌, int_le, Option, Some, None, option_map, option_and_then, unwrap_or, fold, slice_get, slice_index_or, position, refl}
use Rattle.std.proofs.Common.{ap, arith, subst, ◌∙◌}
use Rattle.std.proofs.lemmas.Int.{ints}
use Rattle.std.specs.Int.{int_max, int_min}
use Rattle.std.proofs.lemmas.List.{length-append}
use Rattle.std.proofs.lemmas.Option.{slice_get-get_or}
use Rattle.ep_base.proofs.Small.{no_some, some_is}
use Rattle.ep_base.specs.Intervals.{Interval, LiesIn, absolute_interval, farthest_end, from_to, greatest_or_zero, highs, hull, least_or_zero, lows, nth_power_interval, only, power_interval, product_interval, quotient_interval, remainder_interval, spanned, sum_interval, truth_interval, scaled}
use Rattle.ep_base.specs.Numbers as numbers
use Rattle.ep_base.specs.Numbers.{absolute_of, greatest_of, least_of, nth_power, of_bool, sum_of}
use Rattle.ep_base.specs.Options.{on_both}
use Rattle.ep_base.specs.Reads as reads
use Rattle.ep_base.specs.Reads.{all_there, first_or_zero, picked, safe_picked, weighted_sum}
use Rattle.ep_numbers.proofs.Ends.{itself, max_left, max_right, max_start, min_right, min_start, up}
use Rattle.ep_ground.specs.Nodes.{GroundNode, constant, undefined, cell, sum, product, quotient, remainder, power, absolute, least, greatest, pick, whole, safe_quotient, safe_remainder, safe_pick, compare, lex, member, negation, all_of, any_of, same_truth, all_different, counts, at_least, at_most, table}
use Rattle.ep_ground.specs.Terms.{node_value, term_value, truth, value_at, values_from, term_values_of, weighed}
use Rattle.ep_ground.specs.Bounds.{node_reach, reach_at, term_reach}
use Rattle.ep_ground.specs.Grounds.{AreCellValues}
use Rattle.ep_ground.specs.declared.cells.Cell.{Cell}
use Rattle.ep_tree_laws.specs.Intervals.{LieInEach}
use Rattle.ep_tree_laws.proofs.Intervals.{absolute_lies, greatest_lies, least_lies, power_lies, product_lies, quotient_lies, remainder_lies, sum_lies}

-- each value that is there lies in its interval
abbrev pub Lie : (ℕ → Option ℤ) → (ℕ → Interval) → Type 0
Lie value reach = (t : ℕ) (n : ℤ) → value t ≡ Some n → LiesIn n (reach t)

min_each : (a : ℤ) (xs : List ℤ) (k : ℕ) (x : ℤ) → slice_get xs k ≡ Some x → fold int_min a xs ≤ℤ x
min_each a [] k x e = no_some e
min_each a (y ∷ ys) zero x e =
    subst (λ z. fold int_min (int_min a y) ys ≤ℤ z) (some_is e) (up (fold int_min (int_min a y) ys) (int_min a y) y (min_start (int_min a y) ys) (min_right a y))
min_each a (y ∷ ys) (suc k) x e = min_each (int_min a y) ys k x e

max_each : (a : ℤ) (xs : List ℤ) (k : ℕ) (x : ℤ) → slice_get xs k ≡ Some x → x ≤ℤ fold int_max a xs
max_each a [] k x e = no_some e
max_each a (y ∷ ys) zero x e =
    subst (λ z. z ≤ℤ fold int_max (int_max a y) ys) (some_is e) (up y (int_max a y) (fold int_max (int_max a y) ys) (max_right a y) (max_start (int_max a y) ys))
max_each a (y ∷ ys) (suc k) x e = max_each (int_max a y) ys k x e

spanned_holds : (xs : List ℤ) (k : ℕ) (x : ℤ) → slice_get xs k ≡ Some x → LiesIn x (spanned xs)
unfolding spanned least_or_zero greatest_or_zero least_of greatest_of
spanned_holds [] k x e = no_some e
spanned_holds (y ∷ ys) zero x e =
    subst (λ z. (fold int_min y ys ≤ℤ z) × (z ≤ℤ fold int_max y ys)) (some_is e) (min_start y ys, max_start y ys)
spanned_holds (y ∷ ys) (suc k) x e = (min_each y ys k x e, max_each y ys k x e)

hull_low : (a : ℤ) (ns : List ℤ) (is : List Interval) → LieInEach ns is → (k : ℕ) (n : ℤ) → slice_get ns k ≡ Some n → fold int_min a (lows is) ≤ℤ n
hull_low a [] is h k n e = no_some e
hull_low a (m ∷ ns) [] h k n e = absurd h
hull_low a (m ∷ ns) (i ∷ is) h zero n e =
    subst (λ z. fold int_min (int_min a i.low) (lows is) ≤ℤ z) (some_is e)
    (up (fold int_min (int_min a i.low) (lows is)) (int_min a i.low) m (min_start (int_min a i.low) (lows is)) (up (int_min a i.low) i.low m (min_right a i.low) h.0.0))
hull_low a (m ∷ ns) (i ∷ is) h (suc k) n e = hull_low (int_min a i.low) ns is h.1 k n e

hull_high : (a : ℤ) (ns : List ℤ) (is : List Interval) → LieInEach ns is → (k : ℕ) (n : ℤ) → slice_get ns k ≡ Some n → n ≤ℤ fold int_max a (highs is)
hull_high a [] is h k n e = no_some e
hull_high a (m ∷ ns) [] h k n e = absurd h
hull_high a (m ∷ ns) (i ∷ is) h zero n e =
    subst (λ z. z ≤ℤ fold int_max (int_max a i.high) (highs is)) (some_is e)
    (up m (int_max a i.high) (fold int_max (int_max a i.high) (highs is)) (up m i.high (int_max a i.high) h.0.1 (max_right a i.high)) (max_start (int_max a i.high) (highs is)))
hull_high a (m ∷ ns) (i ∷ is) h (suc k) n e = hull_high (int_max a i.high) ns is h.1 k n e

-- one of some numbers lies in the hull of their intervals
pub hull_holds : (ns : List ℤ) (is : List Interval) → LieInEach ns is → (k : ℕ) (n : ℤ) → slice_get ns k ≡ Some n → LiesIn n (hull is)
unfolding hull least_or_zero greatest_or_zero least_of greatest_of
hull_holds [] is h k n e = no_some e
hull_holds (m ∷ ns) [] h k n e = absurd h
hull_holds (m ∷ ns) (i ∷ is) h zero n e =
    subst (λ z. (fold int_min i.low (lows is) ≤ℤ z) × (z ≤ℤ fold int_max i.high (highs is))) (some_is e)
    (up (fold int_min i.low (lows is)) i.low m (min_start i.low (lows is)) h.0.0, up m i.high (fold int_max i.high (highs is)) h.0.1 (max_start i.high (highs is)))
hull_holds (m ∷ ns) (i ∷ is) h (suc k) n e = (hull_low i.low ns is h.1 k n e, hull_high i.high ns is h.1 k n e)

pub picked_lies : (ns : List ℤ) (is : List Interval) → LieInEach ns is → (keys : List (List ℤ)) (at : List ℤ) (n : ℤ) → picked ns keys at ≡ Some n → LiesIn n (hull is)
unfolding picked
picked_lies ns is h keys at n e = by (position (λ key. numbers.same_numbers key at) keys) e
  where
    by : (o : Option ℕ) → option_and_then (slice_get ns) o ≡ Some n → LiesIn n (hull is)
    by None e = no_some e
    by (Some k) e = hull_holds ns is h k n e

pub first_lies : (ns : List ℤ) (is : List Interval) → LieInEach ns is → LiesIn (first_or_zero ns) (hull is)
unfolding first_or_zero hull least_or_zero greatest_or_zero least_of greatest_of
first_lies [] [] h = (omega (arith, ints), omega (arith, ints))
first_lies [] (i ∷ is) h = absurd h
first_lies (n ∷ ns) is h = hull_holds (n ∷ ns) is h 0 n refl

safe_picked_lies : (ns : List ℤ) (is : List Interval) → LieInEach ns is → (keys : List (List ℤ)) (at : List ℤ) → LiesIn (safe_picked ns keys at) (hull is)
unfolding safe_picked
safe_picked_lies ns is h keys at = by (picked ns keys at) refl
  where
    by : (o : Option ℤ) → picked ns keys at ≡ o → LiesIn (unwrap_or o (first_or_zero ns)) (hull is)
    by None e = first_lies ns is h
    by (Some n) e = picked_lies ns is h keys at n e

-- a value of two parts
both_given : {A B : Type 0} (f : A → B → Option ℤ) (x : Option A) (y : Option B) (n : ℤ) → on_both x y f ≡ Some n → (a : A) × (b : B) × (x ≡ Some a) × (y ≡ Some b) × (f a b ≡ Some n)
unfolding on_both
both_given f None y n e = no_some e
both_given f (Some a) None n e = no_some e
both_given f (Some a) (Some b) n e = (a, b, refl, refl, e)

-- a value of one part
one_given : {A : Type 0} (f : A → ℤ) (x : Option A) (n : ℤ) → option_map f x ≡ Some n → (a : A) × (x ≡ Some a) × (f a ≡ n)
one_given f None n e = no_some e
one_given f (Some a) n e = (a, refl, some_is e)

then_given : {A : Type 0} (f : A → Option ℤ) (x : Option A) (n : ℤ) → option_and_then f x ≡ Some n → (a : A) × (x ≡ Some a) × (f a ≡ Some n)
then_given f None n e = no_some e
then_given f (Some a) n e = (a, refl, e)

pub truth_lies : (o : Option Bool) (n : ℤ) → truth o ≡ Some n → LiesIn n truth_interval
unfolding truth of_bool
truth_lies None n e = subst (λ m. LiesIn m truth_interval) (some_is e) (omega (arith, ints), omega (arith, ints))
truth_lies (Some true) n e = subst (λ m. LiesIn m truth_interval) (some_is e) (omega (arith, ints), omega (arith, ints))
truth_lies (Some false) n e = subst (λ m. LiesIn m truth_interval) (some_is e) (omega (arith, ints), omega (arith, ints))

-- the values of some terms lie in their intervals, one in each
pub each_lies : (value : ℕ → Option ℤ) (reach : ℕ → Interval) → Lie value reach → (ts : List ℕ) (ns : List ℤ) → term_values_of value ts ≡ Some ns → LieInEach ns (map reach ts)
unfolding term_values_of all_there
each_lies value reach h [] ns e = subst (λ ms. LieInEach ms []) (some_is e) tt
each_lies value reach h (t ∷ ts) ns e = by (value t) refl (all_there (map value ts)) refl (each_lies value reach h ts) e
  where
    by : (o : Option ℤ) → value t ≡ o → (p : Option (List ℤ)) → all_there (map value ts) ≡ p → ((ms : List ℤ) → all_there (map value ts) ≡ Some ms → LieInEach ms (map reach ts)) → option_and_then (λ n. option_map (λ ns. n ∷ ns) p) o ≡ Some ns → LieInEach ns (reach t ∷ map reach ts)
    by None g p k more e = no_some e
    by (Some n) g None k more e = no_some e
    by (Some n) g (Some ms) k more e = subst (λ ys. LieInEach ys (reach t ∷ map reach ts)) (some_is e) (h t n g, more ms k)

-- so do those of a sum's parts, each multiplied by its coefficient
weighed_lies : (value : ℕ → Option ℤ) (reach : ℕ → Interval) → Lie value reach → (parts : List (ℤ × ℕ)) (ps : List (ℤ × ℤ)) → weighed value parts ≡ Some ps → LieInEach (map (λ p. p.0 *ℤ p.1) ps) (map (λ p. scaled p.0 (reach p.1)) parts)
unfolding weighed on_both scaled
weighed_lies value reach h [] ps e = subst (λ qs. LieInEach (map (λ p. p.0 *ℤ p.1) qs) []) (some_is e) tt
weighed_lies value reach h (q ∷ parts) ps e = by (value q.1) refl (weighed value parts) refl (weighed_lies value reach h parts) e
  where
    by : (o : Option ℤ) → value q.1 ≡ o → (p : Option (List (ℤ × ℤ))) → weighed value parts ≡ p → ((rs : List (ℤ × ℤ)) → weighed value parts ≡ Some rs → LieInEach (map (λ r. r.0 *ℤ r.1) rs) (map (λ r. scaled r.0 (reach r.1)) parts)) → option_and_then (λ x. option_and_then (λ rest. Some ((q.0, x) ∷ rest)) p) o ≡ Some ps → LieInEach (map (λ r. r.0 *ℤ r.1) ps) (scaled q.0 (reach q.1) ∷ map (λ r. scaled r.0 (reach r.1)) parts)
    by None g p k more e = no_some e
    by (Some x) g None k more e = no_some e
    by (Some x) g (Some rs) k more e =
        subst (λ (ys : List (ℤ × ℤ)). LieInEach (map (λ r. r.0 *ℤ r.1) ys) (scaled q.0 (reach q.1) ∷ map (λ r. scaled r.0 (reach r.1)) parts)) (some_is e)
        (product_lies q.0 x (only q.0) (reach q.1) (itself q.0, itself q.0) (h q.1 x g), more rs k)

pub cell_lies : (cells : List Cell) (values : List ℤ) → AreCellValues cells values → (k : ℕ) (n : ℤ) → slice_get values k ≡ Some n → LiesIn n (spanned (slice_index_or (map (λ one. one.values) cells) k []))
cell_lies cells [] h k n e = no_some e
cell_lies [] (v ∷ values) h k n e = absurd h
cell_lies (one ∷ cells) (v ∷ values) h zero n e =
    subst (λ m. LiesIn m (spanned one.values)) (some_is e)
    (spanned_holds one.values h.0.0 v (slice_get-get_or one.values h.0.0 v h.0.1 ∙ ap (λ m. Some m) h.0.2))
cell_lies (one ∷ cells) (v ∷ values) h (suc k) n e = cell_lies cells values h.1 k n e

pub absolute_high : (x : ℤ) → pos 0 ≤ℤ absolute_of x
unfolding absolute_of
absolute_high (pos n) = omega (arith, ints)
absolute_high (negsuc n) = omega (arith, ints)

pub farthest_high : (i : Interval) → pos 0 ≤ℤ farthest_end i
unfolding farthest_end
farthest_high i = up (pos 0) (absolute_of i.low) (int_max (absolute_of i.low) (absolute_of i.high)) (absolute_high i.low) (max_left (absolute_of i.low) (absolute_of i.high))

negated_low : (x : ℤ) → pos 0 ≤ℤ x → neg_ℤ x ≤ℤ pos 0
negated_low x h = omega (arith, ints, h)

safe_quotient_lies : (x y : ℤ) (i : Interval) → LiesIn x i → LiesIn (reads.safe_quotient x y) (quotient_interval i)
unfolding reads.safe_quotient quotient_interval
safe_quotient_lies x y i h = by (numbers.quotient x y) refl
  where
    by : (o : Option ℤ) → numbers.quotient x y ≡ o → LiesIn (unwrap_or o (pos 0)) (from_to (neg_ℤ (farthest_end i)) (farthest_end i))
    by None e = (negated_low (farthest_end i) (farthest_high i), farthest_high i)
    by (Some q) e = quotient_lies x y q i h e

pub low_end : (b : Bool) (most : ℤ) → pos 0 ≤ℤ most → (if b then pos 0 else neg_ℤ most) ≤ℤ pos 0
low_end true most h = itself (pos 0)
low_end false most h = negated_low most h

pub high_end : (b : Bool) (most : ℤ) → pos 0 ≤ℤ most → pos 0 ≤ℤ (if b then pos 0 else most)
high_end true most h = itself (pos 0)
high_end false most h = h

pub most_high : (x : ℤ) → pos 0 ≤ℤ (int_max (pos 1) x -ℤ pos 1)
most_high x = grind (arith, ints)

safe_remainder_lies : (x y : ℤ) (j : Interval) → LiesIn y j → LiesIn (reads.safe_remainder x y) (remainder_interval j)
unfolding reads.safe_remainder remainder_interval
safe_remainder_lies x y j h = by (numbers.remainder x y) refl
  where
    by : (o : Option ℤ) → numbers.remainder x y ≡ o → LiesIn (unwrap_or o (pos 0)) (remainder_interval j)
    by None e = (
      low_end (int_le (pos 0) j.low) (int_max (pos 1) (farthest_end j) -ℤ pos 1) (most_high (farthest_end j)),
      high_end (int_le j.high (pos 0)) (int_max (pos 1) (farthest_end j) -ℤ pos 1) (most_high (farthest_end j)),
    )
    by (Some r) e = remainder_lies x y r j h e

pub nth_power_lies : (x : ℤ) (n : ℕ) (i : Interval) → LiesIn x i → LiesIn (nth_power x n) (nth_power_interval i n)
unfolding power_interval numbers.power
nth_power_lies x n i h = power_lies x (pos n) (nth_power x n) i h refl

weighted : (reach : ℕ → Interval) (c : ℤ) (ps : List (ℤ × ℤ)) (parts : List (ℤ × ℕ)) → LieInEach (map (λ p. p.0 *ℤ p.1) ps) (map (λ p. scaled p.0 (reach p.1)) parts) → LiesIn (c +ℤ weighted_sum ps) (sum_interval (only c ∷ map (λ p. scaled p.0 (reach p.1)) parts))
unfolding weighted_sum sum_of
weighted reach c ps parts k = sum_lies (c ∷ map (λ p. p.0 *ℤ p.1) ps) (only c ∷ map (λ p. scaled p.0 (reach p.1)) parts) ((itself c, itself c), k)

-- the value of a node lies in its reach, where those of its parts lie in theirs
pub node_lies : (cells : List Cell) (values : List ℤ) (value : ℕ → Option ℤ) (reach : ℕ → Interval) → AreCellValues cells values → Lie value reach → (node : GroundNode) (n : ℤ) → node_value values value node ≡ Some n → LiesIn n (node_reach cells reach node)
unfolding node_value node_reach
node_lies cells values value reach are h (constant m) n e = subst (λ k. LiesIn k (only m)) (some_is e) (itself m, itself m)
node_lies cells values value reach are h undefined n e = no_some e
node_lies cells values value reach are h (cell k) n e = cell_lies cells values are k n e
node_lies cells values value reach are h (sum c parts) n e =
    let g : _ = one_given (λ ps. c +ℤ weighted_sum ps) (weighed value parts) n e in
    subst (λ k. LiesIn k (sum_interval (only c ∷ map (λ p. scaled p.0 (reach p.1)) parts))) g.2 (weighted reach c g.0 parts (weighed_lies value reach h parts g.0 g.1))
node_lies cells values value reach are h (product a b) n e =
    let g : _ = both_given (λ x y. Some (x *ℤ y)) (value a) (value b) n e in
    subst (λ k. LiesIn k (product_interval (reach a) (reach b))) (some_is g.4) (product_lies g.0 g.1 (reach a) (reach b) (h a g.0 g.2) (h b g.1 g.3))
node_lies cells values value reach are h (quotient a b) n e =
    let g : _ = both_given numbers.quotient (value a) (value b) n e in
    quotient_lies g.0 g.1 n (reach a) (h a g.0 g.2) g.4
node_lies cells values value reach are h (remainder a b) n e =
    let g : _ = both_given numbers.remainder (value a) (value b) n e in
    remainder_lies g.0 g.1 n (reach b) (h b g.1 g.3) g.4
node_lies cells values value reach are h (power a m) n e =
    let g : _ = one_given (λ x. nth_power x m) (value a) n e in
    subst (λ k. LiesIn k (nth_power_interval (reach a) m)) g.2 (nth_power_lies g.0 m (reach a) (h a g.0 g.1))
node_lies cells values value reach are h (absolute a) n e =
    let g : _ = one_given absolute_of (value a) n e in
    subst (λ k. LiesIn k (absolute_interval (reach a))) g.2 (absolute_lies g.0 (reach a) (h a g.0 g.1))
node_lies cells values value reach are h (least ts) n e =
    let g : _ = then_given least_of (term_values_of value ts) n e in
    least_lies g.0 (map reach ts) (each_lies value reach h ts g.0 g.1) n g.2
node_lies cells values value reach are h (greatest ts) n e =
    let g : _ = then_given greatest_of (term_values_of value ts) n e in
    greatest_lies g.0 (map reach ts) (each_lies value reach h ts g.0 g.1) n g.2
node_lies cells values value reach are h (pick ts keys indices) n e =
    let g : _ = both_given (λ xs is. picked xs keys is) (term_values_of value ts) (term_values_of value indices) n e in
    picked_lies g.0 (map reach ts) (each_lies value reach h ts g.0 g.2) keys g.1 n g.4
node_lies cells values value reach are h (whole a ts) n e =
    let g : _ = both_given (λ x xs. Some x) (value a) (term_values_of value ts) n e in
    subst (λ k. LiesIn k (reach a)) (some_is g.4) (h a g.0 g.2)
node_lies cells values value reach are h (safe_quotient a b) n e =
    let g : _ = both_given (λ x y. Some (reads.safe_quotient x y)) (value a) (value b) n e in
    subst (λ k. LiesIn k (quotient_interval (reach a))) (some_is g.4) (safe_quotient_lies g.0 g.1 (reach a) (h a g.0 g.2))
node_lies cells values value reach are h (safe_remainder a b) n e =
    let g : _ = both_given (λ x y. Some (reads.safe_remainder x y)) (value a) (value b) n e in
    subst (λ k. LiesIn k (remainder_interval (reach b))) (some_is g.4) (safe_remainder_lies g.0 g.1 (reach b) (h b g.1 g.3))
node_lies cells values value reach are h (safe_pick ts keys indices) n e =
    let g : _ = both_given (λ xs is. Some (safe_picked xs keys is)) (term_values_of value ts) (term_values_of value indices) n e in
    subst (λ k. LiesIn k (hull (map reach ts))) (some_is g.4) (safe_picked_lies g.0 (map reach ts) (each_lies value reach h ts g.0 g.2) keys g.1)
node_lies cells values value reach are h (compare op a b) n e = truth_lies _ n e
node_lies cells values value reach are h (lex op ts us) n e = truth_lies _ n e
node_lies cells values value reach are h (member a ns) n e = truth_lies _ n e
node_lies cells values value reach are h (negation a) n e = truth_lies _ n e
node_lies cells values value reach are h (all_of ts) n e = truth_lies _ n e
node_lies cells values value reach are h (any_of ts) n e = truth_lies _ n e
node_lies cells values value reach are h (same_truth a b) n e = truth_lies _ n e
node_lies cells values value reach are h (all_different ts) n e = truth_lies _ n e
node_lies cells values value reach are h (counts ts ns us) n e = truth_lies _ n e
node_lies cells values value reach are h (at_least ts cs ns) n e = truth_lies _ n e
node_lies cells values value reach are h (at_most ts cs ns) n e = truth_lies _ n e
node_lies cells values value reach are h (table ts rows) n e = truth_lies _ n e

pub lies_further : (vals : List (Option ℤ)) (reaches : List Interval) (d : Interval) (v : Option ℤ) (i : Interval) → length vals ≡ length reaches
    → ((t : ℕ) (n : ℤ) → slice_index_or vals t None ≡ Some n → LiesIn n (slice_index_or reaches t d)) → ((n : ℤ) → v ≡ Some n → LiesIn n i)
    → (t : ℕ) (n : ℤ) → slice_index_or (vals ++ v ∷ []) t None ≡ Some n → LiesIn n (slice_index_or (reaches ++ i ∷ []) t d)
lies_further [] [] d v i l h k zero n e = k n e
lies_further [] [] d v i l h k (suc t) n e = no_some e
lies_further [] (r ∷ reaches) d v i l h k t n e = absurd (omega (arith, l))
lies_further (x ∷ vals) [] d v i l h k t n e = absurd (omega (arith, l))
lies_further (x ∷ vals) (r ∷ reaches) d v i l h k zero n e = h 0 n e
lies_further (x ∷ vals) (r ∷ reaches) d v i l h k (suc t) n e =
    let m : length vals ≡ length reaches = omega (arith, l) in
    lies_further vals reaches d v i m (λ u. h (suc u)) k t n e

-- the values so far lie in the reaches so far
record Keep (values : List (Option ℤ)) (reaches : List Interval) : Type 0 where
  same : length values ≡ length reaches
  lie : Lie (value_at values) (reach_at reaches)

keep_further : (vals : List (Option ℤ)) (reaches : List Interval) (v : Option ℤ) (i : Interval) → Keep vals reaches → ((n : ℤ) → v ≡ Some n → LiesIn n i) → Keep (vals ++ v ∷ []) (reaches ++ i ∷ [])
unfolding value_at reach_at
keep_further vals reaches v i h k = record {
  same = omega (arith, length-append vals (v ∷ []), length-append reaches (i ∷ []), h.same);
  lie = lies_further vals reaches (only (pos 0)) v i h.same h.lie k;
}

kept_along : (cells : List Cell) (values : List ℤ) → AreCellValues cells values → (nodes : List GroundNode) (vals : List (Option ℤ)) (reaches : List Interval) → Keep vals reaches
    → Keep (fold (λ before node. before ++ node_value values (value_at before) node ∷ []) vals nodes) (fold (λ before node. before ++ node_reach cells (reach_at before) node ∷ []) reaches nodes)
kept_along cells values are [] vals reaches h = h
kept_along cells values are (node ∷ nodes) vals reaches h =
    kept_along cells values are nodes (vals ++ node_value values (value_at vals) node ∷ []) (reaches ++ node_reach cells (reach_at reaches) node ∷ [])
    (keep_further vals reaches (node_value values (value_at vals) node) (node_reach cells (reach_at reaches) node) h (node_lies cells values (value_at vals) (reach_at reaches) are h.lie node))

nothing_kept : Keep [] []
unfolding value_at reach_at
nothing_kept = record { same = refl; lie = λ t n e. no_some e }

-- the value of each term lies in its reach
pub term_lies : (nodes : List GroundNode) (cells : List Cell) (values : List ℤ) → AreCellValues cells values → Lie (term_value nodes values) (term_reach nodes cells)
unfolding term_value term_reach values_from
term_lies nodes cells values are = (kept_along cells values are nodes [] [] nothing_kept).lie
