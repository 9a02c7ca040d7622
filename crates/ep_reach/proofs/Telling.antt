-- Where reaches are told: sums that stay near don't leave the words that they are computed in.
use Rattle.std.proofs.Common.{◌≡◌, ℕ, zero, suc, ◌+◌, ◌-◌, ◌*◌, ◌%◌, ◌<◌, ◌≤◌, ℤ, pos, negsuc, ◌+ℤ◌, ◌*ℤ◌, ◌≤ℤ◌, List, [], ◌∷◌, ◌++◌, length, get_or, take, false, Some, refl, sym, ap, subst, ◌∙◌, arith, add-one, SFits, w64}
use Rattle.std.specs.Prelude.{if◌then◌else◌, fold, int_lt, map, neg_ℤ, slice_get, slice_index_or, unsigned_abs}
use Rattle.std.specs.Int.{int_max, int_min}
use Rattle.std.specs.List.{All}
use Rattle.std.proofs.lemmas.Int.{ints, unsigned_abs-mul}
use Rattle.std.proofs.lemmas.List.{length-append}
use Rattle.std.proofs.lemmas.List.Elements.{All-cons, All-head, All-nil, All-tail}
use Rattle.std.proofs.lemmas.Nat.{mul-le}
use Rattle.ep_base.specs.Intervals.{Interval, IsWithinReach, greatest_or_zero, has_zero, least_or_zero, nth_power_interval, only, product_interval, scaled, spanned}
use Rattle.ep_base.specs.Numbers.{greatest_of, least_of, nth_power}
use Rattle.ep_base.specs.Reads.{IsWithinNumbers}
use Rattle.ep_numbers.proofs.Ends.{max_in, min_in}
use Rattle.ep_numbers.proofs.PowerLaws.{abs_in, in_abs, word_in}
use Rattle.ep_numbers.specs.Spans.{IsWide}
use Rattle.ep_ground.specs.Bounds.{node_reach, reach_at, term_reach}
use Rattle.ep_ground.specs.Grounds.{GroundState}
use Rattle.ep_ground.specs.Nodes.{GroundNode, coefficients_of, power, sum}
use Rattle.ep_ground.specs.declared.cells.Cell.{Cell}
use Rattle.ep_reach.specs.Reaching.{HasFewParts, HasNearParts, IsNearThroughout, IsToldAt}
use Rattle.ep_reach.proofs.Nodes.{all_at, got_at}
use Rattle.ep_reach.proofs.Reaching.{Bounded, near_at}

-- ---- sums

-- how far a sum of so many parts may be from 0
abbrev pub most : ℕ → ℕ
most k = 9223372036854775808 + k * 1208925819614629174706176

abbrev pub IsSmall : ℤ → Type 0
IsSmall n = (neg_ℤ (pos 1208925819614629174706176) ≤ℤ n) × (n ≤ℤ pos 1208925819614629174706176)

pub record SumWithin (k : ℕ) (low high : ℤ) : Type 0 where
  pub low_least : neg_ℤ (pos (most k)) ≤ℤ low
  pub low_most : low ≤ℤ pos (most k)
  pub high_least : neg_ℤ (pos (most k)) ≤ℤ high
  pub high_most : high ≤ℤ pos (most k)

pub sum_begun : (n low high : ℤ) → SFits w64 n → low ≡ n → high ≡ n → SumWithin 0 low high
sum_begun n low high f e d =
    let b = word_in n f in
    record {
      low_least = subst (λ x. neg_ℤ (pos 9223372036854775808) ≤ℤ x) (sym e) b.0;
      low_most = subst (λ x. x ≤ℤ pos 9223372036854775808) (sym e) b.1;
      high_least = subst (λ x. neg_ℤ (pos 9223372036854775808) ≤ℤ x) (sym d) b.0;
      high_most = subst (λ x. x ≤ℤ pos 9223372036854775808) (sym d) b.1;
    }

least_more : (m : ℕ) (a b : ℤ) → neg_ℤ (pos m) ≤ℤ a → neg_ℤ (pos 1208925819614629174706176) ≤ℤ b → neg_ℤ (pos (m + 1208925819614629174706176)) ≤ℤ (a +ℤ b)
least_more m a b h k = omega (arith, ints, h, k)

most_more : (m : ℕ) (a b : ℤ) → a ≤ℤ pos m → b ≤ℤ pos 1208925819614629174706176 → (a +ℤ b) ≤ℤ pos (m + 1208925819614629174706176)
most_more m a b h k = omega (arith, ints, h, k)

one_more : (k : ℕ) → most k + 1208925819614629174706176 ≡ most (k + 1)
one_more k = omega arith

pub sum_within_more : (k : ℕ) (low high a b : ℤ) → SumWithin k low high → IsSmall a → IsSmall b → SumWithin (k + 1) (low +ℤ a) (high +ℤ b)
sum_within_more k low high a b w h j = record {
  low_least = subst (λ m. neg_ℤ (pos m) ≤ℤ (low +ℤ a)) (one_more k) (least_more (most k) low a w.low_least h.0);
  low_most = subst (λ m. (low +ℤ a) ≤ℤ pos m) (one_more k) (most_more (most k) low a w.low_most h.1);
  high_least = subst (λ m. neg_ℤ (pos m) ≤ℤ (high +ℤ b)) (one_more k) (least_more (most k) high b w.high_least j.0);
  high_most = subst (λ m. (high +ℤ b) ≤ℤ pos m) (one_more k) (most_more (most k) high b w.high_most j.1);
}

few_most : (k : ℕ) → k ≤ 4294967296 → most k ≤ 85070591730234615865843651857942052864
few_most k h = omega (arith, h)

wide_low : (m : ℕ) (n : ℤ) → m ≤ 85070591730234615865843651857942052864 → neg_ℤ (pos m) ≤ℤ n → neg_ℤ (pos 85070591730234615865843651857942052864) ≤ℤ n
wide_low m n h k = omega (arith, ints, h, k)

wide_high : (m : ℕ) (n : ℤ) → m ≤ 85070591730234615865843651857942052864 → n ≤ℤ pos m → n ≤ℤ pos 85070591730234615865843651857942052864
wide_high m n h k = omega (arith, ints, h, k)

pub sum_wide : (k : ℕ) (low high : ℤ) → k ≤ 4294967296 → SumWithin k low high → IsWide low × IsWide high
sum_wide k low high h w =
    let m = few_most k h in
    ((wide_low (most k) low m w.low_least, wide_high (most k) low m w.low_most), (wide_low (most k) high m w.high_least, wide_high (most k) high m w.high_most))

product_small : (a b : ℤ) → IsWithinNumbers a → IsWithinNumbers b → IsSmall (a *ℤ b)
product_small a b h k =
    let x = in_abs a 1099511627776 h.0 h.1 in
    let y = in_abs b 1099511627776 k.0 k.1 in
    abs_in (a *ℤ b) 1208925819614629174706176 (let e = unsigned_abs-mul a b in let m = mul-le (unsigned_abs a) (unsigned_abs b) 1099511627776 1099511627776 x y in omega (arith, e, m))

pub scaled_small : (a : ℤ) (i j : Interval) → j ≡ scaled a i → IsWithinNumbers a → IsWithinReach i → IsSmall j.low × IsSmall j.high
unfolding scaled product_interval spanned least_or_zero greatest_or_zero least_of greatest_of
scaled_small a i j e h w =
    let low = product_small a i.low h w.low in
    let high = product_small a i.high h w.high in
    let rest : List ℤ = (a *ℤ i.high) ∷ (a *ℤ i.low) ∷ (a *ℤ i.high) ∷ [] in
    let all : All IsSmall rest = All-cons IsSmall (a *ℤ i.high) ((a *ℤ i.low) ∷ (a *ℤ i.high) ∷ []) high (All-cons IsSmall (a *ℤ i.low) ((a *ℤ i.high) ∷ []) low (All-cons IsSmall (a *ℤ i.high) [] high (All-nil IsSmall))) in
    subst (λ k. IsSmall k.low × IsSmall k.high) (sym e)
    (min_in (neg_ℤ (pos 1208925819614629174706176)) (pos 1208925819614629174706176) (a *ℤ i.low) rest low all, max_in (neg_ℤ (pos 1208925819614629174706176)) (pos 1208925819614629174706176) (a *ℤ i.low) rest low all)

pub mapped_at : {A B : Type 0} (P : B → Type 0) (f : A → B) (xs : List A) (k : ℕ) (x d : A) → k < length xs → x ≡ get_or xs k d → All P (map f xs) → P (f x)
mapped_at P f [] k x d h same all = absurd (omega (arith, h))
mapped_at P f (y ∷ ys) zero x d h same all = subst (λ z. P (f z)) (sym same) (All-head P (f y) (map f ys) all)
mapped_at P f (y ∷ ys) (suc k) x d h same all = mapped_at P f ys k x d (omega (arith, h)) same (All-tail P (f y) (map f ys) all)

pub reach_near : (reaches : List Interval) (t : ℕ) → All IsWithinReach reaches → IsWithinReach (reach_at reaches t)
unfolding reach_at
reach_near reaches t h = near_at reaches t h

-- ---- the reach of a term is that of its node

push_left : (xs : List Interval) (x d : Interval) (p : ℕ) → p < length xs → slice_index_or (xs ++ x ∷ []) p d ≡ slice_index_or xs p d
push_left [] x d p h = absurd (omega (arith, h))
push_left (y ∷ ys) x d zero h = refl
push_left (y ∷ ys) x d (suc p) h = push_left ys x d p (omega (arith, h))

push_last : (xs : List Interval) (x d : Interval) → slice_index_or (xs ++ x ∷ []) (length xs) d ≡ x
push_last [] x d = refl
push_last (y ∷ ys) x d = push_last ys x d

long_push : (xs : List Interval) (x : Interval) → length (xs ++ x ∷ []) ≡ length xs + 1
long_push xs x = length-append xs (x ∷ [])

stays : (cells : List Cell) (nodes : List GroundNode) (reaches : List Interval) (p : ℕ) (d : Interval) → p < length reaches
    → slice_index_or (fold (λ before node. before ++ node_reach cells (reach_at before) node ∷ []) reaches nodes) p d ≡ slice_index_or reaches p d
stays cells [] reaches p d h = refl
stays cells (n ∷ nodes) reaches p d h =
    let i = node_reach cells (reach_at reaches) n in
    stays cells nodes (reaches ++ i ∷ []) p d (omega (arith, h, long_push reaches i)) ∙ push_left reaches i d p h

made : (cells : List Cell) (nodes : List GroundNode) (reaches : List Interval) (t : ℕ) (node : GroundNode) (d : Interval) → slice_get nodes t ≡ Some node
    → slice_index_or (fold (λ before n. before ++ node_reach cells (reach_at before) n ∷ []) reaches nodes) (length reaches + t) d
    ≡ node_reach cells (reach_at (fold (λ before n. before ++ node_reach cells (reach_at before) n ∷ []) reaches (take t nodes))) node
made cells [] reaches t node d e = absurd cc
made cells (n ∷ nodes) reaches zero node d e =
    let i = node_reach cells (reach_at reaches) n in
    let whole = fold (λ before m. before ++ node_reach cells (reach_at before) m ∷ []) (reaches ++ i ∷ []) nodes in
    ap (λ k. slice_index_or whole k d) (none (length reaches)) ∙ stays cells nodes (reaches ++ i ∷ []) (length reaches) d (omega (arith, long_push reaches i))
    ∙ push_last reaches i d ∙ ap (node_reach cells (reach_at reaches)) (some_same n node e)
  where
    none : (k : ℕ) → k + 0 ≡ k
    none k = omega arith

    some_same : (a b : GroundNode) → Some a ≡ Some b → a ≡ b
    some_same a b f = cc
made cells (n ∷ nodes) reaches (suc t) node d e =
    let i = node_reach cells (reach_at reaches) n in
    let whole = fold (λ before m. before ++ node_reach cells (reach_at before) m ∷ []) (reaches ++ i ∷ []) nodes in
    ap (λ k. slice_index_or whole k d) (omega (arith, long_push reaches i)) ∙ made cells nodes (reaches ++ i ∷ []) t node d e

pub told_at : (g : GroundState) (t : ℕ) (reaches : List Interval) (node : GroundNode) → slice_get g.nodes t ≡ Some node → Bounded g.nodes g.cells t reaches → IsNearThroughout g → IsToldAt g.cells reaches node
unfolding term_reach reach_at
told_at g t reaches node e was h =
    let step : List Interval → GroundNode → List Interval = λ before n. before ++ node_reach g.cells (reach_at before) n ∷ [] in
    let whole : slice_index_or (fold step [] g.nodes) t (only (pos 0)) ≡ node_reach g.cells (reach_at reaches) node =
    ap (λ k. slice_index_or (fold step [] g.nodes) k (only (pos 0))) (none t) ∙ made g.cells g.nodes [] t node (only (pos 0)) e
    ∙ ap (λ rs. node_reach g.cells (reach_at rs) node) (sym was.same) in
    record {
      before = was.near;
      reach = subst IsWithinReach whole (h.reaches t (got_at g.nodes t node node e).0);
      coefficients = all_at (λ n. All IsWithinNumbers (coefficients_of n)) g.nodes t node e h.coefficients;
      few = all_at HasFewParts g.nodes t node e h.parts;
    }
  where
    none : (k : ℕ) → k ≡ 0 + k
    none k = omega arith

-- ---- what a node's reach asks of its parts

pub told_sum : (cells : List Cell) (reaches : List Interval) (c : ℤ) (parts : List (ℤ × ℕ)) → IsToldAt cells reaches (sum c parts) → HasNearParts reaches parts
unfolding coefficients_of
told_sum cells reaches c parts h = record {
  before = h.before;
  coefficients = h.coefficients;
  few = omega (arith, h.few, long parts);
}
  where
    long : (ps : List (ℤ × ℕ)) → length (map (λ p. p.0) ps) ≡ length ps
    long [] = refl
    long (p ∷ ps) = ap suc (long ps)

pub told_power : (cells : List Cell) (reaches : List Interval) (t n : ℕ) → IsToldAt cells reaches (power t n) → IsWithinReach (nth_power_interval (reach_at reaches t) n)
unfolding node_reach
told_power cells reaches t n h = h.reach
