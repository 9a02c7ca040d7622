-- Nodes over other terms that have the same values, or the same reaches.
use Rattle.std.proofs.Common.{◌≡◌, ℕ, ℤ, ◌+ℤ◌, ◌*ℤ◌, not, List, [], ◌∷◌, ◌++◌, Option, Some, refl, sym, ap, ◌∙◌, arith}
use Rattle.std.specs.Prelude.{map, option_map, option_and_then}
use Rattle.std.specs.List.{Contains}
use Rattle.std.proofs.lemmas.List.{map-append, map-id}
use Rattle.std.proofs.lemmas.List.Elements.{Contains-append_left, Contains-append_right}
use Rattle.ep_base.specs.Intervals.{Interval, absolute_interval, greatest_interval, hull, least_interval, nth_power_interval, only, product_interval, quotient_interval, remainder_interval, scaled, sum_interval}
use Rattle.ep_base.specs.Numbers as numbers
use Rattle.ep_base.specs.Numbers.{absolute_of, all_one, any_one, are_different, compare_holds, counts_hold, greatest_of, has_number, is_one, is_row_of, least_of, lex_holds, nth_power}
use Rattle.ep_base.specs.Options.{on_both}
use Rattle.ep_base.specs.Reads as reads
use Rattle.ep_base.specs.Reads.{all_there, picked, safe_picked, same_bool, weighted_sum}
use Rattle.ep_base.specs.declared.operators.CompareOp.{CompareOp}
use Rattle.ep_ground.specs.Bounds.{node_reach}
use Rattle.ep_ground.specs.Nodes.{GroundNode, constant, undefined, cell, sum, product, quotient, remainder, power, absolute, least, greatest, pick, whole, safe_quotient, safe_remainder, safe_pick, compare, lex, member, negation, all_of, any_of, same_truth, all_different, counts, at_least, at_most, table, parts_of}
use Rattle.ep_ground.specs.SameTrees.{with_parts}
use Rattle.ep_ground.specs.Terms.{node_value, truth, term_values_of, weighed}
use Rattle.ep_ground.specs.declared.cells.Cell.{Cell}

-- the first and the second of some parts
first : (a : ℕ) (ts : List ℕ) → Contains (a ∷ ts) a
first a ts = (0, omega arith, refl)

second : (a b : ℕ) (ts : List ℕ) → Contains (a ∷ b ∷ ts) b
second a b ts = (1, omega arith, refl)

-- two functions agree on some terms, where f gives the second one's
abbrev pub Agree : {X : Type 0} → (ℕ → X) → (ℕ → X) → (ℕ → ℕ) → List ℕ → Type 0
Agree v w f ts = (part : ℕ) → Contains ts part → v part ≡ w (f part)

pub agree_tail : {X : Type 0} (v w : ℕ → X) (f : ℕ → ℕ) (t : ℕ) (ts : List ℕ) → Agree v w f (t ∷ ts) → Agree v w f ts
agree_tail v w f t ts same = λ p found. same p (Contains-append_right (t ∷ []) ts p found)

agree_left : {X : Type 0} (v w : ℕ → X) (f : ℕ → ℕ) (ts us : List ℕ) → Agree v w f (ts ++ us) → Agree v w f ts
agree_left v w f ts us same = λ p found. same p (Contains-append_left ts us p found)

agree_right : {X : Type 0} (v w : ℕ → X) (f : ℕ → ℕ) (ts us : List ℕ) → Agree v w f (ts ++ us) → Agree v w f us
agree_right v w f ts us same = λ p found. same p (Contains-append_right ts us p found)

pub maps_same : {X : Type 0} (v w : ℕ → X) (f : ℕ → ℕ) (ts : List ℕ) → Agree v w f ts → map v ts ≡ map w (map f ts)
maps_same v w f [] same = refl
maps_same v w f (t ∷ ts) same = λ i. same t (first t ts) i ∷ maps_same v w f ts (agree_tail v w f t ts same) i

pub values_same : (v w : ℕ → Option ℤ) (f : ℕ → ℕ) (ts : List ℕ) → Agree v w f ts → term_values_of v ts ≡ term_values_of w (map f ts)
unfolding term_values_of
values_same v w f ts same = ap all_there (maps_same v w f ts same)

weighed_same : (v w : ℕ → Option ℤ) (f : ℕ → ℕ) (parts : List (ℤ × ℕ)) → Agree v w f (map (λ p. p.1) parts) → weighed v parts ≡ weighed w (map (λ p. (p.0, f p.1)) parts)
unfolding weighed
weighed_same v w f [] same = refl
weighed_same v w f (p ∷ parts) same =
    λ i. on_both (same p.1 (first p.1 (map (λ q. q.1) parts)) i) (weighed_same v w f parts (agree_tail v w f p.1 (map (λ q. q.1) parts) same) i) (λ x rest. Some ((p.0, x) ∷ rest))

scaled_same : (v w : ℕ → Interval) (f : ℕ → ℕ) (parts : List (ℤ × ℕ)) → Agree v w f (map (λ p. p.1) parts) → map (λ p. scaled p.0 (v p.1)) parts ≡ map (λ p. scaled p.0 (w p.1)) (map {B = ℤ × ℕ} (λ p. (p.0, f p.1)) parts)
scaled_same v w f [] same = refl
scaled_same v w f (p ∷ parts) same =
    λ i. scaled p.0 (same p.1 (first p.1 (map (λ q. q.1) parts)) i) ∷ scaled_same v w f parts (agree_tail v w f p.1 (map (λ q. q.1) parts) same) i

-- a node over terms that have the same values has the same value
pub node_as : (cells : List ℤ) (v w : ℕ → Option ℤ) (f : ℕ → ℕ) (node : GroundNode) → Agree v w f (parts_of node) → node_value cells v node ≡ node_value cells w (with_parts f node)
unfolding node_value with_parts parts_of
node_as cells v w f (constant n) same = refl
node_as cells v w f undefined same = refl
node_as cells v w f (cell k) same = refl
node_as cells v w f (sum c parts) same = ap (λ ps. option_map (λ qs. c +ℤ weighted_sum qs) ps) (weighed_same v w f parts same)
node_as cells v w f (product a b) same = λ i. on_both (same a (first a (b ∷ [])) i) (same b (second a b []) i) (λ x y. Some (x *ℤ y))
node_as cells v w f (quotient a b) same = λ i. on_both (same a (first a (b ∷ [])) i) (same b (second a b []) i) numbers.quotient
node_as cells v w f (remainder a b) same = λ i. on_both (same a (first a (b ∷ [])) i) (same b (second a b []) i) numbers.remainder
node_as cells v w f (power a n) same = λ i. option_map (λ x. nth_power x n) (same a (first a []) i)
node_as cells v w f (absolute a) same = λ i. option_map absolute_of (same a (first a []) i)
node_as cells v w f (least ts) same = λ i. option_and_then least_of (values_same v w f ts same i)
node_as cells v w f (greatest ts) same = λ i. option_and_then greatest_of (values_same v w f ts same i)
node_as cells v w f (pick ts keys indices) same = λ i. on_both (values_same v w f ts (agree_left v w f ts indices same) i) (values_same v w f indices (agree_right v w f ts indices same) i) (λ xs is. picked xs keys is)
node_as cells v w f (whole a ts) same = λ i. on_both (same a (first a ts) i) (values_same v w f ts (agree_tail v w f a ts same) i) (λ x xs. Some x)
node_as cells v w f (safe_quotient a b) same = λ i. on_both (same a (first a (b ∷ [])) i) (same b (second a b []) i) (λ x y. Some (reads.safe_quotient x y))
node_as cells v w f (safe_remainder a b) same = λ i. on_both (same a (first a (b ∷ [])) i) (same b (second a b []) i) (λ x y. Some (reads.safe_remainder x y))
node_as cells v w f (safe_pick ts keys indices) same = λ i. on_both (values_same v w f ts (agree_left v w f ts indices same) i) (values_same v w f indices (agree_right v w f ts indices same) i) (λ xs is. Some (safe_picked xs keys is))
node_as cells v w f (compare op a b) same = λ i. truth (on_both (same a (first a (b ∷ [])) i) (same b (second a b []) i) (λ x y. Some (compare_holds op x y)))
node_as cells v w f (lex op ts us) same = λ i. truth (on_both (values_same v w f ts (agree_left v w f ts us same) i) (values_same v w f us (agree_right v w f ts us same) i) (λ xs ys. Some (lex_holds op xs ys)))
node_as cells v w f (member a ns) same = λ i. truth (option_map (has_number ns) (same a (first a []) i))
node_as cells v w f (negation a) same = λ i. truth (option_map (λ x. not (is_one x)) (same a (first a []) i))
node_as cells v w f (all_of ts) same = λ i. truth (option_map all_one (values_same v w f ts same i))
node_as cells v w f (any_of ts) same = λ i. truth (option_map any_one (values_same v w f ts same i))
node_as cells v w f (same_truth a b) same = λ i. truth (on_both (same a (first a (b ∷ [])) i) (same b (second a b []) i) (λ x y. Some (same_bool (is_one x) (is_one y))))
node_as cells v w f (all_different ts) same = λ i. truth (option_map are_different (values_same v w f ts same i))
node_as cells v w f (counts ts ns us) same = λ i. truth (on_both (values_same v w f ts (agree_left v w f ts us same) i) (values_same v w f us (agree_right v w f ts us same) i) (λ xs cs. counts_hold CompareOp.Equal xs ns cs))
node_as cells v w f (at_least ts cs ns) same = λ i. truth (option_and_then (λ xs. counts_hold CompareOp.AtLeast xs ns cs) (values_same v w f ts same i))
node_as cells v w f (at_most ts cs ns) same = λ i. truth (option_and_then (λ xs. counts_hold CompareOp.AtMost xs ns cs) (values_same v w f ts same i))
node_as cells v w f (table ts rows) same = λ i. truth (option_and_then (is_row_of rows) (values_same v w f ts same i))

-- and over terms that have the same reaches it has the same reach
pub reach_as : (cells : List Cell) (v w : ℕ → Interval) (f : ℕ → ℕ) (node : GroundNode) → Agree v w f (parts_of node) → node_reach cells v node ≡ node_reach cells w (with_parts f node)
unfolding node_reach with_parts parts_of
reach_as cells v w f (constant n) same = refl
reach_as cells v w f undefined same = refl
reach_as cells v w f (cell k) same = refl
reach_as cells v w f (sum c parts) same = ap (λ rs. sum_interval (only c ∷ rs)) (scaled_same v w f parts same)
reach_as cells v w f (product a b) same = λ i. product_interval (same a (first a (b ∷ [])) i) (same b (second a b []) i)
reach_as cells v w f (quotient a b) same = λ i. quotient_interval (same a (first a (b ∷ [])) i)
reach_as cells v w f (remainder a b) same = λ i. remainder_interval (same b (second a b []) i)
reach_as cells v w f (power a n) same = λ i. nth_power_interval (same a (first a []) i) n
reach_as cells v w f (absolute a) same = λ i. absolute_interval (same a (first a []) i)
reach_as cells v w f (least ts) same = λ i. least_interval (maps_same v w f ts same i)
reach_as cells v w f (greatest ts) same = λ i. greatest_interval (maps_same v w f ts same i)
reach_as cells v w f (pick ts keys indices) same = λ i. hull (maps_same v w f ts (agree_left v w f ts indices same) i)
reach_as cells v w f (whole a ts) same = λ i. (same a (first a ts) i)
reach_as cells v w f (safe_quotient a b) same = λ i. quotient_interval (same a (first a (b ∷ [])) i)
reach_as cells v w f (safe_remainder a b) same = λ i. remainder_interval (same b (second a b []) i)
reach_as cells v w f (safe_pick ts keys indices) same = λ i. hull (maps_same v w f ts (agree_left v w f ts indices same) i)
reach_as cells v w f (compare op a b) same = refl
reach_as cells v w f (lex op ts us) same = refl
reach_as cells v w f (member a ns) same = refl
reach_as cells v w f (negation a) same = refl
reach_as cells v w f (all_of ts) same = refl
reach_as cells v w f (any_of ts) same = refl
reach_as cells v w f (same_truth a b) same = refl
reach_as cells v w f (all_different ts) same = refl
reach_as cells v w f (counts ts ns us) same = refl
reach_as cells v w f (at_least ts cs ns) same = refl
reach_as cells v w f (at_most ts cs ns) same = refl
reach_as cells v w f (table ts rows) same = refl

weights_stay : (parts : List (ℤ × ℕ)) → map {B = ℤ × ℕ} (λ p. (p.0, p.1)) parts ≡ parts
weights_stay [] = refl
weights_stay (p ∷ parts) = ap (λ ps. p ∷ ps) (weights_stay parts)

-- a node over its own parts is itself
pub with_own : (node : GroundNode) → with_parts (λ t. t) node ≡ node
unfolding with_parts
with_own (constant n) = refl
with_own undefined = refl
with_own (cell k) = refl
with_own (sum c parts) = ap (λ ps. sum c ps) (weights_stay parts)
with_own (product a b) = refl
with_own (quotient a b) = refl
with_own (remainder a b) = refl
with_own (power a n) = refl
with_own (absolute a) = refl
with_own (least ts) = ap (λ xs. least xs) (map-id ts)
with_own (greatest ts) = ap (λ xs. greatest xs) (map-id ts)
with_own (pick ts keys indices) = λ i. pick (map-id ts i) keys (map-id indices i)
with_own (whole a ts) = ap (λ xs. whole a xs) (map-id ts)
with_own (safe_quotient a b) = refl
with_own (safe_remainder a b) = refl
with_own (safe_pick ts keys indices) = λ i. safe_pick (map-id ts i) keys (map-id indices i)
with_own (compare op a b) = refl
with_own (lex op ts us) = λ i. lex op (map-id ts i) (map-id us i)
with_own (member a ns) = refl
with_own (negation a) = refl
with_own (all_of ts) = ap (λ xs. all_of xs) (map-id ts)
with_own (any_of ts) = ap (λ xs. any_of xs) (map-id ts)
with_own (same_truth a b) = refl
with_own (all_different ts) = ap (λ xs. all_different xs) (map-id ts)
with_own (counts ts ns us) = λ i. counts (map-id ts i) ns (map-id us i)
with_own (at_least ts cs ns) = ap (λ xs. at_least xs cs ns) (map-id ts)
with_own (at_most ts cs ns) = ap (λ xs. at_most xs cs ns) (map-id ts)
with_own (table ts rows) = ap (λ xs. table xs rows) (map-id ts)

pub node_same : (cells : List ℤ) (v w : ℕ → Option ℤ) (node : GroundNode) → Agree v w (λ t. t) (parts_of node) → node_value cells v node ≡ node_value cells w node
node_same cells v w node same = node_as cells v w (λ t. t) node same ∙ ap (node_value cells w) (with_own node)

pub reach_same : (cells : List Cell) (v w : ℕ → Interval) (node : GroundNode) → Agree v w (λ t. t) (parts_of node) → node_reach cells v node ≡ node_reach cells w node
reach_same cells v w node same = reach_as cells v w (λ t. t) node same ∙ ap (node_reach cells w) (with_own node)

weights_renamed : (f : ℕ → ℕ) (parts : List (ℤ × ℕ)) → map (λ p. p.1) (map {B = ℤ × ℕ} (λ p. (p.0, f p.1)) parts) ≡ map f (map (λ p. p.1) parts)
weights_renamed f [] = refl
weights_renamed f (p ∷ parts) = ap (λ ts. f p.1 ∷ ts) (weights_renamed f parts)

pub weights_same : (f : ℕ → ℕ) (parts : List (ℤ × ℕ)) → map (λ p. p.0) (map {B = ℤ × ℕ} (λ p. (p.0, f p.1)) parts) ≡ map (λ p. p.0) parts
weights_same f [] = refl
weights_same f (p ∷ parts) = ap (λ ts. p.0 ∷ ts) (weights_same f parts)

-- the parts of a node over other terms
pub parts_with : (f : ℕ → ℕ) (node : GroundNode) → parts_of (with_parts f node) ≡ map f (parts_of node)
unfolding with_parts parts_of
parts_with f (constant n) = refl
parts_with f undefined = refl
parts_with f (cell k) = refl
parts_with f (sum c parts) = weights_renamed f parts
parts_with f (product a b) = refl
parts_with f (quotient a b) = refl
parts_with f (remainder a b) = refl
parts_with f (power a n) = refl
parts_with f (absolute a) = refl
parts_with f (least ts) = refl
parts_with f (greatest ts) = refl
parts_with f (pick ts keys indices) = sym (map-append f ts indices)
parts_with f (whole a ts) = refl
parts_with f (safe_quotient a b) = refl
parts_with f (safe_remainder a b) = refl
parts_with f (safe_pick ts keys indices) = sym (map-append f ts indices)
parts_with f (compare op a b) = refl
parts_with f (lex op ts us) = sym (map-append f ts us)
parts_with f (member a ns) = refl
parts_with f (negation a) = refl
parts_with f (all_of ts) = refl
parts_with f (any_of ts) = refl
parts_with f (same_truth a b) = refl
parts_with f (all_different ts) = refl
parts_with f (counts ts ns us) = sym (map-append f ts us)
parts_with f (at_least ts cs ns) = refl
parts_with f (at_most ts cs ns) = refl
parts_with f (table ts rows) = refl
