-- The value of a term, which is that of its node where its parts have the values of their terms.
--
-- That a Boolean node without a value for a part is false, and that the safe forms give 0 or the first part, is this
-- project's own choice.
use Rattle.std.specs.Prelude.{◌≡◌, ℕ, ◌<◌, ℤ, pos, ◌+ℤ◌, ◌*ℤ◌, Bool, not, List, [], ◌∷◌, ◌++◌, map, fold, Option, Some, None, option_map, option_and_then, slice_get, slice_index_or}
use Rattle.std.specs.List.{All}
use Rattle.ep_base.specs.Numbers as numbers
use Rattle.ep_base.specs.Numbers.{absolute_of, all_one, any_one, are_different, compare_holds, counts_hold, greatest_of, has_number, is_one, is_row_of, least_of, lex_holds, nth_power, of_bool, same_numbers}
use Rattle.ep_base.specs.Options.{on_both}
use Rattle.ep_base.specs.Reads as reads
use Rattle.ep_base.specs.Reads.{all_there, picked, safe_picked, same_bool, weighted_sum}
use Rattle.ep_base.specs.declared.operators.CompareOp.{CompareOp}
use Rattle.ep_ground.specs.Nodes.{GroundNode, constant, undefined, cell, sum, product, quotient, remainder, power, absolute, least, greatest, pick, whole, safe_quotient, safe_remainder, safe_pick, compare, lex, member, negation, all_of, any_of, same_truth, all_different, counts, at_least, at_most, table, parts_of}

-- the values of terms, where each has one
unfoldable pub term_values_of : (ℕ → Option ℤ) → List ℕ → Option (List ℤ)
term_values_of value ts = all_there (map value ts)

-- a sum's parts, each with its coefficient and its value, where each has one
unfoldable pub weighed : (ℕ → Option ℤ) → List (ℤ × ℕ) → Option (List (ℤ × ℤ))
weighed value [] = Some []
weighed value (p ∷ parts) = on_both (value p.1) (weighed value parts) (λ x rest. Some ((p.0, x) ∷ rest))

-- 1 for true, and 0 for false and where there is no truth value
unfoldable pub truth : Option Bool → Option ℤ
truth None = Some (pos 0)
truth (Some b) = Some (of_bool b)

-- The value of a node, where the cells have these values and each term has such a value, or none.
unfoldable pub node_value : List ℤ → (ℕ → Option ℤ) → GroundNode → Option ℤ
node_value cells value (constant n) = Some n
node_value cells value undefined = None
node_value cells value (cell k) = slice_get cells k
node_value cells value (sum c parts) = option_map (λ ps. c +ℤ weighted_sum ps) (weighed value parts)
node_value cells value (product a b) = on_both (value a) (value b) (λ x y. Some (x *ℤ y))
node_value cells value (quotient a b) = on_both (value a) (value b) numbers.quotient
node_value cells value (remainder a b) = on_both (value a) (value b) numbers.remainder
node_value cells value (power a n) = option_map (λ x. nth_power x n) (value a)
node_value cells value (absolute a) = option_map absolute_of (value a)
node_value cells value (least ts) = option_and_then least_of (term_values_of value ts)
node_value cells value (greatest ts) = option_and_then greatest_of (term_values_of value ts)
node_value cells value (pick ts keys indices) =
    on_both (term_values_of value ts) (term_values_of value indices) (λ xs is. picked xs keys is)
node_value cells value (whole a ts) = on_both (value a) (term_values_of value ts) (λ x xs. Some x)
node_value cells value (safe_quotient a b) = on_both (value a) (value b) (λ x y. Some (reads.safe_quotient x y))
node_value cells value (safe_remainder a b) = on_both (value a) (value b) (λ x y. Some (reads.safe_remainder x y))
node_value cells value (safe_pick ts keys indices) =
    on_both (term_values_of value ts) (term_values_of value indices) (λ xs is. Some (safe_picked xs keys is))
node_value cells value (compare op a b) = truth (on_both (value a) (value b) (λ x y. Some (compare_holds op x y)))
node_value cells value (lex op ts us) =
    truth (on_both (term_values_of value ts) (term_values_of value us) (λ xs ys. Some (lex_holds op xs ys)))
node_value cells value (member a ns) = truth (option_map (has_number ns) (value a))
node_value cells value (negation a) = truth (option_map (λ x. not (is_one x)) (value a))
node_value cells value (all_of ts) = truth (option_map all_one (term_values_of value ts))
node_value cells value (any_of ts) = truth (option_map any_one (term_values_of value ts))
node_value cells value (same_truth a b) =
    truth (on_both (value a) (value b) (λ x y. Some (same_bool (is_one x) (is_one y))))
node_value cells value (all_different ts) = truth (option_map are_different (term_values_of value ts))
node_value cells value (counts ts ns us) =
    truth (on_both (term_values_of value ts) (term_values_of value us) (λ xs cs. counts_hold CompareOp.Equal xs ns cs))
node_value cells value (at_least ts cs ns) =
    truth (option_and_then (λ xs. counts_hold CompareOp.AtLeast xs ns cs) (term_values_of value ts))
node_value cells value (at_most ts cs ns) =
    truth (option_and_then (λ xs. counts_hold CompareOp.AtMost xs ns cs) (term_values_of value ts))
node_value cells value (table ts rows) = truth (option_and_then (is_row_of rows) (term_values_of value ts))

-- what a list says of a term, and nothing of one that isn't there
unfoldable pub value_at : List (Option ℤ) → ℕ → Option ℤ
value_at values t = slice_index_or values t None

-- the values of nodes in order: that of one more node comes from those before it
unfoldable pub values_from : List ℤ → List (Option ℤ) → List GroundNode → List (Option ℤ)
values_from cells before nodes = fold (λ values node. values ++ node_value cells (value_at values) node ∷ []) before nodes

-- The value of a term among these nodes, where the cells have these values. The parts of each node stand before it, so
-- that this goes through the term's unfolded tree from its leaves up.
unfoldable pub term_value : List GroundNode → List ℤ → ℕ → Option ℤ
term_value nodes cells t = value_at (values_from cells [] nodes) t

-- the parts of each node are terms of nodes before it
abbrev pub PartsStandBefore : List GroundNode → Type 0
PartsStandBefore nodes =
    (t : ℕ) (node : GroundNode) → slice_get nodes t ≡ Some node → All (λ part. part < t) (parts_of node)

-- the parts of each node stand before it, and no two nodes are equal
pub record IsArena (nodes : List GroundNode) : Type 0 where
  pub before : PartsStandBefore nodes
  pub different : (s t : ℕ) (node : GroundNode) → slice_get nodes s ≡ Some node → slice_get nodes t ≡ Some node → s ≡ t
