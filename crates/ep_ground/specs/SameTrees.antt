-- Which terms unfold to the same tree.
use Rattle.std.specs.Prelude.{◌≡◌, ℕ, List, map, Some, slice_get}
use Rattle.std.specs.List.{Contains}
use Rattle.ep_ground.specs.Nodes.{GroundNode, constant, undefined, cell, sum, product, quotient, remainder, power, absolute, least, greatest, pick, whole, safe_quotient, safe_remainder, safe_pick, compare, lex, member, negation, all_of, any_of, same_truth, all_different, counts, at_least, at_most, table, parts_of}

-- the node with other terms as its parts: for each part the one that f gives
unfoldable pub with_parts : (ℕ → ℕ) → GroundNode → GroundNode
with_parts f (constant n) = constant n
with_parts f undefined = undefined
with_parts f (cell k) = cell k
with_parts f (sum c parts) = sum c (map (λ p. (p.0, f p.1)) parts)
with_parts f (product a b) = product (f a) (f b)
with_parts f (quotient a b) = quotient (f a) (f b)
with_parts f (remainder a b) = remainder (f a) (f b)
with_parts f (power a n) = power (f a) n
with_parts f (absolute a) = absolute (f a)
with_parts f (least ts) = least (map f ts)
with_parts f (greatest ts) = greatest (map f ts)
with_parts f (pick ts keys indices) = pick (map f ts) keys (map f indices)
with_parts f (whole a ts) = whole (f a) (map f ts)
with_parts f (safe_quotient a b) = safe_quotient (f a) (f b)
with_parts f (safe_remainder a b) = safe_remainder (f a) (f b)
with_parts f (safe_pick ts keys indices) = safe_pick (map f ts) keys (map f indices)
with_parts f (compare op a b) = compare op (f a) (f b)
with_parts f (lex op ts us) = lex op (map f ts) (map f us)
with_parts f (member a ns) = member (f a) ns
with_parts f (negation a) = negation (f a)
with_parts f (all_of ts) = all_of (map f ts)
with_parts f (any_of ts) = any_of (map f ts)
with_parts f (same_truth a b) = same_truth (f a) (f b)
with_parts f (all_different ts) = all_different (map f ts)
with_parts f (counts ts ns us) = counts (map f ts) ns (map f us)
with_parts f (at_least ts cs ns) = at_least (map f ts) cs ns
with_parts f (at_most ts cs ns) = at_most (map f ts) cs ns
with_parts f (table ts rows) = table (map f ts) rows

-- Two terms unfold to the same tree: their nodes are one node, but that the terms which f and g give stand for its parts,
-- and both terms for a part unfold to the same tree.
pub data SameTree (nodes : List GroundNode) : ℕ → ℕ → Type 0 where
  same_tree : (s t : ℕ) (node : GroundNode) (f g : ℕ → ℕ) → slice_get nodes s ≡ Some (with_parts f node) → slice_get nodes t ≡ Some (with_parts g node) → ((part : ℕ) → Contains (parts_of node) part → SameTree nodes (f part) (g part)) → SameTree nodes s t
