-- The code's nodes, without where their lists lie in memory.
use Rattle.std.specs.Prelude.{List, map}
use Rattle.ep_ground.specs.declared.nodes.Node.{Node}
use Rattle.ep_ground.specs.declared.nodes.Node.TheVariants as code
use Rattle.ep_ground.specs.Nodes.{GroundNode, constant, undefined, cell, sum, product, quotient, remainder, power, absolute, least, greatest, pick, whole, safe_quotient, safe_remainder, safe_pick, compare, lex, member, negation, all_of, any_of, same_truth, all_different, counts, at_least, at_most, table}

-- a node with plain lists in place of the vectors
abbrev pub plain_node : Node → GroundNode
plain_node (code.Const n) = constant n
plain_node code.Undefined = undefined
plain_node (code.Cell k) = cell k
plain_node (code.Add c parts) = sum c parts.items
plain_node (code.Mul a b) = product a b
plain_node (code.Div a b) = quotient a b
plain_node (code.Mod a b) = remainder a b
plain_node (code.Pow a n) = power a n
plain_node (code.Abs a) = absolute a
plain_node (code.Min ts) = least ts.items
plain_node (code.Max ts) = greatest ts.items
plain_node (code.Pick ts keys indices) = pick ts.items keys.items indices.items
plain_node (code.Whole a ts) = whole a ts.items
plain_node (code.SafeDiv a b) = safe_quotient a b
plain_node (code.SafeMod a b) = safe_remainder a b
plain_node (code.SafePick ts keys indices) = safe_pick ts.items keys.items indices.items
plain_node (code.Compare op a b) = compare op a b
plain_node (code.Lex op ts us) = lex op ts.items us.items
plain_node (code.Member a ns) = member a ns
plain_node (code.Not a) = negation a
plain_node (code.And ts) = all_of ts.items
plain_node (code.Or ts) = any_of ts.items
plain_node (code.Iff a b) = same_truth a b
plain_node (code.AllDiff ts) = all_different ts.items
plain_node (code.Gcc ts ns us) = counts ts.items ns.items us.items
plain_node (code.AtLeast ts cs ns) = at_least ts.items cs.items ns.items
plain_node (code.AtMost ts cs ns) = at_most ts.items cs.items ns.items
plain_node (code.Table ts rows) = table ts.items rows.items

-- nodes with plain lists in place of the vectors, in order
abbrev pub plain_nodes : List Node → List GroundNode
plain_nodes nodes = map plain_node nodes
