use Rattle.std.proofs.Common.{refl}
use Rattle.ep_parse_parts.proofs.NodeFacts.{shows_node}
use Rattle.ep_parse_parts.specs.OperatorReaders.{takes_group}
use Rattle.ep_tree.proofs.ViewLemmas.{kind_tree-any_of}
use Rattle.ep_tree.specs.Heights.{height}
use Rattle.ep_tree.specs.Spelling.{ends_open, own_level, rank, takes_own_group}
use Rattle.ep_parse_trees.proofs.operators.disjunction_of.Goals as goal

pub returns : goal.returns
unfolding height ends_open takes_group rank own_level takes_own_group
returns c = record { made = shows_node _ _ _ _ _ _ _ refl (kind_tree-any_of c.args.place c.args.parts.items) (c.above-height.ensures.more _ c.requires.parts.high) c.requires.parts.ends refl }
