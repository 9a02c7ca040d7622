use Rattle.std.proofs.Common.{refl}
use Rattle.ep_parse_parts.proofs.NodeFacts.{shows_domain}
use Rattle.ep_tree.proofs.ViewLemmas.{domain_kind_tree-ranges}
use Rattle.ep_tree.specs.Heights.{domain_height}
use Rattle.ep_parse_parts.proofs.list_nodes.of_ranges.Goals as goal

pub returns : goal.returns
unfolding domain_height
returns c = record { made = shows_domain _ _ _ _ _ refl (domain_kind_tree-ranges c.args.place c.args.ranges.items) (c.above-height.ensures.more _ c.requires.ranges.high) }
