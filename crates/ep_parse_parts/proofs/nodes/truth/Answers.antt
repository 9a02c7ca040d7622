use Rattle.std.proofs.Common.{ap, ap₂, sym, refl, ◌∙◌}
use Rattle.ep_base.specs.declared.places.Place.{Place}
use Rattle.ep_parse_parts.proofs.NodeFacts.{joined_ends, joined_group, place_of_kind, shows_node}
use Rattle.ep_parse_parts.specs.OperatorReaders.{takes_group}
use Rattle.ep_parse_parts.specs.Founds.{told}
use Rattle.ep_tree.proofs.ViewLemmas.{kind_tree-truth}
use Rattle.ep_tree.specs.Heights.{height}
use Rattle.ep_tree.specs.Spelling.{binary_level, ends_open, own_level, rank, takes_own_group}
use Rattle.ep_tree.specs.Trees as trees
use Rattle.ep_tree.specs.Views.{domain_tree, expr_tree}
use Rattle.ep_parse_parts.proofs.nodes.truth.Goals as goal

pub returns : goal.returns
unfolding told height ends_open takes_group rank own_level takes_own_group binary_level
returns c = record { made = shows_node _ _ _ _ _ _ _ refl (kind_tree-truth _ _) refl refl refl }
