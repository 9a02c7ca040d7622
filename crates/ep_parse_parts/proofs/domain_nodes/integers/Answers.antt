use Rattle.std.proofs.Common.{ap, ap₂, refl, sym, ◌∙◌}
use Rattle.ep_parse_parts.proofs.NodeFacts.{place_of_domain_kind, shows_domain}
use Rattle.ep_parse_parts.specs.Founds.{told}
use Rattle.ep_tree.proofs.ViewLemmas.{domain_kind_tree-int}
use Rattle.ep_tree.specs.Heights.{domain_height}
use Rattle.ep_tree.specs.Trees as trees
use Rattle.ep_tree.specs.Views.{domain_tree}
use Rattle.ep_parse_parts.proofs.domain_nodes.integers.Goals as goal

pub returns : goal.returns
unfolding domain_height told
returns c = record { made = shows_domain _ _ _ _ _ refl (domain_kind_tree-int _) refl }
