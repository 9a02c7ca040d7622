use Rattle.std.proofs.Common.{ap, refl, ◌∙◌}
use Rattle.ep_parse_parts.proofs.NodeFacts.{shows_domain}
use Rattle.ep_tree.proofs.ViewLemmas.{domain_kind_tree-matrix}
use Rattle.ep_tree.specs.Heights.{domain_height}
use Rattle.ep_tree.specs.Trees as trees
use Rattle.ep_tree.specs.Views.{domain_tree, domains_of}
use Rattle.ep_parse_parts.proofs.list_nodes.matrix.Goals as goal

pub returns : goal.returns
unfolding domain_height
returns c =
    record {
      made = shows_domain _ _ _ _ _ refl
          (domain_kind_tree-matrix c.args.place c.args.indices.items c.in_ok-boxed.boxed ∙ ap (λ d. trees.matrix_domain c.args.place (domains_of c.args.indices.items.items) (domain_tree d)) c.in_ok-boxed.ensures.ok)
          (c.above-height.ensures.more _ (c.higher.ensures.greater _ _ c.requires.indices.high c.requires.element.height));
    }
