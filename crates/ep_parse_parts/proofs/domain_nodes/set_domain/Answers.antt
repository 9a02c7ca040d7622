use Rattle.std.proofs.Common.{ap, ap₂, refl, sym, ◌∙◌}
use Rattle.ep_parse_parts.proofs.NodeFacts.{place_of_domain_kind, shows_domain}
use Rattle.ep_parse_parts.specs.Founds.{told}
use Rattle.ep_tree.proofs.ViewLemmas.{domain_kind_tree-set}
use Rattle.ep_tree.specs.Heights.{domain_height}
use Rattle.ep_tree.specs.Trees as trees
use Rattle.ep_tree.specs.Views.{domain_tree}
use Rattle.ep_parse_parts.proofs.domain_nodes.set_domain.Goals as goal

pub returns : goal.returns
unfolding domain_height
returns c =
    record {
      made = shows_domain _ _ _ _ _ refl
          (domain_kind_tree-set c.args.one.domain.place c.args.op c.in_ok-one.one c.in_ok-other.other
          ∙ ap (λ d. trees.set_domain c.args.one.domain.place c.args.op (domain_tree d) (domain_tree c.in_ok-other.other.value)) c.in_ok-one.ensures.ok
          ∙ ap (λ d. trees.set_domain c.args.one.domain.place c.args.op (domain_tree c.args.one.domain) (domain_tree d)) c.in_ok-other.ensures.ok
          ∙ ap (λ p. trees.set_domain p c.args.op (domain_tree c.args.one.domain) (domain_tree c.args.other.domain)) (sym (place_of_domain_kind c.args.one.domain.place c.args.one.domain.kind)))
          (c.above-height.ensures.more _ (c.higher.ensures.greater _ _ c.requires.one.height c.requires.other.height));
    }
