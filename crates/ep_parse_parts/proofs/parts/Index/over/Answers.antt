use Rattle.std.proofs.Common.{ap, sym, ◌∙◌}
use Rattle.ep_parse_parts.specs.Founds.{told}
use Rattle.ep_parse_parts.specs.Gathered.{index_tree}
use Rattle.ep_tree.specs.Heights.{domain_height, index_height}
use Rattle.ep_tree.specs.Trees.{over}
use Rattle.ep_tree.specs.Views.{domain_tree}
use Rattle.ep_parse_parts.proofs.parts.Index.over.Goals as goal

pub returns : goal.returns
unfolding index_tree index_height
returns c =
    record {
      made = record {
        is = ap (λ d. over (domain_tree d)) c.in_ok-domain.ensures.ok;
        counted = record { high = c.requires.found.height ∙ ap (λ d. told (domain_height (domain_tree d))) (sym c.in_ok-domain.ensures.ok) };
      };
    }
