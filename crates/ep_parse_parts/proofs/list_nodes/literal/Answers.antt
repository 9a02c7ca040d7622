use Rattle.std.proofs.Common.{ap, refl, subst, sym, true, false, ◌∙◌}
use Rattle.ep_parse_parts.proofs.NodeFacts.{place_of_kind, shows_node}
use Rattle.ep_parse_parts.proofs.PartFacts.{index_is}
use Rattle.ep_parse_parts.specs.Founds.{Makes, Shows, told}
use Rattle.ep_parse_parts.specs.Gathered.{index_tree}
use Rattle.ep_parse_parts.specs.OperatorReaders.{takes_group}
use Rattle.ep_tree.specs.Heights.{height}
use Rattle.ep_tree.specs.Spelling.{binary_level, ends_open, own_level, rank, takes_own_group}
use Rattle.ep_tree.specs.Trees as trees
use Rattle.ep_tree.specs.Views.{expr_tree, expr_trees, generators_of, indices_of}
use Rattle.ep_tree.proofs.ViewLemmas.{kind_tree-literal}
use Rattle.ep_parse_parts.proofs.list_nodes.literal.Goals as goal

pub returns : goal.returns
unfolding height ends_open takes_group rank own_level takes_own_group binary_level
returns c =
    record {
      made = shows_node _ _ _ _ _ _ _ refl
          (kind_tree-literal c.args.place c.args.parts.items c.args.index.domain ∙ ap (λ i. trees.literal c.args.place (expr_trees c.args.parts.items.items) i) (index_is c.args.index.domain))
          (c.above-height.ensures.more _ (c.higher.ensures.greater _ _ c.requires.parts.high c.requires.index.high)) refl refl;
    }
