use Rattle.std.proofs.Common.{ap, refl, subst, sym, true, false, ◌∙◌}
use Rattle.ep_parse_parts.proofs.NodeFacts.{place_of_kind, shows_node}
use Rattle.ep_parse_parts.proofs.PartFacts.{index_is}
use Rattle.ep_parse_parts.specs.Founds.{Makes, Shows, told}
use Rattle.ep_parse_parts.specs.Gathered.{index_tree}
use Rattle.ep_parse_parts.specs.OperatorReaders.{takes_group}
use Rattle.ep_tree.specs.Heights.{height}
use Rattle.ep_tree.specs.Spelling.{binary_level, ends_open, own_level, rank, takes_own_group}
use Rattle.ep_tree.specs.Trees as trees
use Rattle.ep_tree.specs.Views.{expr_tree, expr_trees, generators_of, indices_of}
use Rattle.ep_tree.proofs.ViewLemmas.{index_of, kind_tree-comprehension}
use Rattle.ep_parse_parts.proofs.list_nodes.comprehension.Goals as goal

pub returns : goal.returns
unfolding height ends_open takes_group rank own_level takes_own_group binary_level
returns c =
    record {
      made = shows_node _ _ _ _ _ _ _ refl
          (kind_tree-comprehension c.args.place c.in_ok-boxed.boxed c.args.generators.items c.args.conditions.items c.args.index.domain
          ∙ ap (λ e. trees.comprehension c.args.place (expr_tree e) (generators_of c.args.generators.items.items) (expr_trees c.args.conditions.items.items) (index_of c.args.index.domain)) c.in_ok-boxed.ensures.ok
          ∙ ap (λ i. trees.comprehension c.args.place (expr_tree c.args.part.expr) (generators_of c.args.generators.items.items) (expr_trees c.args.conditions.items.items) i) (index_is c.args.index.domain))
          (c.above-height.ensures.more _ (c.higher-highest.ensures.greater _ _ (c.higher-first.ensures.greater _ _ c.requires.part.height c.requires.generators.high) (c.higher-last.ensures.greater _ _ c.requires.conditions.high c.requires.index.high))) refl refl;
    }
