use Rattle.std.proofs.Common.{ap, refl, subst, sym, true, false, ◌∙◌}
use Rattle.ep_parse_parts.proofs.NodeFacts.{place_of_kind, shows_node}
use Rattle.ep_parse_parts.proofs.PartFacts.{index_is}
use Rattle.ep_parse_parts.specs.Founds.{Makes, Shows, told}
use Rattle.ep_parse_parts.specs.Gathered.{index_tree}
use Rattle.ep_parse_parts.specs.OperatorReaders.{takes_group}
use Rattle.ep_tree.specs.Heights.{height}
use Rattle.ep_tree.specs.Spelling.{binary_level, ends_open, own_level, rank, takes_own_group}
use Rattle.ep_tree.specs.Trees as trees
use Rattle.ep_tree.specs.Views.{expr_tree, expr_trees, generators_of, indices_of}
use Rattle.ep_tree.proofs.ViewLemmas.{kind_tree-read}
use Rattle.ep_parse_parts.proofs.list_nodes.read.Goals as goal

pub returns : goal.returns
unfolding height ends_open takes_group rank own_level takes_own_group binary_level
returns c =
    record {
      made = shows_node _ _ _ _ _ _ _ refl
          (kind_tree-read c.args.matrix.expr.place c.in_ok-boxed.boxed c.args.indices.items
          ∙ ap (λ e. trees.read c.args.matrix.expr.place (expr_tree e) (indices_of c.args.indices.items.items)) c.in_ok-boxed.ensures.ok
          ∙ ap (λ p. trees.read p (expr_tree c.args.matrix.expr) (indices_of c.args.indices.items.items)) (sym (place_of_kind c.args.matrix.expr.place c.args.matrix.expr.kind)))
          (c.above-height.ensures.more _ (c.higher.ensures.greater _ _ c.requires.matrix.height c.requires.indices.high)) refl c.requires.indices.every;
    }
