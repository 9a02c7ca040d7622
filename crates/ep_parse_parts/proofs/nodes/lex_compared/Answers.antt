use Rattle.std.proofs.Common.{ap, refl, subst, sym, true, false, ◌∙◌}
use Rattle.ep_parse_parts.proofs.NodeFacts.{joined_ends, joined_group, place_of_kind, shows_node}
use Rattle.ep_parse_parts.specs.Founds.{Makes, Shows, told}
use Rattle.ep_parse_parts.specs.OperandReaders.{one_part, three_parts}
use Rattle.ep_parse_parts.specs.Openings.{extreme_of, fold_of, one_part_of, three_parts_of}
use Rattle.ep_parse_parts.specs.OperatorReaders.{takes_group}
use Rattle.ep_tree.proofs.ViewLemmas.{kind_tree-lex}
use Rattle.ep_tree.specs.Heights.{height}
use Rattle.ep_tree.specs.Spelling.{binary_level, ends_open, own_level, rank, takes_own_group}
use Rattle.ep_tree.specs.Trees as trees
use Rattle.ep_tree.specs.Views.{domain_tree, expr_tree}
use Rattle.ep_parse_parts.proofs.nodes.lex_compared.Goals as goal

pub returns : goal.returns
unfolding height ends_open takes_group rank own_level takes_own_group binary_level
returns c =
    record {
      made = shows_node _ _ _ _ _ _ _ c.operated.ensures.made
          (kind_tree-lex c.args.one.expr.place c.args.op c.in_ok-one.one c.in_ok-other.other ∙ ap (λ e. trees.lex c.args.one.expr.place c.args.op (expr_tree e) (expr_tree c.in_ok-other.other.value)) c.in_ok-one.ensures.ok ∙ ap (λ e. trees.lex c.args.one.expr.place c.args.op (expr_tree c.args.one.expr) (expr_tree e)) c.in_ok-other.ensures.ok ∙ ap (λ p. trees.lex p c.args.op (expr_tree c.args.one.expr) (expr_tree c.args.other.expr)) (sym (place_of_kind c.args.one.expr.place c.args.one.expr.kind)))
          (c.above-height.ensures.more _ (c.higher.ensures.greater _ _ c.requires.one.height c.requires.other.height)) (c.requires.other.ends) (refl);
    }
