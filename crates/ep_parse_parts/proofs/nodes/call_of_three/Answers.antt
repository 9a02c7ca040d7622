use Rattle.std.proofs.Common.{ap, refl, subst, sym, true, false, ◌∙◌}
use Rattle.ep_parse_parts.proofs.NodeFacts.{joined_ends, joined_group, place_of_kind, shows_node}
use Rattle.ep_parse_parts.specs.Founds.{Makes, Shows, told}
use Rattle.ep_parse_parts.specs.OperandReaders.{one_part, three_parts}
use Rattle.ep_parse_parts.specs.Openings.{extreme_of, fold_of, one_part_of, three_parts_of}
use Rattle.ep_parse_parts.specs.OperatorReaders.{takes_group}
use Rattle.ep_tree.proofs.ViewLemmas.{kind_tree-at_least, kind_tree-at_most, kind_tree-gcc}
use Rattle.ep_tree.specs.Heights.{height}
use Rattle.ep_tree.specs.Spelling.{binary_level, ends_open, own_level, rank, takes_own_group}
use Rattle.ep_tree.specs.Trees as trees
use Rattle.ep_tree.specs.Views.{domain_tree, expr_tree}
use Rattle.ep_parse_parts.proofs.nodes.call_of_three.Goals as goal

pub returns-in-Gcc : goal.returns-in-Gcc
unfolding height ends_open takes_group rank own_level takes_own_group binary_level
returns-in-Gcc c =
    record {
      made = subst (λ w. Shows c.closed.result (three_parts (three_parts_of w) c.args.place (expr_tree c.args.one.expr) (expr_tree c.args.two.expr) (expr_tree c.args.three.expr))) (sym c.in-Gcc.is)
          (shows_node _ _ _ _ _ _ _ c.closed.ensures.made
          (kind_tree-gcc c.args.place c.in_ok-one.one c.in_ok-two.two c.in_ok-three.three ∙ ap (λ e. trees.gcc c.args.place (expr_tree e) (expr_tree c.in_ok-two.two.value) (expr_tree c.in_ok-three.three.value)) c.in_ok-one.ensures.ok ∙ ap (λ e. trees.gcc c.args.place (expr_tree c.args.one.expr) (expr_tree e) (expr_tree c.in_ok-three.three.value)) c.in_ok-two.ensures.ok ∙ ap (λ e. trees.gcc c.args.place (expr_tree c.args.one.expr) (expr_tree c.args.two.expr) (expr_tree e)) c.in_ok-three.ensures.ok)
          (c.above-height.ensures.more _ (c.higher-2.ensures.greater _ _ c.requires.one.height (c.higher.ensures.greater _ _ c.requires.two.height c.requires.three.height))) refl refl);
    }

pub returns-in-AtLeast : goal.returns-in-AtLeast
unfolding height ends_open takes_group rank own_level takes_own_group binary_level
returns-in-AtLeast c =
    record {
      made = subst (λ w. Shows c.closed-in-AtLeast.result (three_parts (three_parts_of w) c.args.place (expr_tree c.args.one.expr) (expr_tree c.args.two.expr) (expr_tree c.args.three.expr))) (sym c.in-AtLeast.is)
          (shows_node _ _ _ _ _ _ _ c.closed-in-AtLeast.ensures.made
          (kind_tree-at_least c.args.place c.in_ok-one.one c.in_ok-two.two c.in_ok-three.three ∙ ap (λ e. trees.at_least c.args.place (expr_tree e) (expr_tree c.in_ok-two.two.value) (expr_tree c.in_ok-three.three.value)) c.in_ok-one.ensures.ok ∙ ap (λ e. trees.at_least c.args.place (expr_tree c.args.one.expr) (expr_tree e) (expr_tree c.in_ok-three.three.value)) c.in_ok-two.ensures.ok ∙ ap (λ e. trees.at_least c.args.place (expr_tree c.args.one.expr) (expr_tree c.args.two.expr) (expr_tree e)) c.in_ok-three.ensures.ok)
          (c.above-height.ensures.more _ (c.higher-2.ensures.greater _ _ c.requires.one.height (c.higher.ensures.greater _ _ c.requires.two.height c.requires.three.height))) refl refl);
    }

pub returns-in-AtMost : goal.returns-in-AtMost
unfolding height ends_open takes_group rank own_level takes_own_group binary_level
returns-in-AtMost c =
    record {
      made = subst (λ w. Shows c.closed-in-AtMost.result (three_parts (three_parts_of w) c.args.place (expr_tree c.args.one.expr) (expr_tree c.args.two.expr) (expr_tree c.args.three.expr))) (sym c.in-AtMost.is)
          (shows_node _ _ _ _ _ _ _ c.closed-in-AtMost.ensures.made
          (kind_tree-at_most c.args.place c.in_ok-one.one c.in_ok-two.two c.in_ok-three.three ∙ ap (λ e. trees.at_most c.args.place (expr_tree e) (expr_tree c.in_ok-two.two.value) (expr_tree c.in_ok-three.three.value)) c.in_ok-one.ensures.ok ∙ ap (λ e. trees.at_most c.args.place (expr_tree c.args.one.expr) (expr_tree e) (expr_tree c.in_ok-three.three.value)) c.in_ok-two.ensures.ok ∙ ap (λ e. trees.at_most c.args.place (expr_tree c.args.one.expr) (expr_tree c.args.two.expr) (expr_tree e)) c.in_ok-three.ensures.ok)
          (c.above-height.ensures.more _ (c.higher-2.ensures.greater _ _ c.requires.one.height (c.higher.ensures.greater _ _ c.requires.two.height c.requires.three.height))) refl refl);
    }
