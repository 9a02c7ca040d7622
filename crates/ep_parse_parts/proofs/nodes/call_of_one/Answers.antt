use Rattle.std.proofs.Common.{ap, refl, subst, sym, true, false, ◌∙◌}
use Rattle.ep_parse_parts.proofs.NodeFacts.{joined_ends, joined_group, place_of_kind, shows_node}
use Rattle.ep_parse_parts.specs.Founds.{Makes, Shows, told}
use Rattle.ep_parse_parts.specs.OperandReaders.{one_part, three_parts}
use Rattle.ep_parse_parts.specs.Openings.{extreme_of, fold_of, one_part_of, three_parts_of}
use Rattle.ep_parse_parts.specs.OperatorReaders.{takes_group}
use Rattle.ep_tree.proofs.ViewLemmas.{kind_tree-all_different, kind_tree-factorial, kind_tree-flatten, kind_tree-folded, kind_tree-to_int}
use Rattle.ep_tree.specs.Heights.{height}
use Rattle.ep_tree.specs.Spelling.{binary_level, ends_open, own_level, rank, takes_own_group}
use Rattle.ep_tree.specs.Trees as trees
use Rattle.ep_tree.specs.Views.{domain_tree, expr_tree}
use Rattle.ep_parse_parts.proofs.nodes.call_of_one.Goals as goal

pub returns-in-ToInt : goal.returns-in-ToInt
unfolding height ends_open takes_group rank own_level takes_own_group binary_level
returns-in-ToInt c =
    record {
      made = subst (λ w. Shows c.closed.result (one_part (one_part_of w) c.args.place (expr_tree c.args.part.expr))) (sym c.in-ToInt.is)
          (shows_node _ _ _ _ _ _ _ c.closed.ensures.made (kind_tree-to_int c.args.place c.in_ok-part.part ∙ ap (λ e. trees.to_int c.args.place (expr_tree e)) c.in_ok-part.ensures.ok)
          (c.above-height.ensures.more _ c.requires.part.height) refl refl);
    }

pub returns-in-Factorial : goal.returns-in-Factorial
unfolding height ends_open takes_group rank own_level takes_own_group binary_level
returns-in-Factorial c =
    record {
      made = subst (λ w. Shows c.closed-in-Factorial.result (one_part (one_part_of w) c.args.place (expr_tree c.args.part.expr))) (sym c.in-Factorial.is)
          (shows_node _ _ _ _ _ _ _ c.closed-in-Factorial.ensures.made (kind_tree-factorial c.args.place c.in_ok-part.part ∙ ap (λ e. trees.factorial c.args.place (expr_tree e)) c.in_ok-part.ensures.ok)
          (c.above-height.ensures.more _ c.requires.part.height) refl refl);
    }

pub returns-in-Flatten : goal.returns-in-Flatten
unfolding height ends_open takes_group rank own_level takes_own_group binary_level
returns-in-Flatten c =
    record {
      made = subst (λ w. Shows c.closed-in-Flatten.result (one_part (one_part_of w) c.args.place (expr_tree c.args.part.expr))) (sym c.in-Flatten.is)
          (shows_node _ _ _ _ _ _ _ c.closed-in-Flatten.ensures.made (kind_tree-flatten c.args.place c.in_ok-part.part ∙ ap (λ e. trees.flatten c.args.place (expr_tree e)) c.in_ok-part.ensures.ok)
          (c.above-height.ensures.more _ c.requires.part.height) refl refl);
    }

pub returns-in-Fold : goal.returns-in-Fold
unfolding height ends_open takes_group rank own_level takes_own_group binary_level
returns-in-Fold c =
    record {
      made = subst (λ w. Shows c.closed-in-Fold.result (one_part (one_part_of w) c.args.place (expr_tree c.args.part.expr))) (sym c.in-Fold.is)
          (shows_node _ _ _ _ _ _ _ c.closed-in-Fold.ensures.made (kind_tree-folded c.args.place c.in-Fold.op c.in_ok-part.part ∙ ap (λ e. trees.folded c.args.place c.in-Fold.op (expr_tree e)) c.in_ok-part.ensures.ok)
          (c.above-height.ensures.more _ c.requires.part.height) refl refl);
    }

pub returns-in-AllDiff : goal.returns-in-AllDiff
unfolding height ends_open takes_group rank own_level takes_own_group binary_level
returns-in-AllDiff c =
    record {
      made = subst (λ w. Shows c.closed-in-AllDiff.result (one_part (one_part_of w) c.args.place (expr_tree c.args.part.expr))) (sym c.in-AllDiff.is)
          (shows_node _ _ _ _ _ _ _ c.closed-in-AllDiff.ensures.made (kind_tree-all_different c.args.place c.in_ok-part.part ∙ ap (λ e. trees.all_different c.args.place (expr_tree e)) c.in_ok-part.ensures.ok)
          (c.above-height.ensures.more _ c.requires.part.height) refl refl);
    }
