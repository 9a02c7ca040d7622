-- The terms so far, and those that are still read, are all.
use Rattle.std.proofs.Common.{length, true, ◌∷◌, []}
use Rattle.ep_parse_parts.proofs.NameTurns.{continued}
use Rattle.ep_parse_trees.proofs.TermTurns.{SoFar}
use Rattle.ep_parse_trees.proofs.operators.terms.Given as goal
use Rattle.ep_parse_parts.specs.Founds.{lower}
use Rattle.ep_parse_trees.specs.Junctions.{more_terms}
use Rattle.ep_tree.specs.Views.{expr_tree}

abbrev pub invariant-more : goal.invariant-more
invariant-more g l =
    SoFar l.fn.below.most
    (continued ((true, expr_tree l.fn.first.expr) ∷ []) (more_terms (lower l.fn.below.most) (true, expr_tree l.fn.first.expr) l.fn.cursor)) l.terms l.cursor

abbrev pub decreases-more : goal.decreases-more
decreases-more g l = length l.cursor
