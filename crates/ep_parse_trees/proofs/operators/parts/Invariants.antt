-- The parts so far, and those that are still read, are all.
use Rattle.std.proofs.Common.{length, ◌∷◌, []}
use Rattle.ep_parse_trees.proofs.JunctionTurns.{SoFar}
use Rattle.ep_parse_parts.proofs.NameTurns.{continued}
use Rattle.ep_parse_trees.proofs.operators.parts.Given as goal
use Rattle.ep_parse_parts.specs.Founds.{lower}
use Rattle.ep_parse_trees.specs.Junctions.{more_parts}
use Rattle.ep_parse_parts.specs.Openings.{level_of}
use Rattle.ep_tree.specs.Views.{expr_tree}

abbrev pub invariant-more : goal.invariant-more
invariant-more g l =
    SoFar l.fn.below.most l.word (level_of l.level)
    (continued (expr_tree l.fn.first.expr ∷ []) (more_parts (lower l.fn.below.most) l.word (level_of l.level) (expr_tree l.fn.first.expr) l.fn.cursor)) l.parts l.cursor

abbrev pub decreases-more : goal.decreases-more
decreases-more g l = length l.cursor
