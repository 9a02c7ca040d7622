-- What was read, and the reads of it that follow, are all that is read.
use Rattle.std.proofs.Common.{◌≡◌, length}
use Rattle.ep_parse_trees.proofs.reads.reads_of.Given as goal
use Rattle.ep_parse_parts.specs.Founds.{Measured, lower}
use Rattle.ep_parse_parts.specs.OperatorReaders.{another_read}
use Rattle.ep_parse_parts.specs.Readers.{grown}
use Rattle.ep_tree.specs.Views.{expr_tree}

abbrev pub invariant-more : goal.invariant-more
invariant-more g l =
    (grown (another_read l.fn.below.most (lower l.fn.below.most)) (expr_tree l.found.expr) l.cursor
    ≡ grown (another_read l.fn.below.most (lower l.fn.below.most)) (expr_tree l.fn.first.expr) l.fn.cursor)
    × Measured l.found

abbrev pub decreases-more : goal.decreases-more
decreases-more g l = length l.cursor
