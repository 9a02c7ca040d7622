-- What was read so far, and what is still read, are all that is read.
use Rattle.std.proofs.Common.{length}
use Rattle.ep_parse_below.proofs.ListLoops.{IndicesLeft}
use Rattle.ep_parse_trees.proofs.reads.indices.Given as goal

abbrev pub invariant-more : goal.invariant-more
invariant-more g l = IndicesLeft l.fn.below.most l.indices l.cursor l.fn.cursor

abbrev pub decreases-more : goal.decreases-more
decreases-more g l = length l.cursor
