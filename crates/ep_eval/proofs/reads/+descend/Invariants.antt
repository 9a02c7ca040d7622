use Rattle.ep_eval.proofs.Words.{length}
use Rattle.ep_eval.proofs.reads.+descend.Given as goal

abbrev pub decreases-descend : goal.decreases-descend
decreases-descend l = length l.indices.now
