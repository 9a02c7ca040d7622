use Rattle.ep_unroll.proofs.Words.{length}
use Rattle.ep_unroll.proofs.reads.+are_every.Given as goal

abbrev pub decreases-are_every : goal.decreases-are_every
decreases-are_every l = length l.indices.now
