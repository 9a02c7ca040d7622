use Rattle.ep_size.proofs.Words.{length}
use Rattle.ep_size.proofs.slices.+are_told.Given as goal

abbrev pub decreases-are_told : goal.decreases-are_told
decreases-are_told l = length l.indices.now
