use Rattle.ep_size.proofs.Words.{length}
use Rattle.ep_size.proofs.reading.+one_decided.Given as goal

abbrev pub decreases-one_decided : goal.decreases-one_decided
decreases-one_decided l = length l.indices.now
