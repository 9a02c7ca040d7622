use Rattle.ep_size.proofs.Words.{length}
use Rattle.ep_size.proofs.slices.+keeps_each.Given as goal

abbrev pub decreases-keeps_each : goal.decreases-keeps_each
decreases-keeps_each l = length l.indices.now
