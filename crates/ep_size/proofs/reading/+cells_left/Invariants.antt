use Rattle.ep_size.proofs.Words.{length}
use Rattle.ep_size.proofs.reading.+cells_left.Given as goal

abbrev pub decreases-cells_left : goal.decreases-cells_left
decreases-cells_left l = length l.indices.now
