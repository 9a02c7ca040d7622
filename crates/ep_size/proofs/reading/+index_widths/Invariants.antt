use Rattle.ep_size.proofs.Words.{length}
use Rattle.ep_size.proofs.reading.+index_widths.Given as goal

abbrev pub decreases-index_widths : goal.decreases-index_widths
decreases-index_widths l = length l.indices.now
