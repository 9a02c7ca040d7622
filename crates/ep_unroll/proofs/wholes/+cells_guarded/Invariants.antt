use Rattle.ep_unroll.proofs.Words.{length}
use Rattle.ep_unroll.proofs.wholes.+cells_guarded.Given as goal

abbrev pub decreases-cells_guarded : goal.decreases-cells_guarded
decreases-cells_guarded l = length l.domains.now
