use Rattle.ep_unroll.proofs.Words.{length}
use Rattle.ep_unroll.proofs.comprehensions.+conditions_hold.Given as goal

abbrev pub decreases-conditions_hold : goal.decreases-conditions_hold
decreases-conditions_hold l = length l.conditions.now
