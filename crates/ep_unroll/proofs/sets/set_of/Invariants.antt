use Rattle.ep_unroll.proofs.Words.{◌≡◌, take, map}
use Rattle.ep_unroll.proofs.SetSteps.{one_run}
use Rattle.ep_unroll.proofs.sets.set_of.Given as goal

abbrev pub invariant-loop-number : goal.invariant-loop-number
invariant-loop-number l = l.parts.items ≡ map one_run (take l.number-index l.numbers)
