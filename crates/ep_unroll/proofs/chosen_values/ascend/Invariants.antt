use Rattle.ep_unroll.proofs.AscendSteps.{AscendSoFar}
use Rattle.ep_unroll.proofs.chosen_values.ascend.Given as goal

abbrev pub invariant-loop-number : goal.invariant-loop-number
invariant-loop-number l = AscendSoFar l.numbers l.number-index l.last
