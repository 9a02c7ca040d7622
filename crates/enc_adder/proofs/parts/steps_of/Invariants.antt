use Rattle.enc_adder.proofs.Halves.{StepsSoFar}
use Rattle.enc_adder.proofs.parts.steps_of.Given as goal

abbrev pub invariant-loop-value : goal.invariant-loop-value
invariant-loop-value l = StepsSoFar l.value-items l.value-index l.size l.least l.steps.items
