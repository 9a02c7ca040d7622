use Rattle.ep_unroll.proofs.NeedSteps.{ScalarsNeeded}
use Rattle.ep_unroll.proofs.needs.partial_scalars.Given as goal

abbrev pub invariant-loop-part : goal.invariant-loop-part
invariant-loop-part l = ScalarsNeeded l.fn.arena l.arena l.count l.parts l.part-index l.partial.items
