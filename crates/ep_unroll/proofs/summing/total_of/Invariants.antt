use Rattle.ep_unroll.proofs.SummingSteps.{TotalSoFar}
use Rattle.ep_unroll.proofs.summing.total_of.Given as goal

abbrev pub invariant-loop-part : goal.invariant-loop-part
invariant-loop-part l = TotalSoFar l.fn.arena l.arena l.parts l.part-index l.terms.items l.constant
