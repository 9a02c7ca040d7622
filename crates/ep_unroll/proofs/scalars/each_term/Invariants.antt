use Rattle.ep_unroll.proofs.ScalarSteps.{EachSoFar}
use Rattle.ep_unroll.proofs.scalars.each_term.Given as goal

abbrev pub invariant-loop-scalar : goal.invariant-loop-scalar
invariant-loop-scalar l = EachSoFar l.fn.arena l.arena l.scalars l.scalar-index l.terms.items
