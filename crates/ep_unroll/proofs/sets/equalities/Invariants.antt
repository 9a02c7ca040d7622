use Rattle.ep_unroll.proofs.SetSteps.{EqualitiesSoFar}
use Rattle.ep_unroll.proofs.sets.equalities.Given as goal

abbrev pub invariant-loop-term : goal.invariant-loop-term
invariant-loop-term l = EqualitiesSoFar l.fn.arena l.arena l.part l.terms l.term-index l.tests.items
