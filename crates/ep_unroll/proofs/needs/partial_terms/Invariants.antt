use Rattle.ep_unroll.proofs.NeedSteps.{PartialSoFar}
use Rattle.ep_unroll.proofs.needs.partial_terms.Given as goal

abbrev pub invariant-loop-term : goal.invariant-loop-term
invariant-loop-term l = PartialSoFar l.arena l.count l.terms l.term-index l.partial.items
