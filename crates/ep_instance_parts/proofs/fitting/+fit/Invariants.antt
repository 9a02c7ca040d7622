use Rattle.ep_instance_parts.proofs.FitSteps.{FitsSoFar}
use Rattle.ep_instance_parts.proofs.fitting.+fit.Given as goal

abbrev pub invariant-loop-part : goal.invariant-loop-part
invariant-loop-part l = FitsSoFar l.elements l.own l.wanted l.inner l.part-items l.part-index l.fitted.items
