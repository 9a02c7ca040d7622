use Rattle.ep_base.proofs.RunSteps.{JoinedSoFar}
use Rattle.ep_base.proofs.run_lists.join_sorted.Given as goal

abbrev pub invariant-loop-part : goal.invariant-loop-part
invariant-loop-part l = JoinedSoFar l.parts l.part-index l.runs.items
