use Rattle.ep_size.proofs.Words.{drop}
use Rattle.ep_size.proofs.PartedSteps.{OpenedSoFar}
use Rattle.ep_size.proofs.parted.+opened_value.Given as goal

abbrev pub invariant-loop-part : goal.invariant-loop-part
invariant-loop-part l = OpenedSoFar l.part-items (drop l.part-index l.part-items) l.inner.items
