use Rattle.ep_size.proofs.Words.{drop}
use Rattle.ep_size.proofs.PartedSteps.{CopiedSoFar}
use Rattle.ep_size.proofs.parted.+copied.Given as goal

abbrev pub invariant-loop-part : goal.invariant-loop-part
invariant-loop-part l = CopiedSoFar l.part-items (drop l.part-index l.part-items) l.inner.items
