use Rattle.ep_unroll.proofs.Words.{drop}
use Rattle.ep_unroll.proofs.FlatSteps.{PartsFlat}
use Rattle.ep_unroll.proofs.flattening.+push_scalars.Given as goal

abbrev pub invariant-loop-part : goal.invariant-loop-part
invariant-loop-part l = PartsFlat l.fn.parts.items l.parts.items l.part-items (drop l.part-index l.part-items)
