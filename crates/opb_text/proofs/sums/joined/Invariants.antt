use Rattle.std.proofs.Common.{take}
use Rattle.opb_text.specs.Sums.{PartsComeTo}
use Rattle.opb_text.proofs.sums.joined.Given as goal

abbrev pub invariant-loop-part : goal.invariant-loop-part
invariant-loop-part l = PartsComeTo (take l.part-index l.parts) l.joined.items
