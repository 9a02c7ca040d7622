use Rattle.std.proofs.Common.{take}
use Rattle.opb_text.specs.Sums.{IsSumOf}
use Rattle.opb_text.proofs.sums.spread.Given as goal

abbrev pub invariant-loop-term : goal.invariant-loop-term
invariant-loop-term l = IsSumOf l.vars (take l.term-index l.terms) l.parts.items l.constant
