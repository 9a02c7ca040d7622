use Rattle.std.proofs.Common.{◌≡◌, ◌*◌, ◌≤◌, ◌^◌, take}
use Rattle.opb_text.specs.Weights.{factors_reach}
use Rattle.opb_text.proofs.measure.factors_reach.Given as goal

abbrev pub invariant-loop-term : goal.invariant-loop-term
invariant-loop-term l = (l.size ≡ factors_reach (take l.term-index l.terms)) × (l.size ≤ l.term-index * 2 ^ 63)
