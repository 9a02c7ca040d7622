use Rattle.std.proofs.Common.{take}
use Rattle.enc_linear.specs.Bounds.{HasBounds}
use Rattle.enc_linear.proofs.bounds.bounds_of_sum.Given as goal

abbrev pub invariant-loop-term : goal.invariant-loop-term
invariant-loop-term l = HasBounds l.bounds (take l.term-index l.terms)
