use Rattle.std.proofs.Common.{take}
use Rattle.enc_linear.specs.Terms.{HoldsSteps}
use Rattle.enc_linear.proofs.bounds.bounds_of.Given as goal

abbrev pub invariant-loop-step : goal.invariant-loop-step
invariant-loop-step l = HoldsSteps l.bounds (take l.step-index l.steps)
