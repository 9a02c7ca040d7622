use Rattle.std.proofs.Common.{◌≡◌, map, take}
use Rattle.enc_linear.specs.Bounds.{raised_step}
use Rattle.enc_linear.proofs.making.raised.Given as goal

abbrev pub invariant-loop-step : goal.invariant-loop-step
invariant-loop-step l = l.steps.items ≡ map (raised_step l.raise.from l.raise.by) (take l.step-index l.step-items)
