use Rattle.std.proofs.Common.{◌≡◌, map, take}
use Rattle.enc_linear.specs.Terms.{mirrored_step}
use Rattle.enc_linear.proofs.making.mirrored.Given as goal

abbrev pub invariant-loop-step : goal.invariant-loop-step
invariant-loop-step l = l.steps.items ≡ map mirrored_step (take l.step-index l.step-items)
