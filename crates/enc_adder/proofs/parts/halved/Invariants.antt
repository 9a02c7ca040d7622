use Rattle.std.proofs.Common.{◌≡◌, map, take}
use Rattle.enc_adder.specs.Parts.{half_step}
use Rattle.enc_adder.proofs.parts.halved.Given as goal

abbrev pub invariant-loop-step : goal.invariant-loop-step
invariant-loop-step l = l.halves.items ≡ map half_step (take l.step-index l.steps)
