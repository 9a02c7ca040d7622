use Rattle.std.proofs.Common.{take, ◌+ℤ◌}
use Rattle.enc_linear.specs.Bounds.{clipped}
use Rattle.enc_linear.proofs.Summing.{Rows}
use Rattle.enc_linear.proofs.joining.sums_of.Given as goal

abbrev pub invariant-loop-step : goal.invariant-loop-step
invariant-loop-step l = Rows (λ a b. clipped l.clip.low l.clip.high (a +ℤ b)) l.second.steps.items l.runs.items (take l.step-index l.first.steps.items)
