use Rattle.std.proofs.Common.{◌≡◌}
use Rattle.ep_base.specs.Numbers.{nth_power}
use Rattle.ep_flatten.proofs.intervals.multiplied.Given as goal

abbrev pub invariant-loop-step : goal.invariant-loop-step
invariant-loop-step l = l.power ≡ nth_power l.fn.base l._step
