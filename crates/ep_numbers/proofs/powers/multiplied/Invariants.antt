use Rattle.std.proofs.Common.{◌≡◌}
use Rattle.ep_base.specs.Numbers.{nth_power}
use Rattle.ep_base.specs.Reads.{IsWithinNumbers}
use Rattle.ep_numbers.proofs.powers.multiplied.Given as goal

abbrev pub invariant-loop-step : goal.invariant-loop-step
invariant-loop-step l = record { value : l.power ≡ nth_power l.fn.base l._step; near : IsWithinNumbers l.power }
