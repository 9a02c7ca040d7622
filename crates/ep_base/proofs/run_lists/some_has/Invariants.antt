use Rattle.std.proofs.Common.{◌-◌}
use Rattle.ep_base.proofs.RunSteps.{LiesBetween}
use Rattle.ep_base.proofs.run_lists.some_has.Given as goal

abbrev pub invariant-loop-low : goal.invariant-loop-low
invariant-loop-low l = LiesBetween l.runs l.number l.low l.high

abbrev pub decreases-loop-low : goal.decreases-loop-low
decreases-loop-low l = l.high - l.low
