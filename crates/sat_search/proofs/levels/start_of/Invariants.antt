use Rattle.std.proofs.Common.{◌-◌, ◌≤◌, length}
use Rattle.sat_search.proofs.levels.start_of.Given as goal

abbrev pub invariant-loop-low : goal.invariant-loop-low
invariant-loop-low l = l.high ≤ length l.trail

abbrev pub decreases-loop-low : goal.decreases-loop-low
decreases-loop-low l = l.high - l.low
