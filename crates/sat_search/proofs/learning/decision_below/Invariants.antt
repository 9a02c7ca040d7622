use Rattle.std.proofs.Common.{◌≤◌}
use Rattle.sat_search.specs.Analysis.{IsUnmarkedBetween}
use Rattle.sat_search.proofs.learning.decision_below.Given as goal

abbrev pub invariant-loop-below : goal.invariant-loop-below
invariant-loop-below l = record {
  within : l.below ≤ l.place;
  alone : IsUnmarkedBetween l.trail l.marks l.below l.place;
}

abbrev pub decreases-loop-below : goal.decreases-loop-below
decreases-loop-below l = l.below
