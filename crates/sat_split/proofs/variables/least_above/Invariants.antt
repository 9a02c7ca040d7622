use Rattle.std.specs.Prelude.{take}
use Rattle.sat_split.specs.Found.{IsLeastAbove}
use Rattle.sat_split.proofs.variables.least_above.Given as goal

abbrev pub invariant-loop-place : goal.invariant-loop-place
invariant-loop-place l = IsLeastAbove l.above (take l.place l.clauses) l.least
