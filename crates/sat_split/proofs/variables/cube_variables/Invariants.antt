use Rattle.std.specs.Prelude.{◌≡◌, length}
use Rattle.sat_split.specs.Found.{AreNamedUpTo}
use Rattle.sat_split.proofs.variables.cube_variables.Given as goal

abbrev pub invariant-loop-place : goal.invariant-loop-place
invariant-loop-place l = record {
  gathered : AreNamedUpTo l.clauses l.above l.vars.items;
  count : length l.vars.items ≡ l._place;
}
