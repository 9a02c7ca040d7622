use Rattle.std.specs.Prelude.{◌≡◌, length}
use Rattle.sat_join.specs.Joins.{RefutesCubes}
use Rattle.join_cubes.proofs.answer.join_all.Given as goal

abbrev pub invariant-loop-name : goal.invariant-loop-name
invariant-loop-name g l = record {
  joint : RefutesCubes l.formula.clauses l.vars l.ends.items l.joined.events;
  count : length l.ends.items ≡ l.name-index;
}
