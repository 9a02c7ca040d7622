use Rattle.std.specs.Prelude.{◌≡◌, ◌+◌, ◌≤◌, length, take}
use Rattle.cnf_core.specs.Steps.{NonEmptyStepsAreEffective}
use Rattle.sat_join.specs.Joins.{KeepsNew}
use Rattle.sat_join.proofs.Growing.{IsJoining}
use Rattle.sat_join.proofs.Settings.{HaveLiterals}
use Rattle.sat_join.proofs.joining.join_cube.Given as goal

abbrev pub invariant-loop-place : goal.invariant-loop-place
invariant-loop-place l = record {
  from : length l.givens + length l.literals.items ≤ l.place;
  joining : IsJoining l.givens l.vars l.ends.items l.literals.items l.first (take l.place l.events) l.joined.events;
  new_steps : NonEmptyStepsAreEffective l.refuted.events → KeepsNew l.fn.joined.events l.joined.events;
  some : HaveLiterals (length l.givens + length l.literals.items) l.place l.events;
  ends : l.ends ≡ l.fn.ends;
  notes : l.joined.notes ≡ l.fn.joined.notes;
  base : l.joined.base ≡ l.fn.joined.base;
}
