use Rattle.std.proofs.Common.{◌≡◌, ◌≤◌, take}
use Rattle.std.specs.Prelude.{count_by}
use Rattle.cnf_core.specs.Events.{is_given}
use Rattle.sat_text.proofs.writing.count_givens.Given as goal

abbrev pub invariant-loop-place : goal.invariant-loop-place
invariant-loop-place l = record {
  count : l.count ≡ count_by is_given (take l.place l.events);
  few : l.count ≤ l.place;
}
