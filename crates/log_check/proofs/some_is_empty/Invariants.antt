use Rattle.std.specs.Prelude.{◌≡◌, false, take}
use Rattle.std.specs.List.{list_any}
use Rattle.log_check.specs.Verdict.{is_empty_clause}
use Rattle.log_check.proofs.some_is_empty.Given as goal

abbrev pub invariant-loop-place : goal.invariant-loop-place
invariant-loop-place l = list_any is_empty_clause (take l.place l.clauses) ≡ false
