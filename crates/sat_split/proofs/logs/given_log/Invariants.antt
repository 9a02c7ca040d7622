use Rattle.std.specs.Prelude.{◌≡◌, [], take}
use Rattle.sat_split.specs.Cubes.{all_given}
use Rattle.sat_split.proofs.logs.given_log.Given as goal

abbrev pub invariant-loop-place : goal.invariant-loop-place
invariant-loop-place l = l.log ≡ record { events = all_given (take l.place l.clauses); notes = []; base = 0 }
