use Rattle.std.proofs.Common.{◌≡◌, ◌≢◌, true}
use Rattle.std.specs.List.{AllWithin}
use Rattle.sat_state.specs.Trail.{literals}
use Rattle.sat_state.specs.Guards.{is_false}
use Rattle.sat_state.proofs.clauses.open_place.Given as goal

abbrev pub invariant-loop-place : goal.invariant-loop-place
invariant-loop-place l = AllWithin (λ x. x ≢ l.fn.lit → is_false (literals l.assigned.trail) x ≡ true) l.lits l.from l.place
