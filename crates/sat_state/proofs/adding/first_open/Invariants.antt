use Rattle.std.proofs.Common.{◌≡◌, ◌≢◌, true}
use Rattle.std.specs.List.{AllWithin}
use Rattle.cnf_core.specs.Literal.{code_of}
use Rattle.sat_state.specs.Trail.{literals}
use Rattle.sat_state.specs.Guards.{is_false}
use Rattle.sat_state.proofs.adding.first_open.Given as goal

abbrev pub invariant-loop-lit : goal.invariant-loop-lit
invariant-loop-lit l = AllWithin (λ x. code_of x ≢ l.skipped → is_false (literals l.assigned.trail) x ≡ true) l.lits 0 l.lit-index
