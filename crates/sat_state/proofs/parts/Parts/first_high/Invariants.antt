use Rattle.std.proofs.Common.{◌≢◌}
use Rattle.std.specs.List.{AllWithin}
use Rattle.cnf_core.specs.Literal.{code_of}
use Rattle.sat_state.specs.Joined.{IsNotLow}
use Rattle.sat_state.proofs.parts.Parts.first_high.Given as goal

abbrev pub invariant-loop-lit : goal.invariant-loop-lit
invariant-loop-lit l = AllWithin (λ x. code_of x ≢ l.skipped → IsNotLow l.self.assigned.trail x → ⊥) l.lits 0 l.lit-index
