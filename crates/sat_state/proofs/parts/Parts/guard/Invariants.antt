use Rattle.std.proofs.Common.{take, All}
use Rattle.sat_state.specs.Guards.{IsTrueBy}
use Rattle.sat_state.proofs.parts.Parts.guard.Given as goal

abbrev pub invariant-loop-found : goal.invariant-loop-found
invariant-loop-found l = All (λ x. IsTrueBy l.self.assigned.trail x l.level → ⊥) (take l.found-index l.lits)
