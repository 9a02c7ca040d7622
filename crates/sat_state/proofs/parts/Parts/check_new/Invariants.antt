use Rattle.std.proofs.Common.{◌-◌, length}
use Rattle.sat_state.specs.Joined.{GoesOn}
use Rattle.sat_state.proofs.parts.Parts.check_new.Given as goal

abbrev pub invariant-loop-self : goal.invariant-loop-self
invariant-loop-self l = GoesOn l.initial.self l.self

abbrev pub decreases-loop-self : goal.decreases-loop-self
decreases-loop-self l = length l.self.clauses.lists - l.self.queue.checked
