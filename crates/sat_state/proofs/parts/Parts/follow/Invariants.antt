use Rattle.std.proofs.Common.{◌≡◌, ◌+◌, ◌-◌, ◌*◌, length}
use Rattle.sat_state.specs.Joined.{GoesOn}
use Rattle.sat_state.proofs.parts.Parts.follow.Given as goal

abbrev pub invariant-follow : goal.invariant-follow
invariant-follow l = record {
  goes : GoesOn l.initial.self l.self;
  checked : l.self.queue.checked ≡ length l.self.clauses.lists;
}

abbrev pub decreases-follow : goal.decreases-follow
decreases-follow l = 2 * l.self.assigned.vars - (l.self.queue.head + l.self.queue.far)
