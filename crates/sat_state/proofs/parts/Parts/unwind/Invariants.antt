use Rattle.std.proofs.Common.{◌≡◌, ◌≤◌, length, take, filter, nat_le}
use Rattle.cnf_core.specs.Steps.{IsAtEnd}
use Rattle.sat_state.specs.Trail.{literals, level_of, IsGrounded}
use Rattle.sat_state.proofs.parts.Parts.unwind.Given as goal

abbrev pub invariant-above : goal.invariant-above
invariant-above l = record {
  grounded : IsGrounded l.initial.self.clauses.lists l.self.assigned.trail;
  clauses : l.self.clauses ≡ l.initial.self.clauses;
  watches : l.self.watches ≡ l.initial.self.watches;
  queue : l.self.queue ≡ l.initial.self.queue;
  vars : l.self.assigned.vars ≡ l.initial.self.assigned.vars;
  reached : l.level ≤ level_of l.self.assigned.trail;
  front : take (length l.self.assigned.trail) l.initial.self.assigned.trail ≡ l.self.assigned.trail;
  kept : filter (λ e. nat_le e.level l.level) l.initial.self.assigned.trail ≡ filter (λ e. nat_le e.level l.level) l.self.assigned.trail;
  at_end : level_of l.self.assigned.trail ≡ l.level → IsAtEnd (literals l.self.assigned.trail) l.initial.self.clauses.lists;
}

abbrev pub decreases-above : goal.decreases-above
decreases-above l = length l.self.assigned.trail
