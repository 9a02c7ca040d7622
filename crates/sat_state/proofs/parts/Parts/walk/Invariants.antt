use Rattle.std.proofs.Common.{◌≡◌, length}
use Rattle.sat_state.specs.Joined.{GoesOn, IsWalking}
use Rattle.sat_state.proofs.parts.Parts.walk.Given as goal

abbrev pub invariant-walk : goal.invariant-walk
invariant-walk l = record {
  goes : GoesOn l.fn.self l.self;
  walking : IsWalking l.self;
  queue : l.self.queue ≡ l.fn.self.queue;
  literal : l.self.watches.walked ≡ l.lit;
  far : l.self.watches.walks_far ≡ l.far;
}

abbrev pub decreases-walk : goal.decreases-walk
decreases-walk l = length l.self.watches.waiting
