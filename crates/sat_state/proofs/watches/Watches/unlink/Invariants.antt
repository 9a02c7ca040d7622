use Rattle.std.proofs.Common.{◌≡◌, length, Contains}
use Rattle.sat_state.proofs.watches.Watches.unlink.Given as goal

-- the entry waits, and nothing has changed but what is walked
abbrev pub invariant-look : goal.invariant-look
invariant-look l = record {
  lits : l.self.lits ≡ l.fn.self.lits;
  fars : l.self.fars ≡ l.fn.self.fars;
  stands : l.self.stands ≡ l.fn.self.stands;
  lists : l.self.lists ≡ l.fn.self.lists;
  waits : Contains l.self.waiting l.entry;
}

abbrev pub decreases-look : goal.decreases-look
decreases-look l = length l.self.waiting
