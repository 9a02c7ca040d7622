use Rattle.std.proofs.Common.{◌≡◌, ◌+◌, ◌≤◌, ℕ, cond, take}
use Rattle.sat_state.specs.Watching.{listed_at}
use Rattle.sat_state.specs.Joined.{AreJoined, has_code}
use Rattle.sat_state.proofs.parts.Parts.make_room.Given as goal

abbrev pub invariant-loop-lit : goal.invariant-loop-lit
invariant-loop-lit l = record {
  joined : AreJoined l.self;
  clauses : l.self.clauses ≡ l.fn.self.clauses;
  assigned : l.self.assigned ≡ l.fn.self.assigned;
  queue : l.self.queue ≡ l.fn.self.queue;
  room : l.self.watches.room ≡ l.fn.self.watches.room;
  lits : l.self.watches.lits ≡ l.fn.self.watches.lits;
  lists : l.self.watches.lists ≡ l.fn.self.watches.lists;
  more : (code : ℕ) → (listed_at l.fn.self.watches.stands code).room + cond (has_code (take l.lit-index l.lits) code) 1 0 ≤ (listed_at l.self.watches.stands code).room;
}
