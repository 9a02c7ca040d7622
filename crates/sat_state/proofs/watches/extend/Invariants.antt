use Rattle.std.proofs.Common.{◌≡◌, ◌-◌, ◌≤◌, ℕ, length, max}
use Rattle.sat_state.specs.Watching.{listed_at}
use Rattle.sat_state.proofs.watches.extend.Given as goal

abbrev pub invariant-extend : goal.invariant-extend
invariant-extend l = record {
  same : (code : ℕ) → listed_at l.lists.items code ≡ listed_at l.fn.lists.items code;
  kept : length l.fn.lists.items ≤ length l.lists.items;
  most : length l.lists.items ≤ max (length l.fn.lists.items) l.wanted;
}

abbrev pub decreases-extend : goal.decreases-extend
decreases-extend l = l.wanted - length l.lists.items
