use Rattle.ep_unroll.proofs.Words.{◌+◌, ◌*◌, drop, length}
use Rattle.ep_unroll.proofs.EntrySteps.{PartsPassed}
use Rattle.ep_unroll.proofs.entries.+opening.Given as goal

abbrev pub decreases-known_entries : goal.decreases-known_entries
decreases-known_entries l = 4 * length l.slots.now + 1

abbrev pub decreases-entries_at : goal.decreases-entries_at
decreases-entries_at l = 4 * length l.rest.now + 2

abbrev pub decreases-entries_under : goal.decreases-entries_under
decreases-entries_under l = 4 * length l.rest.now + 3

abbrev pub decreases-entries_of_each : goal.decreases-entries_of_each
decreases-entries_of_each l = 4 * length l.rest.now + 2

abbrev pub invariant-entries_of_each-loop-place : goal.invariant-entries_of_each-loop-place
invariant-entries_of_each-loop-place l =
    PartsPassed l.fn.arena l.arena l.rest l.own (drop l.place l.own) l.parts (drop l.place l.parts) l.keys.items l.terms.items
