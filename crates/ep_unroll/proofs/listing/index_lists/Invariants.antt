use Rattle.ep_unroll.proofs.Words.{◌≡◌, ◌-◌, drop, length, index_lists}
use Rattle.ep_unroll.proofs.listing.index_lists.Given as goal

abbrev pub invariant-loop-passed : goal.invariant-loop-passed
invariant-loop-passed l = l.keys.items ≡ index_lists (drop (length l.domains - l.passed) l.domains)
