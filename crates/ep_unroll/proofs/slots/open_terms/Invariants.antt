use Rattle.ep_unroll.proofs.Words.{◌≡◌, ◌++◌, drop, open_terms}
use Rattle.ep_unroll.proofs.slots.open_terms.Given as goal

abbrev pub invariant-loop-slot : goal.invariant-loop-slot
invariant-loop-slot l = l.terms.items ++ open_terms (drop l.slot-index l.slots) ≡ open_terms l.slots
