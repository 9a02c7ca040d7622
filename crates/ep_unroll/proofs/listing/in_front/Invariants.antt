use Rattle.ep_unroll.proofs.Words.{◌≡◌, ◌∷◌, take}
use Rattle.ep_unroll.proofs.listing.in_front.Given as goal

abbrev pub invariant-loop-other : goal.invariant-loop-other
invariant-loop-other l = l.all.items ≡ l.number ∷ take l.other-index l.others
