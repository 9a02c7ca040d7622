use Rattle.ep_unroll.proofs.Words.{◌≡◌, ◌∷◌, ◌++◌, take, map}
use Rattle.ep_unroll.proofs.listing.push_all_behind.Given as goal

abbrev pub invariant-loop-other : goal.invariant-loop-other
invariant-loop-other l = l.keys.items ≡ l.initial.keys.items ++ map (λ rest. l.number ∷ rest) (take l.other-index l.others)
