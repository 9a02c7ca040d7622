use Rattle.ep_unroll.proofs.Words.{◌≡◌, ◌∷◌, take, flat_map, map}
use Rattle.ep_unroll.proofs.listing.crossed.Given as goal

abbrev pub invariant-loop-number : goal.invariant-loop-number
invariant-loop-number l = l.keys.items ≡ flat_map (λ i. map (λ rest. i ∷ rest) l.others) (take l.number-index l.numbers)
