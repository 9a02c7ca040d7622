use Rattle.ep_unroll.proofs.Words.{◌≡◌, pos, counting}
use Rattle.ep_unroll.proofs.flattening.places_of.Given as goal

abbrev pub invariant-loop-i : goal.invariant-loop-i
invariant-loop-i l = l.places.items ≡ counting (pos 1) l.i
