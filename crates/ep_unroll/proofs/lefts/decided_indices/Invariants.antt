use Rattle.ep_unroll.proofs.Words.{◌≡◌, ℤ, List, Some, map, take, GroundNode, indices_in, slot_index}
use Rattle.ep_unroll.proofs.lefts.decided_indices.Given as goal

abbrev pub invariant-loop-slot : goal.invariant-loop-slot
invariant-loop-slot l = (nodes : List GroundNode) → (numbers : List ℤ) → map (slot_index nodes numbers) (take l.slot-index l.slots) ≡ map Some (indices_in l.indices.items)
