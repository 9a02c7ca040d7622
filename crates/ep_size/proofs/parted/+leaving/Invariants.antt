use Rattle.ep_size.proofs.Words.{◌+◌, ◌*◌, drop, length, map, measured_of}
use Rattle.ep_size.proofs.PartedSteps.{LeftSoFar}
use Rattle.ep_size.proofs.parted.+leaving.Given as goal

abbrev pub decreases-left_of : goal.decreases-left_of
decreases-left_of l = 4 * length l.indices.now

abbrev pub decreases-left_of_held : goal.decreases-left_of_held
decreases-left_of_held l = 4 * length l.rest.now + 3

abbrev pub decreases-left_in : goal.decreases-left_in
decreases-left_in l = 4 * length l.rest.now + 2

abbrev pub decreases-left_at : goal.decreases-left_at
decreases-left_at l = 4 * length l.rest.now + 1

abbrev pub decreases-left_of_each : goal.decreases-left_of_each
decreases-left_of_each l = 4 * length l.rest.now + 1

abbrev pub invariant-left_of_each-loop-part : goal.invariant-left_of_each-loop-part
invariant-left_of_each-loop-part l = LeftSoFar (map measured_of l.rest) l.parts (drop l.part-index l.parts) l.lefts.items
