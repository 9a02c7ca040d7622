use Rattle.ep_size.proofs.Words.{◌+◌, ◌*◌, length, IsWalk, numbers_left}
use Rattle.ep_size.proofs.SliceParts.{EachSoFar}
use Rattle.ep_size.proofs.slices.+parting.Given as goal

abbrev pub decreases-cells_part : goal.decreases-cells_part
decreases-cells_part l = 2 * length l.indices.now

abbrev pub decreases-cells_each : goal.decreases-cells_each
decreases-cells_each l = 2 * length l.rest.now + 1

abbrev pub decreases-cells_each-loop-number : goal.decreases-cells_each-loop-number
decreases-cells_each-loop-number l = length (numbers_left l.walk)

abbrev pub invariant-cells_each-loop-number : goal.invariant-cells_each-loop-number
invariant-cells_each-loop-number l =
    (IsWalk l.walk) × EachSoFar l.rest l.inner l.domain l.span l.numbers.items (numbers_left l.walk) l.parts.items
