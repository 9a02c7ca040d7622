use Rattle.ep_size.proofs.Words.{◌≡◌, ◌++◌, drop, length, map, plain_span, measured_of}
use Rattle.ep_size.proofs.RemainingSteps.{left_parts}
use Rattle.ep_size.proofs.remaining.+add_left.Given as goal

abbrev pub decreases-add_left : goal.decreases-add_left
decreases-add_left l = length l.indices.now

abbrev pub invariant-loop-part : goal.invariant-loop-part
invariant-loop-part l =
    map plain_span l.spans.items ++ left_parts (map measured_of l.rest) (drop l.part-index l.part-items) ≡ map plain_span l.fn.spans.items ++ left_parts (map measured_of l.rest) l.part-items
