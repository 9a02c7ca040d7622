use Rattle.ep_size.proofs.Words.{◌≡◌, ◌++◌, drop, length, map, plain_span, measured_of}
use Rattle.ep_size.proofs.KnownParts.{left_known}
use Rattle.ep_size.proofs.picked.+add_known.Given as goal

abbrev pub decreases-add_known : goal.decreases-add_known
decreases-add_known l = length l.indices.now

abbrev pub invariant-loop-part : goal.invariant-loop-part
invariant-loop-part l =
    map plain_span l.spans.items ++ left_known (map measured_of l.rest) (drop l.part-index l.part-items) ≡ map plain_span l.fn.spans.items ++ left_known (map measured_of l.rest) l.part-items
