use Rattle.ep_size.proofs.Words.{◌≡◌, ◌++◌, drop, map, plain_span}
use Rattle.ep_size.proofs.ScalarParts.{fixed_parts}
use Rattle.ep_size.proofs.scalars.+add_value.Given as goal

abbrev pub invariant-loop-part : goal.invariant-loop-part
invariant-loop-part l =
    map plain_span l.spans.items ++ fixed_parts (drop l.part-index l.part-items) ≡ map plain_span l.fn.spans.items ++ fixed_parts l.part-items
