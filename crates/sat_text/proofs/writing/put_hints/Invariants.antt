use Rattle.std.proofs.Common.{◌≡◌, ◌++◌, map, take, pos, slice_index}
use Rattle.sat_text.specs.Writing.{spaced}
use Rattle.sat_text.proofs.writing.put_hints.Given as goal

abbrev pub invariant-loop-hint : goal.invariant-loop-hint
invariant-loop-hint l = l.out.items ≡ l.initial.out.items ++ spaced (map (λ hint. pos (slice_index l.ids hint)) (take l.hint-index l.hints))
