use Rattle.std.proofs.Common.{◌≡◌, take}
use Rattle.std.specs.Prelude.{map}
use Rattle.ep_flatten.specs.Marking.{marked}
use Rattle.ep_flatten.proofs.marks.mark_weighed.Given as goal

abbrev pub invariant-loop-part : goal.invariant-loop-part
invariant-loop-part l = l.marks.items ≡ marked l.initial.marks.items (map (λ p. p.1) (take l.part-index l.parts))
