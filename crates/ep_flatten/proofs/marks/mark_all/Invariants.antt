use Rattle.std.proofs.Common.{◌≡◌, take}
use Rattle.ep_flatten.specs.Marking.{marked}
use Rattle.ep_flatten.proofs.marks.mark_all.Given as goal

abbrev pub invariant-loop-term : goal.invariant-loop-term
invariant-loop-term l = l.marks.items ≡ marked l.initial.marks.items (take l.term-index l.terms)
