use Rattle.std.proofs.Common.{◌≡◌, map, take}
use Rattle.ep_defined.specs.Images.{total_at}
use Rattle.ep_defined.proofs.images.totals.Given as goal

abbrev pub invariant-loop-term : goal.invariant-loop-term
invariant-loop-term l = l.totals.items ≡ map (total_at l.images) (take l.term-index l.terms)
