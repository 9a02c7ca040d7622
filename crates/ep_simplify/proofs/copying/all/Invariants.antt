use Rattle.std.proofs.Common.{◌≡◌, map, take}
use Rattle.ep_simplify.specs.Standing.{standing_at}
use Rattle.ep_simplify.proofs.copying.all.Given as goal

abbrev pub invariant-loop-term : goal.invariant-loop-term
invariant-loop-term l = l.parts.items ≡ map (standing_at l.images) (take l.term-index l.terms)
