use Rattle.std.proofs.Common.{◌≡◌, take}
use Rattle.std.specs.Prelude.{map}
use Rattle.ep_flatten.specs.Saying.{variable_at}
use Rattle.ep_flatten.proofs.lists.placed_parts.Given as goal

abbrev pub invariant-loop-part : goal.invariant-loop-part
invariant-loop-part l = l.made.items ≡ map (λ p. (p.0, variable_at l.places p.1)) (take l.part-index l.parts)
