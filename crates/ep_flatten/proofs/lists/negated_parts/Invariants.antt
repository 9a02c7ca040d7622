use Rattle.std.proofs.Common.{◌≡◌, take}
use Rattle.std.specs.Prelude.{map, neg_ℤ}
use Rattle.ep_flatten.specs.Saying.{variable_at}
use Rattle.ep_flatten.proofs.lists.negated_parts.Given as goal

abbrev pub invariant-loop-part : goal.invariant-loop-part
invariant-loop-part l = l.made.items ≡ map (λ p. (neg_ℤ p.0, variable_at l.places p.1)) (take l.part-index l.parts)
