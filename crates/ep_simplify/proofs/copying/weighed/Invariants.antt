use Rattle.std.proofs.Common.{◌≡◌, ℕ, ℤ, map, take}
use Rattle.ep_simplify.specs.Standing.{standing_at}
use Rattle.ep_simplify.proofs.copying.weighed.Given as goal

abbrev pub invariant-loop-part : goal.invariant-loop-part
invariant-loop-part l = l.made.items ≡ map (λ (p : ℤ × ℕ). (p.0, standing_at l.images p.1)) (take l.part-index l.parts)
