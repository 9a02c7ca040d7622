use Rattle.std.proofs.Common.{◌≡◌, ℕ, ℤ, map, take}
use Rattle.ep_defined.specs.Images.{total_at}
use Rattle.ep_defined.proofs.images.weighted_totals.Given as goal

abbrev pub invariant-loop-part : goal.invariant-loop-part
invariant-loop-part l = l.totals.items ≡ map (λ (p : ℤ × ℕ). (p.0, total_at l.images p.1)) (take l.part-index l.parts)
