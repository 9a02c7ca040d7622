use Rattle.std.proofs.Common.{◌≡◌, ◌++◌, ℕ, ℤ, map, take}
use Rattle.ep_defined.specs.Images.{guards_in}
use Rattle.ep_defined.proofs.images.add_weighted_guards.Given as goal

abbrev pub invariant-loop-part : goal.invariant-loop-part
invariant-loop-part l = l.guards.items ≡ l.fn.guards.items ++ guards_in l.images (map (λ (p : ℤ × ℕ). p.1) (take l.part-index l.parts))
