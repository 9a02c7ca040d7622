use Rattle.std.proofs.Common.{◌≡◌, ◌+ℤ◌, ◌*ℤ◌, ℤ, List, take}
use Rattle.ep_implied.specs.Sums.{parts_sum, weighed}
use Rattle.ep_implied.proofs.sums.add_parts.Given as goal

abbrev pub invariant-loop-part : goal.invariant-loop-part
invariant-loop-part l = (values : List ℤ) → weighed 0 l.coefficients.items values ≡ (weighed 0 l.initial.coefficients.items values +ℤ (l.times *ℤ parts_sum (take l.part-index l.parts) values))
