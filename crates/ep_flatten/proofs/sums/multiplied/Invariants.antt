use Rattle.std.proofs.Common.{◌≡◌, take}
use Rattle.std.specs.List.{All}
use Rattle.ep_base.specs.Reads.{IsWithinNumbers}
use Rattle.ep_flatten.specs.Sums.{coefficients_in, multiplied}
use Rattle.ep_flatten.proofs.sums.multiplied.Given as goal

abbrev pub invariant-loop-part : goal.invariant-loop-part
invariant-loop-part l = record {
  items : l.made.items ≡ multiplied l.coefficient (take l.part-index l.parts);
  small : All IsWithinNumbers (coefficients_in l.made.items);
}
