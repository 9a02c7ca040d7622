use Rattle.std.proofs.Common.{◌≡◌, take}
use Rattle.ep_flatten.specs.Sums.{TakesIn}
use Rattle.ep_flatten.proofs.sums.add_parts.Given as goal

abbrev pub invariant-loop-part : goal.invariant-loop-part
invariant-loop-part l = record {
  number : l.sum.number ≡ l.initial.sum.number;
  parts : TakesIn (take l.part-index l.parts) l.initial.sum.parts.items l.sum.parts.items;
}
