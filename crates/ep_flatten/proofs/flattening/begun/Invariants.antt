use Rattle.std.proofs.Common.{◌≡◌, take}
use Rattle.std.specs.Prelude.{map}
use Rattle.ep_flatten.proofs.Standing.{Counting}
use Rattle.ep_flatten.proofs.flattening.begun.Given as goal

abbrev pub invariant-loop-cell : goal.invariant-loop-cell
invariant-loop-cell l = record {
  vars : l.vars.items ≡ map (λ one. one.values) (take l.cell-index l.g.cells.items);
  cells : Counting l.cells.items l.cell-index;
}
