use Rattle.std.proofs.Common.{take}
use Rattle.std.specs.Prelude.{Contains}
use Rattle.std.specs.List.{AllZip}
use Rattle.ep_ground.specs.declared.cells.Cell.{Cell}
use Rattle.ep_explain.proofs.around.are_cell_values.Given as goal

abbrev pub invariant-loop-place : goal.invariant-loop-place
invariant-loop-place l = AllZip (λ (one : Cell) value. Contains one.values value) (take l.place l.cells) (take l.place l.numbers)
