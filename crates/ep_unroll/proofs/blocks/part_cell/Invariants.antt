use Rattle.ep_unroll.proofs.Words.{◌≡◌, drop, numbers}
use Rattle.ep_unroll.specs.Blocks.{cell_of}
use Rattle.ep_unroll.proofs.blocks.part_cell.Given as goal

abbrev pub invariant-loop-run : goal.invariant-loop-run
invariant-loop-run l = cell_of l.cell l.each (numbers (drop l.run-index l.run-items)) l.index ≡ cell_of l.first l.each l.own l.index
