use Rattle.ep_unroll.proofs.Words.{◌≡◌, ◌++◌, take, map, find_of}
use Rattle.ep_unroll.specs.Cells.{cell_of}
use Rattle.ep_unroll.proofs.cells.push_cells.Given as goal

abbrev pub invariant-loop-indices : goal.invariant-loop-indices
invariant-loop-indices l = l.cells.items ≡ l.initial.cells.items ++ map (cell_of (find_of l.find)) (take l.indices-index l.indices-items)
