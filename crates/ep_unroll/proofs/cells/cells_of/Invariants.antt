use Rattle.ep_unroll.proofs.Words.{◌≡◌, take, flat_map, find_of, find_cells}
use Rattle.ep_unroll.proofs.cells.cells_of.Given as goal

abbrev pub invariant-loop-find : goal.invariant-loop-find
invariant-loop-find l = l.cells.items ≡ flat_map (λ f. find_cells (find_of f)) (take l.find-index l.finds)
