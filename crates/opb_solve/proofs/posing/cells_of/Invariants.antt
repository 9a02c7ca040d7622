use Rattle.std.proofs.Common.{take}
use Rattle.opb_solve.proofs.posing.cells_of.Given as goal
use Rattle.opb_solve.specs.Meant.{AreCellsOf}

abbrev pub invariant-loop-k : goal.invariant-loop-k
invariant-loop-k l = AreCellsOf (take l.k l.vars) l.cells.items
