use Rattle.ep_unroll.proofs.Words.{[], all_there, cells_from}
use Rattle.ep_unroll.proofs.FlatSteps.{FlatSoFar, cells_left}
use Rattle.ep_unroll.proofs.flattening.push_cells.Given as goal

abbrev pub invariant-loop-passed : goal.invariant-loop-passed
invariant-loop-passed l =
    FlatSoFar l.fn.parts.items l.parts.items [] (λ nodes numbers. all_there (cells_from numbers l.first l.count)) (λ nodes numbers. cells_left l.first l.count l.passed numbers)
