use Rattle.ep_unroll.proofs.Words.{◌∷◌, length, IsWalk, numbers_left, cell_count, AreTerms, worth, cells_value, each_from}
use Rattle.ep_unroll.proofs.WholeSteps.{Behind}
use Rattle.ep_unroll.proofs.wholes.cells_from.Given as goal

abbrev pub decreases-loop-number : goal.decreases-loop-number
decreases-loop-number l = length (numbers_left l.walk)

abbrev pub invariant-loop-number : goal.invariant-loop-number
invariant-loop-number l =
    (IsWalk l.walk)
    × Behind (λ nodes numbers. worth nodes numbers l.fn.first ∷ each_from (cells_value numbers l.inner) (cell_count l.inner) l.start (numbers_left l.fn.later))
    (λ nodes numbers. each_from (cells_value numbers l.inner) (cell_count l.inner) l.cell (numbers_left l.walk)) (λ count. AreTerms count l.fn.first) l.parts.items
