use Rattle.ep_unroll.proofs.Words.{◌≡◌, ◌++◌, length, IsWalk, numbers_left, cell_count, cells_value, each_from}
use Rattle.ep_unroll.proofs.WholeSteps.{Behind}
use Rattle.ep_unroll.proofs.reads.cells_opened.Given as goal

abbrev pub decreases-loop-number : goal.decreases-loop-number
decreases-loop-number l = length (numbers_left l.walk)

abbrev pub invariant-loop-number : goal.invariant-loop-number
invariant-loop-number l =
    (IsWalk l.walk)
    × (l.own ≡ l.indices.items ++ numbers_left l.walk)
    × Behind (λ nodes numbers. each_from (cells_value numbers l.inner) (cell_count l.inner) l.first l.own)
    (λ nodes numbers. each_from (cells_value numbers l.inner) (cell_count l.inner) l.cell (numbers_left l.walk)) (λ count. Unit {0}) l.parts.items
