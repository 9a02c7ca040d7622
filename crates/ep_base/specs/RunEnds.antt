-- The least of the first numbers of some runs, and the greatest of their last numbers, from some number on.
use Rattle.std.specs.Prelude.{ℤ, List, fold}
use Rattle.std.specs.Int.{int_max, int_min}
use Rattle.ep_base.specs.declared.run_lists.Run.{Run}

-- the least of a number and the first numbers of some runs
abbrev pub least_from : ℤ → List Run → ℤ
least_from a runs = fold (λ b run. int_min b run.lo) a runs

-- the greatest of a number and the last numbers of some runs
abbrev pub greatest_from : ℤ → List Run → ℤ
greatest_from a runs = fold (λ b run. int_max b run.hi) a runs
