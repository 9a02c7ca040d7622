-- Runs of whole numbers, and the numbers in them.
use Rattle.std.specs.Prelude.{ℕ, zero, suc, ℤ, pos, negsuc, ◌+ℤ◌, ◌-ℤ◌, ◌≤ℤ◌, ◌<ℤ◌, List, [], ◌∷◌, ◌++◌}
use Rattle.std.specs.List.{All, AllPairs}
use Rattle.ep_base.specs.declared.run_lists.Run.{Run}

-- the number is in the run
abbrev pub IsIn : ℤ → Run → Type 0
IsIn number run = (run.lo ≤ℤ number) × (number ≤ℤ run.hi)

-- so many numbers one after another, from the first on
unfoldable pub counting : ℤ → ℕ → List ℤ
counting first zero = []
counting first (suc more) = first ∷ counting (first +ℤ pos 1) more

-- the number itself, or 0 where it is below 0
abbrev pub or_zero : ℤ → ℕ
or_zero (pos n) = n
or_zero (negsuc n) = 0

-- the numbers in a run, in ascending order
unfoldable pub numbers_in : Run → List ℤ
numbers_in run = counting run.lo (or_zero ((run.hi +ℤ pos 1) -ℤ run.lo))

-- the numbers in runs, run by run
unfoldable pub numbers : List Run → List ℤ
numbers [] = []
numbers (run ∷ runs) = numbers_in run ++ numbers runs

-- the numbers ascend, each greater than all before it
abbrev pub IsAscending : List ℤ → Type 0
IsAscending xs = AllPairs ◌<ℤ◌ xs

-- the runs ascend, each has a number, and at least one number lies between any two
pub record AreApart (runs : List Run) : Type 0 where
  pub filled : All (λ run. run.lo ≤ℤ run.hi) runs
  pub gaps : AllPairs (λ run later. (run.hi +ℤ pos 1) <ℤ later.lo) runs
