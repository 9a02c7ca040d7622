-- Numbers that are told as far as a limit needs them, and the cells of an instance.
use Rattle.std.specs.Prelude.{◌≡◌, ℕ, ◌*◌, ◌≤◌, min, List, sum_by, length}
use Rattle.ep_tree.specs.Binding.{Find}
use Rattle.ep_tree.specs.Limits.{MOST_SIZE}
use Rattle.ep_tree.specs.Solutions.{cell_count}
use Rattle.ep_size.specs.declared.cells.CellTotals.{CellTotals}

-- the number as far as which numbers are told: one more than the greatest weight
abbrev pub MOST_TOLD : ℕ
MOST_TOLD = 20000001

-- a number, as far as it is told
abbrev pub capped : ℕ → ℕ
capped n = min n MOST_TOLD

-- how many cells some decision variables have
abbrev pub all_cells : List Find → ℕ
all_cells finds = sum_by (λ f. cell_count f.indices) finds

-- what the cells of some decision variables weigh
abbrev pub all_values : List Find → ℕ
all_values finds = sum_by (λ f. cell_count f.indices * length f.values) finds

-- The cells of some decision variables, which pass no limit of size.
pub record Celled (t : CellTotals) (finds : List Find) : Type 0 where
  pub size : t.size ≡ all_cells finds
  pub small : t.size ≤ MOST_SIZE
  pub weight : t.weight ≡ capped (all_values finds)
