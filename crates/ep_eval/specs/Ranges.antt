-- The numbers of ranges, told by their runs.
use Rattle.std.specs.Prelude.{Bool, ◌&&◌, List, ℤ, Option, int_le, option_map}
use Rattle.std.specs.List.{list_any}
use Rattle.ep_base.specs.Numbers.{has_number}
use Rattle.ep_base.specs.declared.run_lists.Run.{Run}
use Rattle.ep_tree.specs.Trees.{Ranges, no_ranges}
use Rattle.ep_tree.specs.Views.{with_range}
use Rattle.ep_tree.specs.declared.syntax.Range.{Range}

-- whether a number is in a run
abbrev pub run_has : ℤ → Run → Bool
run_has n run = int_le run.lo n && int_le n run.hi

-- whether a number is in one of some runs
abbrev pub runs_have : ℤ → List Run → Bool
runs_have n runs = list_any (run_has n) runs

-- whether a number is one of some numbers, where there are any
abbrev pub has_in : ℤ → Option (List ℤ) → Option Bool
has_in n numbers = option_map (λ ns. has_number ns n) numbers

-- a range alone
abbrev pub alone : Range → Ranges
alone r = with_range r no_ranges
