-- Instances with some of their clauses alone.
use Rattle.std.specs.Prelude.{◌≤◌, ◌-◌, ℕ, IsTrue, List, int_le, length, slice_get, None, flat_map, option_to_list}
use Rattle.std.specs.List.{All}
use Rattle.std.specs.List.Sorted.{IsStrictlyIncreasing}
use Rattle.ep_tree.specs.Binding.{Instance}
use Rattle.ep_tree.specs.Solutions.{instance_reach, instance_size, instance_weight}
use Rattle.ep_tree.specs.Trees.{ExprTree}
use Rattle.ep_tree.specs.declared.values.Mode.{Mode}

-- Numbers of an instance's clauses, which count from 1: each at most once, in ascending order.
pub record AreClauseNumbers (i : Instance) (numbers : List ℕ) : Type 0 where
  pub ascending : IsStrictlyIncreasing numbers
  pub there : All (λ n. (1 ≤ n) × (n ≤ length i.clauses)) numbers

-- the clauses with these numbers, in their order, of those that are there
unfoldable pub numbered_clauses : List ExprTree → List ℕ → List ExprTree
numbered_clauses clauses numbers = flat_map (λ n. option_to_list (slice_get clauses (n - 1))) numbers

-- an instance with the clauses of these numbers alone, and without an objective
abbrev pub restricted : Instance → List ℕ → Instance
restricted i numbers = record i { clauses = numbered_clauses i.clauses numbers; goal = None }

-- One instance measures at most what another does.
pub record MeasuresAtMost (mode : Mode) (i of : Instance) : Type 0 where
  pub size : instance_size mode i ≤ instance_size mode of
  pub reach : IsTrue (int_le (instance_reach mode i) (instance_reach mode of))
  pub weight : instance_weight mode i ≤ instance_weight mode of
