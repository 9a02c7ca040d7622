-- What the code keeps of an expression's value, as the definitions have it.
use Rattle.std.specs.Prelude.{◌≡◌, true, false, Some, None, List, [], ◌∷◌}
use Rattle.ep_tree.specs.Reach as defined
use Rattle.ep_tree.specs.Environments.{Env}
use Rattle.ep_tree.specs.Evaluation.{evaluate}
use Rattle.ep_tree.specs.Reach.{Extent as ExtentTree, decisions_in, extent, fixed_span, holds_decision, no_extent}
use Rattle.ep_tree.specs.Trees.{ExprTree}
use Rattle.ep_tree.specs.Values.{Grids, ValueTree, filled, map_grid, matrix, no_values, single, value_and}
use Rattle.ep_tree.specs.declared.values.Mode.{Mode}
use Rattle.ep_eval.specs.Helds.{held_value}
use Rattle.ep_numbers.specs.Spans.{interval_of}
use Rattle.ep_size.specs.declared.extents.Extent.{Extent, Number, Cells, Fixed, Nothing, NoParts, Matrix', Row_of-Extent, end_of-Extent, more_of-Extent}
use Rattle.ep_size.specs.declared.extents.Span.{Span}

-- what is known of a number
abbrev pub plain_span : Span → defined.Span
plain_span s = record { reach = interval_of s.reach; spread = s.spread; decided = s.decided }

-- what is known of a value without decision variables
abbrev pub fixed_grid : ValueTree → ExtentTree
fixed_grid v = map_grid (λ n. fixed_span (Some n)) v

-- what is known of a number, or of each scalar of a matrix
unfoldable mutual
  -- a number or a matrix
  pub grid_of : Extent → ExtentTree
  grid_of (Number s) = single (plain_span s)
  grid_of (Cells s indices) = filled (plain_span s) indices.now
  grid_of (Fixed h) = fixed_grid (held_value h)
  grid_of Nothing = single (fixed_span None)
  grid_of NoParts = no_extent
  grid_of (Matrix' indices _ parts) = matrix indices.items (row_grids parts)

  -- a row of parts
  pub row_grids : {m : _} → Row_of-Extent m → Grids defined.Span
  row_grids end_of-Extent = no_values
  row_grids (more_of-Extent x rest) = value_and (grid_of x) (row_grids rest)

-- a list of parts
unfoldable pub grids_from : List Extent → Grids defined.Span
grids_from [] = no_values
grids_from (x ∷ xs) = value_and (grid_of x) (grids_from xs)

-- what is known tells whether a decision variable stands there, and the value where none does
unfoldable pub TellsValue : Mode → Env → ExprTree → Extent → Type 0
TellsValue mode env e (Fixed h) = (holds_decision (decisions_in env) e ≡ false) × (evaluate mode env e ≡ Some (held_value h))
TellsValue mode env e Nothing = (holds_decision (decisions_in env) e ≡ false) × (evaluate mode env e ≡ None)
TellsValue mode env e NoParts = (holds_decision (decisions_in env) e ≡ false) × (evaluate mode env e ≡ None)
TellsValue mode env e _ = holds_decision (decisions_in env) e ≡ true

-- what is known of an expression
pub record IsKnownExtent (mode : Mode) (env : Env) (e : ExprTree) (x : Extent) : Type 0 where
  pub extent : extent mode env e ≡ grid_of x
  pub value : TellsValue mode env e x
