-- What the numbers of the cells say of an environment in which decision variables have values.
use Rattle.std.specs.Prelude.{◌≡◌, ℕ, ◌+◌, ◌≤◌, List, [], ◌∷◌, ℤ, Some, Option, length, option_map, slice_get}
use Rattle.ep_base.specs.declared.names.Name.{Name}
use Rattle.ep_tree.specs.Agreement.{Agree}
use Rattle.ep_tree.specs.Environments.{Bound, Env, has_cells, has_value, shape_type}
use Rattle.ep_tree.specs.Solutions.{cell_count}
use Rattle.ep_tree.specs.TypedValues.{IsTypedEnv}
use Rattle.ep_tree.specs.Values.{ValueTree, all_defined, as_parts, matrix, single}
use Rattle.ep_tree.specs.declared.values.Mode.{Mode}

-- what a function gives of numbers that lie so far apart, one for each index
unfoldable pub each_from : {A : Type 0} → (ℕ → A) → ℕ → ℕ → List ℤ → List A
each_from f step k [] = []
each_from f step k (i ∷ is) = f k ∷ each_from f step (k + step) is

-- the value of cells over index domains, by the numbers of all cells and where the first one stands among them
unfoldable pub cells_value : List ℤ → List (List ℤ) → ℕ → Option ValueTree
cells_value numbers [] k = option_map single (slice_get numbers k)
cells_value numbers (indices ∷ inner) k =
    option_map (λ vs. matrix indices (as_parts vs))
    (all_defined (each_from (cells_value numbers inner) (cell_count inner) k indices))

-- the name of a decision variable stands for the value of its cells, of which the first one is known
unfoldable pub ReadsName : Option ℕ → List ℤ → Option Bound → Option Bound → Type 0
ReadsName first numbers (Some (has_cells s indices values)) other =
    (k : ℕ) × (v : ValueTree)
    × (first ≡ Some k) × (other ≡ Some (has_value (shape_type s indices) v)) × (cells_value numbers indices k ≡ Some v)
ReadsName first numbers _ other = Unit {0}

-- The mode in which expressions have values, and how cells are numbered: the first one of each decision variable, and how
-- many there are.
pub record Numbering : Type 0 where
  pub mode : Mode
  pub first : Name → Option ℕ
  pub count : ℕ

-- Two environments agree but for decision variables, and those stand for the values of their cells in the second one.
-- Each name stands for something of its type there, and each cell has a number.
pub record ReadsCells (n : Numbering) (numbers : List ℤ) (cells values : Env) : Type 0 where
  pub agree : Agree cells values
  pub typed : IsTypedEnv values
  pub names : (name : Name) → ReadsName (n.first name) numbers (cells name) (values name)
  pub long : n.count ≤ length numbers

-- numbers of the cells, and the environment that they make of one with cells
pub record Reading (n : Numbering) (cells : Env) : Type 0 where
  pub numbers : List ℤ
  pub values : Env
  pub reads : ReadsCells n numbers cells values
