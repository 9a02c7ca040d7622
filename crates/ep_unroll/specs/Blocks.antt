-- Blocks of cells: where the parts of one begin, what stands for a name, and what indices leave of one.
use Rattle.std.specs.Prelude.{◌≡◌, ℕ, ◌+◌, List, [], ◌∷◌, ℤ, Some, None, Option, option_map, if◌then◌else◌}
use Rattle.std.specs.Ordering.{int_eq}
use Rattle.ep_base.specs.declared.names.Name.{Name}
use Rattle.ep_eval.specs.Helds.{seen_held}
use Rattle.ep_ground.specs.Nodes.{GroundNode}
use Rattle.ep_tree.specs.Environments.{Env, value_bound}
use Rattle.ep_tree.specs.Evaluation.{evaluate, number_in}
use Rattle.ep_tree.specs.Solutions.{cell_count}
use Rattle.ep_tree.specs.Values.{Index, ValueTree, any_index, at_index}
use Rattle.ep_tree.specs.Views.{expr_tree}
use Rattle.ep_tree.specs.declared.syntax.Expr.{Expr}
use Rattle.ep_tree.specs.declared.values.Mode.{Mode}
use Rattle.ep_unroll.specs.Meanings.{worth}
use Rattle.ep_unroll.specs.Readings.{Numbering, Reading, cells_value}
use Rattle.ep_unroll.specs.declared.unrolled.Unrolled.{Unrolled, Number, Cells, Fixed, Matrix'}

-- the first cell of the part with an index, where parts of one size stand one after another
unfoldable pub cell_of : ℕ → ℕ → List ℤ → ℤ → Option ℕ
cell_of first each [] i = None
cell_of first each (j ∷ js) i = if int_eq i j then Some first else cell_of (first + each) each js i

-- the cells of the part with an index, by the first one and the index domains that are left
unfoldable pub block_under : ℕ → List (List ℤ) → ℤ → Option (ℕ × List (List ℤ))
block_under first [] i = None
block_under first (own ∷ inner) i = option_map (λ k. (k, inner)) (cell_of first (cell_count inner) own i)

-- Cells have the value of a name, which has one, whatever values decision variables have.
pub record StandFor (n : Numbering) (env : Env) (name : Name) (first : ℕ) (domains : List (List ℤ)) : Type 0 where
  pub value : (r : Reading n env)
      → (v : ValueTree) × (cells_value r.numbers domains first ≡ Some v) × (value_bound (r.values name) ≡ Some v)

-- an index of a read, where it is `..` or has a number
unfoldable pub one_index : Mode → Env → Option Expr → Option Index
one_index mode env None = Some any_index
one_index mode env (Some e) = option_map at_index (number_in (evaluate mode env (expr_tree e)))

-- What was unrolled has a value, or none; cells have one.
unfoldable pub IsWorth : List GroundNode → List ℤ → Unrolled → Option ValueTree → Type 0
IsWorth nodes numbers (Number t) o = worth nodes numbers (Number t) ≡ o
IsWorth nodes numbers (Cells k domains) o = (v : ValueTree) × (o ≡ Some v) × (cells_value numbers domains.now k ≡ Some v)
IsWorth nodes numbers (Fixed seen) o = seen_held seen ≡ o
IsWorth nodes numbers (Matrix' indices size parts) o = worth nodes numbers (Matrix' indices size parts) ≡ o
