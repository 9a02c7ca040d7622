-- What reads without decision variables in their indices leave of what was unrolled.
use Rattle.std.specs.Prelude.{◌≡◌, List, map, ℤ, Option, Some, option_and_then, length}
use Rattle.ep_ground.specs.Nodes.{GroundNode}
use Rattle.ep_tree.specs.Environments.{Env}
use Rattle.ep_tree.specs.Evaluation.{evaluate}
use Rattle.ep_tree.specs.Trees.{ExprTree}
use Rattle.ep_tree.specs.Values.{Index, ValueTree, all_defined, read_value}
use Rattle.ep_tree.specs.declared.syntax.Expr.{Expr}
use Rattle.ep_unroll.specs.Blocks.{IsWorth, one_index}
use Rattle.ep_unroll.specs.Growing.{Grows}
use Rattle.ep_unroll.specs.Meanings.{AreTerms, worth}
use Rattle.ep_unroll.specs.Readings.{Numbering, Reading}
use Rattle.ep_unroll.specs.declared.unrolled.Unrolled.{Unrolled}

-- What was unrolled has what indices leave of a value, wherever that is there.
abbrev pub IsLeft : (List GroundNode → List ℤ → Option ValueTree) → List Index → Unrolled → Type 0
IsLeft value is x = (nodes : List GroundNode) (numbers : List ℤ) (v : ValueTree) → value nodes numbers ≡ Some v → IsWorth nodes numbers x (read_value is v)

-- What was unrolled has what the indices of a read leave of an expression's value, whatever values decision variables have.
pub record LeftMeans (n : Numbering) (cells : Env) (old new : List GroundNode) (m : ExprTree) (indices : List (Option Expr)) (x : Unrolled) : Type 0 where
  pub grows : Grows old new
  pub known : AreTerms (length new) x
  pub value : (r : Reading n cells)
      → worth new r.numbers x
      ≡ option_and_then (λ is. option_and_then (read_value is) (evaluate n.mode r.values m)) (all_defined (map (one_index n.mode r.values) indices))
