-- Nodes that hold a decision variable and are matrices.
use Rattle.std.specs.Prelude.{◌≡◌, true, [], Result, IfOk, IfErr}
use Rattle.ep_tree.specs.Environments.{Env}
use Rattle.ep_tree.specs.Measures.{a_node, number_reach, reaches_at, weight_at}
use Rattle.ep_tree.specs.Reach as defined
use Rattle.ep_tree.specs.Reach.{decisions_in, extent, holds_decision}
use Rattle.ep_tree.specs.Trees.{ExprTree}
use Rattle.ep_tree.specs.declared.values.Mode.{Mode}
use Rattle.ep_size.specs.Extents.{TellsValue, grid_of}
use Rattle.ep_size.specs.declared.errors.SizeError.{SizeError}
use Rattle.ep_size.specs.declared.errors.SizeError.TheVariants.{Memory}
use Rattle.ep_size.specs.declared.extents.Extent.{Extent}

-- a node that holds a decision variable and is a matrix, which weighs nothing
pub record IsMatrixNode (mode : Mode) (env : Env) (e : ExprTree) (g : defined.Extent) : Type 0 where
  pub plain : reaches_at mode (a_node env e) ≡ number_reach (extent mode env e)
  pub none : number_reach g ≡ []
  pub value : extent mode env e ≡ g
  pub holds : holds_decision (decisions_in env) e ≡ true
  pub weight : weight_at mode (a_node env e) ≡ 0

-- what is known of such a node: that it holds a decision variable is all that is told of its value
pub record TellsExtent (x : Extent) (g : defined.Extent) : Type 0 where
  pub grid : grid_of x ≡ g
  pub tells : (mode : Mode) → (env : Env) → (e : ExprTree) → holds_decision (decisions_in env) e ≡ true → TellsValue mode env e x

-- a matrix is made, unless memory is wanted
abbrev pub ListsExtent : Result Extent SizeError → defined.Extent → Type 0
ListsExtent r g = IfOk r (λ x. TellsExtent x g) × IfErr r (λ e. e ≡ Memory)
