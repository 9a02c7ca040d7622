-- What terms say of clauses and of an objective.
use Rattle.std.specs.Prelude.{◌≡◌, ℕ, ◌<◌, List, Some, None, Option, length}
use Rattle.std.specs.List.{All, AllZip}
use Rattle.ep_base.specs.Numbers.{of_bool}
use Rattle.ep_base.specs.declared.operators.Sense.{Sense}
use Rattle.ep_ground.specs.Nodes.{GroundNode}
use Rattle.ep_ground.specs.Terms.{term_value}
use Rattle.ep_tree.specs.Environments.{Env}
use Rattle.ep_tree.specs.Evaluation.{is_true_in}
use Rattle.ep_tree.specs.Trees.{ExprTree}
use Rattle.ep_unroll.specs.Growing.{Grows}
use Rattle.ep_unroll.specs.Meanings.{IsNumberOf}
use Rattle.ep_unroll.specs.Readings.{Numbering, Reading}

-- A term is 1 where a clause is true, and 0 where it isn't.
pub record IsClauseTerm (n : Numbering) (cells : Env) (old new : List GroundNode) (e : ExprTree) (t : ℕ) : Type 0 where
  pub grows : Grows old new
  pub known : t < length new
  pub value : (r : Reading n cells) → term_value new r.numbers t ≡ Some (of_bool (is_true_in n.mode r.values e))

-- Terms are so of clauses, one for each.
pub record AreClauses (n : Numbering) (cells : Env) (old new : List GroundNode) (es : List ExprTree) (ts : List ℕ) : Type 0 where
  pub grows : Grows old new
  pub known : All (λ t. t < length new) ts
  pub values : (r : Reading n cells)
      → AllZip (λ t e. term_value new r.numbers t ≡ Some (of_bool (is_true_in n.mode r.values e))) ts es

-- An objective has a term of its sense, which has its number; none has none.
unfoldable pub IsGoal : Numbering → Env → List GroundNode → List GroundNode → Option (Sense × ExprTree) → Option (Sense × ℕ) → Type 0
IsGoal n cells old new None None = Grows old new
IsGoal n cells old new None (Some t) = ⊥
IsGoal n cells old new (Some goal) None = ⊥
IsGoal n cells old new (Some goal) (Some t) = (t.0 ≡ goal.0) × IsNumberOf n cells old new goal.1 t.1
