-- The scalars of matrices, as terms.
use Rattle.std.specs.Prelude.{◌≡◌, ℕ, zero, suc, ◌<◌, List, [], ◌∷◌, map, ℤ, Option, length, slice_get}
use Rattle.std.specs.List.{All}
use Rattle.ep_base.specs.Reads.{all_there}
use Rattle.ep_ground.specs.Nodes.{GroundNode}
use Rattle.ep_ground.specs.Terms.{term_value}
use Rattle.ep_tree.specs.Environments.{Env}
use Rattle.ep_tree.specs.Evaluation.{evaluate, scalars_in}
use Rattle.ep_tree.specs.Trees.{ExprTree}
use Rattle.ep_unroll.specs.Growing.{Grows}
use Rattle.ep_unroll.specs.Readings.{Numbering, Reading}

-- the numbers of so many cells from one on
unfoldable pub cells_from : List ℤ → ℕ → ℕ → List (Option ℤ)
cells_from numbers k zero = []
cells_from numbers k (suc n) = slice_get numbers k ∷ cells_from numbers (suc k) n

-- Terms have the scalars of an expression's value, row by row, where it has one.
pub record AreScalarsOf (n : Numbering) (cells : Env) (old new : List GroundNode) (e : ExprTree) (ts : List ℕ) : Type 0 where
  pub grows : Grows old new
  pub known : All (λ t. t < length new) ts
  pub scalars : (r : Reading n cells) → all_there (map (term_value new r.numbers) ts) ≡ scalars_in (evaluate n.mode r.values e)
