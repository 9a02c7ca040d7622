-- Nodes with others behind them, and what a node that is taken in is worth.
use Rattle.std.specs.Prelude.{◌≡◌, ℕ, ◌<◌, List, ◌++◌, ℤ, length}
use Rattle.ep_ground.specs.Nodes.{GroundNode}
use Rattle.ep_ground.specs.Terms.{node_value, term_value}

-- nodes are the old ones, and others behind them
pub record Grows (old new : List GroundNode) : Type 0 where
  pub more : List GroundNode
  pub whole : new ≡ old ++ more

-- A node is taken in behind old ones, or was there: its term has the value that the node has.
pub record Puts (old new : List GroundNode) (node : GroundNode) (t : ℕ) : Type 0 where
  pub grows : Grows old new
  pub known : t < length new
  pub value : (numbers : List ℤ) → term_value new numbers t ≡ node_value numbers (term_value new numbers) node
