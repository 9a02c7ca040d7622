-- What more nodes an arena has.
use Rattle.std.specs.Prelude.{◌≡◌, ℕ, ◌+◌, ◌<◌, ◌≤◌, ◌^◌, false, List, ◌++◌, length, Some, slice_get}
use Rattle.std.specs.List.{All}
use Rattle.ep_ground.specs.Grounds.{StandsOver}
use Rattle.ep_ground.specs.Nodes.{GroundNode, is_partial}
use Rattle.ep_ground.specs.Terms.{PartsStandBefore}

-- so many nodes more have numbers
abbrev pub HasRoom : ℕ → List GroundNode → Type 0
HasRoom count nodes = length nodes + count < 2 ^ 32

-- the term has this node
abbrev pub IsNodeAt : List GroundNode → ℕ → GroundNode → Type 0
IsNodeAt nodes t node = slice_get nodes t ≡ Some node

-- a node that has a value wherever its parts have one, over so many cells
pub record IsSafeOver (cells : ℕ) (node : GroundNode) : Type 0 where
  pub whole : is_partial node ≡ false
  pub stands : StandsOver cells node

-- At most so many nodes are added at the end, each behind its parts. Each of them is safe over as many cells as the node for
-- which they are added can stand over.
pub record Grows (node : GroundNode) (count : ℕ) (old new : List GroundNode) : Type 0 where
  pub more : List GroundNode
  pub is : new ≡ old ++ more
  pub few : length more ≤ count
  pub before : PartsStandBefore old → PartsStandBefore new
  pub safe : (cells : ℕ) → StandsOver cells node → All (IsSafeOver cells) more
