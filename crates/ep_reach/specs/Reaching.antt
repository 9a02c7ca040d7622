-- Grounds all of whose terms have near intervals.
use Rattle.std.specs.Prelude.{ℕ, ◌<◌, ◌≤◌, List, length, map, ℤ, pos, neg_ℤ, ◌≤ℤ◌}
use Rattle.std.specs.List.{All}
use Rattle.ep_base.specs.Reads.{IsWithinNumbers}
use Rattle.ep_ground.specs.Bounds.{node_reach, reach_at, term_reach}
use Rattle.ep_ground.specs.Grounds.{GroundState}
use Rattle.ep_ground.specs.declared.cells.Cell.{Cell}
use Rattle.ep_base.specs.Intervals.{Interval, IsWithinReach, from_to}
use Rattle.ep_ground.specs.Nodes.{GroundNode, coefficients_of}

-- a sum has at most 2 ^ 32 parts
abbrev pub HasFewParts : GroundNode → Type 0
HasFewParts node = length (coefficients_of node) ≤ 4294967296

-- The parts of a sum are few, and the stages compute with their coefficients and with these intervals of terms.
pub record HasNearParts (reaches : List Interval) (parts : List (ℤ × ℕ)) : Type 0 where
  pub before : All IsWithinReach reaches
  pub coefficients : All IsWithinNumbers (map (λ p. p.0) parts)
  pub few : length parts ≤ 4294967296

-- The stages compute with a node's reach, with its coefficients and with the reaches of the terms before it, and it has few parts.
pub record IsToldAt (cells : List Cell) (reaches : List Interval) (node : GroundNode) : Type 0 where
  pub before : All IsWithinReach reaches
  pub reach : IsWithinReach (node_reach cells (reach_at reaches) node)
  pub coefficients : All IsWithinNumbers (coefficients_of node)
  pub few : HasFewParts node

-- Each value of a cell, and each reach and each coefficient of any node, also of one that nothing leads to, lies within the
-- numbers that the stages compute with, and each sum has few parts.
pub record IsNearThroughout (g : GroundState) : Type 0 where
  pub cells : All (λ one. All IsWithinNumbers one.values) g.cells
  pub reaches : (t : ℕ) → t < length g.nodes → IsWithinReach (term_reach g.nodes g.cells t)
  pub coefficients : All (λ node. All IsWithinNumbers (coefficients_of node)) g.nodes
  pub parts : All HasFewParts g.nodes
