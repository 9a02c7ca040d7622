-- Grounds: cells, clauses and an objective over shared terms, and which values of the cells are their solutions.
use Rattle.std.specs.Prelude.{◌≡◌, ℕ, ◌-◌, ◌<◌, ◌↔◌, ℤ, pos, false, IsSome, List, ◌++◌, length, sum_by, Option, Some, MatchOption, option_map, option_to_list, option_and_then, slice_get}
use Rattle.std.specs.List.{All, AllPairs, AllZip, Contains}
use Rattle.ep_base.specs.declared.operators.Sense.{Sense}
use Rattle.ep_ground.specs.Nodes.{GroundNode, cell, sum, least, greatest, parts_of, is_partial}
use Rattle.ep_ground.specs.Terms.{term_value}
use Rattle.ep_ground.specs.declared.cells.Cell.{Cell}

-- nodes, the cells over which they speak, the terms that have to be true, and the term that is to be driven
pub record GroundState : Type 0 where
  pub nodes : List GroundNode
  pub cells : List Cell
  pub clauses : List ℕ
  pub objective : Option (Sense × ℕ)

-- each cell has one of its values
abbrev pub AreCellValues : List Cell → List ℤ → Type 0
AreCellValues cells values = AllZip (λ one value. Contains one.values value) cells values

-- the objective's number, where there is one
unfoldable pub ground_objective : GroundState → List ℤ → Option ℤ
ground_objective g values = option_and_then (λ goal. term_value g.nodes values goal.1) g.objective

-- the objective has a number, where there is one
unfoldable pub HasObjective : GroundState → List ℤ → Type 0
HasObjective g values = MatchOption g.objective (Unit {0}) (λ goal. IsSome (term_value g.nodes values goal.1))

-- Values of the cells that a ground keeps: each clause is 1, and the objective has a number.
pub record IsGroundSolution (g : GroundState) (values : List ℤ) : Type 0 where
  pub cells : AreCellValues g.cells values
  pub clauses : All (λ t. term_value g.nodes values t ≡ Some (pos 1)) g.clauses
  pub objective : HasObjective g values

-- the terms that a ground names
unfoldable pub named_terms : GroundState → List ℕ
named_terms g = g.clauses ++ option_to_list (option_map (λ goal. goal.1) g.objective)

-- a term leads to another: it is the other, or one of its parts leads to it
pub data LeadsTo (nodes : List GroundNode) : ℕ → ℕ → Type 0 where
  itself : (t : ℕ) → LeadsTo nodes t t
  by_part : (t part u : ℕ) (node : GroundNode) → slice_get nodes t ≡ Some node → Contains (parts_of node) part → LeadsTo nodes part u → LeadsTo nodes t u

-- a term that one of the clauses, or the objective, leads to
pub record IsTermReached (g : GroundState) (u : ℕ) : Type 0 where
  pub from : ℕ
  pub named : Contains (named_terms g) from
  pub leads : LeadsTo g.nodes from u

-- a node that can stand in a ground with so many cells: a cell is one of them, and a least or a greatest number is one of some part
unfoldable pub StandsOver : ℕ → GroundNode → Type 0
StandsOver cells (cell k) = k < cells
StandsOver cells (least ts) = 0 < length ts
StandsOver cells (greatest ts) = 0 < length ts
StandsOver cells _ = Unit {0}

-- The clauses and the objective are terms of the ground, each cell that a node names is one of the ground, and each least
-- or greatest node has a part.
pub record IsWellFormed (g : GroundState) : Type 0 where
  pub terms : All (λ t. t < length g.nodes) (named_terms g)
  pub nodes : All (StandsOver (length g.cells)) g.nodes

-- no node is partial
abbrev pub HasNoPartialNode : GroundState → Type 0
HasNoPartialNode g = All (λ node. is_partial node ≡ false) g.nodes

-- two grounds with the same cells keep the same values of them, with the same numbers of the objective
pub record KeepsSolutions (old new : GroundState) : Type 0 where
  pub cells : new.cells ≡ old.cells
  pub same : (values : List ℤ) → IsGroundSolution new values ↔ IsGroundSolution old values
  pub senses : option_map (λ goal. goal.0) new.objective ≡ option_map (λ goal. goal.0) old.objective
  pub objective : (values : List ℤ) → IsGroundSolution old values → ground_objective new values ≡ ground_objective old values

-- the terms that the clauses and the objective lead to, in order
pub record AreReached (g : GroundState) (terms : List ℕ) : Type 0 where
  pub ascending : AllPairs (λ t later. t < later) terms
  pub reached : (u : ℕ) → Contains terms u ↔ IsTermReached g u

-- how many additions a node asks for: one less than a sum's parts
unfoldable pub additions_in : Option GroundNode → ℕ
additions_in (Some (sum c parts)) = length parts - 1
additions_in _ = 0

-- how many additions some terms ask for
unfoldable pub additions : GroundState → List ℕ → ℕ
additions g terms = sum_by (λ t. additions_in (slice_get g.nodes t)) terms

-- A ground asks for this many additions: one less than its parts for each sum that the clauses and the objective lead to.
pub record AsksForAdditions (g : GroundState) (count : ℕ) : Type 0 where
  pub terms : List ℕ
  pub are_reached : AreReached g terms
  pub number : additions g terms ≡ count
