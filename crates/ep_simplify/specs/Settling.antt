-- What it is to put terms of a new ground in the place of nodes.
use Rattle.std.specs.Prelude.{◌≡◌, ◌≢◌, ◌⊎◌, ℕ, ◌<◌, ◌≤◌, Bool, true, not, ℤ, List, [], ◌∷◌, ◌++◌, length, filter, fold, map, IsSome, is_some, Option, Some, slice_index_or}
use Rattle.std.specs.List.{All, Contains}
use Rattle.ep_base.specs.Intervals.{Interval, IsWithinReach, only}
use Rattle.ep_base.specs.Numbers.{is_one, of_bool}
use Rattle.ep_base.specs.Reads.{IsWithinNumbers, safe_picked, same_bool}
use Rattle.ep_defined.specs.Growing.{IsNodeAt, IsSafeOver}
use Rattle.ep_ground.specs.ArenaSteps.{Interned}
use Rattle.ep_ground.specs.Bounds.{node_reach, reach_at, term_reach}
use Rattle.ep_ground.specs.Grounds.{AreCellValues, LeadsTo, additions_in}
use Rattle.ep_ground.specs.Nodes.{GroundNode, constant, undefined, compare, negation, coefficients_of, parts_of}
use Rattle.ep_ground.specs.Terms.{PartsStandBefore, node_value, term_value}
use Rattle.ep_ground.specs.declared.cells.Cell.{Cell}
use Rattle.ep_numbers.specs.Spans.{intervals_of}
use Rattle.ep_numbers.specs.declared.spans.Span.{Span}
use Rattle.ep_reach.specs.Narrowing.{IsNarrower}
use Rattle.ep_reach.specs.Reaching.{HasFewParts}
use Rattle.ep_simplify.specs.Decided.{IsOfTruths, IsOpen, IsUntoldBy, lone_number}
use Rattle.ep_simplify.specs.declared.settling.Left.{Left}
use Rattle.ep_simplify.specs.declared.settling.Left.TheVariants as left
use Rattle.ep_simplify.specs.declared.settling.Negated.{Negated}
use Rattle.ep_simplify.specs.declared.settling.Negated.TheVariants as negated
use Rattle.ep_simplify.specs.declared.news.News.{News}

-- the reaches of all nodes, in order
unfoldable pub reaches_of : List GroundNode → List Cell → List Interval
reaches_of nodes cells = fold (λ reaches node. reaches ++ node_reach cells (reach_at reaches) node ∷ []) [] nodes

-- how far these terms reach tells nothing about a node, nor which number it is
pub record IsUntold (cells : List Cell) (nodes : List GroundNode) (node : GroundNode) : Type 0 where
  pub untold : IsUntoldBy nodes (term_reach nodes cells) node
  pub folded : (n : ℤ) → node_reach cells (term_reach nodes cells) node ≡ only n → node ≡ constant n

-- the stages compute with a node's reach over these terms and with its coefficients, and it has few parts where it is a sum
pub record IsNearOver (cells : List Cell) (nodes : List GroundNode) (node : GroundNode) : Type 0 where
  pub reach : IsWithinReach (node_reach cells (term_reach nodes cells) node)
  pub coefficients : All IsWithinNumbers (coefficients_of node)
  pub few : HasFewParts node

-- the reaches of all new nodes are kept, and each sum among them has few parts
pub record AreNear (news : News) : Type 0 where
  pub near : news.near ≡ true
  pub few : All HasFewParts news.arena

-- New nodes: each stands behind its parts, has a value where they have, and is left open by them. Where all are near, the intervals
-- that are kept are their reaches, the stages compute with them, and they tell nothing more about any of the nodes.
pub record IsNews (cells : List Cell) (news : News) : Type 0 where
  pub before : PartsStandBefore news.arena
  pub safe : All (IsSafeOver (length cells)) news.arena
  pub undecided : All (IsOpen news.arena) news.arena
  pub reaches : news.near ≡ true → intervals_of news.spans.items ≡ reaches_of news.arena cells
  pub within : news.near ≡ true → All IsWithinReach (intervals_of news.spans.items)
  pub untold : AreNear news → All (IsUntold cells news.arena) news.arena

-- a part of the node leads to the term
pub record IsBelowPart (nodes : List GroundNode) (node : GroundNode) (t : ℕ) : Type 0 where
  pub part : ℕ
  pub is_part : Contains (parts_of node) part
  pub leads : LeadsTo nodes part t

-- the second node asks for no more of sums than the first: its coefficients are near where those of the first are, and it has no more
-- additions
pub record AsksNoMore (node other : GroundNode) : Type 0 where
  pub coefficients : All IsWithinNumbers (coefficients_of node) → All IsWithinNumbers (coefficients_of other)
  pub additions : additions_in (Some other) ≤ additions_in (Some node)

-- Over these nodes another node stands for a node: it has the same value, reaches no farther, and leads to nothing more.
pub record Replaces (cells : List Cell) (nodes : List GroundNode) (node other : GroundNode) : Type 0 where
  pub value : (values : List ℤ) → AreCellValues cells values → node_value values (term_value nodes values) other ≡ node_value values (term_value nodes values) node
  pub reach : (i : Interval) → IsNarrower (node_reach cells (term_reach nodes cells) node) i → IsNarrower (node_reach cells (term_reach nodes cells) other) i
  pub parts : (p : ℕ) → Contains (parts_of other) p → IsBelowPart nodes node p
  pub asks : AsksNoMore node other

-- A term among more nodes, one more at most, stands for a node over the old ones: it has the same value, and reaches no farther. What
-- it leads to is the term itself, which asks for no more than the node, or stood below a part of the node.
pub record SettlesNode (cells : List Cell) (old : List GroundNode) (node : GroundNode) (new : List GroundNode) (term : ℕ) : Type 0 where
  pub more : List GroundNode
  pub is : new ≡ old ++ more
  pub few : length more ≤ 1
  pub there : term < length new
  pub value : (values : List ℤ) → AreCellValues cells values → term_value new values term ≡ node_value values (term_value old values) node
  pub reach : (i : Interval) → IsNarrower (node_reach cells (term_reach old cells) node) i → IsNarrower (term_reach new cells term) i
  pub below : (u : ℕ) → LeadsTo new term u → ((u ≡ term) × AsksNoMore node (slice_index_or new term undefined)) ⊎ IsBelowPart old node u

-- under all values that the cells may have, a node over these nodes has this truth value
abbrev pub AlwaysSays : List Cell → List GroundNode → GroundNode → Bool → Type 0
AlwaysSays cells nodes node holds =
    (values : List ℤ) → AreCellValues cells values → node_value values (term_value nodes values) node ≡ Some (of_bool holds)

-- a term is a number alone that is true, or one that isn't, as is asked
abbrev pub IsTruthNumber : List GroundNode → Bool → ℕ → Type 0
IsTruthNumber nodes asked t = (n : ℤ) × (lone_number nodes t ≡ Some n) × (same_bool asked (is_one n) ≡ true)

-- those of some terms that are no numbers alone
abbrev pub open_parts : List GroundNode → List ℕ → List ℕ
open_parts nodes ts = filter (λ t. not (is_some (lone_number nodes t))) ts

-- where all nodes are near, a node reaches some other number than this one, whichever it is
abbrev pub ReachesMore : List Cell → News → GroundNode → Type 0
ReachesMore cells news node =
    AreNear news → IsNearOver cells news.arena node → (n : ℤ) → node_reach cells (term_reach news.arena cells) node ≡ only n → ⊥

-- some terms are numbers alone, in order these
abbrev pub AreNumbers : List GroundNode → List ℕ → List ℤ → Type 0
AreNumbers nodes ts ns = map (lone_number nodes) ts ≡ map (λ n. Some n) ns

-- whatever numbers these terms have, a pick among them by these keys has that of this one of them where its indices are these numbers
pub record Picks (ts : List ℕ) (keys : List (List ℤ)) (indices : List ℤ) (t : ℕ) : Type 0 where
  pub among : Contains ts t
  pub value : (x : ℕ → ℤ) → safe_picked (map x ts) keys indices ≡ x t

-- what a node is that tells of its negation
unfoldable pub negated_of : GroundNode → Negated
negated_of (constant n) = negated.Number n
negated_of (compare op x y) = negated.Compare op x y
negated_of (negation x) = negated.Not x
negated_of _ = negated.Other

-- what is left of some terms: none, one whose reach tells that it is a truth value, or neither of these
unfoldable pub IsWhatIsLeft : List Cell → News → List ℕ → Left → Type 0
IsWhatIsLeft cells news ts left.Nothing = ts ≡ []
IsWhatIsLeft cells news ts (left.Truth t) = (ts ≡ t ∷ []) × IsOfTruths (term_reach news.arena cells t)
IsWhatIsLeft cells news ts left.More = (ts ≢ []) × (news.near ≡ true → (t : ℕ) → ts ≡ t ∷ [] → IsOfTruths (term_reach news.arena cells t) → ⊥)

-- of two terms the one is this number alone, and this is the other
abbrev pub IsBeside : List GroundNode → ℕ → ℕ → ℤ → ℕ → Type 0
IsBeside nodes a b n other = ((lone_number nodes a ≡ Some n) × (other ≡ b)) ⊎ ((lone_number nodes b ≡ Some n) × (other ≡ a))

-- the new nodes after a reach was kept
pub record IsNoted (reach : Option Span) (old new : News) : Type 0 where
  pub arena : new.arena ≡ old.arena
  pub span : new.near ≡ true → (span : Span) × (reach ≡ Some span) × (new.spans.items ≡ old.spans.items ++ span ∷ [])
  pub near : old.near ≡ true → IsSome reach → new.near ≡ true

-- the new nodes after a node was settled
pub record IsSettled (cells : List Cell) (old : News) (node : GroundNode) (new : News) (term : ℕ) : Type 0 where
  pub settles : SettlesNode cells old.arena node new.arena term
  pub news : IsNews cells new
  pub near : AreNear old → IsNearOver cells old.arena node → AreNear new

-- the new nodes after a node was taken in
pub record IsTaken (cells : List Cell) (old : News) (node : GroundNode) (new : News) (term : ℕ) : Type 0 where
  pub is : IsNodeAt new.arena term node
  pub interned : Interned old.arena node new.arena
  pub news : IsNews cells new
  pub near : AreNear old → IsNearOver cells old.arena node → AreNear new
