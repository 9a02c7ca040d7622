-- What it is to cut sums into sums of two parts.
use Rattle.std.specs.Prelude.{◌≡◌, ◌⊎◌, ℕ, ◌+◌, ◌<◌, ◌≤◌, Bool, ℤ, pos, List, [], ◌∷◌, ◌++◌, ◌==◌, length, if◌then◌else◌, int_le, nat_lt, Some, slice_get, slice_index_or, slice_set, remove, sum_by}
use Rattle.std.specs.List.{All, Contains}
use Rattle.ep_base.specs.Intervals.{IsWithinReach}
use Rattle.ep_base.specs.Reads.{IsWithinNumbers}
use Rattle.ep_defined.specs.Growing.{IsNodeAt, IsSafeOver}
use Rattle.ep_defined.specs.Translations.{IsBoundedBelow}
use Rattle.ep_base.specs.Intervals.{Interval}
use Rattle.ep_ground.specs.ArenaSteps.{Interned}
use Rattle.ep_ground.specs.Bounds.{node_reach, reach_at, term_reach}
use Rattle.ep_ground.specs.Grounds.{LeadsTo, additions_in}
use Rattle.ep_ground.specs.Nodes.{GroundNode, sum, coefficients_of, parts_of}
use Rattle.ep_ground.specs.Terms.{PartsStandBefore, node_value, term_value}
use Rattle.ep_ground.specs.declared.cells.Cell.{Cell}
use Rattle.ep_numbers.specs.Spans.{intervals_of}
use Rattle.ep_numbers.specs.declared.spans.Span.{Span}
use Rattle.ep_reach.specs.Reaching.{HasFewParts, IsToldAt}
use Rattle.ep_share.specs.Sharing.{HasTwo}
use Rattle.ep_share.specs.declared.making.Making.{Making}
use Rattle.ep_share.specs.declared.pairs.Places.{Places}

-- of two parts the one of the later term comes first, and of one term the one with the greater coefficient
unfoldable pub comes_first : ℤ × ℕ → ℤ × ℕ → Bool
comes_first p q = if p.1 == q.1 then int_le q.0 p.0 else nat_lt q.1 p.1

-- two parts alone as a sum, in order
unfoldable pub pair_of : ℤ × ℕ → ℤ × ℕ → GroundNode
pair_of p q = if comes_first p q then sum (pos 0) (p ∷ q ∷ []) else sum (pos 0) (q ∷ p ∷ [])

-- the stages compute with how far the sum of two parts reaches, where terms reach so far
abbrev pub IsNearPair : (ℕ → Interval) → ℤ × ℕ → ℤ × ℕ → Type 0
IsNearPair reach p q = IsWithinReach (node_reach [] reach (sum (pos 0) (p ∷ q ∷ [])))

-- how far terms reach by a table
abbrev pub told_reach : List Span → ℕ → Interval
told_reach spans t = reach_at (intervals_of spans) t

-- An interval is near. Where how far a node reaches is told by a table, it is that.
pub record IsReachOver (cells : List Cell) (spans : List Span) (node : GroundNode) (i : Interval) : Type 0 where
  pub within : IsWithinReach i
  pub told : IsToldAt cells (intervals_of spans) node → i ≡ node_reach cells (told_reach spans) node

-- where a node is a sum of eight parts at most, two of which have a near sum, it is the sum of these two alone
abbrev pub IsCut : (ℕ → Interval) → GroundNode → Type 0
IsCut reach node =
    (number : ℤ) (parts : List (ℤ × ℕ)) → node ≡ sum number parts → length parts ≤ 8 → (p q : ℤ × ℕ) → HasTwo parts p q → IsNearPair reach p q → node ≡ pair_of p q

-- New nodes: no two are equal, and each stands behind its parts, has a value where they have, has few parts and is cut. The intervals that are kept are near,
-- and that of a term is its reach where all that it leads to is within bounds.
pub record IsMade (cells : List Cell) (made : Making) : Type 0 where
  pub before : PartsStandBefore made.arena
  pub different : (s t : ℕ) (node : GroundNode) → slice_get made.arena s ≡ Some node → slice_get made.arena t ≡ Some node → s ≡ t
  pub safe : All (IsSafeOver (length cells)) made.arena
  pub few : All HasFewParts made.arena
  pub long : length made.spans.items ≡ length made.arena
  pub within : All IsWithinReach (intervals_of made.spans.items)
  pub exact : (t : ℕ) → t < length made.arena → IsBoundedBelow made.arena cells t → told_reach made.spans.items t ≡ term_reach made.arena cells t
  pub cut : All (IsCut (told_reach made.spans.items)) made.arena

-- a node that can be taken in among new nodes
pub record CanBeTaken (cells : List Cell) (made : Making) (node : GroundNode) : Type 0 where
  pub parts : All (λ t. t < length made.arena) (parts_of node)
  pub safe : IsSafeOver (length cells) node
  pub few : HasFewParts node

-- the new nodes after a node was taken in
pub record IsTaken (cells : List Cell) (old : Making) (node : GroundNode) (new : Making) (term : ℕ) : Type 0 where
  pub is : IsNodeAt new.arena term node
  pub interned : Interned old.arena node new.arena
  pub made : IsMade cells new

-- two places of a list, the earlier one first
pub record AreTwoPlaces (parts : List (ℤ × ℕ)) (at : Places) : Type 0 where
  pub ascend : at.first < at.second
  pub within : at.second < length parts

-- the part at a place of a sum
abbrev pub addend_at : List (ℤ × ℕ) → ℕ → ℤ × ℕ
addend_at parts k = slice_index_or parts k (pos 0, 0)

-- the parts at two places of a sum have a near sum
abbrev pub ArePlacesOfNear : (ℕ → Interval) → List (ℤ × ℕ) → Places → Type 0
ArePlacesOfNear reach parts at = IsNearPair reach (addend_at parts at.first) (addend_at parts at.second)

-- each part of a sum is one of these nodes
abbrev pub ArePartsOf : ℕ → List (ℤ × ℕ) → Type 0
ArePartsOf nodes parts = All (λ p. p.1 < nodes) parts

-- no two parts of a sum, the later one before a place, have a near sum
abbrev pub AreFarBefore : (ℕ → Interval) → List (ℤ × ℕ) → ℕ → Type 0
AreFarBefore reach parts end =
    (i j : ℕ) (p q : ℤ × ℕ) → i < j → j < end → slice_get parts i ≡ Some p → slice_get parts j ≡ Some q → IsNearPair reach p q → ⊥

-- the parts of a sum with a term in place of the parts at two places, at the earlier one
abbrev pub with_pair : List (ℤ × ℕ) → Places → ℕ → List (ℤ × ℕ)
with_pair parts at term = remove (slice_set parts at.first (pos 1, term)) at.second

-- each part of a sum leads to terms within bounds, and its coefficient is near
abbrev pub AreBoundedParts : List GroundNode → List Cell → List (ℤ × ℕ) → Type 0
AreBoundedParts nodes cells parts = All (λ p. IsBoundedBelow nodes cells p.1 × IsWithinNumbers p.0) parts

-- one of the parts of a sum leads to a term
pub record IsBelowOne (nodes : List GroundNode) (parts : List (ℤ × ℕ)) (t : ℕ) : Type 0 where
  pub part : ℤ × ℕ
  pub is_part : Contains parts part
  pub leads : LeadsTo nodes part.1 t

-- Parts of a sum among more nodes stand for parts among the old ones: with any number the sum has the same value and reaches as far.
-- What they lead to is one of some terms, whose additions and those that are left are no more than were asked for, or stood below a part.
pub record StandsForParts (cells : List Cell) (old : List GroundNode) (parts : List (ℤ × ℕ)) (new : List GroundNode) (left : List (ℤ × ℕ)) : Type 0 where
  pub more : List GroundNode
  pub is : new ≡ old ++ more
  pub few : length more + length left ≤ length parts
  pub some : 0 < length parts → 0 < length left
  pub there : ArePartsOf (length new) left
  pub value : (values : List ℤ) (number : ℤ) → node_value values (term_value new values) (sum number left) ≡ node_value values (term_value old values) (sum number parts)
  pub reach : (number : ℤ) → node_reach cells (term_reach new cells) (sum number left) ≡ node_reach cells (term_reach old cells) (sum number parts)
  pub bounded : AreBoundedParts old cells parts → AreBoundedParts new cells left
  pub terms : List ℕ
  pub terms_there : All (λ t. t < length new) terms
  pub additions : sum_by (λ t. additions_in (slice_get new t)) terms + length left ≤ length parts
  pub below : (p : ℤ × ℕ) (u : ℕ) → Contains left p → LeadsTo new p.1 u → Contains terms u ⊎ IsBelowOne old parts u

-- what a node leads to is within bounds, where it stands over terms of these nodes
pub record IsBoundedOver (nodes : List GroundNode) (cells : List Cell) (node : GroundNode) : Type 0 where
  pub reach : IsWithinReach (node_reach cells (term_reach nodes cells) node)
  pub coefficients : All IsWithinNumbers (coefficients_of node)
  pub parts : (p : ℕ) → Contains (parts_of node) p → IsBoundedBelow nodes cells p
