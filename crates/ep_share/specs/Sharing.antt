-- Which grounds share what their sums have in common.
use Rattle.std.specs.Prelude.{◌≡◌, ◌≢◌, ℕ, ◌≤◌, ℤ, pos, List, [], ◌∷◌, length, Some, slice_get}
use Rattle.ep_base.specs.Intervals.{IsWithinReach}
use Rattle.ep_ground.specs.Bounds.{node_reach, term_reach}
use Rattle.ep_ground.specs.Grounds.{GroundState, IsTermReached}
use Rattle.ep_ground.specs.Nodes.{sum}

-- among a sum's parts these two stand, at two places
pub record HasTwo (parts : List (ℤ × ℕ)) (p q : ℤ × ℕ) : Type 0 where
  pub first : ℕ
  pub second : ℕ
  pub apart : first ≢ second
  pub at_first : slice_get parts first ≡ Some p
  pub at_second : slice_get parts second ≡ Some q

-- the stages compute with how far the sum of two parts reaches
abbrev pub IsNearSum : GroundState → ℤ × ℕ → ℤ × ℕ → Type 0
IsNearSum g p q = IsWithinReach (node_reach g.cells (term_reach g.nodes g.cells) (sum (pos 0) (p ∷ q ∷ [])))

-- a term that the clauses and the objective lead to is a sum of these parts, eight at most
pub record IsSmallSum (g : GroundState) (t : ℕ) (parts : List (ℤ × ℕ)) : Type 0 where
  pub reached : IsTermReached g t
  pub number : ℤ
  pub is : slice_get g.nodes t ≡ Some (sum number parts)
  pub few : length parts ≤ 8

-- no two parts with a near sum stand together in two different sums of eight parts at most
abbrev pub AreShared : GroundState → Type 0
AreShared g =
    (s t : ℕ) → s ≢ t → (ps qs : List (ℤ × ℕ)) → IsSmallSum g s ps → IsSmallSum g t qs → (p q : ℤ × ℕ) → HasTwo ps p q → HasTwo qs p q → IsNearSum g p q → ⊥
