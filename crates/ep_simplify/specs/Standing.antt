-- What it is that terms of a new ground stand for those of an old one.
use Rattle.std.specs.Prelude.{◌≡◌, ℕ, ◌<◌, ◌≤◌, ℤ, List, length, map, None, Option, Some, slice_index_or}
use Rattle.ep_base.specs.declared.operators.Sense.{Sense}
use Rattle.ep_ground.specs.Bounds.{term_reach}
use Rattle.ep_ground.specs.Grounds.{AreCellValues, GroundState, LeadsTo}
use Rattle.ep_ground.specs.Nodes.{GroundNode, undefined}
use Rattle.ep_ground.specs.Terms.{term_value}
use Rattle.ep_ground.specs.declared.cells.Cell.{Cell}
use Rattle.ep_reach.specs.Narrowing.{IsNarrower}
use Rattle.ep_simplify.specs.Settling.{AsksNoMore}

-- the term that stands for a term, and 0 for one that has none
abbrev pub standing_at : List ℕ → ℕ → ℕ
standing_at images t = slice_index_or images t 0

-- A term of the new nodes stands for one of the old ones: under all values that the cells may have it has the same value, and it
-- reaches no farther.
pub record StandsInFor (cells : List Cell) (olds news : List GroundNode) (t image : ℕ) : Type 0 where
  pub there : image < length news
  pub value : (values : List ℤ) → AreCellValues cells values → term_value news values image ≡ term_value olds values t
  pub reach : IsNarrower (term_reach news cells image) (term_reach olds cells t)

-- A new term comes of what an old term leads to: it stands for that, and asks for no more.
pub record ComesOf (olds news : List GroundNode) (images : List ℕ) (t u : ℕ) : Type 0 where
  pub old : ℕ
  pub leads : LeadsTo olds t old
  pub below : old < length images
  pub is : standing_at images old ≡ u
  pub asks : AsksNoMore (slice_index_or olds old undefined) (slice_index_or news u undefined)

-- What stands for the first terms of an old ground, one node at most for each of them; each term that they lead to comes of one that
-- those lead to.
pub record Stand (cells : List Cell) (olds news : List GroundNode) (images : List ℕ) : Type 0 where
  pub each : (t : ℕ) → t < length images → StandsInFor cells olds news t (standing_at images t)
  pub back : (t : ℕ) → t < length images → (u : ℕ) → LeadsTo news (standing_at images t) u → ComesOf olds news images t u
  pub few : length news ≤ length images

-- an objective over the term that stands for its own
unfoldable pub goal_image : List ℕ → Option (Sense × ℕ) → Option (Sense × ℕ)
goal_image images None = None
goal_image images (Some goal) = Some (goal.0, standing_at images goal.1)

-- a ground with the same cells, and with what stands for the clauses and the objective of another
pub record IsSimplified (g new : GroundState) (images : List ℕ) : Type 0 where
  pub cells : new.cells ≡ g.cells
  pub clauses : new.clauses ≡ map (standing_at images) g.clauses
  pub objective : new.objective ≡ goal_image images g.objective
