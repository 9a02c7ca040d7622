-- What it is that terms of a new ground stand for those of an old one, with the same values and the same reaches.
use Rattle.std.specs.Prelude.{◌≡◌, ◌⊎◌, ℕ, ◌*◌, ◌<◌, ◌≤◌, ℤ, Some, List, [], ◌++◌, length, slice_get, slice_index_or, sum_by}
use Rattle.std.specs.List.{All, Contains}
use Rattle.ep_defined.specs.Translations.{IsBoundedBelow}
use Rattle.ep_ground.specs.Bounds.{node_reach, term_reach}
use Rattle.ep_ground.specs.Grounds.{LeadsTo, additions_in}
use Rattle.ep_ground.specs.Nodes.{GroundNode}
use Rattle.ep_ground.specs.Terms.{node_value, term_value}
use Rattle.ep_ground.specs.declared.cells.Cell.{Cell}
use Rattle.ep_share.specs.Cutting.{IsBoundedOver, IsMade}
use Rattle.ep_share.specs.declared.making.Making.{Making}
use Rattle.ep_simplify.specs.Settling.{IsBelowPart}
use Rattle.ep_simplify.specs.Standing.{standing_at}

-- how many additions these terms of some nodes ask for
unfoldable pub additions_of : List GroundNode → List ℕ → ℕ
additions_of nodes terms = sum_by (λ t. additions_in (slice_get nodes t)) terms

-- A term among so many more nodes at most stands for a node over the old ones. What it leads to is one of some terms, which ask for no more
-- additions than the node, or stood below a part of the node.
pub record SettlesNode (cells : List Cell) (most : ℕ) (old : List GroundNode) (node : GroundNode) (new : List GroundNode) (term : ℕ) : Type 0 where
  pub more : List GroundNode
  pub is : new ≡ old ++ more
  pub few : length more ≤ most
  pub there : term < length new
  pub value : (values : List ℤ) → term_value new values term ≡ node_value values (term_value old values) node
  pub reach : term_reach new cells term ≡ node_reach cells (term_reach old cells) node
  pub bounded : IsBoundedOver old cells node → IsBoundedBelow new cells term
  pub terms : List ℕ
  pub terms_there : All (λ t. t < length new) terms
  pub additions : additions_of new terms ≤ additions_in (Some node)
  pub below : (u : ℕ) → LeadsTo new term u → Contains terms u ⊎ IsBelowPart old node u

-- the new nodes after a node was settled, with so many more at most
pub record IsSettled (cells : List Cell) (most : ℕ) (old : Making) (node : GroundNode) (new : Making) (term : ℕ) : Type 0 where
  pub settles : SettlesNode cells most old.arena node new.arena term
  pub made : IsMade cells new

-- a term of the new nodes stands for one of the old ones: it has the same value, reaches as far, and stays within bounds
pub record StandsInFor (cells : List Cell) (olds news : List GroundNode) (t image : ℕ) : Type 0 where
  pub there : image < length news
  pub value : (values : List ℤ) → term_value news values image ≡ term_value olds values t
  pub reach : term_reach news cells image ≡ term_reach olds cells t
  pub bounded : IsBoundedBelow olds cells t → IsBoundedBelow news cells image

-- the new terms that were made for an old one
abbrev pub group_at : List (List ℕ) → ℕ → List ℕ
group_at groups t = slice_index_or groups t []

-- a new term was made for an old one, to which this one leads
pub record ComesOf (olds : List GroundNode) (groups : List (List ℕ)) (t u : ℕ) : Type 0 where
  pub old : ℕ
  pub leads : LeadsTo olds t old
  pub below : old < length groups
  pub is : Contains (group_at groups old) u

-- What stands for the first terms of an old ground, eight nodes at most for each of them, and which new terms were made for each: these
-- ask for no more additions than it. Each term that an image leads to was made for one that the old term leads to.
pub record Stand (cells : List Cell) (olds news : List GroundNode) (images : List ℕ) : Type 0 where
  pub each : (t : ℕ) → t < length images → StandsInFor cells olds news t (standing_at images t)
  pub groups : List (List ℕ)
  pub long : length groups ≡ length images
  pub there : (t : ℕ) → t < length images → All (λ u. u < length news) (group_at groups t)
  pub additions : (t : ℕ) → t < length images → additions_of news (group_at groups t) ≤ additions_in (slice_get olds t)
  pub back : (t u : ℕ) → t < length images → LeadsTo news (standing_at images t) u → ComesOf olds groups t u
  pub few : length news ≤ 8 * length images
