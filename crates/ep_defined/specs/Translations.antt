-- What it is that a term of a new ground stands for a term of an old one.
use Rattle.std.specs.Prelude.{◌≡◌, ℕ, ◌+◌, ◌*◌, ◌<◌, ◌≤◌, ℤ, pos, Bool, true, false, List, [], ◌∷◌, ◌++◌, length, Option, Some, None, IfSome, option_to_list, slice_index_or}
use Rattle.std.specs.List.{All, flat_map}
use Rattle.ep_base.specs.declared.operators.Sense.{Sense}
use Rattle.ep_base.specs.Numbers.{of_bool}
use Rattle.ep_base.specs.Reads.{IsWithinNumbers}
use Rattle.ep_base.specs.Intervals.{IsWithinReach}
use Rattle.ep_defined.specs.Growing.{IsNodeAt, IsSafeOver}
use Rattle.ep_defined.specs.Images.{StandsIn, image_at, total_at}
use Rattle.ep_defined.specs.declared.images.Image.{Image}
use Rattle.ep_ground.specs.Bounds.{term_reach}
use Rattle.ep_ground.specs.Grounds.{GroundState, LeadsTo}
use Rattle.ep_ground.specs.Nodes.{GroundNode, constant, undefined, coefficients_of}
use Rattle.ep_ground.specs.Terms.{PartsStandBefore, term_value}
use Rattle.ep_ground.specs.declared.cells.Cell.{Cell}

-- a number, where it is there
abbrev pub only_if : Bool → ℤ → Option ℤ
only_if true number = Some number
only_if false number = None

-- a term has this truth value, where there is a term, and none stands for true
abbrev pub IsTruth : (ℕ → Option ℤ) → Option ℕ → Bool → Type 0
IsTruth value None holds = holds ≡ true
IsTruth value (Some g) holds = value g ≡ Some (of_bool holds)

-- The total term has a number, which is the old value where the guard is 1; where it is 0 there is no old value.
pub record StandsForTerm (value : ℕ → Option ℤ) (old : Option ℤ) (image : Image) : Type 0 where
  pub number : ℤ
  pub has : Bool
  pub total : value image.total ≡ Some number
  pub guard : IsTruth value image.guard has
  pub is : old ≡ only_if has number

-- each term that a term leads to reaches within the numbers that the stages compute with, and so do its coefficients
abbrev pub IsBoundedBelow : List GroundNode → List Cell → ℕ → Type 0
IsBoundedBelow nodes cells t =
    (u : ℕ) → LeadsTo nodes t u → IsWithinReach (term_reach nodes cells u) × All IsWithinNumbers (coefficients_of (slice_index_or nodes u undefined))

-- A term of an old ground and what stands for it: its value over any values of the cells, how far it reaches, and that it stays
-- within bounds.
pub record Translated (cells : List Cell) (olds news : List GroundNode) (t : ℕ) (image : Image) : Type 0 where
  pub there : StandsIn news image
  pub stands : (values : List ℤ) → length values ≡ length cells → StandsForTerm (term_value news values) (term_value olds values t) image
  pub reach : term_reach news cells image.total ≡ term_reach olds cells t
  pub bounded : IsBoundedBelow olds cells t → IsBoundedBelow news cells image.total × IfSome image.guard (IsBoundedBelow news cells)

-- What stands for the first terms of an old ground, among new nodes of which one is 0 and none is partial.
pub record Translates (cells : List Cell) (olds news : List GroundNode) (nought : ℕ) (images : List Image) : Type 0 where
  pub before : PartsStandBefore news
  pub is_nought : IsNodeAt news nought (constant (pos 0))
  pub each : (t : ℕ) → t < length images → Translated cells olds news t (image_at images t)
  pub safe : All (IsSafeOver (length cells)) news
  pub few : length news ≤ 3 * length images + 1

-- the terms that have to be 1 where a term has to be
abbrev pub clause_terms : Image → List ℕ
clause_terms image = image.total ∷ option_to_list image.guard

-- the guard of an objective, where there is one
abbrev pub objective_guards : List Image → Option (Sense × ℕ) → List ℕ
objective_guards images None = []
objective_guards images (Some goal) = option_to_list (image_at images goal.1).guard

-- an objective over the term that always has a value
abbrev pub objective_total : List Image → Option (Sense × ℕ) → Option (Sense × ℕ)
objective_total images None = None
objective_total images (Some goal) = Some (goal.0, total_at images goal.1)

-- A ground with the same cells, and with what stands for the clauses and the objective of another.
pub record IsRemoved (g new : GroundState) (images : List Image) : Type 0 where
  pub cells : new.cells ≡ g.cells
  pub clauses : new.clauses ≡ flat_map (λ t. clause_terms (image_at images t)) g.clauses ++ objective_guards images g.objective
  pub objective : new.objective ≡ objective_total images g.objective
