-- Proofs of cubes, whose lines name clauses by ids, as logs, whose steps name them by their places.
use Rattle.std.specs.Prelude.{◌≡◌, ℕ, suc, zero, ◌+◌, ◌<◌, ◌⊎◌, ℤ, pos, false, List, [], ◌∷◌, ◌++◌, length, map, slice_index_or, All}
use Rattle.cnf_core.specs.Literal.{Literal}
use Rattle.cnf_core.specs.Events.{LogEvent, is_given}
use Rattle.cnf_core.specs.Steps.{IsValidLog}
use Rattle.sat_search.specs.Logs.{EndsWithEmptyStep}
use Rattle.sat_split.specs.Cubes.{all_given, cube_literals, unit_of}

-- the clauses of a formula, and the literals of a cube behind them, each as a clause of its own
abbrev pub cube_clauses : List (List Literal) → List ℕ → ℕ → List (List Literal)
cube_clauses clauses vars cube = clauses ++ map unit_of (cube_literals cube vars)

-- each id is greater than those before it
abbrev pub Ascend : List ℕ → Type 0
Ascend ids = (i j : ℕ) → i < j → j < length ids → slice_index_or ids i 0 < slice_index_or ids j 0

-- a hint names the event at this place
pub record IsPlaceOf (ids : List ℕ) (hint : ℤ) (place : ℕ) : Type 0 where
  pub there : place < length ids
  pub named : pos (slice_index_or ids place 0) ≡ hint

-- a hint names no event
abbrev pub IsNoId : List ℕ → ℤ → Type 0
IsNoId ids hint = (place : ℕ) → IsPlaceOf ids hint place → ⊥

-- the places of the events that hints name, up to the first that names none
abbrev pub AreIdPlaces : List ℕ → List ℤ → List ℕ → Type 0
AreIdPlaces ids [] places = places ≡ []
AreIdPlaces ids (hint ∷ hints) places =
    (IsNoId ids hint × (places ≡ []))
    ⊎ ((place : ℕ) × (rest : List ℕ) × (places ≡ place ∷ rest) × IsPlaceOf ids hint place × AreIdPlaces ids hints rest)

-- so many ids, from the first on
abbrev pub ids_on : ℕ → ℕ → List ℕ
ids_on first zero = []
ids_on first (suc more) = first ∷ ids_on (first + 1) more

-- the ids of so many clauses of a formula
abbrev pub first_ids : ℕ → List ℕ
first_ids count = ids_on 1 count

-- the events are a formula's clauses, all given, and valid steps, the last of which is empty
pub record IsProved (clauses : List (List Literal)) (events : List LogEvent) : Type 0 where
  pub steps : List LogEvent
  pub events_are : events ≡ all_given clauses ++ steps
  pub are_steps : All (λ e. is_given e ≡ false) steps
  pub valid : IsValidLog events
  pub ends : EndsWithEmptyStep events
