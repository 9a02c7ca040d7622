-- Logs of a formula in which the steps of cubes are joined.
use Rattle.std.specs.Prelude.{◌≡◌, ℕ, ◌+◌, ◌^◌, ◌<◌, ◌≤◌, ◌⊎◌, false, Option, Some, None, List, [], ◌∷◌, ◌++◌, length, map, slice_index_or, All, AllPairs, Contains}
use Rattle.cnf_core.specs.Literal.{Literal, negation, IsClause, IsVariable, HaveSameLiterals}
use Rattle.cnf_core.specs.Events.{LogEvent, LogState, is_given, clauses_of}
use Rattle.cnf_core.specs.Steps.{IsValidLog, NonEmptyStepsAreNew}
use Rattle.sat_search.specs.Logs.{EndsWithEmptyStep, with_step}
use Rattle.sat_split.specs.Cubes.{IsNamed, cube_literals, IsFalseIn, all_given, cube_log}

-- the clause of the event at a place
abbrev pub clause_at : List LogEvent → ℕ → List Literal
clause_at events place = slice_index_or (clauses_of events) place []

-- at this place stands an event each of whose literals is false where these are true
pub record IsRefutedAt (events : List LogEvent) (literals : List Literal) (place : ℕ) : Type 0 where
  pub there : place < length events
  pub is_false : IsFalseIn literals (clause_at events place)

-- the log of a cube that has no solution: the formula's clauses and the cube's literals are given, nothing else is, each step is valid, and the
-- last one is empty
pub record IsRefutation (clauses : List (List Literal)) (literals : List Literal) (events : List LogEvent) : Type 0 where
  pub steps : List LogEvent
  pub events_are : events ≡ (cube_log clauses literals).events ++ steps
  pub are_steps : All (λ e. is_given e ≡ false) steps
  pub valid : IsValidLog events
  pub ends : EndsWithEmptyStep events

-- a log of the formula: its clauses are given in order, nothing else is, each step is valid, and the literals of each clause are in order
pub record IsLogOfClauses (clauses : List (List Literal)) (events : List LogEvent) : Type 0 where
  pub steps : List LogEvent
  pub events_are : events ≡ all_given clauses ++ steps
  pub are_steps : All (λ e. is_given e ≡ false) steps
  pub valid : IsValidLog events
  pub are_clauses : All IsClause (clauses_of events)

-- a clause has the negation of each of these literals
abbrev pub HasNegations : List Literal → List Literal → Type 0
HasNegations literals clause = All (λ l. Contains clause (negation l)) literals

-- a clause is the formula's, or has the negation of each literal of a cube below the number
abbrev pub IsOfCubes : List (List Literal) → List ℕ → ℕ → List Literal → Type 0
IsOfCubes clauses vars cubes clause =
    Contains clauses clause ⊎ ((c : ℕ) × (c < cubes) × HasNegations (cube_literals c vars) clause)

-- A log of the formula refutes each of the first cubes, at its place among the ends. Each clause of it is the formula's, or has the negations
-- of one of these cubes.
pub record RefutesCubes (clauses : List (List Literal)) (vars ends : List ℕ) (events : List LogEvent) : Type 0 where
  pub joined : IsLogOfClauses clauses events
  pub refuted : (c : ℕ) → c < length ends → IsRefutedAt events (cube_literals c vars) (slice_index_or ends c 0)
  pub origins : All (IsOfCubes clauses vars (length ends)) (clauses_of events)

-- what is known of the variables by which a formula is divided
pub record Divides (clauses : List (List Literal)) (vars : List ℕ) : Type 0 where
  pub ascending : AllPairs ◌<◌ vars
  pub named : All (IsNamed clauses) vars
  pub variables : All IsVariable vars

-- the cubes of these variables are all refuted
pub record IsClosing (clauses : List (List Literal)) (vars ends : List ℕ) (events : List LogEvent) : Type 0 where
  pub joined : IsLogOfClauses clauses events
  pub count : length ends ≡ 2 ^ length vars
  pub refuted : (c : ℕ) → c < length ends → IsRefutedAt events (cube_literals c vars) (slice_index_or ends c 0)

-- where each step with a literal of the earlier events is new, each of the later ones is
abbrev pub KeepsNew : List LogEvent → List LogEvent → Type 0
KeepsNew earlier later = NonEmptyStepsAreNew earlier → NonEmptyStepsAreNew later

-- the next cube can be joined: it was refuted, and the cubes below it are joined
pub record CanJoin (clauses : List (List Literal)) (vars ends : List ℕ) (refuted joined : List LogEvent) : Type 0 where
  pub divides : Divides clauses vars
  pub is_cube : length ends < 2 ^ length vars
  pub refutation : IsRefutation clauses (cube_literals (length ends) vars) refuted
  pub joint : RefutesCubes clauses vars ends joined

-- Where the clause of a hint of a cube's step stands in the joined log, in which the cube's first step has the place first. A clause of the
-- formula that one of the cube's literals makes true may be left out; a literal of the cube stands nowhere.
abbrev pub IsPlace : List (List Literal) → List Literal → ℕ → ℕ → Option ℕ → Type 0
IsPlace clauses literals first hint (Some place) =
    ((hint < length clauses) × (place ≡ hint))
    ⊎ ((length clauses + length literals ≤ hint) × (place + (length clauses + length literals) ≡ first + hint))
IsPlace clauses literals first hint None =
    ((hint < length clauses) × ((l : Literal) × Contains literals l × Contains (slice_index_or clauses hint []) l))
    ⊎ ((length clauses ≤ hint) × (hint < length clauses + length literals))

-- the places of all hints, in order
abbrev pub ArePlaces : List (List Literal) → List Literal → ℕ → List ℕ → List ℕ → Type 0
ArePlaces clauses literals first [] places = places ≡ []
ArePlaces clauses literals first (hint ∷ hints) places =
    (IsPlace clauses literals first hint None × ArePlaces clauses literals first hints places)
    ⊎ ((place : ℕ) × (rest : List ℕ) × (places ≡ place ∷ rest) × IsPlace clauses literals first hint (Some place) × ArePlaces clauses literals first hints rest)

-- the clause of the negations of these literals, and of a clause
abbrev pub IsWidened : List Literal → List Literal → List Literal → Type 0
IsWidened literals clause wide = HaveSameLiterals wide (map negation literals ++ clause)

-- An event each of whose literals is false where these are true was found at the place, or there was none and the step that says so was added
-- there, with these hints.
abbrev pub Refutes : LogState → LogState → List Literal → List ℕ → ℕ → Type 0
Refutes old new literals hints place =
    ((new ≡ old) × IsRefutedAt old.events literals place)
    ⊎ ((clause : List Literal) × (new ≡ with_step old clause hints) × (place ≡ length old.events)
    × IsClause clause × HaveSameLiterals clause (map negation literals)
    × All (λ other. IsFalseIn literals other → ⊥) (clauses_of old.events))
