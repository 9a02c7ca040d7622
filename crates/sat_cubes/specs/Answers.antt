-- What solving the cubes of a formula has to answer.
use Rattle.std.specs.Prelude.{◌≡◌, ℕ, ◌-◌, ◌^◌, ◌<◌, ◌≤◌, Bool, false, List, [], ◌++◌, length, slice_index_or, All, Contains}
use Rattle.cnf_core.specs.Literal.{Literal}
use Rattle.cnf_core.specs.Clauses.{Satisfies}
use Rattle.cnf_core.specs.Formula.{Cnf}
use Rattle.cnf_core.specs.Events.{LogEvent, LogState, is_given, clauses_of, nonempty_steps}
use Rattle.cnf_core.specs.Steps.{IsValidLog, NonEmptyStepsAreNew}
use Rattle.sat_search.specs.Logs.{IsSound, EndsWithEmptyStep, NoneIsEmpty}
use Rattle.sat_split.specs.Cubes.{AreCubeVariables, cube_literals, LiesInCube, IsFalseIn, all_given, cube_log}
use Rattle.sat_join.specs.Joins.{IsRefutation}
use Rattle.sat_cubes.specs.declared.cubed.Cubed.{Cubed}
use Rattle.sat_cubes.specs.declared.cubed.Cubed.TheVariants.{Sat, Unsat, Spent}

-- the assignment of a list of values, the first being that of variable 1
abbrev pub is_variable_true : List Bool → ℕ → Bool
is_variable_true values v = slice_index_or values (v - 1) false

-- no assignment in a cube below the number satisfies the clauses
abbrev pub NoneBelow : List (List Literal) → List ℕ → ℕ → Type 0
NoneBelow clauses vars cube =
    (c : ℕ) → c < cube → (s : ℕ → Bool) → LiesInCube (cube_literals c vars) s → Satisfies s clauses → ⊥

-- A cube is refuted within a budget: a log of its own begins with the formula's clauses and the cube's literals, has sound steps and ends with
-- the empty one, and at most so many of its steps have a literal.
pub record IsRefutedWithin (clauses : List (List Literal)) (literals : List Literal) (budget : ℕ) : Type 0 where
  pub events : List LogEvent
  pub refutation : IsRefutation clauses literals events
  pub sound : IsSound events
  pub within : nonempty_steps events ≤ budget

-- each cube below the number is refuted within the budget
abbrev pub AreRefutedWithin : List (List Literal) → List ℕ → ℕ → ℕ → Type 0
AreRefutedWithin clauses vars cube budget = (c : ℕ) → c < cube → IsRefutedWithin clauses (cube_literals c vars) budget

-- an event of the log holds only literals that are false in a cube
pub record IsRefutedIn (events : List LogEvent) (literals : List Literal) : Type 0 where
  pub clause : List Literal
  pub in_log : Contains (clauses_of events) clause
  pub is_false : IsFalseIn literals clause

-- Events of the undivided formula, which refute each cube below the number: the formula's clauses are given in order, nothing else is, each
-- step is valid, and each step with a literal is new.
pub record IsJoinedLog (clauses : List (List Literal)) (vars : List ℕ) (cubes : ℕ) (events : List LogEvent) : Type 0 where
  pub steps : List LogEvent
  pub events_are : events ≡ all_given clauses ++ steps
  pub are_steps : All (λ e. is_given e ≡ false) steps
  pub valid : IsValidLog events
  pub new : NonEmptyStepsAreNew events
  pub refuted : (c : ℕ) → c < cubes → IsRefutedIn events (cube_literals c vars)

-- The values satisfy the formula and lie in a cube. Each lower cube is refuted within the budget and by one of the joined events, and nothing
-- in it satisfies the formula.
pub record IsSatIn (f : Cnf) (vars : List ℕ) (cube budget : ℕ) (values : List Bool) (events : List LogEvent) : Type 0 where
  pub is_cube : cube < 2 ^ length vars
  pub count : length values ≡ f.vars
  pub satisfies : Satisfies (is_variable_true values) f.clauses
  pub lies_in : LiesInCube (cube_literals cube vars) (is_variable_true values)
  pub none_below : NoneBelow f.clauses vars cube
  pub refuted_within : AreRefutedWithin f.clauses vars cube budget
  pub joined : IsJoinedLog f.clauses vars cube events

-- Nothing satisfies the formula: each cube is refuted within the budget, the joined events refute it, and the last of them is the empty step.
pub record IsUnsat (f : Cnf) (vars : List ℕ) (budget : ℕ) (events : List LogEvent) : Type 0 where
  pub none : (s : ℕ → Bool) → Satisfies s f.clauses → ⊥
  pub refuted_within : AreRefutedWithin f.clauses vars (2 ^ length vars) budget
  pub joined : IsJoinedLog f.clauses vars (2 ^ length vars) events
  pub ends : EndsWithEmptyStep events

-- The events are a cube's own: the formula's clauses and the cube's literals are given, nothing else is, and each step is valid. As many steps
-- have a literal as the budget allows, each of them is new and effective, and no clause is empty. Each lower cube is refuted
-- within the budget, and nothing in it satisfies the formula.
pub record IsSpentIn (f : Cnf) (vars : List ℕ) (cube budget : ℕ) (events : List LogEvent) : Type 0 where
  pub is_cube : cube < 2 ^ length vars
  pub steps : List LogEvent
  pub events_are : events ≡ (cube_log f.clauses (cube_literals cube vars)).events ++ steps
  pub are_steps : All (λ e. is_given e ≡ false) steps
  pub sound : IsSound events
  pub spent : nonempty_steps events ≡ budget
  pub none_empty : NoneIsEmpty events
  pub none_below : NoneBelow f.clauses vars cube
  pub refuted_within : AreRefutedWithin f.clauses vars cube budget

-- the log has no notes, and the base 0
abbrev pub IsUnmarked : LogState → Type 0
IsUnmarked log = (log.notes ≡ []) × (log.base ≡ 0)

-- what an answer says over these variables
abbrev pub AnswersCubes : Cnf → ℕ → List ℕ → Cubed → Type 0
AnswersCubes f budget vars (Sat cube values log) = IsSatIn f vars cube budget values.items log.events × IsUnmarked log
AnswersCubes f budget vars (Unsat log) = IsUnsat f vars budget log.events × IsUnmarked log
AnswersCubes f budget vars (Spent cube log) = IsSpentIn f vars cube budget log.events × IsUnmarked log

-- what comes of the cubes over the cube variables, at most so many of these, each cube within the budget
pub record ComesOfCubes (f : Cnf) (most budget : ℕ) (cubed : Cubed) : Type 0 where
  pub vars : List ℕ
  pub are : AreCubeVariables most f.clauses vars
  pub answer : AnswersCubes f budget vars cubed
