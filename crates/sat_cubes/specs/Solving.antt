-- What comes of one cube.
use Rattle.std.specs.Prelude.{◌≡◌, ℕ, ◌+◌, ◌^◌, ◌<◌, ◌≤◌, Bool, false, List, [], ◌++◌, length, slice_index_or, All, IfOk, Result, Ok}
use Rattle.cnf_core.specs.Literal.{Literal}
use Rattle.cnf_core.specs.Clauses.{Satisfies}
use Rattle.cnf_core.specs.Formula.{Cnf}
use Rattle.cnf_core.specs.Events.{LogEvent, LogState, is_given, nonempty_steps}
use Rattle.cnf_core.specs.Steps.{NonEmptyStepsAreNew}
use Rattle.sat_search.specs.Logs.{IsSound, NoneIsEmpty}
use Rattle.sat_search.specs.View.{value_in}
use Rattle.sat_split.specs.Cubes.{cube_literals, LiesInCube, cube_log}
use Rattle.sat_join.specs.Joins.{IsRefutation, Divides, RefutesCubes}
use Rattle.sat_cubes.specs.Answers.{is_variable_true, NoneBelow}
use Rattle.sat_cubes.specs.declared.solving.Solved.{Solved}
use Rattle.sat_cubes.specs.declared.solving.Solved.TheVariants.{Sat, Unsat, Spent}
use Rattle.sat_cubes.specs.declared.solving.OpenCube.{OpenCube}
use Rattle.sat_cubes.specs.declared.solving.OpenCube.TheVariants as unrefuted
use Rattle.ep_base.specs.declared.errors.Memory.{Memory}

-- the values of the variables from 1 on are those that these literals give them
pub record AreValues (trues : List Literal) (vars : ℕ) (values : List Bool) : Type 0 where
  pub count : length values ≡ vars
  pub same : (v : ℕ) → 1 ≤ v → v ≤ vars → is_variable_true values v ≡ value_in trues v

-- values that satisfy the formula, in the cube of these literals
pub record IsModelIn (f : Cnf) (literals : List Literal) (values : List Bool) : Type 0 where
  pub count : length values ≡ f.vars
  pub satisfies : Satisfies (is_variable_true values) f.clauses
  pub lies_in : LiesInCube literals (is_variable_true values)

-- the log of a cube in which nothing satisfies the formula
pub record IsRefuted (f : Cnf) (literals : List Literal) (log : LogState) : Type 0 where
  pub refutation : IsRefutation f.clauses literals log.events
  pub sound : IsSound log.events
  pub none : (s : ℕ → Bool) → LiesInCube literals s → Satisfies s f.clauses → ⊥

-- the log of a cube whose budget is spent
pub record IsSpentLog (f : Cnf) (literals : List Literal) (budget : ℕ) (log : LogState) : Type 0 where
  pub steps : List LogEvent
  pub events : log.events ≡ (cube_log f.clauses literals).events ++ steps
  pub are_steps : All (λ e. is_given e ≡ false) steps
  pub sound : IsSound log.events
  pub spent : nonempty_steps log.events ≡ budget
  pub none_empty : NoneIsEmpty log.events
  pub notes : log.notes ≡ []
  pub base : log.base ≡ 0

-- what is known of a cube that was solved
abbrev pub IsSolved : Cnf → List Literal → ℕ → Solved → Type 0
IsSolved f literals budget (Sat values) = IsModelIn f literals values.items
IsSolved f literals budget (Unsat log) = IsRefuted f literals log × (nonempty_steps log.events ≤ budget)
IsSolved f literals budget (Spent log) = IsSpentLog f literals budget log

-- what is known of a cube that isn't refuted
abbrev pub IsOpenCube : Cnf → List Literal → ℕ → OpenCube → Type 0
IsOpenCube f literals budget (unrefuted.Sat values) = IsModelIn f literals values.items
IsOpenCube f literals budget (unrefuted.Spent log) = IsSpentLog f literals budget log

-- a cube isn't refuted
abbrev pub IsOpen : Solved → Type 0
IsOpen (Sat values) = Unit {0}
IsOpen (Unsat log) = ⊥
IsOpen (Spent log) = Unit {0}

-- what a wave says is refuted is so, from the cube of a number on
abbrev pub AreRefuted : Cnf → List ℕ → ℕ → List (Result Solved Memory) → Type 0
AreRefuted f vars first wave =
    (i : ℕ) (d : Result Solved Memory) (log : LogState) → i < length wave → slice_index_or wave i d ≡ Ok (Unsat log) → IsRefuted f (cube_literals (first + i) vars) log

-- each cube of a wave was solved, from the cube of a number on, unless memory was wanting
abbrev pub AreSolved : Cnf → List ℕ → ℕ → ℕ → List (Result Solved Memory) → Type 0
AreSolved f vars first budget wave =
    (i : ℕ) (d : Result Solved Memory) → i < length wave → IfOk (slice_index_or wave i d) (λ solved. IsSolved f (cube_literals (first + i) vars) budget solved)

-- the first cubes are refuted and joined
pub record IsSoFar (f : Cnf) (vars ends : List ℕ) (joined : LogState) : Type 0 where
  pub divides : Divides f.clauses vars
  pub joint : RefutesCubes f.clauses vars ends joined.events
  pub new : NonEmptyStepsAreNew joined.events
  pub none_below : NoneBelow f.clauses vars (length ends)
  pub within : length ends ≤ 2 ^ length vars
  pub notes : joined.notes ≡ []
  pub base : joined.base ≡ 0
