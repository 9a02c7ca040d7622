-- What a log shows of an answer that came by cubes.
use Rattle.std.specs.Prelude.{◌≡◌, ℕ, ℤ, ◌^◌, ◌<◌, Bool, List, [], length, map, None}
use Rattle.cnf_core.specs.Clauses.{Satisfies}
use Rattle.cnf_core.specs.Events.{LogState, Note, givens}
use Rattle.cnf_core.specs.Literal.{Literal}
use Rattle.cnf_core.specs.Steps.{IsValidLog, NonEmptyStepsAreNew}
use Rattle.ep_answer.specs.Problems.{base_clauses}
use Rattle.ep_print.specs.Answers.{AnswerTree, no_solution, optimum, solution, unknown, unknown_with}
use Rattle.ep_tree.specs.Binding.{Instance}
use Rattle.ep_tree.specs.Solutions.{Assigned, found_of}
use Rattle.ep_tree.specs.declared.values.Mode.{Mode}
use Rattle.ep_unroll.specs.Cells.{found_numbers, instance_cells}
use Rattle.sat_search.specs.Logs.{EndsWithEmptyStep, IsSound}
use Rattle.sat_split.specs.Cubes.{AreCubeVariables, LiesInCube, cube_literals, unit_of}
use Rattle.sat_cubes.specs.Answers.{AreRefutedWithin, IsRefutedIn, NoneBelow}
use Rattle.ep_solve.specs.Logged.{IsLogged, Stands, TellNumbers, TellSolutions, added_clauses}
use Rattle.ep_solve.specs.Right.{IsSpent}

-- Under an assignment in a cube that satisfies the clauses, the notes tell these numbers of an instance's cells.
pub record AreToldIn (i : Instance) (notes : List Note) (clauses : List (List Literal)) (cube : List Literal) (numbers : List ℤ) : Type 0 where
  pub assignment : ℕ → Bool
  pub satisfies : Satisfies assignment clauses
  pub lies_in : LiesInCube cube assignment
  pub tell : TellNumbers assignment notes (instance_cells i) numbers

-- A solution is told in a cube. Each lower cube is refuted within the budget and by an event of the log, and nothing in it satisfies what
-- stands for the instance. Nothing was added to that.
pub record IsSolutionInCube (i : Instance) (vars : List ℕ) (budget : ℕ) (log : LogState) (a : Assigned) : Type 0 where
  pub cube : ℕ
  pub is_cube : cube < 2 ^ length vars
  pub told : AreToldIn i log.notes (base_clauses log) (cube_literals cube vars) (found_numbers (found_of a))
  pub none_below : NoneBelow (base_clauses log) vars cube
  pub refuted_within : AreRefutedWithin (base_clauses log) vars cube budget
  pub refuted : (c : ℕ) → c < cube → IsRefutedIn log.events (cube_literals c vars)
  pub added : added_clauses log ≡ []

-- Each cube is refuted within the budget, and the log ends with the empty step. Nothing was added to what stands for the instance.
pub record IsRefutedByCubes (vars : List ℕ) (budget : ℕ) (log : LogState) : Type 0 where
  pub refuted_within : AreRefutedWithin (base_clauses log) vars (2 ^ length vars) budget
  pub ends : EndsWithEmptyStep log.events
  pub added : added_clauses log ≡ []

-- The budget was spent in a cube: as many steps have a literal, each of these is new and effective, and no clause is empty. The cube's literals
-- were added as clauses of their own, and what is left are exactly the solutions that are told in the cube. Each lower cube is refuted within
-- the budget, and nothing in it satisfies what stands for the instance.
pub record IsSpentInCube (mode : Mode) (i : Instance) (vars : List ℕ) (budget : ℕ) (log : LogState) : Type 0 where
  pub cube : ℕ
  pub is_cube : cube < 2 ^ length vars
  pub sound : IsSound log.events
  pub spent : IsSpent budget log.events
  pub added : added_clauses log ≡ map unit_of (cube_literals cube vars)
  pub left : TellSolutions mode i log.notes (givens log.events) (λ found. AreToldIn i log.notes (base_clauses log) (cube_literals cube vars) (found_numbers found))
  pub none_below : NoneBelow (base_clauses log) vars cube
  pub refuted_within : AreRefutedWithin (base_clauses log) vars cube budget

-- what the log shows of each answer
unfoldable pub ShowsInCubes : Mode → Instance → List ℕ → ℕ → LogState → AnswerTree → Type 0
ShowsInCubes mode i vars budget log (solution a) = IsSolutionInCube i vars budget log a
ShowsInCubes mode i vars budget log (optimum value a) = ⊥
ShowsInCubes mode i vars budget log no_solution = IsRefutedByCubes vars budget log
ShowsInCubes mode i vars budget log (unknown conflicts) = IsSpentInCube mode i vars budget log
ShowsInCubes mode i vars budget log (unknown_with conflicts value a) = ⊥

-- An answer of an instance is logged over at most so many cube variables: the log stands for the instance, its steps are valid, those with a
-- literal are new, and it shows the answer.
pub record IsLoggedByCubes (mode : Mode) (i : Instance) (most budget : ℕ) (log : LogState) (answer : AnswerTree) : Type 0 where
  pub stands : Stands mode i log
  pub valid : IsValidLog log.events
  pub new : NonEmptyStepsAreNew log.events
  pub vars : List ℕ
  pub are : AreCubeVariables most (base_clauses log) vars
  pub shows : ShowsInCubes mode i vars budget log answer

-- An answer is logged by cubes where no objective is stated, and else as without them.
pub record IsLoggedAsDivided (mode : Mode) (i : Instance) (most budget : ℕ) (log : LogState) (answer : AnswerTree) : Type 0 where
  pub divided : i.goal ≡ None → IsLoggedByCubes mode i most budget log answer
  pub undivided : (i.goal ≡ None → ⊥) → IsLogged mode i budget log answer
