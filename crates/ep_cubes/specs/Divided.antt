-- What an answer by cubes says, over the numbers of the cells.
use Rattle.std.specs.Prelude.{◌≡◌, ℕ, ℤ, ◌^◌, ◌<◌, Bool, List, length, None, Some}
use Rattle.cnf_core.specs.Clauses.{Satisfies}
use Rattle.cnf_core.specs.Events.{LogEvent, LogState}
use Rattle.cnf_core.specs.Formula.{Cnf}
use Rattle.ep_ground.specs.declared.cells.Cell.{Cell}
use Rattle.ep_flat.specs.Flats.{MapState}
use Rattle.enc_var.specs.Decoding.{VariableLiterals}
use Rattle.enc_var.specs.Layouts.{decoded_cells}
use Rattle.enc_var.specs.Notes.{cell_notes}
use Rattle.sat_split.specs.Cubes.{AreCubeVariables, LiesInCube, cube_literals}
use Rattle.sat_cubes.specs.Answers.{NoneBelow, AreRefutedWithin, IsJoinedLog, IsUnsat, IsSpentIn}
use Rattle.ep_answer.specs.Answered.{FoundCells, solution, optimum, no_solution, unknown}

-- An assignment that satisfies the formula in a cube gives the cells these numbers. Each lower cube is refuted within the budget and by an
-- event, and nothing in it satisfies the formula.
pub record IsFoundInCube (layout : List VariableLiterals) (m : MapState) (f : Cnf) (vars : List ℕ) (budget : ℕ) (events : List LogEvent) (cells : List ℤ) : Type 0 where
  pub cube : ℕ
  pub is_cube : cube < 2 ^ length vars
  pub assignment : ℕ → Bool
  pub satisfies : Satisfies assignment f.clauses
  pub lies_in : LiesInCube (cube_literals cube vars) assignment
  pub gives : decoded_cells layout m assignment ≡ cells
  pub none_below : NoneBelow f.clauses vars cube
  pub refuted_within : AreRefutedWithin f.clauses vars cube budget
  pub joined : IsJoinedLog f.clauses vars cube events

-- The budget was spent in a cube. Nothing below it satisfies the formula, and each lower cube is refuted within the budget.
pub record IsCubeSpent (f : Cnf) (vars : List ℕ) (budget : ℕ) (events : List LogEvent) : Type 0 where
  pub cube : ℕ
  pub spent : IsSpentIn f vars cube budget events

-- when such an answer is right
unfoldable pub IsRightByCubes : List VariableLiterals → MapState → Cnf → List ℕ → ℕ → List LogEvent → FoundCells → Type 0
IsRightByCubes layout m f vars budget events (solution cells) = IsFoundInCube layout m f vars budget events cells
IsRightByCubes layout m f vars budget events (optimum number cells) = ⊥
IsRightByCubes layout m f vars budget events no_solution = IsUnsat f vars budget events
IsRightByCubes layout m f vars budget events (unknown None) = IsCubeSpent f vars budget events
IsRightByCubes layout m f vars budget events (unknown (Some best)) = ⊥

-- The answer of the lowest cube that isn't refuted, over at most so many cube variables, each within the budget.
pub record IsFoundBy (layout : List VariableLiterals) (m : MapState) (f : Cnf) (most budget : ℕ) (events : List LogEvent) (found : FoundCells) : Type 0 where
  pub vars : List ℕ
  pub are : AreCubeVariables most f.clauses vars
  pub right : IsRightByCubes layout m f vars budget events found

-- The same, with a log that has the notes of all cells, and the formula's clauses as its base.
pub record AnswersByCubes (layout : List VariableLiterals) (cells : List Cell) (m : MapState) (f : Cnf) (most budget : ℕ) (log : LogState) (found : FoundCells) : Type 0 where
  pub found_by : IsFoundBy layout m f most budget log.events found
  pub notes : log.notes ≡ cell_notes layout cells m.cells
  pub base : log.base ≡ length f.clauses
