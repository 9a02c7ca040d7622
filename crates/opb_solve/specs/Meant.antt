-- How a pseudo-Boolean problem stands in a formula, and how numbers of its variables are an answer.
use Rattle.std.specs.Prelude.{◌≡◌, ℕ, ℤ, Bool, true, false, List, [], ◌∷◌, length, map, Option, option_map}
use Rattle.std.specs.List.{All, AllZip, Contains, range_with_len}
use Rattle.cnf_core.specs.Clauses.{Satisfies}
use Rattle.cnf_core.specs.Events.{LogState, clauses_of, givens, is_given}
use Rattle.cnf_core.specs.Formula.{Cnf}
use Rattle.cnf_core.specs.Steps.{IsConsistent}
use Rattle.enc_var.specs.Decoding.{VariableLiterals}
use Rattle.enc_var.specs.Layouts.{AreGiven, IsLayoutOf, decoded_cells, decoded_values}
use Rattle.enc_var.specs.Notes.{cell_notes}
use Rattle.ep_answer.specs.Answered.{FoundCells}
use Rattle.ep_answer.specs.Answered as cells
use Rattle.ep_answer.specs.Problems.{ProblemState}
use Rattle.ep_base.specs.Numbers.{is_one, of_bool}
use Rattle.ep_base.specs.declared.operators.Sense.{Sense}
use Rattle.ep_flat.specs.Flats.{MapState, MapsCells, objective_number}
use Rattle.ep_ground.specs.declared.cells.Cell.{Cell}
use Rattle.opb_answer.specs.Answers.{OpbFound, no_solution, optimum, solution, unknown}
use Rattle.opb_answer.specs.declared.answers.OpbValue.{OpbValue}
use Rattle.opb_solve.specs.Logged.{variable_name}
use Rattle.opb_text.specs.Contents.{OpbContent}
use Rattle.opb_text.specs.Flats.{truth_domains, truth_numbers, truths_of}
use Rattle.opb_text.specs.Solutions.{IsOpbSolution, terms_total}
use Rattle.sat_text.specs.NoteGrammar.{IsCell}

-- ---- numbers as answers

-- variables with their truth values, where 1 stands for true
unfoldable pub values_from : List ℕ → List ℤ → List OpbValue
values_from [] numbers = []
values_from (var ∷ vars) [] = []
values_from (var ∷ vars) (n ∷ numbers) = record { var = var; holds = is_one n } ∷ values_from vars numbers

-- an answer over numbers of variables as one over their truth values
unfoldable pub found_from : List ℕ → FoundCells → OpbFound
found_from vars (cells.solution numbers) = solution (values_from vars numbers)
found_from vars (cells.optimum number numbers) = optimum (values_from vars numbers)
found_from vars cells.no_solution = no_solution
found_from vars (cells.unknown best) = unknown (option_map (λ one. values_from vars one.1) best)

-- ---- cells and the map

-- the cell of a variable: its name, and the numbers 0 and 1
pub record IsCellOf (var : ℕ) (one : Cell) : Type 0 where
  pub name : one.name ≡ variable_name var
  pub indices : one.indices ≡ []
  pub values : one.values ≡ truth_numbers
  pub readable : IsCell one.name

-- the cells of variables, one for each
abbrev pub AreCellsOf : List ℕ → List Cell → Type 0
AreCellsOf vars ones = AllZip IsCellOf vars ones

-- The first so many flat variables stand for the cells, and one, where there is one, is to be as small as can be.
pub record IsMapTo (count : ℕ) (goal : Option ℕ) (m : MapState) : Type 0 where
  pub cells : m.cells ≡ range_with_len 0 count
  pub objective : m.objective ≡ option_map (λ x. (Sense.Minimising, x)) goal

-- ---- the formula

-- the numbers that truth values of variables are
abbrev pub numbers_in : List ℕ → (ℕ → Bool) → List ℤ
numbers_in vars truths = map (λ var. of_bool (truths var)) vars

-- the number of the objective, where one is stated
abbrev pub goal_number : OpbContent → (ℕ → Bool) → Option ℤ
goal_number content truths = option_map (λ terms. terms_total truths terms) content.objective

-- numbers of the variables are those of a solution, whose objective has this number
pub record AreSolved (content : OpbContent) (vars : List ℕ) (numbers : List ℤ) (goal : Option ℤ) : Type 0 where
  pub fit : AllZip Contains (truth_domains vars) numbers
  pub solution : IsOpbSolution content (truths_of vars numbers)
  pub valued : goal ≡ goal_number content (truths_of vars numbers)

-- The assignments that satisfy a formula decode to exactly the solutions of a problem, and the variable of the objective then to
-- its number. The map names a variable for each of the problem's, and one for its objective, which is to be as small as can be; no
-- clause has a literal together with its negation.
pub record IsOpbFormula (content : OpbContent) (vars : List ℕ) (layout : List VariableLiterals) (m : MapState) (f : Cnf) : Type 0 where
  pub is_layout : IsLayoutOf layout f
  pub maps : MapsCells (truth_domains vars) (map (λ e. e.domain) layout) m
  pub places : m.cells ≡ range_with_len 0 (length vars)
  pub senses : option_map (λ goal. goal.0) m.objective ≡ option_map (λ terms. Sense.Minimising) content.objective
  pub consistent : All IsConsistent f.clauses
  pub sound : (s : ℕ → Bool) → Satisfies s f.clauses
      → AreSolved content vars (decoded_cells layout m s) (objective_number m (decoded_values layout s))
  pub complete : (truths : ℕ → Bool) → IsOpbSolution content truths → AreGiven layout m f.clauses (numbers_in vars truths)

-- A problem poses a pseudo-Boolean one: a formula stands for it, its cells are those of the variables, the log has the formula's
-- clauses as givens and nothing else, with the notes of all cells, and the solver, which wanted no memory, has the log's clauses.
pub record PosesOpb (content : OpbContent) (vars : List ℕ) (p : ProblemState) (log : LogState) : Type 0 where
  pub formula : Cnf
  pub stands : IsOpbFormula content vars p.layout p.variables formula
  pub cells : AreCellsOf vars p.cells
  pub are_givens : All (λ e. is_given e ≡ true) log.events
  pub givens_are : givens log.events ≡ formula.clauses
  pub is_base : log.base ≡ length log.events
  pub notes : log.notes ≡ cell_notes p.layout p.cells p.variables.cells
  pub is_whole : p.solver.broken ≡ false
  pub clauses : p.solver.clauses ≡ clauses_of log.events
