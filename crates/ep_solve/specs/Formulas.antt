-- What it means that a formula stands for an instance, and that a problem poses it.
use Rattle.std.specs.Prelude.{◌≡◌, ℕ, ℤ, Bool, true, false, List, length, map, Option, option_map}
use Rattle.std.specs.List.{All}
use Rattle.cnf_core.specs.Clauses.{Satisfies}
use Rattle.cnf_core.specs.Events.{LogState, clauses_of, givens, is_given}
use Rattle.cnf_core.specs.Formula.{Cnf}
use Rattle.cnf_core.specs.Steps.{IsConsistent}
use Rattle.ep_answer.specs.Problems.{ProblemState}
use Rattle.ep_flat.specs.Flats.{MapState, MapsCells, objective_number}
use Rattle.ep_tree.specs.Binding.{Instance}
use Rattle.ep_tree.specs.Solutions.{Assigned, IsSolution, goal_value}
use Rattle.ep_tree.specs.declared.values.Mode.{Mode}
use Rattle.ep_unroll.specs.Cells.{found_numbers, instance_cells}
use Rattle.enc_var.specs.Decoding.{VariableLiterals}
use Rattle.enc_var.specs.Layouts.{AreGiven, IsLayoutOf, decoded_cells, decoded_values}
use Rattle.enc_var.specs.Notes.{cell_notes}

-- numbers of the cells are those of a solution, whose objective has this number
pub record Solves (mode : Mode) (i : Instance) (cells : List ℤ) (goal : Option ℤ) : Type 0 where
  pub assigned : Assigned
  pub solves : IsSolution mode i assigned
  pub numbers_are : found_numbers solves.found ≡ cells
  pub valued : goal_value mode i solves.found ≡ goal

-- The assignments that satisfy a formula decode to exactly the solutions of an instance, and the variable of the objective then to
-- its number. The map names a variable for each cell of the instance, and one for its objective, which is to be driven the same way;
-- no clause has a literal together with its negation.
pub record IsFormulaFor (mode : Mode) (i : Instance) (layout : List VariableLiterals) (m : MapState) (f : Cnf) : Type 0 where
  pub is_layout : IsLayoutOf layout f
  pub maps : MapsCells (map (λ one. one.values) (instance_cells i)) (map (λ e. e.domain) layout) m
  pub senses : option_map (λ goal. goal.0) m.objective ≡ option_map (λ goal. goal.0) i.goal
  pub consistent : All IsConsistent f.clauses
  pub sound : (s : ℕ → Bool) → Satisfies s f.clauses
      → Solves mode i (decoded_cells layout m s) (objective_number m (decoded_values layout s))
  pub complete : (a : Assigned) (solves : IsSolution mode i a) → AreGiven layout m f.clauses (found_numbers solves.found)

-- A problem poses an instance: a formula stands for the instance, the problem has the instance's cells, the log has the formula's
-- clauses as givens and nothing else, with the notes of all cells, and the solver, which wanted no memory, has the log's clauses.
pub record Poses (mode : Mode) (i : Instance) (p : ProblemState) (log : LogState) : Type 0 where
  pub formula : Cnf
  pub stands : IsFormulaFor mode i p.layout p.variables formula
  pub cells : p.cells ≡ instance_cells i
  pub are_givens : All (λ e. is_given e ≡ true) log.events
  pub givens_are : givens log.events ≡ formula.clauses
  pub is_base : log.base ≡ length log.events
  pub notes : log.notes ≡ cell_notes p.layout p.cells p.variables.cells
  pub is_whole : p.solver.broken ≡ false
  pub clauses : p.solver.clauses ≡ clauses_of log.events
