-- A ground's formula as a problem: what stands in the solver and in the log.
use Rattle.std.specs.Prelude.{◌≡◌, false, true, length}
use Rattle.std.specs.List.{All}
use Rattle.cnf_core.specs.Events.{LogState, clauses_of, givens, is_given}
use Rattle.cnf_core.specs.Formula.{Cnf}
use Rattle.enc_var.specs.Formulas.{IsFormulaOf}
use Rattle.enc_var.specs.Notes.{cell_notes}
use Rattle.ep_answer.specs.Problems.{ProblemState}
use Rattle.ep_ground.specs.Grounds.{GroundState}

-- The formula stands for the ground, the problem has the ground's cells, the log has the formula's clauses as givens and nothing
-- else, with the notes of all cells, and the solver, which wanted no memory, has the log's clauses.
pub record PosesGround (g : GroundState) (f : Cnf) (p : ProblemState) (log : LogState) : Type 0 where
  pub formula : IsFormulaOf g p.layout p.variables f
  pub cells : p.cells ≡ g.cells
  pub are_givens : All (λ e. is_given e ≡ true) log.events
  pub givens_are : givens log.events ≡ f.clauses
  pub is_base : log.base ≡ length log.events
  pub notes : log.notes ≡ cell_notes p.layout p.cells p.variables.cells
  pub is_whole : p.solver.broken ≡ false
  pub clauses : p.solver.clauses ≡ clauses_of log.events
