-- Problems: a formula in a log and a solver, with cells that its assignments give numbers, and when a search may begin.
use Rattle.std.specs.Prelude.{◌≡◌, ℕ, ℤ, Bool, true, false, IfSome, List, map, length, take, Option}
use Rattle.std.specs.List.{All}
use Rattle.cnf_core.specs.Clauses.{Satisfies}
use Rattle.cnf_core.specs.Events.{LogState, clauses_of, givens, is_given}
use Rattle.cnf_core.specs.Literal.{Literal}
use Rattle.cnf_core.specs.Steps.{IsConsistent}
use Rattle.ep_flat.specs.Flats.{MapState, MapsCells}
use Rattle.ep_ground.specs.declared.cells.Cell.{Cell}
use Rattle.enc_var.specs.Decoding.{VariableLiterals, Means}
use Rattle.enc_var.specs.Layouts.{GivesCells, literals_at}
use Rattle.enc_var.specs.Notes.{cell_notes}
use Rattle.sat_search.specs.View.{SolverView}

-- the literals of the flat variables, the cells, which variables stand for them, and the solver of the clauses
pub record ProblemState : Type 0 where
  pub layout : List VariableLiterals
  pub cells : List Cell
  pub variables : MapState
  pub solver : SolverView

-- the clauses that stand for the problem itself: those of the log's first events
abbrev pub base_clauses : LogState → List (List Literal)
base_clauses log = givens (take log.base log.events)

-- Numbers of the cells, with the objective's number, that the problem allows: an assignment that satisfies its own clauses
-- gives them.
abbrev pub IsAllowed : ProblemState → LogState → List ℤ → Option ℤ → Type 0
IsAllowed p log cells goal = GivesCells p.layout p.variables (base_clauses log) cells goal

-- numbers of the cells, with the objective's number, that are left: an assignment that satisfies all givens gives them
abbrev pub IsLeft : ProblemState → LogState → List ℤ → Option ℤ → Type 0
IsLeft p log cells goal = GivesCells p.layout p.variables (givens log.events) cells goal

-- under an assignment the literals of these variables mean what they say
abbrev pub AllMean : (ℕ → Bool) → List VariableLiterals → List ℕ → Type 0
AllMean s layout vars = All (λ x. Means s (literals_at layout x)) vars

-- Under an assignment the literals of the variables that stand for the cells mean what they say, and those of the variable that
-- stands for the objective, where there is one.
pub record MapMeans (s : ℕ → Bool) (layout : List VariableLiterals) (m : MapState) : Type 0 where
  pub cells : AllMean s layout m.cells
  pub objective : IfSome m.objective (λ goal. Means s (literals_at layout goal.1))

-- A search may begin: no earlier call wanted memory, the log has the problem's clauses as givens and nothing else, none of
-- them with a literal together with its negation, and the notes of all cells, the solver has the clauses too, the map names variables of the layout whose
-- domains are the cells' values, and under each assignment that satisfies the clauses the literals of these variables mean what they
-- say.
pub record CanSearch (p : ProblemState) (log : LogState) : Type 0 where
  pub is_whole : p.solver.broken ≡ false
  pub are_givens : All (λ e. is_given e ≡ true) log.events
  pub is_base : log.base ≡ length log.events
  pub notes : log.notes ≡ cell_notes p.layout p.cells p.variables.cells
  pub consistent : All IsConsistent (clauses_of log.events)
  pub clauses : p.solver.clauses ≡ clauses_of log.events
  pub maps : MapsCells (map (λ one. one.values) p.cells) (map (λ e. e.domain) p.layout) p.variables
  pub meaning : (s : ℕ → Bool) → Satisfies s (givens log.events) → MapMeans s p.layout p.variables
