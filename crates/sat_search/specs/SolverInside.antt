-- How a solver is kept.
use Rattle.std.specs.Prelude.{◌≡◌, false, if◌then◌else◌, Some, None}
use Rattle.sat_state.specs.Trail.{literals}
use Rattle.sat_search.specs.declared.solver.Solver.TheInside.{Inside}
use Rattle.sat_search.specs.View.{SolverView}
use Rattle.sat_search.specs.Analysis.{IsKnown}

abbrev pub seen_solver : Inside → SolverView
seen_solver a = record {
  clauses = a.state.clauses;
  broken = a.broken;
  kept = if a.answered then Some (literals a.state.trail) else None;
}

-- unless a call was refused memory, the number of variables is that of the clauses
abbrev pub IsSolver : Inside → Type 0
IsSolver a = a.broken ≡ false → IsKnown a.vars a.state
