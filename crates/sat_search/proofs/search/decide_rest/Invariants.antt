use Rattle.std.proofs.Common.{◌≡◌}
use Rattle.sat_state.specs.View.{IsPropagated}
use Rattle.sat_search.specs.Analysis.{AllHaveValues}
use Rattle.sat_search.proofs.search.decide_rest.Given as goal

abbrev pub invariant-loop-place : goal.invariant-loop-place
invariant-loop-place l = record {
  clauses : l.state.clauses ≡ l.fn.state.clauses;
  vars : l.state.vars ≡ l.fn.state.vars;
  propagated : IsPropagated l.state;
  values : AllHaveValues l.place l.state.trail;
}
