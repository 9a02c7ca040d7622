use Rattle.std.proofs.Common.{◌≡◌}
use Rattle.sat_state.specs.View.{IsPropagated}
use Rattle.sat_search.proofs.search.decide_in_order.Given as goal

abbrev pub invariant-loop : goal.invariant-loop
invariant-loop l = record {
  clauses : l.state.clauses ≡ l.fn.state.clauses;
  vars : l.state.vars ≡ l.fn.state.vars;
  propagated : IsPropagated l.state;
}
