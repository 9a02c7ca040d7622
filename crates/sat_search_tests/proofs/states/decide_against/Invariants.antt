use Rattle.std.proofs.Common.{◌≤◌, ◌<◌, length}
use Rattle.sat_search_tests.proofs.states.decide_against.Given as goal

abbrev pub invariant-loop-number : goal.invariant-loop-number
invariant-loop-number g l = record {
  vars : 1000 ≤ l.state.vars;
  clauses : 0 < length l.state.clauses;
}
