use Rattle.std.proofs.Common.{◌≤◌}
use Rattle.sat_search_tests.proofs.states.add_chain.Given as goal

abbrev pub invariant-loop-var : goal.invariant-loop-var
invariant-loop-var g l = 9 ≤ l.state.vars
