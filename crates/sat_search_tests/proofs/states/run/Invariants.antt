use Rattle.std.proofs.Common.{◌≤◌}
use Rattle.sat_search_tests.proofs.states.run.Given as goal

abbrev pub invariant-loop-step : goal.invariant-loop-step
invariant-loop-step g l = 9 ≤ l.state.vars
