use Rattle.std.proofs.Common.{◌≡◌, ◌≤◌, false}
use Rattle.cnf_core.specs.Events.{clauses_of, nonempty_steps}
use Rattle.sat_search.specs.Logs.{IsSound}
use Rattle.sat_search_counts_tests.proofs.posing.pose.Given as goal

abbrev pub invariant-loop-numbers : goal.invariant-loop-numbers
invariant-loop-numbers l = record {
  sound : IsSound l.log.events;
  clauses : l.solver.broken ≡ false → l.solver.clauses ≡ clauses_of l.log.events;
  steps : nonempty_steps l.log.events ≤ 1000000;
}
