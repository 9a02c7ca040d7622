use Rattle.std.proofs.Common.{◌≡◌, false}
use Rattle.cnf_core.specs.Events.{clauses_of}
use Rattle.sat_search.specs.Logs.{IsSound}
use Rattle.sat_search_tests.proofs.searches.pose.Given as goal

abbrev pub invariant-loop-numbers : goal.invariant-loop-numbers
invariant-loop-numbers l = record {
  sound : IsSound l.log.events;
  clauses : l.solver.broken ≡ false → l.solver.clauses ≡ clauses_of l.log.events;
}
