use Rattle.std.proofs.Common.{◌≡◌, ◌-◌}
use Rattle.cnf_core.specs.Events.{clauses_of, nonempty_steps}
use Rattle.sat_search.specs.Analysis.{IsKnown}
use Rattle.sat_search.specs.Logs.{IsContinued}
use Rattle.sat_search.proofs.search.search.Given as goal

abbrev pub invariant-conflicts : goal.invariant-conflicts
invariant-conflicts l = record {
  known : IsKnown l.vars l.state;
  clauses : l.state.clauses ≡ clauses_of l.log.events;
  continued : IsContinued l.budget l.initial.log l.log;
}

abbrev pub decreases-conflicts : goal.decreases-conflicts
decreases-conflicts l = l.budget - nonempty_steps l.log.events
