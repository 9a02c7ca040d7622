use Rattle.std.proofs.Common.{◌≡◌, take}
use Rattle.cnf_core.specs.Events.{clauses_of}
use Rattle.sat_state.specs.Trail.{level_of}
use Rattle.sat_search.specs.Analysis.{IsKnown}
use Rattle.sat_search.proofs.adding.add_events.Given as goal

abbrev pub invariant-loop-place : goal.invariant-loop-place
invariant-loop-place l = record {
  known : IsKnown l.most l.state;
  level : level_of l.state.trail ≡ 0;
  clauses : l.state.clauses ≡ clauses_of (take l.place l.events);
}
