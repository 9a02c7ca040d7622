use Rattle.std.proofs.Common.{◌≡◌, [], take}
use Rattle.sat_state.proofs.state.State.new.Given as goal

abbrev pub invariant-loop-clause : goal.invariant-loop-clause
invariant-loop-clause l = record {
  clauses : l.state.clauses ≡ take l.clause-index l.clauses;
  vars : l.state.vars ≡ l.vars;
  trail : l.state.trail ≡ [];
}
