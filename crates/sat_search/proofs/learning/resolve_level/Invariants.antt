use Rattle.std.proofs.Common.{◌<◌, ◌≤◌, length, []}
use Rattle.sat_search.specs.Analysis.{IsTraced, count_marked}
use Rattle.sat_search.proofs.learning.resolve_level.Given as goal

-- what comes from the place on is traced, and what is marked before it is counted
abbrev pub invariant-loop-place : goal.invariant-loop-place
invariant-loop-place l = record {
  within : l.place ≤ length l.trail;
  room : l.vars < length l.analysis.marks;
  traced : IsTraced l.state.clauses l.trail l.analysis.marks [] l.hints.items l.place;
  counted : count_marked l.trail l.analysis.marks l.place ≤ l.analysis.met;
}

abbrev pub decreases-loop-place : goal.decreases-loop-place
decreases-loop-place l = l.place
