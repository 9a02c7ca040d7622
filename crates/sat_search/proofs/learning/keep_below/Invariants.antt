use Rattle.std.proofs.Common.{◌<◌, ◌≤◌, length, take}
use Rattle.sat_search.specs.Analysis.{KeepsMore}
use Rattle.sat_search.proofs.Missed.{IsTracedBut}
use Rattle.sat_search.proofs.learning.keep_below.Given as goal

-- what comes from the place on is traced, but for what was passed over, which is counted with what is marked before it
abbrev pub invariant-loop-place : goal.invariant-loop-place
invariant-loop-place l = record {
  within : l.place ≤ l.from;
  room : l.vars < length l.analysis.marks;
  traced : IsTracedBut l.state.clauses l.trail l.analysis.marks l.lits.items l.hints.items l.from l.place l.analysis.met;
  keeps : KeepsMore (take l.from l.trail) l.fn.lits.items l.lits.items;
}

abbrev pub decreases-loop-place : goal.decreases-loop-place
decreases-loop-place l = l.place
