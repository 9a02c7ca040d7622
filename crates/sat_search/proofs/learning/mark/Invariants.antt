use Rattle.std.proofs.Common.{◌≡◌, length, take}
use Rattle.sat_state.specs.Trail.{literals}
use Rattle.sat_search.specs.Analysis.{MarksClause, CountsMarks}
use Rattle.sat_search.proofs.learning.mark.Given as goal

abbrev pub invariant-loop-lit : goal.invariant-loop-lit
invariant-loop-lit l = record {
  room : length l.analysis.marks ≡ length l.fn.analysis.marks;
  marks : MarksClause l.fn.analysis.marks l.analysis.marks (take l.lit-index l.lits);
  counts : CountsMarks (literals l.state.trail) l.fn.analysis.marks l.analysis.marks l.fn.analysis.met l.analysis.met;
}
