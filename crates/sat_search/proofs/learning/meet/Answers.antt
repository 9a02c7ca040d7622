use Rattle.std.proofs.Common.{sym, arith, ◌∙◌}
use Rattle.sat_search.proofs.Marking.{marked_already}
use Rattle.sat_search.proofs.Counting.{counts_one}
use Rattle.sat_search.proofs.learning.meet.Goals as goal

pub returns-then-is_marked-clause-marks : goal.returns-then-is_marked-clause-marks
returns-then-is_marked-clause-marks c = marked_already c.args.analysis.now.marks c.args.var (sym c.is_marked.ensures ∙ c.if-is_marked.true)

pub returns-clause-counts : goal.returns-clause-counts
returns-clause-counts c = λ upto within.
    let old = c.args.analysis.now in
    rw c.mark.ensures
    (omega (arith, c.in_ok-push.ensures, counts_one c.args.state.now.clauses c.args.state.now.trail old.marks old.marks c.args.var old.met old.met c.trail-trail.ensures.grounded (λ u inside. omega arith) upto within))
