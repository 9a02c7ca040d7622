use Rattle.std.proofs.Common.{◌-◌, arith, ap, length}
use Rattle.sat_search.proofs.Trails.{decision_read}
use Rattle.sat_search.proofs.learning.decision_below.Goals as goal

pub returns-in-None-clause-decision : goal.returns-in-None-clause-decision
returns-in-None-clause-decision c =
    decision_read c.args.state.now.clauses c.args.state.now.trail c.trail-trail.result.now (c.loop-below.below - 1) c.var-in-loop-below.result c.index-trail-below.result
    c.trail-trail.ensures.grounded c.trail-trail.ensures.value (omega (arith, c.loop-below.invariant.within, c.requires, ap length c.trail-trail.ensures.value)) c.index-trail-below.is c.var-in-loop-below.ensures.value c.in-None.ensures
