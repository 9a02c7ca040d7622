use Rattle.std.proofs.Common.{sym, ap, arith}
use Rattle.sat_state.specs.View.{StateView}
use Rattle.sat_state.proofs.Levels.{kept_all}
use Rattle.sat_state.proofs.state.State.backtrack.Goals as goal

pub returns-else-level-clause-trail : goal.returns-else-level-clause-trail
returns-else-level-clause-trail c =
    let a = c.self.inside in
    let seen = ap (λ (x : StateView). x.trail) c.self.view_is in
    rw (← seen) (sym (kept_all a.parts.clauses.lists a.parts.assigned.trail c.args.level c.self.invariant.grounded (omega (arith, c.if-level.false, c.level.ensures))))
