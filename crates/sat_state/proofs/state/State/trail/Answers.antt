use Rattle.std.proofs.Common.{◌≢◌, ◌≤◌, AllPairs, subst}
use Rattle.sat_state.specs.Trail.{Entry, FollowsFromDecisions}
use Rattle.sat_state.specs.View.{StateView}
use Rattle.sat_state.proofs.Ends.{follows, distinct, levels_rise}
use Rattle.sat_state.proofs.state.State.trail.Goals as goal

pub returns-clause-follows : goal.returns-clause-follows
returns-clause-follows c =
    let a = c.self.inside in
    subst (λ (x : StateView). FollowsFromDecisions x.clauses x.trail) c.self.view_is (follows a.parts.clauses.lists a.parts.assigned.trail c.self.invariant.grounded)

pub returns-clause-distinct : goal.returns-clause-distinct
returns-clause-distinct c =
    let a = c.self.inside in
    subst (λ (x : StateView). AllPairs (λ (p : Entry) (q : Entry). p.literal.var ≢ q.literal.var) x.trail) c.self.view_is (distinct a.parts.clauses.lists a.parts.assigned.trail c.self.invariant.grounded)

pub returns-clause-levels : goal.returns-clause-levels
returns-clause-levels c =
    let a = c.self.inside in
    subst (λ (x : StateView). AllPairs (λ (p : Entry) (q : Entry). p.level ≤ q.level) x.trail) c.self.view_is (levels_rise a.parts.clauses.lists a.parts.assigned.trail c.self.invariant.grounded)
