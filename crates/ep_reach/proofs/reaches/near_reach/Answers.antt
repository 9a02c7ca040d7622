use Rattle.std.proofs.Common.{subst, sym, ◌∙◌}
use Rattle.ep_base.specs.Intervals.{IsWithinReach}
use Rattle.ep_reach.proofs.Reaching.{if_some_so}
use Rattle.ep_reach.proofs.reaches.near_reach.Goals as goal

pub returns-clause-reach : goal.returns-clause-reach
returns-clause-reach c = if_some_so c.near.result c.near.ensures.same (λ span e. e ∙ c.in-Some.ensures.reach)

pub returns-clause-coefficients : goal.returns-clause-coefficients
returns-clause-coefficients c = if_some_so c.near.result c.near.ensures.near (λ span e. c.has_near_coefficients.ensures.sound c.if-not-has_near_coefficients.false)

pub returns-then-not-has_near_coefficients-clause-told : goal.returns-then-not-has_near_coefficients-clause-told
returns-then-not-has_near_coefficients-clause-told c h = sym c.if-not-has_near_coefficients.true ∙ c.has_near_coefficients.ensures.complete h.coefficients

pub returns-in_default-clause-told : goal.returns-in_default-clause-told
returns-in_default-clause-told c h = c.in_default.ensures.told h

pub returns-clause-told : goal.returns-clause-told
returns-clause-told c h = c.near.ensures.told (subst IsWithinReach (sym c.in-Some.ensures.reach) h.reach)
