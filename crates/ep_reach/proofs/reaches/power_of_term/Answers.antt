use Rattle.std.proofs.Common.{ap, subst, sym, ◌∙◌}
use Rattle.ep_base.specs.Intervals.{IsWithinReach, nth_power_interval}
use Rattle.ep_reach.proofs.Reaching.{if_some_so}
use Rattle.ep_reach.proofs.reaches.power_of_term.Goals as goal

pub returns-clause-same : goal.returns-clause-same
returns-clause-same c = if_some_so c.power.result c.power.ensures.same (λ wide e. e ∙ ap (λ i. nth_power_interval i c.args.exponent) c.span_of_term.ensures)

pub returns-clause-told : goal.returns-clause-told
returns-clause-told c h = c.power.ensures.told (subst (λ i. IsWithinReach (nth_power_interval i c.args.exponent)) (sym c.span_of_term.ensures) h)
