use Rattle.ep_size.proofs.Words.{subst, ap, ◌∙◌, wide_span, Gives}
use Rattle.ep_size.proofs.SumSteps.{own_ends, sum_is}
use Rattle.ep_size.proofs.sums.Summed.span.Goals as goal

pub returns : goal.returns
returns c spans h =
    subst (λ s. Gives c.wide.result s) (ap wide_span (own_ends c.args.self spans h) ∙ sum_is c.args.self spans h) c.wide.ensures
