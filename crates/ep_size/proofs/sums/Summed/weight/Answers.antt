use Rattle.ep_size.proofs.Words.{◌∙◌, ap, width, capped}
use Rattle.ep_size.proofs.SumSteps.{own_ends, weight_is}
use Rattle.ep_size.proofs.sums.Summed.weight.Goals as goal

pub returns-clause-weight : goal.returns-clause-weight
returns-clause-weight c spans h =
    c.told_cost.ensures
    ∙ weight_is c.args.self spans c.told_width-width.result c.told.result c.told-2.result h
    (c.told_width-width.ensures ∙ ap (λ i. capped (width i)) (own_ends c.args.self spans h)) c.told.ensures c.told-2.ensures
