use Rattle.ep_size.proofs.Words.{◌∙◌, ap, sum_cost, capped}
use Rattle.ep_size.proofs.sums.told_cost.Goals as goal

pub returns : goal.returns
unfolding sum_cost
returns c = c.told.ensures ∙ ap capped c.min.ensures
