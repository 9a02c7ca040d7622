use Rattle.ep_eval.proofs.WorthSteps.{worth_gives}
use Rattle.ep_eval.proofs.families.counts_value.Goals as goal

pub returns : goal.returns
returns c = worth_gives _ _ _ c.counting.ensures c.in_ok-worth.ensures
