use Rattle.ep_eval.proofs.WorthSteps.{worth_gives}
use Rattle.ep_eval.proofs.families.gathered_worth.Goals as goal

pub returns : goal.returns
returns c = worth_gives _ _ _ c.gathered_value.ensures c.in_ok-worth.ensures
