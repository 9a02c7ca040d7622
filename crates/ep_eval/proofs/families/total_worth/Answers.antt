use Rattle.ep_eval.proofs.WorthSteps.{worth_gives}
use Rattle.ep_eval.proofs.families.total_worth.Goals as goal

pub returns : goal.returns
returns c = worth_gives _ _ _ c.some_number.ensures c.in_ok-worth.ensures
