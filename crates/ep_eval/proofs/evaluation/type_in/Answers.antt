use Rattle.ep_eval.proofs.Words.{with_all}
use Rattle.ep_eval.proofs.evaluation.type_in.Goals as goal

pub returns : goal.returns
unfolding with_all
returns c = c.in_ok-ty.ensures
