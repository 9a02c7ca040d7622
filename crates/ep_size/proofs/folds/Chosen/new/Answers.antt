use Rattle.ep_size.proofs.Words.{refl}
use Rattle.ep_size.proofs.FoldSteps.{chooses_none}
use Rattle.ep_size.proofs.folds.Chosen.new.Goals as goal

pub returns : goal.returns
returns c step = chooses_none step _ refl refl refl
