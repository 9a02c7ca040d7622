use Rattle.ep_size.proofs.Words.{refl, product_interval}
use Rattle.ep_size.proofs.FoldSteps.{multiplies_none}
use Rattle.ep_size.proofs.folds.Multiplied.new.Goals as goal

pub returns : goal.returns
returns c = multiplies_none _ refl (c.new.ensures product_interval)
