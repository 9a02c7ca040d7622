use Rattle.ep_size.proofs.Words.{refl}
use Rattle.ep_size.proofs.SumSteps.{sums_none}
use Rattle.ep_size.proofs.sums.Summed.new.Goals as goal

pub returns : goal.returns
returns c = sums_none _ refl refl refl refl
