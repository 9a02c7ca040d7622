use Rattle.ep_size.proofs.Words.{refl}
use Rattle.ep_size.proofs.HullSteps.{hulls_none}
use Rattle.ep_size.proofs.hulls.Hulled.new.Goals as goal

pub returns : goal.returns
returns c = hulls_none _ refl refl
