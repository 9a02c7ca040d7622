use Rattle.std.proofs.Common.{refl}
use Rattle.ep_driver.proofs.Wanting.{no-job}
use Rattle.ep_driver.proofs.wanted.read_wanted.Goals as goal

pub returns-in-Err-Usage : goal.returns-in-Err-Usage
returns-in-Err-Usage c = (refl, no-job c.args.words.now (c.in-Err-Usage.ensures.usage cc))
