use Rattle.ep_driver_laws.proofs.Checking.{checks_say_so}
use Rattle.ep_driver_laws.proofs.checks_say_so.Goals as goal

pub returns : goal.returns
returns c = checks_say_so
