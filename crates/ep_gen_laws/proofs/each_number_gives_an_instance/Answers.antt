use Rattle.ep_gen_laws.proofs.Whole.{number_gives_instance}
use Rattle.ep_gen_laws.proofs.each_number_gives_an_instance.Goals as goal

pub returns : goal.returns
returns c = number_gives_instance
