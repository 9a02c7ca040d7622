use Rattle.cnf_core.proofs.Count.{fewer_new_steps}
use Rattle.cnf_core.proofs.laws.new_steps_are_few.Goals as goal

pub returns : goal.returns
returns c = fewer_new_steps
