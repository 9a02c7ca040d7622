use Rattle.cnf_core.proofs.Following.{step_follows}
use Rattle.cnf_core.proofs.laws.valid_steps_follow.Goals as goal

pub returns : goal.returns
returns c = step_follows
