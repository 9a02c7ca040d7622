use Rattle.cnf_core.proofs.Effective.{none_after_conflict}
use Rattle.cnf_core.proofs.laws.no_step_is_effective_after_a_conflict.Goals as goal

pub returns : goal.returns
returns c = none_after_conflict
