use Rattle.ep_types_rules.proofs.Said.{memory_says}
use Rattle.ep_types_rules.proofs.rules.matrix_of.Goals as goal

pub returns-in-None : goal.returns-in-None
returns-in-None c = memory_says _
