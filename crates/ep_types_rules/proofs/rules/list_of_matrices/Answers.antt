use Rattle.ep_types_rules.proofs.Said.{memory_says}
use Rattle.ep_types_rules.proofs.rules.list_of_matrices.Goals as goal

pub returns-in-None-checked_add : goal.returns-in-None-checked_add
returns-in-None-checked_add c = memory_says _
