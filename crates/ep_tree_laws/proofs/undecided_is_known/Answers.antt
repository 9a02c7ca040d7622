use Rattle.ep_tree_laws.proofs.Undecided.{faultless_holds_none, fixed_lies_within}
use Rattle.ep_tree_laws.proofs.undecided_is_known.Goals as goal

pub returns-clause-none : goal.returns-clause-none
returns-clause-none c = faultless_holds_none

pub returns-clause-within : goal.returns-clause-within
returns-clause-within c = fixed_lies_within
