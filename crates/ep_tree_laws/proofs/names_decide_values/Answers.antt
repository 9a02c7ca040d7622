use Rattle.ep_tree_laws.proofs.DecidedValues.{numbers_decided, value_decided}
use Rattle.ep_tree_laws.proofs.names_decide_values.Goals as goal

pub returns-clause-values : goal.returns-clause-values
returns-clause-values c = value_decided

pub returns-clause-numbers : goal.returns-clause-numbers
returns-clause-numbers c = numbers_decided
