use Rattle.ep_tree.proofs.TypedEvaluation.{domain_typed, value_typed}
use Rattle.ep_tree.proofs.TypedFitting.{fitted_typed}
use Rattle.ep_tree.proofs.laws.values_are_of_their_types.Goals as goal

pub returns-clause-values : goal.returns-clause-values
returns-clause-values c = value_typed

pub returns-clause-numbers : goal.returns-clause-numbers
returns-clause-numbers c = domain_typed

pub returns-clause-fitted : goal.returns-clause-fitted
returns-clause-fitted c = fitted_typed
