use Rattle.ep_tree_laws.proofs.Bindings.{bound_typed, fit_typed, shape_ascends}
use Rattle.ep_tree_laws.proofs.what_is_bound_is_typed.Goals as goal

pub returns-clause-fitted : goal.returns-clause-fitted
returns-clause-fitted c = fit_typed

pub returns-clause-domains : goal.returns-clause-domains
returns-clause-domains c = bound_typed

pub returns-clause-sorted : goal.returns-clause-sorted
returns-clause-sorted c = shape_ascends
