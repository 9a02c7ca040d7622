use Rattle.ep_tree_laws.proofs.Shapes.{elements_typed, shape_lists, shape_passes, shape_typed}
use Rattle.ep_tree_laws.proofs.bound_domains_are_of_their_types.Goals as goal

pub returns-clause-types : goal.returns-clause-types
returns-clause-types c = shape_typed

pub returns-clause-elements : goal.returns-clause-elements
returns-clause-elements c = elements_typed

pub returns-clause-passed : goal.returns-clause-passed
returns-clause-passed c = shape_passes

pub returns-clause-listed : goal.returns-clause-listed
returns-clause-listed c = shape_lists
