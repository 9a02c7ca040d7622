use Rattle.ep_tree_laws.proofs.Agreeing.{domain_is_kept, fixed_value_is_kept, meets_as_many}
use Rattle.ep_tree_laws.proofs.SameTypes.{type_is_kept}
use Rattle.ep_tree_laws.proofs.agreement_keeps.Goals as goal

pub returns-clause-types : goal.returns-clause-types
returns-clause-types c = type_is_kept

pub returns-clause-values : goal.returns-clause-values
returns-clause-values c = fixed_value_is_kept

pub returns-clause-domains : goal.returns-clause-domains
returns-clause-domains c = domain_is_kept

pub returns-clause-met : goal.returns-clause-met
returns-clause-met c = meets_as_many
