use Rattle.ep_tree_laws.proofs.FixedLimits.{limits_fixed}
use Rattle.ep_tree_laws.proofs.WithoutCells.{met_domain_fixed, met_fixed}
use Rattle.ep_tree_laws.proofs.limits_are_of_values.Goals as goal

pub returns-clause-limits : goal.returns-clause-limits
returns-clause-limits c = limits_fixed

pub returns-clause-expressions : goal.returns-clause-expressions
returns-clause-expressions c = met_fixed

pub returns-clause-domains : goal.returns-clause-domains
returns-clause-domains c = met_domain_fixed
