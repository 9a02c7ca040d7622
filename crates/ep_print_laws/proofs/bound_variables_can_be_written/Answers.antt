use Rattle.ep_print_laws.proofs.BoundNames.{bound_named}
use Rattle.ep_print_laws.proofs.NearDomains.{bound_near}
use Rattle.ep_print_laws.proofs.bound_variables_can_be_written.Goals as goal

pub returns-clause-domains : goal.returns-clause-domains
returns-clause-domains c = bound_near

pub returns-clause-names : goal.returns-clause-names
returns-clause-names c = bound_named
