use Rattle.std.proofs.Common.{ap, ◌∙◌, Some}
use Rattle.ep_base.specs.Numbers.{has_number}
use Rattle.ep_instance_parts.proofs.ListedSteps.{within_passes}
use Rattle.ep_instance_parts.proofs.opened.opened_domain.Goals as goal

pub returns-clause-elements : goal.returns-clause-elements
returns-clause-elements c = λ n. ap Some (within_passes c.in_ok-values.values n ∙ ap (λ vs. has_number vs n) c.in_ok-values.ensures)
