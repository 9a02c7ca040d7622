use Rattle.ep_reach_laws.proofs.Passing.{fitting_passes_no_limit, limits_are_kept}
use Rattle.ep_reach_laws.proofs.limits_hold_for_values.Goals as goal

pub returns-clause-kept : goal.returns-clause-kept
returns-clause-kept c = limits_are_kept

pub returns-clause-fitting : goal.returns-clause-fitting
returns-clause-fitting c = fitting_passes_no_limit
