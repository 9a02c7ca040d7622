use Rattle.cnf_core.proofs.Effective.{others_not_shown, last_not_given}
use Rattle.cnf_core.proofs.laws.an_effective_step_needs_its_last_literal.Goals as goal

pub returns : goal.returns
returns c = record { no_conflict = others_not_shown; not_given = last_not_given }
