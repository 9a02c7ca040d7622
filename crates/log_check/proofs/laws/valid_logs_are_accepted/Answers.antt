use Rattle.log_check.proofs.Accepted.{no_line_is_bad, closed_is_verified}
use Rattle.log_check.proofs.laws.valid_logs_are_accepted.Goals as goal

pub returns-clause-no_bad : goal.returns-clause-no_bad
returns-clause-no_bad c = no_line_is_bad

pub returns-clause-closed : goal.returns-clause-closed
returns-clause-closed c = closed_is_verified
