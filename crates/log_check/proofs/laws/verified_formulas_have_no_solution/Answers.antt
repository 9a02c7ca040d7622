use Rattle.log_check.proofs.Verified.{verified_has_no_solution}
use Rattle.log_check.proofs.laws.verified_formulas_have_no_solution.Goals as goal

pub returns : goal.returns
returns c = verified_has_no_solution
