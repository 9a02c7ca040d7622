use Rattle.ep_print_laws.proofs.Reread.{solution_judged}
use Rattle.ep_print_laws.proofs.solutions_are_judged_so.Goals as goal

pub returns : goal.returns
returns c = solution_judged
