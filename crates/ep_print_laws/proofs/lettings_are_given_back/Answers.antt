use Rattle.ep_print_laws.proofs.Restored.{values_given_back}
use Rattle.ep_print_laws.proofs.Written.{assignment_given_back}
use Rattle.ep_print_laws.specs.Answered.{values_in}
use Rattle.ep_print_laws.proofs.lettings_are_given_back.Goals as goal

pub returns-clause-values : goal.returns-clause-values
returns-clause-values c = λ mode i closed answer found fit can text same. values_given_back mode i closed (values_in answer) found fit can text same

pub returns-clause-assignment : goal.returns-clause-assignment
returns-clause-assignment c = λ mode i closed near answer written text same. assignment_given_back mode i closed near (values_in answer) written text same
