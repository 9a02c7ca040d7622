use Rattle.ep_print_laws.proofs.Printed.{read_again, spelled_again}
use Rattle.ep_print_laws.proofs.printed_models_are_read_again.Goals as goal

pub returns-clause-spelled : goal.returns-clause-spelled
returns-clause-spelled c = spelled_again

pub returns-clause-read : goal.returns-clause-read
returns-clause-read c = read_again
