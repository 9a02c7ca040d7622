use Rattle.ep_print_laws.proofs.Worth.{value_read}
use Rattle.ep_print_laws.proofs.printed_values_are_read_again.Goals as goal

pub returns : goal.returns
returns c = value_read
