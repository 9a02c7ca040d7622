use Rattle.ep_print_laws.proofs.TextBack.{text_given_back}
use Rattle.ep_print_laws.proofs.answers_are_read_again.Goals as goal

pub returns : goal.returns
returns c = text_given_back
