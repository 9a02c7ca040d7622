use Rattle.ep_print_laws.proofs.Answered.{answer_spelled}
use Rattle.ep_print_laws.proofs.answers_are_parameter_texts.Goals as goal

pub returns : goal.returns
returns c = answer_spelled
