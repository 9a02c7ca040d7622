use Rattle.ep_print_laws.proofs.Reread.{reread}
use Rattle.ep_print_laws.proofs.answers_are_read_back.Goals as goal

pub returns : goal.returns
returns c = reread c.tokens_spell_one_text.ensures.params c.answers_are_read_again.ensures
