use Rattle.std.proofs.Common.{sym, ◌∙◌}
use Rattle.ep_parse_model.proofs.NextSteps.{next_is, next_is_none}
use Rattle.ep_parse_model.proofs.texts.next_opening.Goals as goal
use Rattle.ep_parse_model.specs.TextReaders.{statement_words}

pub returns-in-Some : goal.returns-in-Some
returns-in-Some c = record { next = c.find_opening.ensures.meant ∙ sym (next_is statement_words _ _ (sym c.in-Some.ensures.next)) }

pub returns-in-None : goal.returns-in-None
returns-in-None c = record { next = sym (next_is_none statement_words _ (sym c.in-None.ensures.next)) }
