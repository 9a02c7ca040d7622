use Rattle.ep_print.proofs.Sentences.{line_ended}
use Rattle.ep_print.proofs.statements.push_statement.Goals as goal

pub returns : goal.returns
returns c = line_ended _ _ _ _ c.in_ok-push_statement_words.ensures c.in_ok-end_line.ensures
