use Rattle.std.proofs.Common.{sym}
use Rattle.ep_parse_below.proofs.SetTurns.{no_operation, operation_is}
use Rattle.ep_parse_parts.specs.OperatorReaders.{sign_words}
use Rattle.ep_parse_trees.proofs.operators.sign_next.Goals as goal

pub returns-in_default : goal.returns-in_default
returns-in_default c = record { next = sym (no_operation sign_words _ _ c.word_next.ensures.next c.in_default.is) }

pub returns : goal.returns
returns c = record { next = operation_is sign_words _ _ _ _ c.word_next.ensures.next c.in-Some.is c.find_sign.ensures.meant }
