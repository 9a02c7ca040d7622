use Rattle.std.proofs.Common.{sym}
use Rattle.ep_parse_below.proofs.SetTurns.{no_operation, operation_is}
use Rattle.ep_parse_parts.specs.DomainReaders.{set_words}
use Rattle.ep_parse_below.proofs.domains.set_operation_next.Goals as goal

pub returns-in_default : goal.returns-in_default
returns-in_default c = record { next = sym (no_operation set_words _ _ c.word_next.ensures.next c.in_default.is) }

pub returns : goal.returns
returns c = record { next = operation_is set_words _ _ _ _ c.word_next.ensures.next c.in-Some.is c.find_set_operation.ensures.meant }
