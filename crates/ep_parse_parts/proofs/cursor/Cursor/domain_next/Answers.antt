use Rattle.ep_parse_parts.proofs.DomainLooks.{domain_is_named, domain_is_nothing, domain_is_worded}
use Rattle.ep_parse_parts.proofs.cursor.Cursor.domain_next.Goals as goal

pub returns-then-is_some : goal.returns-then-is_some
returns-then-is_some c = record { next = domain_is_named c.args.level _ _ c.name_next.ensures.next c.if-is_some.ensures }

pub returns-in_default : goal.returns-in_default
returns-in_default c = record { next = domain_is_nothing c.args.level _ _ _ c.name_next.ensures.next c.if-is_some.ensures c.word_next.ensures.next c.in_default.is }

pub returns : goal.returns
returns c = record { next = domain_is_worded c.args.level _ _ _ _ c.word_next.ensures.next c.in-Some.is c.begins.ensures.among }
