use Rattle.std.proofs.Common.{◌∙◌}
use Rattle.ep_parse_parts.proofs.LooksAhead.{is_named, is_nothing, is_numbered, is_worded}
use Rattle.ep_parse_parts.specs.Openings.{opening_of}
use Rattle.ep_parse_parts.proofs.cursor.Cursor.expression_next.Goals as goal

pub returns-then-is_some : goal.returns-then-is_some
returns-then-is_some c = record { next = is_named _ _ c.name_next.ensures.next c.if-is_some.ensures }

pub returns-then-is_some-2 : goal.returns-then-is_some-2
returns-then-is_some-2 c = record { next = is_numbered _ _ c.number_next.ensures.next c.if-is_some-2.ensures }

pub returns-in_default : goal.returns-in_default
returns-in_default c =
    record { next = is_nothing _ _ _ _ c.name_next.ensures.next c.if-is_some.ensures c.number_next.ensures.next c.if-is_some-2.ensures c.word_next.ensures.next c.in_default.is }

pub returns : goal.returns
returns c = record { next = c.is_some-3.ensures ∙ is_worded opening_of _ _ _ _ c.word_next.ensures.next c.in-Some.is c.find_opening.ensures.meant }
