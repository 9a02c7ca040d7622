use Rattle.ep_parse_below.proofs.DomainLoops.{upper_none}
use Rattle.ep_parse_below.proofs.below.Below.upper_end.Goals as goal

pub returns-then-not-expression_next : goal.returns-then-not-expression_next
returns-then-not-expression_next g c = record { read = (upper_none _ _ _ c.if-not-expression_next.ensures.next c.none.ensures.end, c.none.ensures.counted) }
