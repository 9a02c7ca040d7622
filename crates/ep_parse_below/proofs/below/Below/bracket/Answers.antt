use Rattle.ep_parse_below.proofs.ListLoops.{bracket_empty}
use Rattle.ep_parse_below.proofs.below.Below.bracket.Goals as goal

pub returns-then-not-expression_next : goal.returns-then-not-expression_next
returns-then-not-expression_next g c =
    record { read = bracket_empty _ _ _ _ _ _ _ c.if-not-expression_next.ensures.next c.new-none.ensures.none c.literal_end.ensures.read }
