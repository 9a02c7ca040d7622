use Rattle.ep_parse_expr.proofs.Called.{cut_from, domain_found, domain_refused, lie_from}
use Rattle.ep_parse_expr.proofs.calls.parse_domain.Goals as goal

pub new-cursor-requires : goal.new-cursor-requires
new-cursor-requires c = record { lies = lie_from _ c.args.from _ c.requires.lexed }

pub returns-in-Ok : goal.returns-in-Ok
returns-in-Ok c =
    let r = rw c.in-Ok.is at c.domain-result.ensures.read in
    record { answer = domain_found _ _ _ _ _ _ c.requires.within c.count_read-number.ensures.count c.in-Ok.found (rw (c.new-cursor.ensures.all, cut_from c.args.from c.args.tokens.now) at r) }

pub returns-in-Err : goal.returns-in-Err
returns-in-Err c =
    let r = rw c.in-Err.is at c.domain-result.ensures.read in
    record { answer = rw c.refusal.ensures.why (domain_refused _ _ _ _ _ _ c.requires.within c.count_read-number.ensures.count c.in-Err.stop (rw (c.new-cursor.ensures.all, cut_from c.args.from c.args.tokens.now) at r)) }
