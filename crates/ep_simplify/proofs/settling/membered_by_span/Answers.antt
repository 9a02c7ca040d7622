use Rattle.std.proofs.Common.{refl}
use Rattle.ep_numbers.specs.Spans.{interval_of}
use Rattle.ep_reach.proofs.Reaching.{if_some_so}
use Rattle.ep_simplify.proofs.Forms.{members_say}
use Rattle.ep_simplify.proofs.Untold.{span_open}
use Rattle.ep_simplify.proofs.settling.membered_by_span.Goals as goal

pub returns-in_default-clause-untold : goal.returns-in_default-clause-untold
returns-in_default-clause-untold c none near cells h known d = c.in_default.ensures.told refl c.requires near cells h

pub returns-clause-says : goal.returns-clause-says
returns-clause-says c = if_some_so c.is_member.result c.is_member.ensures.says
    (λ known d cells h. members_say cells c.args.news.now c.args.a c.args.numbers.now known _ c.requires (c.in-Some.ensures.reach cells h) d h)

pub returns-clause-untold : goal.returns-clause-untold
returns-clause-untold c none near cells h =
    span_open cells c.args.news.now c.args.a c.args.numbers.now (interval_of c.in-Some.span) h (c.in-Some.ensures.reach cells h) c.requires (c.is_member.ensures.undecided none)
