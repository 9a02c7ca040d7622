use Rattle.ep_reach.proofs.Reaching.{if_some_so}
use Rattle.std.proofs.Common.{refl}
use Rattle.ep_numbers.specs.Spans.{interval_of}
use Rattle.ep_simplify.proofs.Forms.{decided_says}
use Rattle.ep_simplify.proofs.Untold.{spans_open}
use Rattle.ep_simplify.proofs.settling.compared_by_spans.Goals as goal

pub returns-clause-says : goal.returns-clause-says
returns-clause-says c = if_some_so c.decided.result c.decided.ensures.says
    (λ known d cells h. decided_says cells c.args.news.now c.args.op c.args.a c.args.b known _ _ c.requires.a c.requires.b (c.in-Some.ensures.reach cells h) (c.in-Some-span_in.ensures.reach cells h) d h)

pub returns-in_default-clause-untold : goal.returns-in_default-clause-untold
returns-in_default-clause-untold c none near cells h known d = c.in_default.ensures.told refl c.requires.a near cells h

pub returns-in_default-span_in-clause-untold : goal.returns-in_default-span_in-clause-untold
returns-in_default-span_in-clause-untold c none near cells h known d = c.in_default-span_in.ensures.told refl c.requires.b near cells h

pub returns-clause-untold : goal.returns-clause-untold
returns-clause-untold c none near cells h =
    spans_open cells c.args.news.now c.args.op c.args.a c.args.b (interval_of c.in-Some.x) (interval_of c.in-Some-span_in.y) h (c.in-Some.ensures.reach cells h) (c.in-Some-span_in.ensures.reach cells h) c.requires.a c.requires.b
    (c.decided.ensures.undecided none)
