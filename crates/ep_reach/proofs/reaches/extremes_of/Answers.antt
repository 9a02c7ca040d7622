use Rattle.std.proofs.Common.{ap}
use Rattle.ep_base.specs.Intervals.{Interval}
use Rattle.ep_ground.specs.Bounds.{reach_at}
use Rattle.ep_numbers.specs.Spans.{intervals_of}
use Rattle.ep_numbers.proofs.Ends.{greatest_high, greatest_low, greatest_none, least_high, least_low, least_none}
use Rattle.ep_reach.proofs.reaches.extremes_of.Goals as goal

pub returns-in-Some-clause-least_low : goal.returns-in-Some-clause-least_low
returns-in-Some-clause-least_low c =
    least_low (reach_at (intervals_of c.args.spans.now)) c.args.terms.now _ _ _ _ c.in-Some.ensures.cases.0 (ap (λ (j : Interval). j.low) c.span_of_term.ensures) c.extremes_from.ensures.least_low

pub returns-in-None-clause-least_low : goal.returns-in-None-clause-least_low
returns-in-None-clause-least_low c = (least_none c.args.terms.now (reach_at (intervals_of c.args.spans.now)) c.in-None.ensures.cases).0

pub returns-in-Some-clause-greatest_low : goal.returns-in-Some-clause-greatest_low
returns-in-Some-clause-greatest_low c =
    greatest_low (reach_at (intervals_of c.args.spans.now)) c.args.terms.now _ _ _ _ c.in-Some.ensures.cases.0 (ap (λ (j : Interval). j.low) c.span_of_term.ensures) c.extremes_from.ensures.greatest_low

pub returns-in-None-clause-greatest_low : goal.returns-in-None-clause-greatest_low
returns-in-None-clause-greatest_low c = (greatest_none c.args.terms.now (reach_at (intervals_of c.args.spans.now)) c.in-None.ensures.cases).0

pub returns-in-Some-clause-least_high : goal.returns-in-Some-clause-least_high
returns-in-Some-clause-least_high c =
    least_high (reach_at (intervals_of c.args.spans.now)) c.args.terms.now _ _ _ _ c.in-Some.ensures.cases.0 (ap (λ (j : Interval). j.high) c.span_of_term.ensures) c.extremes_from.ensures.least_high

pub returns-in-None-clause-least_high : goal.returns-in-None-clause-least_high
returns-in-None-clause-least_high c = (least_none c.args.terms.now (reach_at (intervals_of c.args.spans.now)) c.in-None.ensures.cases).1

pub returns-in-Some-clause-greatest_high : goal.returns-in-Some-clause-greatest_high
returns-in-Some-clause-greatest_high c =
    greatest_high (reach_at (intervals_of c.args.spans.now)) c.args.terms.now _ _ _ _ c.in-Some.ensures.cases.0 (ap (λ (j : Interval). j.high) c.span_of_term.ensures) c.extremes_from.ensures.greatest_high

pub returns-in-None-clause-greatest_high : goal.returns-in-None-clause-greatest_high
returns-in-None-clause-greatest_high c = (greatest_none c.args.terms.now (reach_at (intervals_of c.args.spans.now)) c.in-None.ensures.cases).1
