use Rattle.std.proofs.lemmas.Result.{err_from_is_err_and}
use Rattle.ep_parse_below.proofs.DomainLoops.{range_dots_none, range_first, range_number, range_span_end}
use Rattle.ep_parse_below.proofs.ListLoops.{added_pushed, adds_as, stops_as, stops_then}
use Rattle.ep_parse_below.proofs.below.Below.range.Goals as goal

pub returns-then-passes : goal.returns-then-passes
returns-then-passes g c =
    record {
      read = adds_as _ _ _ _ _ _ (range_dots_none _ _ _ _ c.if-passes.ensures.passed c.none.ensures.end) c.span.ensures.read;
      counted = c.span.ensures.counted;
    }

pub returns-in_err-first-clause-read : goal.returns-in_err-first-clause-read
returns-in_err-first-clause-read g c =
    let p = err_from_is_err_and c.from_residual.result c.from_residual.ensures.1 in
    rw (p.1, p.2) (stops_as c.in_err-first.field-0.0 _ _ _ (range_first _ _ _ c.if-passes.ensures.passed) (stops_then c.in_err-first.field-0.0 _ _ _ c.in_err-first.ensures.read))

pub returns-then-not-passes : goal.returns-then-not-passes
returns-then-not-passes g c =
    record {
      read = added_pushed _ _ _ _ _ _ c.push_one.ensures.pushed (range_number _ _ _ _ _ _ c.if-passes.ensures.passed c.in_ok-first.ensures.read.0 c.if-not-passes.ensures.passed);
      counted = c.push_one.ensures.counted;
    }

pub returns : goal.returns
returns g c =
    record {
      read = adds_as _ _ _ _ _ _ (range_span_end _ _ _ _ _ _ _ c.if-passes.ensures.passed c.in_ok-first.ensures.read.0 c.if-not-passes.ensures.passed c.found.ensures.end) c.span-2.ensures.read;
      counted = c.span-2.ensures.counted;
    }
