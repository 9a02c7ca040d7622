use Rattle.std.proofs.lemmas.Result.{err_from_is_err_and}
use Rattle.ep_parse_below.proofs.DomainLoops.{ranges_begin, ranges_end, ranges_fail, ranges_go, ranges_smaller}
use Rattle.ep_parse_below.proofs.below.Below.all_ranges.Goals as goal

pub more-init : goal.more-init
more-init g c = (ranges_begin _ c.new-ranges.result _ c.new-ranges.ensures.none, c.new-ranges.ensures.counted)

pub returns-in_err-range : goal.returns-in_err-range
returns-in_err-range g c =
    let p = err_from_is_err_and c.from_residual.result c.from_residual.ensures.1 in
    record { read = rw (p.1, p.2) (ranges_fail _ _ _ _ _ c.in_err-range.field-0.0 c.more.invariant.0 c.in_err-range.ensures.read) }

pub returns-then-not-passes : goal.returns-then-not-passes
returns-then-not-passes g c =
    record {
      read = record {
        is = ranges_end _ _ _ _ _ _ _ c.more.invariant.0 c.in_ok-range.ensures.read c.if-not-passes.ensures.passed;
        counted = c.in_ok-range.ensures.counted;
      };
    }

pub more-preserved : goal.more-preserved
more-preserved g c = (ranges_go _ _ _ _ _ _ _ c.more.invariant.0 c.in_ok-range.ensures.read c.if-not-passes.ensures.passed, c.in_ok-range.ensures.counted)

pub more-smaller : goal.more-smaller
more-smaller g c = ranges_smaller _ _ _ _ _ _ c.in_ok-range.ensures.read c.if-not-passes.ensures.passed
