use Rattle.std.proofs.lemmas.Result.{err_from_is_err_and}
use Rattle.ep_parse_below.proofs.DomainLoops.{all_ranges_fail, ranges_read}
use Rattle.ep_parse_below.proofs.below.Below.ranges.Goals as goal

pub returns-in_err-ranges : goal.returns-in_err-ranges
returns-in_err-ranges g c =
    let p = err_from_is_err_and c.from_residual.result c.from_residual.ensures.1 in
    record { read = rw (p.1, p.2) (all_ranges_fail _ _ _ _ c.in_err-ranges.field-0.0 c.in_err-ranges.ensures.read) }

pub returns : goal.returns
returns g c = record { read = ranges_read _ _ c.in_ok-ranges.ranges _ _ _ _ c.in_ok-ranges.ensures.read c.ranges_end.ensures.read }

pub ranges_end-requires : goal.ranges_end-requires
ranges_end-requires g c = record { ranges = c.in_ok-ranges.ensures.read.counted }
