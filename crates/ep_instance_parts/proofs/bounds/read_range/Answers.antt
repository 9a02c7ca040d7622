use Rattle.std.proofs.lemmas.Result.{err_from_is_err_and}
use Rattle.ep_eval.specs.Known.{env_of}
use Rattle.ep_instance_parts.proofs.LimitSteps.{cause_along, cause_first, cause_next, counted_along, counted_on, counted_small}
use Rattle.ep_instance_parts.proofs.RangeSteps.{met_range-one, met_range-span, range_one, range_span}
use Rattle.ep_instance_parts.proofs.bounds.read_range.Goals as goal

pub returns-in_ok-number-in-One-clause-run : goal.returns-in_ok-number-in-One-clause-run
returns-in_ok-number-in-One-clause-run c =
    range_one c.args.env.now.mode (env_of c.args.env.now) c.args.range.now c.in-One.e _ _ c.in-One.is c.in_ok-number-in-One.ensures.number c.run_between.ensures

pub returns-in_ok-number-in-One-clause-counted : goal.returns-in_ok-number-in-One-clause-counted
returns-in_ok-number-in-One-clause-counted c =
    counted_along c.args.env.now.mode c.args.before _ _ _ (met_range-one c.args.env.now.mode (env_of c.args.env.now) c.args.range.now c.in-One.e c.in-One.is)
    c.in_ok-number-in-One.ensures.counted

pub returns-in_err-number-in-One-clause-cause : goal.returns-in_err-number-in-One-clause-cause
returns-in_err-number-in-One-clause-cause c =
    let p = err_from_is_err_and c.from_residual.result c.from_residual.ensures.1 in
    rw (p.1, p.2)
    (cause_along c.args.env.now.mode c.args.before _ _ _ (met_range-one c.args.env.now.mode (env_of c.args.env.now) c.args.range.now c.in-One.e c.in-One.is)
    c.in_err-number-in-One.ensures.cause)

pub high_end-requires : goal.high_end-requires
high_end-requires c = counted_small c.args.env.now.mode c.args.before _ _ c.in_ok-low-in-Span.ensures.counted

pub returns-in_err-low-in-Span-clause-cause : goal.returns-in_err-low-in-Span-clause-cause
returns-in_err-low-in-Span-clause-cause c =
    let p = err_from_is_err_and c.from_residual-in_err-low-in-Span.result c.from_residual-in_err-low-in-Span.ensures.1 in
    rw (p.1, p.2)
    (cause_along c.args.env.now.mode c.args.before _ _ _ (met_range-span c.args.env.now.mode (env_of c.args.env.now) c.args.range.now c.in-Span.low c.in-Span.high c.in-Span.is)
    (cause_first c.args.env.now.mode c.args.before _ _ _ c.in_err-low-in-Span.ensures.cause))

pub returns-in_err-high-in-Span-clause-cause : goal.returns-in_err-high-in-Span-clause-cause
returns-in_err-high-in-Span-clause-cause c =
    let p = err_from_is_err_and c.from_residual-in_err-high-in-Span.result c.from_residual-in_err-high-in-Span.ensures.1 in
    rw (p.1, p.2)
    (cause_along c.args.env.now.mode c.args.before _ _ _ (met_range-span c.args.env.now.mode (env_of c.args.env.now) c.args.range.now c.in-Span.low c.in-Span.high c.in-Span.is)
    (cause_next c.args.env.now.mode c.args.before _ _ _ _ c.in_ok-low-in-Span.ensures.counted c.in_err-high-in-Span.ensures.cause))

pub returns-in_ok-high-in-Span-clause-run : goal.returns-in_ok-high-in-Span-clause-run
returns-in_ok-high-in-Span-clause-run c =
    range_span c.args.env.now.mode (env_of c.args.env.now) c.args.range.now c.in-Span.low c.in-Span.high _ _ _ c.in-Span.is
    c.in_ok-low-in-Span.ensures.low c.in_ok-high-in-Span.ensures.high c.run_between-in-Span.ensures

pub returns-in_ok-high-in-Span-clause-counted : goal.returns-in_ok-high-in-Span-clause-counted
returns-in_ok-high-in-Span-clause-counted c =
    counted_along c.args.env.now.mode c.args.before _ _ _ (met_range-span c.args.env.now.mode (env_of c.args.env.now) c.args.range.now c.in-Span.low c.in-Span.high c.in-Span.is)
    (counted_on c.args.env.now.mode c.args.before _ _ _ _ c.in_ok-low-in-Span.ensures.counted c.in_ok-high-in-Span.ensures.counted)
