use Rattle.std.proofs.Common.{subst}
use Rattle.std.proofs.lemmas.Result.{err_from_is_err_and}
use Rattle.ep_eval.specs.Known.{env_of}
use Rattle.ep_instance_parts.specs.Counted.{IsCounted}
use Rattle.ep_instance_parts.proofs.LimitSteps.{cause_along, counted_none}
use Rattle.ep_instance_parts.proofs.RangeSteps.{high_number, high_open, met_end-none, met_end-some}
use Rattle.ep_instance_parts.proofs.bounds.high_end.Goals as goal

pub returns-in_ok-number-in-Some-clause-high : goal.returns-in_ok-number-in-Some-clause-high
returns-in_ok-number-in-Some-clause-high c =
    high_number c.args.env.now.mode (env_of c.args.env.now) c.args.end.now c.in-Some.e _ c.in-Some.is c.in_ok-number-in-Some.ensures.number

pub returns-in_ok-number-in-Some-clause-counted : goal.returns-in_ok-number-in-Some-clause-counted
returns-in_ok-number-in-Some-clause-counted c =
    subst (λ ms. IsCounted c.args.env.now.mode c.args.before ms c.in_ok-number-in-Some.after)
    (met_end-some c.args.env.now.mode (env_of c.args.env.now) c.args.end.now c.in-Some.e c.in-Some.is) c.in_ok-number-in-Some.ensures.counted

pub returns-in_err-number-in-Some-clause-cause : goal.returns-in_err-number-in-Some-clause-cause
returns-in_err-number-in-Some-clause-cause c =
    let p = err_from_is_err_and c.from_residual.result c.from_residual.ensures.1 in
    rw (p.1, p.2)
    (cause_along c.args.env.now.mode c.args.before _ _ _
    (met_end-some c.args.env.now.mode (env_of c.args.env.now) c.args.end.now c.in-Some.e c.in-Some.is) c.in_err-number-in-Some.ensures.cause)

pub returns-in-None-clause-high : goal.returns-in-None-clause-high
returns-in-None-clause-high c = high_open c.args.env.now.mode (env_of c.args.env.now) c.args.end.now c.in-None.is

pub returns-in-None-clause-counted : goal.returns-in-None-clause-counted
returns-in-None-clause-counted c =
    subst (λ ms. IsCounted c.args.env.now.mode c.args.before ms c.args.before)
    (met_end-none c.args.env.now.mode (env_of c.args.env.now) c.args.end.now c.in-None.is) (counted_none c.args.env.now.mode c.args.before c.requires)
