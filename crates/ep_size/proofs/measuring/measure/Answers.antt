use Rattle.ep_size.proofs.Words.{arith, err_from_is_err_and, instance_mode, plain_instance}
use Rattle.ep_size.proofs.Wholes.{cells_refuse, instance_passed, too_heavy, whole_size, whole_weight, whole_within}
use Rattle.ep_size.proofs.measuring.measure.Goals as goal

pub returns-in_err-totals-clause-cause : goal.returns-in_err-totals-clause-cause
returns-in_err-totals-clause-cause c =
    let p = err_from_is_err_and c.from_residual.result c.from_residual.ensures.1 in
    rw (p.1, p.2) (cells_refuse (instance_mode c.args.instance.now) (plain_instance c.args.instance.now) c.in_err-totals.field-0.0 c.in_err-totals.ensures.cause)

pub returns-in-Some-clause-cause : goal.returns-in-Some-clause-cause
returns-in-Some-clause-cause c =
    instance_passed (instance_mode c.args.instance.now) (plain_instance c.args.instance.now) c.in_ok-totals.totals c.in-Some.limit c.in_ok-totals.ensures.told c.in-Some.is

pub returns-then-totals-gt-MOST_WEIGHT-clause-cause : goal.returns-then-totals-gt-MOST_WEIGHT-clause-cause
returns-then-totals-gt-MOST_WEIGHT-clause-cause c =
    too_heavy (instance_mode c.args.instance.now) (plain_instance c.args.instance.now) c.in_ok-totals.totals c.in_ok-totals.ensures.told c.in_default.is (omega (arith, c.if-totals-gt-MOST_WEIGHT.true))

pub returns-clause-size : goal.returns-clause-size
returns-clause-size c =
    whole_size (instance_mode c.args.instance.now) (plain_instance c.args.instance.now) c.in_ok-totals.totals c.in_ok-totals.ensures.told c.in_default.is

pub returns-clause-weight : goal.returns-clause-weight
returns-clause-weight c =
    whole_weight (instance_mode c.args.instance.now) (plain_instance c.args.instance.now) c.in_ok-totals.totals c.in_ok-totals.ensures.told c.in_default.is (omega (arith, c.if-totals-gt-MOST_WEIGHT.false))

pub returns-clause-within : goal.returns-clause-within
returns-clause-within c =
    whole_within (instance_mode c.args.instance.now) (plain_instance c.args.instance.now) c.in_ok-totals.totals c.in_ok-totals.ensures.told c.in_default.is (omega (arith, c.if-totals-gt-MOST_WEIGHT.false))
