use Rattle.ep_eval.proofs.Words.{refl, None, mode_in}
use Rattle.ep_eval.proofs.MeterSteps.{told_counted, told_limit}
use Rattle.ep_eval.proofs.counted.numbers_after.Goals as goal

pub returns-in-Some-clause-cause : goal.returns-in-Some-clause-cause
returns-in-Some-clause-cause c =
    told_limit (mode_in c.args.scope) (record { size = c.args.met.now; passed = None }) c.numbers_of.new.meter _ c.in-Some.limit c.in_ok-set.ensures refl c.in-Some.is

pub returns-in-None-clause-counted : goal.returns-in-None-clause-counted
returns-in-None-clause-counted c =
    told_counted (mode_in c.args.scope) (record { size = c.args.met.now; passed = None }) c.numbers_of.new.meter _ c.requires.small c.in_ok-set.ensures c.in-None.is

pub returns-in-None-clause-value : goal.returns-in-None-clause-value
returns-in-None-clause-value c = c.in_ok-set.ensures.told c.in-None.is
