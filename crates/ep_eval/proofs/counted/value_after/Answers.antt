use Rattle.ep_eval.proofs.Words.{◌≡◌, ◌≤◌, ◌<◌, refl, arith, None, met, expr_tree, env_in, mode_in}
use Rattle.ep_eval.proofs.Countings.{size_refuses}
use Rattle.ep_eval.proofs.MeterSteps.{told_counted, told_limit}
use Rattle.ep_eval.proofs.counted.value_after.Goals as goal

pub returns-then-met-gt-MOST_SIZE-clause-cause : goal.returns-then-met-gt-MOST_SIZE-clause-cause
returns-then-met-gt-MOST_SIZE-clause-cause c =
    let over = c.if-met-gt-MOST_SIZE.true in
    size_refuses (mode_in c.args.scope) c.args.met.now (met (mode_in c.args.scope) (env_in c.args.scope) (expr_tree c.args.e.now)) (omega (arith, over))

pub returns-in-Some-clause-cause : goal.returns-in-Some-clause-cause
returns-in-Some-clause-cause c =
    told_limit (mode_in c.args.scope) (record { size = c.args.met.now; passed = None }) c.value_of.new.meter _ c.in-Some.limit c.in_ok-seen.ensures refl c.in-Some.is

pub returns-clause-counted : goal.returns-clause-counted
returns-clause-counted c =
    let small = c.if-met-gt-MOST_SIZE.false in
    told_counted (mode_in c.args.scope) (record { size = c.args.met.now; passed = None }) c.value_of.new.meter _ (omega (arith, small)) c.in_ok-seen.ensures c.in-None.is

pub returns-clause-value : goal.returns-clause-value
returns-clause-value c = c.in_ok-seen.ensures.told c.in-None.is
