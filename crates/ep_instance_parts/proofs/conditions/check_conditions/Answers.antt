use Rattle.std.proofs.Common.{◌+◌, ap, subst, map, drop}
use Rattle.std.proofs.lemmas.Result.{err_from_is_err_and}
use Rattle.std.proofs.Math.ListN.{drop_of_length-le}
use Rattle.ep_eval.specs.Known.{env_of}
use Rattle.ep_eval.specs.Outcomes.{seen_value}
use Rattle.ep_tree.specs.Views.{expr_tree}
use Rattle.ep_types_rules.proofs.RuleSteps.{next_is}
use Rattle.ep_instance_parts.proofs.Answering.{limit_refuses, refuses_false}
use Rattle.ep_instance_parts.proofs.ConditionSteps.{ConditionsSoFar, condition_violated, conditions_begin, conditions_cause, conditions_hold, conditions_more}
use Rattle.ep_instance_parts.proofs.LimitSteps.{value_counted}
use Rattle.ep_instance_parts.proofs.conditions.check_conditions.Goals as goal

pub loop-condition-init : goal.loop-condition-init
loop-condition-init c = conditions_begin c.args.env.now.mode (env_of c.args.env.now) c.args.first (map expr_tree c.args.conditions.now)

pub loop-condition-preserved : goal.loop-condition-preserved
loop-condition-preserved c =
    let mode = c.args.env.now.mode in
    let env = env_of c.args.env.now in
    let all = map expr_tree c.args.conditions.now in
    let k = c.loop-condition.condition-index in
    let cut = ap (map expr_tree) (next_is c.args.conditions.now k c.condition-item.result c.loop-condition-test.true c.condition-item.is) in
    let told = value_counted mode c.loop-condition.count c.in_ok-seen.after env (expr_tree c.condition-item.result) (seen_value c.in_ok-seen.seen) c.in_ok-seen.ensures.value in
    conditions_more mode env c.args.first c.loop-condition.number c.loop-condition.count c.in_ok-seen.after _ all (expr_tree c.condition-item.result) (map expr_tree (drop (k + 1) c.args.conditions.now))
    c.loop-condition.violated _ c.is_true.result (seen_value c.in_ok-seen.seen)
    (subst (λ left. ConditionsSoFar mode env c.args.first all left c.loop-condition.violated c.loop-condition.number c.loop-condition.count) cut c.loop-condition.invariant)
    told.0 told.1 c.is_true.ensures c.with_next-violated.ensures c.in_ok-number.ensures

pub returns-in_err-seen : goal.returns-in_err-seen
returns-in_err-seen c =
    let mode = c.args.env.now.mode in
    let env = env_of c.args.env.now in
    let all = map expr_tree c.args.conditions.now in
    let k = c.loop-condition.condition-index in
    let cut = ap (map expr_tree) (next_is c.args.conditions.now k c.condition-item.result c.loop-condition-test.true c.condition-item.is) in
    let p = err_from_is_err_and c.from_residual.result c.from_residual.ensures.1 in
    rw (p.1, p.2)
    (limit_refuses mode _ _ _
    (conditions_cause mode env c.args.first c.loop-condition.number c.loop-condition.count all (expr_tree c.condition-item.result) (map expr_tree (drop (k + 1) c.args.conditions.now)) c.loop-condition.violated _
    (subst (λ left. ConditionsSoFar mode env c.args.first all left c.loop-condition.violated c.loop-condition.number c.loop-condition.count) cut c.loop-condition.invariant)
    c.in_err-seen.ensures.cause))

pub returns-in-Some : goal.returns-in-Some
returns-in-Some c =
    let mode = c.args.env.now.mode in
    let env = env_of c.args.env.now in
    let all = map expr_tree c.args.conditions.now in
    refuses_false c.in-Some.number _
    (condition_violated mode env c.args.first c.loop-condition.number c.loop-condition.count c.in-Some.number all c.loop-condition.violated
    (subst (λ xs. ConditionsSoFar mode env c.args.first all (map expr_tree xs) c.loop-condition.violated c.loop-condition.number c.loop-condition.count)
    (drop_of_length-le c.args.conditions.now c.loop-condition-test.false) c.loop-condition.invariant)
    c.in-Some.is)

pub returns-in-None : goal.returns-in-None
returns-in-None c =
    let mode = c.args.env.now.mode in
    let env = env_of c.args.env.now in
    let all = map expr_tree c.args.conditions.now in
    conditions_hold mode env c.args.first c.loop-condition.number c.loop-condition.count all c.loop-condition.violated
    (subst (λ xs. ConditionsSoFar mode env c.args.first all (map expr_tree xs) c.loop-condition.violated c.loop-condition.number c.loop-condition.count)
    (drop_of_length-le c.args.conditions.now c.loop-condition-test.false) c.loop-condition.invariant)
    c.in-None.is
