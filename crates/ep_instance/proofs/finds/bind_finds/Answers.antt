use Rattle.std.proofs.Common.{◌+◌, List, Some, ap, subst, sym, option_map, map, drop}
use Rattle.std.proofs.lemmas.Result.{err_from_is_err_and}
use Rattle.std.proofs.Math.ListN.{drop_of_length-le}
use Rattle.ep_eval.specs.Known.{env_of}
use Rattle.ep_tree.specs.Views.{group_of}
use Rattle.ep_types_rules.proofs.RuleSteps.{next_is}
use Rattle.ep_instance_parts.proofs.Answering.{limit_refuses, refuses_undefined}
use Rattle.ep_instance_parts.specs.Instances.{find_of}
use Rattle.ep_instance_parts.specs.declared.errors.Source.TheVariants.{Model}
use Rattle.ep_instance_parts.specs.declared.instances.Find.{Find}
use Rattle.ep_instance.proofs.FindSteps.{FindsSoFar, finds_begin, finds_cause_of, finds_given, finds_more_of, finds_undefined}
use Rattle.ep_instance.proofs.finds.bind_finds.Goals as goal

pub loop-group-init : goal.loop-group-init
loop-group-init c =
    let all = map group_of c.args.groups.now in
    subst (λ (fs : List Find). FindsSoFar c.args.env.now.mode (env_of c.args.env.now) all all (Some (map find_of fs)) 0) (sym c.new.ensures.items)
    (finds_begin c.args.env.now.mode (env_of c.args.env.now) all)

pub listed_from-requires : goal.listed_from-requires
listed_from-requires c = record { read = (_, _, c.in_ok-read.ensures) }

pub loop-group-preserved : goal.loop-group-preserved
loop-group-preserved c =
    let all = map group_of c.args.groups.now in
    let k = c.loop-group.group-index in
    let cut = ap (map group_of) (next_is c.args.groups.now k c.group-item.result c.loop-group-test.true c.group-item.is) in
    finds_more_of c.args.env.now.mode (env_of c.args.env.now) c.loop-group.count c.in_ok-read.after all c.group-item.result (map group_of (drop (k + 1) c.args.groups.now)) _ _ c.in_ok-shape.shape _ c.deref.ensures.value
    (subst (λ left. FindsSoFar c.args.env.now.mode (env_of c.args.env.now) all left (option_map (λ v. map find_of v.items) c.loop-group.finds) c.loop-group.count) cut c.loop-group.invariant)
    c.in_ok-read.ensures.counted c.in_ok-shape.ensures c.in_ok-finds.ensures

pub returns-in_err-read : goal.returns-in_err-read
returns-in_err-read c =
    let all = map group_of c.args.groups.now in
    let k = c.loop-group.group-index in
    let cut = ap (map group_of) (next_is c.args.groups.now k c.group-item.result c.loop-group-test.true c.group-item.is) in
    let p = err_from_is_err_and c.from_residual.result c.from_residual.ensures.1 in
    rw (p.1, p.2)
    (limit_refuses c.args.env.now.mode _ _ _
    (finds_cause_of c.args.env.now.mode (env_of c.args.env.now) c.loop-group.count all c.group-item.result (map group_of (drop (k + 1) c.args.groups.now)) _ _
    (subst (λ left. FindsSoFar c.args.env.now.mode (env_of c.args.env.now) all left (option_map (λ v. map find_of v.items) c.loop-group.finds) c.loop-group.count) cut c.loop-group.invariant)
    c.in_err-read.ensures))

pub returns-in_default : goal.returns-in_default
returns-in_default c =
    let all = map group_of c.args.groups.now in
    refuses_undefined Model c.args.place _
    (finds_undefined c.args.env.now.mode (env_of c.args.env.now) c.args.place c.loop-group.count all _
    (subst (λ xs. FindsSoFar c.args.env.now.mode (env_of c.args.env.now) all (map group_of xs) (option_map (λ v. map find_of v.items) c.loop-group.finds) c.loop-group.count)
    (drop_of_length-le c.args.groups.now c.loop-group-test.false) c.loop-group.invariant)
    (ap (option_map (λ v. map find_of v.items)) c.in_default.is))

pub returns : goal.returns
returns c =
    let all = map group_of c.args.groups.now in
    finds_given c.args.env.now.mode (env_of c.args.env.now) c.args.place c.loop-group.count all _ _
    (subst (λ xs. FindsSoFar c.args.env.now.mode (env_of c.args.env.now) all (map group_of xs) (option_map (λ v. map find_of v.items) c.loop-group.finds) c.loop-group.count)
    (drop_of_length-le c.args.groups.now c.loop-group-test.false) c.loop-group.invariant)
    (ap (option_map (λ v. map find_of v.items)) c.in-Some.is)
