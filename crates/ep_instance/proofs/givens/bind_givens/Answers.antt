use Rattle.std.proofs.Common.{◌≡◌, [], false, true, ap, sym, refl, subst, map, ◌∙◌, ◌+◌, drop}
use Rattle.std.specs.Prelude.{Ok}
use Rattle.std.proofs.lemmas.Result.{err_from_is_err_and}
use Rattle.ep_eval.specs.Known.{env_of}
use Rattle.ep_tree.specs.Binding.{bind_givens}
use Rattle.ep_tree.specs.Environments.{context_of}
use Rattle.ep_tree.specs.Faults.{group_faults}
use Rattle.ep_tree.specs.Views.{group_of}
use Rattle.ep_types_rules.proofs.RuleSteps.{next_is}
use Rattle.ep_instance_parts.proofs.Answering.{refuses_first, then_is}
use Rattle.ep_instance_parts.specs.Refusals.{RefusesBinding}
use Rattle.ep_instance.specs.Steps.{group_said}
use Rattle.ep_instance.proofs.BindSteps.{alone_faultless, group_context, next_group, no_group, others_faultless, first_faultless}
use Rattle.std.proofs.Math.ListN.{drop_of_length-le}
use Rattle.ep_instance.proofs.givens.bind_givens.Goals as goal

pub loop-group-init : goal.loop-group-init
loop-group-init c = (refl, c.requires.faultless, refl)

pub bind_group-requires : goal.bind_group-requires
bind_group-requires c =
    let k = c.loop-group.group-index in
    let g = group_of c.group-item.result in
    let env = env_of c.loop-group.env in
    let cut = ap (map group_of) (next_is c.args.groups.now k c.group-item.result c.loop-group-test.true c.group-item.is) in
    record {
      faultless =
          alone_faultless (context_of env) false true g (map group_of (drop (k + 1) c.args.groups.now))
          (subst (λ xs. group_faults (context_of env) false true xs ≡ []) cut c.loop-group.invariant.1);
    }

pub loop-group-preserved : goal.loop-group-preserved
loop-group-preserved c =
    let k = c.loop-group.group-index in
    let g = group_of c.group-item.result in
    let env = env_of c.loop-group.env in
    let params = env_of c.args.params.now in
    let mode = c.args.env.now.mode in
    let left = map group_of (drop (k + 1) c.args.groups.now) in
    let cut = ap (map group_of) (next_is c.args.groups.now k c.group-item.result c.loop-group-test.true c.group-item.is) in
    let faultless = subst (λ xs. group_faults (context_of env) false true xs ≡ []) cut c.loop-group.invariant.1 in
    let said = subst (λ m. group_said m c.args.place params g env ≡ Ok (env_of c.bind_group.new.env)) c.loop-group.invariant.0 c.in_ok-bind_group.ensures.known in
    let behind = group_context mode c.args.place params g env _ (first_faultless (context_of env) false true g left faultless) said in (
      c.bind_group.ensures.mode ∙ c.loop-group.invariant.0,
      subst (λ x. group_faults x false true left ≡ []) (sym behind) (others_faultless (context_of env) false true g left faultless),
      then_is _ _ _ _
          (c.loop-group.invariant.2 ∙ ap (λ xs. bind_givens mode c.args.place params xs env) cut ∙ next_group mode c.args.place params g left env)
          said,
    )

pub returns-in_err-bind_group-clause-mode : goal.returns-in_err-bind_group-clause-mode
returns-in_err-bind_group-clause-mode c = c.bind_group.ensures.mode ∙ c.loop-group.invariant.0

pub returns-in_err-bind_group-clause-known : goal.returns-in_err-bind_group-clause-known
returns-in_err-bind_group-clause-known c =
    let k = c.loop-group.group-index in
    let g = group_of c.group-item.result in
    let env = env_of c.loop-group.env in
    let params = env_of c.args.params.now in
    let mode = c.args.env.now.mode in
    let left = map group_of (drop (k + 1) c.args.groups.now) in
    let cut = ap (map group_of) (next_is c.args.groups.now k c.group-item.result c.loop-group-test.true c.group-item.is) in
    let p = err_from_is_err_and c.from_residual.result c.from_residual.ensures.1 in
    rw (p.1, p.2)
    (refuses_first _ _ (group_said mode c.args.place params g env) _
    (c.loop-group.invariant.2 ∙ ap (λ xs. bind_givens mode c.args.place params xs env) cut ∙ next_group mode c.args.place params g left env)
    (subst (λ m. RefusesBinding c.in_err-bind_group.field-0.0 (group_said m c.args.place params g env)) c.loop-group.invariant.0 c.in_err-bind_group.ensures.known))

pub returns-clause-mode : goal.returns-clause-mode
returns-clause-mode c = c.loop-group.invariant.0

pub returns-clause-known : goal.returns-clause-known
returns-clause-known c =
    let env = env_of c.loop-group.env in
    let params = env_of c.args.params.now in
    let mode = c.args.env.now.mode in
    c.loop-group.invariant.2
    ∙ ap (λ xs. bind_givens mode c.args.place params (map group_of xs) env) (drop_of_length-le c.args.groups.now c.loop-group-test.false)
    ∙ no_group mode c.args.place params env
