use Rattle.std.proofs.Common.{ap, refl, ◌∙◌}
use Rattle.std.proofs.lemmas.Result.{err_from_is_err_and}
use Rattle.ep_eval.specs.Known.{env_of}
use Rattle.ep_tree.specs.Binding.{bind_names}
use Rattle.ep_types_rules.proofs.RuleSteps.{next_is}
use Rattle.ep_instance_parts.proofs.Answering.{refuses_first, then_is}
use Rattle.ep_instance.proofs.BindSteps.{next_name, no_name}
use Rattle.std.proofs.Math.ListN.{drop_of_length-le}
use Rattle.ep_instance.proofs.givens.bind_names.Goals as goal

pub loop-name-init : goal.loop-name-init
loop-name-init c = (refl, λ bound same. refl)

pub loop-name-preserved : goal.loop-name-preserved
loop-name-preserved c =
    let params = env_of c.args.params.now in
    let env = env_of c.loop-name.env in (
      c.bind_name.ensures.mode ∙ c.loop-name.invariant.0,
      λ bound same.
          then_is _ _ _ _
          (c.loop-name.invariant.1 bound same
          ∙ ap (λ xs. bind_names params bound xs env) (next_is c.args.names.now c.loop-name.name-index c.name-item.result c.loop-name-test.true c.name-item.is)
          ∙ next_name params bound c.name-item.result _ env)
          (c.in_ok-bind_name.ensures.known bound same),
    )

pub returns-in_err-bind_name-clause-mode : goal.returns-in_err-bind_name-clause-mode
returns-in_err-bind_name-clause-mode c = c.bind_name.ensures.mode ∙ c.loop-name.invariant.0

pub returns-in_err-bind_name-clause-known : goal.returns-in_err-bind_name-clause-known
returns-in_err-bind_name-clause-known c = λ bound same.
    let params = env_of c.args.params.now in
    let env = env_of c.loop-name.env in
    let p = err_from_is_err_and c.from_residual.result c.from_residual.ensures.1 in
    rw (p.1, p.2)
    (refuses_first _ _ _ _
    (c.loop-name.invariant.1 bound same
    ∙ ap (λ xs. bind_names params bound xs env) (next_is c.args.names.now c.loop-name.name-index c.name-item.result c.loop-name-test.true c.name-item.is)
    ∙ next_name params bound c.name-item.result _ env)
    (c.in_err-bind_name.ensures.known bound same))

pub returns-clause-mode : goal.returns-clause-mode
returns-clause-mode c = c.loop-name.invariant.0

pub returns-clause-known : goal.returns-clause-known
returns-clause-known c = λ bound same.
    let params = env_of c.args.params.now in
    let env = env_of c.loop-name.env in
    c.loop-name.invariant.1 bound same
    ∙ ap (λ xs. bind_names params bound xs env) (drop_of_length-le c.args.names.now c.loop-name-test.false)
    ∙ no_name params bound env
