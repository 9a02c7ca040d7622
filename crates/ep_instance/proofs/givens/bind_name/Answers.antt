use Rattle.std.proofs.Common.{ap, sym, ◌∙◌, option_map}
use Rattle.ep_eval.specs.Bounds.{entry_bound}
use Rattle.ep_eval.specs.Known.{env_of}
use Rattle.ep_instance_parts.proofs.Answering.{answers_same, refuses_one}
use Rattle.ep_instance.proofs.BindSteps.{name_is, name_missing, parameter_missing, parameter_there}
use Rattle.ep_instance.proofs.givens.bind_name.Goals as goal

pub returns-in-Some-clause-known : goal.returns-in-Some-clause-known
returns-in-Some-clause-known c = λ bound same.
    let params = env_of c.args.params.now in
    let name = c.args.name.now in
    answers_same _ c.bind_fitted.result _ _
    (name_is params bound name (env_of c.args.env.now) _ _
    (parameter_there (params name) _ _ (ap (option_map (λ e. entry_bound e.now)) (sym c.in-Some.is) ∙ c.entry.ensures.bound)))
    (c.bind_fitted.ensures.known bound same)

pub returns-in-None-clause-known : goal.returns-in-None-clause-known
returns-in-None-clause-known c = λ bound same.
    let params = env_of c.args.params.now in
    let name = c.args.name.now in
    refuses_one c.missing.result _ _
    (name_missing params bound name (env_of c.args.env.now) (parameter_missing (params name) (ap (option_map (λ e. entry_bound e.now)) (sym c.in-None.is) ∙ c.entry.ensures.bound)))
    c.missing.ensures
