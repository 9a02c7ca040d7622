use Rattle.std.proofs.Common.{ap, sym, ◌∙◌, option_map}
use Rattle.ep_eval.specs.Bounds.{entry_bound}
use Rattle.ep_eval.specs.Known.{env_of}
use Rattle.ep_instance_parts.proofs.Answering.{refuses_one}
use Rattle.ep_instance.proofs.BindSteps.{is_missing, not_missing, parameter_missing, parameter_there}
use Rattle.ep_instance.proofs.givens.check_name.Goals as goal

pub returns-in-Some : goal.returns-in-Some
returns-in-Some c =
    let params = env_of c.args.params.now in
    let name = c.args.name.now in
    not_missing params name _ (parameter_there (params name) _ _ (ap (option_map (λ e. entry_bound e.now)) (sym c.in-Some.is) ∙ c.entry.ensures.bound))

pub returns-in-None : goal.returns-in-None
returns-in-None c =
    let params = env_of c.args.params.now in
    let name = c.args.name.now in
    refuses_one c.missing.result _ _
    (is_missing params name (parameter_missing (params name) (ap (option_map (λ e. entry_bound e.now)) (sym c.in-None.is) ∙ c.entry.ensures.bound)))
    c.missing.ensures
