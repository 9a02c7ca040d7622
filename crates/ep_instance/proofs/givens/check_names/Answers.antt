use Rattle.std.proofs.Common.{ap, ◌∙◌}
use Rattle.std.proofs.lemmas.Result.{err_from_is_err_and}
use Rattle.ep_eval.specs.Known.{env_of}
use Rattle.ep_tree.specs.Binding.{first_missing}
use Rattle.ep_types_rules.proofs.RuleSteps.{next_is}
use Rattle.ep_instance_parts.proofs.Answering.{refuses_first, then_is}
use Rattle.ep_instance.specs.Steps.{nothing_refused}
use Rattle.ep_instance.proofs.BindSteps.{next_missing, none_missing}
use Rattle.std.proofs.Math.ListN.{drop_of_length-le}
use Rattle.ep_instance.proofs.givens.check_names.Goals as goal

pub returns-in_err-check_name : goal.returns-in_err-check_name
returns-in_err-check_name c =
    let params = env_of c.args.params.now in
    let k = c.loop-name.name-index in
    let step = c.loop-name.invariant ∙ ap (λ xs. nothing_refused (first_missing params xs)) (next_is c.args.names.now k c.name-item.result c.loop-name-test.true c.name-item.is)
    ∙ next_missing params c.name-item.result _ in
    let p = err_from_is_err_and c.from_residual.result c.from_residual.ensures.1 in
    rw (p.1, p.2) (refuses_first _ _ _ _ step c.in_err-check_name.ensures)

pub loop-name-preserved : goal.loop-name-preserved
loop-name-preserved c =
    let params = env_of c.args.params.now in
    let k = c.loop-name.name-index in
    let step = c.loop-name.invariant ∙ ap (λ xs. nothing_refused (first_missing params xs)) (next_is c.args.names.now k c.name-item.result c.loop-name-test.true c.name-item.is)
    ∙ next_missing params c.name-item.result _ in
    then_is _ _ _ _ step c.in_ok-check_name.ensures

pub returns : goal.returns
returns c =
    let params = env_of c.args.params.now in
    c.loop-name.invariant ∙ ap (λ xs. nothing_refused (first_missing params xs)) (drop_of_length-le c.args.names.now c.loop-name-test.false) ∙ none_missing params
