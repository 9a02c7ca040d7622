use Rattle.std.proofs.Common.{◌≡◌, ◌∙◌, [], ap, sym, subst}
use Rattle.std.specs.Prelude.{Ok}
use Rattle.std.proofs.lemmas.Result.{err_from_is_err_and}
use Rattle.ep_eval.specs.Known.{env_of}
use Rattle.ep_tree.specs.Binding.{and_next, bind_params, bind_statements, nothing_bound, parameter_text}
use Rattle.ep_tree.specs.Faults.{lettings_of, text_faults}
use Rattle.ep_tree.specs.Names.{nothing_known}
use Rattle.ep_types.specs.Texts.{typed_params_tree, typed_tree}
use Rattle.ep_instance_parts.proofs.Answering.{answers_same, refuses_first, then_is}
use Rattle.ep_instance_parts.specs.Instances.{plain_instance}
use Rattle.ep_instance.proofs.ProgressSteps.{bind_is, model_given, params_faultless, params_given}
use Rattle.ep_instance.proofs.SmallValues.{answer_small}
use Rattle.ep_instance.proofs.binding.bind.Goals as goal

pub bind_params-requires : goal.bind_params-requires
bind_params-requires c =
    let same = params_given c.into_params-params.result c.deref.result.now _ c.into_params-params.ensures.same c.deref.ensures.value in
    record { faultless = subst (λ t. text_faults (lettings_of t) ≡ []) (sym same) (params_faultless _ c.into_params-params.ensures.faultless) }

pub returns-in_err-known-clause-answer : goal.returns-in_err-known-clause-answer
returns-in_err-known-clause-answer c =
    let same = params_given c.into_params-params.result c.deref.result.now _ c.into_params-params.ensures.same c.deref.ensures.value in
    let p = err_from_is_err_and c.from_residual.result c.from_residual.ensures.1 in
    rw (p.1, p.2)
    (refuses_first _ _ _ _
    (bind_is c.args.mode _ _ ∙ ap (λ t. and_next (bind_params c.args.mode parameter_text nothing_known (lettings_of t)) (λ known. and_next (bind_statements c.args.mode known nothing_bound (typed_tree c.args.typed)) (λ at. Ok at.instance))) (sym same))
    c.in_err-known.ensures.known)

pub bind_statements-requires : goal.bind_statements-requires
bind_statements-requires c =
    let same = model_given c.into_model-model.result _ c.into_model-model.ensures.same in
    record { faultless = subst (λ t. text_faults t ≡ []) (sym same) c.into_model-model.ensures.faultless }

pub returns-clause-answer : goal.returns-clause-answer
returns-clause-answer c =
    let same = params_given c.into_params-params.result c.deref.result.now _ c.into_params-params.ensures.same c.deref.ensures.value in
    let model = model_given c.into_model-model.result _ c.into_model-model.ensures.same in
    answers_same plain_instance c.bind_statements.result _ _
    (then_is _ _ _ _
    (bind_is c.args.mode _ _ ∙ ap (λ t. and_next (bind_params c.args.mode parameter_text nothing_known (lettings_of t)) (λ known. and_next (bind_statements c.args.mode known nothing_bound (typed_tree c.args.typed)) (λ at. Ok at.instance))) (sym same))
    c.in_ok-known.ensures.known
    ∙ ap (λ t. and_next (bind_statements c.args.mode (env_of c.in_ok-known.known) nothing_bound t) (λ at. Ok at.instance)) (sym model))
    c.bind_statements.ensures.instance

pub returns-clause-numbers : goal.returns-clause-numbers
returns-clause-numbers c =
    let same = params_given c.into_params-params.result c.deref.result.now _ c.into_params-params.ensures.same c.deref.ensures.value in
    let model = model_given c.into_model-model.result _ c.into_model-model.ensures.same in
    answer_small plain_instance c.bind_statements.result c.args.mode (typed_tree c.args.typed) (typed_params_tree c.args.params)
    (answers_same plain_instance c.bind_statements.result _ _
    (then_is _ _ _ _
    (bind_is c.args.mode _ _ ∙ ap (λ t. and_next (bind_params c.args.mode parameter_text nothing_known (lettings_of t)) (λ known. and_next (bind_statements c.args.mode known nothing_bound (typed_tree c.args.typed)) (λ at. Ok at.instance))) (sym same))
    c.in_ok-known.ensures.known
    ∙ ap (λ t. and_next (bind_statements c.args.mode (env_of c.in_ok-known.known) nothing_bound t) (λ at. Ok at.instance)) (sym model))
    c.bind_statements.ensures.instance)
