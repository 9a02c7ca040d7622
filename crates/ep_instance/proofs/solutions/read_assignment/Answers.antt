use Rattle.std.proofs.Common.{◌≡◌, ◌∙◌, [], ap, sym, subst, map}
use Rattle.std.specs.Prelude.{Ok}
use Rattle.std.proofs.lemmas.Result.{err_from_is_err_and}
use Rattle.ep_eval.specs.Known.{env_of}
use Rattle.ep_tree.specs.Faults.{lettings_of, text_faults}
use Rattle.ep_tree.specs.SolutionTexts.{shaped_by}
use Rattle.ep_types.specs.Texts.{typed_params_tree}
use Rattle.ep_instance_parts.proofs.Answering.{refuses_first, then_is}
use Rattle.ep_instance_parts.specs.Instances.{find_of, plain_instance, instance_mode}
use Rattle.ep_instance.proofs.ProgressSteps.{params_faultless, params_given}
use Rattle.ep_instance.proofs.ShapingSteps.{read_text, shape_same}
use Rattle.ep_instance.proofs.solutions.read_assignment.Goals as goal

pub bind_params-requires : goal.bind_params-requires
bind_params-requires c =
    let same = params_given c.into_params-params.result c.deref.result.now _ c.into_params-params.ensures.same c.deref.ensures.value in
    record { faultless = subst (λ t. text_faults (lettings_of t) ≡ []) (sym same) (params_faultless _ c.into_params-params.ensures.faultless) }

pub returns-in_err-known-clause-answer : goal.returns-in_err-known-clause-answer
returns-in_err-known-clause-answer c =
    let i = plain_instance c.args.instance.now in
    let text = typed_params_tree c.args.params in
    let same = params_given c.into_params-params.result c.deref.result.now _ c.into_params-params.ensures.same c.deref.ensures.value in
    let p = err_from_is_err_and c.from_residual.result c.from_residual.ensures.1 in
    rw (p.1, p.2)
    (refuses_first _ _ _ _ (read_text (instance_mode c.args.instance.now) _ i text _ (c.mode-mode.ensures.mode ∙ ap (λ e. e.mode) c.env.ensures) same) c.in_err-known.ensures.known)

pub returns-clause-answer : goal.returns-clause-answer
returns-clause-answer c =
    let i = plain_instance c.args.instance.now in
    let known = env_of c.in_ok-known.known in
    let text = typed_params_tree c.args.params in
    let same = params_given c.into_params-params.result c.deref.result.now _ c.into_params-params.ensures.same c.deref.ensures.value in
    let again = params_given c.into_params-params.result c.deref-2.result.now _ c.into_params-params.ensures.same c.deref-2.ensures.value in
    shape_same (Ok c.in_ok-shaped.shaped) _ _
    (then_is _ _ _ _ (read_text (instance_mode c.args.instance.now) _ i text _ (c.mode-mode.ensures.mode ∙ ap (λ e. e.mode) c.env.ensures) same) c.in_ok-known.ensures.known
    ∙ ap (λ fs. Ok (shaped_by fs known text)) (sym c.finds-finds.ensures)
    ∙ ap (λ t. Ok (shaped_by (map find_of c.finds-finds.result.now) known t)) (sym again))
    c.in_ok-shaped.ensures.shape

pub returns-clause-fits : goal.returns-clause-fits
returns-clause-fits c = c.in_ok-shaped.ensures.fits (plain_instance c.args.instance.now) (sym c.finds-finds.ensures) c.requires.closed
