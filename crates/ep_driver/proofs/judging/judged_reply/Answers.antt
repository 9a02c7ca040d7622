use Rattle.std.proofs.Common.{◌∙◌, Ok, inl, refl, ap, subst}
use Rattle.std.proofs.lemmas.Result.{err_from_is_err_and}
use Rattle.ep_instance_parts.specs.Instances.{plain_instance, instance_mode}
use Rattle.ep_instance.specs.declared.judging.Shaped.{Shaped}
use Rattle.ep_types.specs.Texts.{typed_params_tree}
use Rattle.ep_tree.specs.Views.{assigned}
use Rattle.ep_said.specs.Judgements.{wrong_shape_text}
use Rattle.ep_driver.specs.Steps.{TellsShape}
use Rattle.ep_files.specs.declared.status.Status.{Status}
use Rattle.ep_driver.proofs.Running.{fit-judged, shape-said, shape-stopped}
use Rattle.ep_driver.proofs.judging.judged_reply.Goals as goal

pub returns-in_err-assignment : goal.returns-in_err-assignment
returns-in_err-assignment c =
    let p = err_from_is_err_and c.from_residual.result c.from_residual.ensures.1 in
    rw (p.1, p.2) (shape-stopped (instance_mode c.args.instance.now) (plain_instance c.args.instance.now) (typed_params_tree c.args.solution) c.in_err-assignment.field-0.0 c.in_err-assignment.ensures)

pub returns-in_ok-judged-in-Fits : goal.returns-in_ok-judged-in-Fits
returns-in_ok-judged-in-Fits c =
    let mode = instance_mode c.args.instance.now in
    let i = plain_instance c.args.instance.now in
    let s = typed_params_tree c.args.solution in
    let P : Shaped → Type 0 = λ x. TellsShape mode i s (Ok x) in
    let h : TellsShape mode i s (Ok (Shaped.Fits c.in-Fits.assignment)) = subst P c.in-Fits.is c.in_ok-assignment.ensures in
    fit-judged mode i s (assigned c.in-Fits.assignment) h.1 c.in_ok-judged-in-Fits.field-0 h.0 h.2 (c.in_ok-judged-in-Fits.ensures h.1 h.2)

pub returns-in_ok-wrong_shape_text-in-WrongShape : goal.returns-in_ok-wrong_shape_text-in-WrongShape
returns-in_ok-wrong_shape_text-in-WrongShape c =
    let mode = instance_mode c.args.instance.now in
    let i = plain_instance c.args.instance.now in
    let s = typed_params_tree c.args.solution in
    let P : Shaped → Type 0 = λ x. TellsShape mode i s (Ok x) in
    let h : TellsShape mode i s (Ok (Shaped.WrongShape c.in-WrongShape.name)) = subst P c.in-WrongShape.is c.in_ok-assignment.ensures in
    shape-said mode i s h.0 c.in-WrongShape.name Status.Refuted c.in_ok-wrong_shape_text-in-WrongShape.field-0.items h.1 h.2 refl
    (c.in_ok-wrong_shape_text-in-WrongShape.ensures.text ∙ ap wrong_shape_text c.text.ensures.text)

pub returns-in_err-judged-in-Fits : goal.returns-in_err-judged-in-Fits
returns-in_err-judged-in-Fits c =
    let p = err_from_is_err_and c.from_residual-in_err-judged-in-Fits.result c.from_residual-in_err-judged-in-Fits.ensures.1 in
    rw (p.1, p.2) (inl refl)

pub returns-in_err-wrong_shape_text-in-WrongShape : goal.returns-in_err-wrong_shape_text-in-WrongShape
returns-in_err-wrong_shape_text-in-WrongShape c =
    let p = err_from_is_err_and c.from_residual-in_err-wrong_shape_text-in-WrongShape.result c.from_residual-in_err-wrong_shape_text-in-WrongShape.ensures.1 in
    rw (p.1, p.2) (inl refl)
