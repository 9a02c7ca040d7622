use Rattle.std.proofs.Common.{Err, sym, subst}
use Rattle.ep_instance_parts.specs.Instances.{plain_instance, instance_mode}
use Rattle.ep_types.specs.Texts.{typed_params_tree}
use Rattle.ep_driver.specs.Steps.{TellsShape}
use Rattle.ep_files.specs.declared.stops.Stop.{Stop}
use Rattle.ep_driver.proofs.Running.{shape-bound, shaped-tells}
use Rattle.ep_driver.proofs.judging.shaped.Goals as goal

pub returns-in-Ok : goal.returns-in-Ok
returns-in-Ok c =
    shaped-tells (instance_mode c.args.instance.now) (plain_instance c.args.instance.now) (typed_params_tree c.args.solution) c.in-Ok.shaped
    c.in-Ok.ensures.answer c.in-Ok.ensures.fits

pub returns-in-Err : goal.returns-in-Err
returns-in-Err c =
    let mode = instance_mode c.args.instance.now in
    let i = plain_instance c.args.instance.now in
    let s = typed_params_tree c.args.solution in
    let P : Stop → Type 0 = λ x. TellsShape mode i s (Err x) in
    subst P (sym c.bind_stop.ensures) (shape-bound mode i s c.in-Err.error c.in-Err.ensures.answer)
