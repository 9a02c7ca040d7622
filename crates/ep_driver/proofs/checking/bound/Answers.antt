use Rattle.std.proofs.Common.{Err, ap, sym, subst}
use Rattle.ep_instance_parts.specs.Instances.{plain_instance}
use Rattle.ep_tree.specs.Binding.{bind}
use Rattle.ep_types.specs.Texts.{typed_params_tree, typed_tree}
use Rattle.ep_driver.specs.Outcomes.{as_outcome, bound_outcome}
use Rattle.ep_driver.specs.Steps.{Tells}
use Rattle.ep_files.specs.declared.stops.Stop.{Stop}
use Rattle.ep_driver.proofs.Binding.{bind-stopped}
use Rattle.ep_driver.proofs.checking.bound.Goals as goal

pub returns-in-Ok-clause-tells : goal.returns-in-Ok-clause-tells
unfolding as_outcome
returns-in-Ok-clause-tells c = ap as_outcome c.in-Ok.ensures.answer

pub returns-in-Err-clause-tells : goal.returns-in-Err-clause-tells
returns-in-Err-clause-tells c =
    let model = typed_tree c.args.model in
    let params = typed_params_tree c.args.params in
    let P : Stop → Type 0 = λ s. Tells plain_instance (bound_outcome c.args.mode model params) (Err s) in
    subst P (sym c.bind_stop.ensures) (bind-stopped plain_instance (bind c.args.mode model params) c.in-Err.error c.in-Err.ensures.answer)
