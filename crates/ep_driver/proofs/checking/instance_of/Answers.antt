use Rattle.std.proofs.lemmas.Result.{err_from_is_err_and}
use Rattle.std.proofs.Common.{◌≡◌, [], Err, subst}
use Rattle.ep_instance_parts.specs.Instances.{plain_instance, instance_mode}
use Rattle.ep_tree.specs.Solutions.{instance_limits}
use Rattle.ep_tree.specs.declared.values.Mode.{Mode}
use Rattle.ep_types.specs.Texts.{typed_params_tree, typed_tree}
use Rattle.ep_driver.specs.Outcomes.{bind_refusals}
use Rattle.ep_driver.specs.Steps.{Passes}
use Rattle.ep_driver.proofs.Running.{bound-stopped, limits-stopped, none-passed}
use Rattle.ep_driver.proofs.Tasks.{is-instance}
use Rattle.ep_driver.proofs.checking.instance_of.Goals as goal

pub returns-in_err-instance-clause-tells : goal.returns-in_err-instance-clause-tells
returns-in_err-instance-clause-tells c =
    let p = err_from_is_err_and c.from_residual.result c.from_residual.ensures.1 in
    rw (p.1, p.2) (bound-stopped c.args.mode plain_instance (typed_tree c.args.model) (typed_params_tree c.args.params) c.in_err-instance.field-0.0 c.in_err-instance.ensures.tells)

pub returns-in_err-check_limits-clause-tells : goal.returns-in_err-check_limits-clause-tells
returns-in_err-check_limits-clause-tells c =
    let p = err_from_is_err_and c.from_residual-in_err-check_limits.result c.from_residual-in_err-check_limits.ensures.1 in
    let i = plain_instance c.in_ok-instance.instance in
    let stop = c.in_err-check_limits.field-0.0 in
    let P : Mode → Type 0 = λ m. Passes {V = Unit {0}} (bind_refusals (instance_limits m i)) (Err stop) in
    rw (p.1, p.2)
    (limits-stopped c.args.mode plain_instance (typed_tree c.args.model) (typed_params_tree c.args.params) i stop c.in_ok-instance.ensures.tells
    (subst P c.in_ok-instance.ensures.mode c.in_err-check_limits.ensures))

pub returns-clause-tells : goal.returns-clause-tells
returns-clause-tells c =
    let i = plain_instance c.in_ok-instance.instance in
    let P : Mode → Type 0 = λ m. bind_refusals (instance_limits m i) ≡ [] in
    is-instance c.args.mode (typed_tree c.args.model) (typed_params_tree c.args.params) i c.in_ok-instance.ensures.tells
    (subst P c.in_ok-instance.ensures.mode c.in_ok-check_limits.ensures)

pub returns-clause-within : goal.returns-clause-within
returns-clause-within c =
    none-passed (instance_limits (instance_mode c.in_ok-instance.instance) (plain_instance c.in_ok-instance.instance)) c.in_ok-check_limits.ensures
