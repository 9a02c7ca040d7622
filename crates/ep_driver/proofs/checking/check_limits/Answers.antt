use Rattle.std.proofs.Common.{inr, refl, subst}
use Rattle.ep_size.specs.Causes.{IsCause}
use Rattle.ep_size.specs.declared.errors.SizeError.{SizeError}
use Rattle.ep_instance_parts.specs.Instances.{plain_instance, instance_mode}
use Rattle.ep_tree.specs.Solutions.{instance_limits}
use Rattle.ep_files.specs.Status.{status_of}
use Rattle.ep_driver.proofs.Binding.{limit-passed}
use Rattle.ep_driver.proofs.checking.check_limits.Goals as goal

pub returns-in-Err-Limit : goal.returns-in-Err-Limit
unfolding status_of
returns-in-Err-Limit c =
    let passed = instance_limits (instance_mode c.args.instance.now) (plain_instance c.args.instance.now) in
    let P : SizeError → Type 0 = λ e. IsCause passed e in
    (inr refl, limit-passed passed c.in-Err-Limit.limit (subst P c.in-Err-Limit.field-0-is c.in-Err-Limit.ensures.cause))
