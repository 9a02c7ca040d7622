use Rattle.ep_instance_parts.specs.Instances.{plain_instance, instance_mode}
use Rattle.ep_driver.proofs.Limits.{within-limits}
use Rattle.ep_driver.proofs.judging.judged.Goals as goal

pub is_solution-requires-clause-small : goal.is_solution-requires-clause-small
is_solution-requires-clause-small c =
    within-limits (instance_mode c.args.instance.now) (plain_instance c.args.instance.now) c.requires.within
