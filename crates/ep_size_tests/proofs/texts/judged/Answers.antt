use Rattle.ep_instance_parts.specs.Instances.{plain_instance, instance_mode}
use Rattle.ep_size_tests.proofs.texts.judged.Goals as goal

pub is_solution-requires-clause-small : goal.is_solution-requires-clause-small
is_solution-requires-clause-small c =
    c.no_limit_is_passed.ensures (instance_mode c.args.instance.now) (plain_instance c.args.instance.now) c.requires.within
