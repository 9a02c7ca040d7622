use Rattle.ep_eval.specs.Known.{env_of}
use Rattle.ep_eval.specs.Outcomes.{seen_value}
use Rattle.ep_tree.specs.Views.{expr_tree}
use Rattle.ep_instance_parts.proofs.LimitSteps.{value_counted}
use Rattle.ep_instance.proofs.JudgingSteps.{no_cause}
use Rattle.ep_instance.proofs.judging.seen_in.Goals as goal

pub returns-in-Ok : goal.returns-in-Ok
returns-in-Ok c =
    (value_counted c.args.env.now.mode 0 c.in-Ok.ensures.value.0 (env_of c.args.env.now) (expr_tree c.args.e.now) (seen_value c.in-Ok.seen) c.in-Ok.ensures.value.1).1

pub unreachable-requires : goal.unreachable-requires
unreachable-requires c = no_cause _ c.in-Err-Limit.field-0 c.in-Err-Limit.field-0-0 c.requires c.in-Err-Limit.field-0-is c.in-Err-Limit.ensures.cause
