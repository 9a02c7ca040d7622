use Rattle.std.proofs.Common.{drop, map}
use Rattle.ep_eval.specs.Known.{env_of}
use Rattle.ep_tree.specs.Views.{expr_tree}
use Rattle.ep_instance_parts.proofs.ConditionSteps.{ConditionsSoFar}
use Rattle.ep_instance_parts.proofs.conditions.check_conditions.Given as goal

abbrev pub invariant-loop-condition : goal.invariant-loop-condition
invariant-loop-condition l =
    ConditionsSoFar l.env.mode (env_of l.env) l.first (map expr_tree l.conditions) (map expr_tree (drop l.condition-index l.conditions)) l.violated l.number l.count
