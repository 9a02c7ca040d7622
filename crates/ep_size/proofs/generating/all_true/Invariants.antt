use Rattle.ep_size.proofs.Words.{drop, env_in, mode_in}
use Rattle.ep_size.proofs.GeneratedSteps.{ConditionsSoFar}
use Rattle.ep_size.proofs.generating.all_true.Given as goal

abbrev pub invariant-loop-condition : goal.invariant-loop-condition
invariant-loop-condition l = ConditionsSoFar (mode_in l.scope) (env_in l.scope) l.fn.totals l.totals l.conditions (drop l.condition-index l.conditions) l.holds
