use Rattle.std.proofs.Common.{refl}
use Rattle.ep_tree.specs.Binding.{now_with}
use Rattle.ep_tree.specs.Binding.{with_goal}
use Rattle.ep_instance.proofs.statements.set_objective.Goals as goal

pub returns-clause-progress : goal.returns-clause-progress
unfolding now_with with_goal
returns-clause-progress c = refl
