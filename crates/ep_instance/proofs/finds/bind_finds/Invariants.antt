use Rattle.std.proofs.Common.{drop, map, option_map}
use Rattle.ep_eval.specs.Known.{env_of}
use Rattle.ep_tree.specs.Views.{group_of}
use Rattle.ep_instance_parts.specs.Instances.{find_of}
use Rattle.ep_instance.proofs.FindSteps.{FindsSoFar}
use Rattle.ep_instance.proofs.finds.bind_finds.Given as goal

abbrev pub invariant-loop-group : goal.invariant-loop-group
invariant-loop-group l =
    FindsSoFar l.env.mode (env_of l.env) (map group_of l.groups) (map group_of (drop l.group-index l.groups)) (option_map (λ v. map find_of v.items) l.finds) l.count
