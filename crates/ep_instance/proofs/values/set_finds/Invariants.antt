use Rattle.std.proofs.Common.{◌≡◌, ◌≤◌, drop, length, map}
use Rattle.ep_eval.specs.Known.{env_of}
use Rattle.ep_tree.specs.Views.{named_value}
use Rattle.ep_instance_parts.specs.Instances.{find_of}
use Rattle.ep_instance.specs.Assigning.{IsUnder}
use Rattle.ep_instance.proofs.values.set_finds.Given as goal

abbrev pub invariant-loop-left : goal.invariant-loop-left
invariant-loop-left l =
    (l.left ≤ length l.finds)
    × (l.env.mode ≡ l.initial.env.mode)
    × IsUnder (map find_of (drop l.left l.finds)) (map named_value l.entries) (env_of l.initial.env) (env_of l.env)

abbrev pub decreases-loop-left : goal.decreases-loop-left
decreases-loop-left l = l.left
