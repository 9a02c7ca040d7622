use Rattle.std.proofs.Common.{drop, map}
use Rattle.ep_eval.specs.Known.{env_of}
use Rattle.ep_tree.specs.Views.{named_value}
use Rattle.ep_instance_parts.specs.Instances.{find_of}
use Rattle.ep_instance.proofs.ShapingSteps.{EntriesSoFar}
use Rattle.ep_instance.proofs.solutions.entries_of.Given as goal

abbrev pub invariant-loop-find : goal.invariant-loop-find
invariant-loop-find l =
    EntriesSoFar (env_of l.known) (map find_of l.finds) (map find_of (drop l.find-index l.finds)) (map named_value l.entries.items)
