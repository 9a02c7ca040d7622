use Rattle.std.proofs.Common.{◌≡◌, drop, map}
use Rattle.ep_tree.specs.SolutionTexts.{is_find}
use Rattle.ep_instance_parts.specs.Instances.{find_of}
use Rattle.ep_instance.proofs.solutions.is_find.Given as goal

abbrev pub invariant-loop-find : goal.invariant-loop-find
invariant-loop-find l = is_find (map find_of l.finds) l.name ≡ is_find (map find_of (drop l.find-index l.finds)) l.name
