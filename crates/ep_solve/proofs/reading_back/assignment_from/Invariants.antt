use Rattle.std.proofs.Common.{◌≡◌, ◌++◌, drop, map}
use Rattle.ep_instance_parts.specs.Instances.{find_of}
use Rattle.ep_tree.specs.Views.{named_value}
use Rattle.ep_solve.specs.Reading.{assignment_from}
use Rattle.ep_solve.proofs.reading_back.assignment_from.Given as goal

abbrev pub invariant-loop-find : goal.invariant-loop-find
invariant-loop-find l =
    assignment_from (map find_of l.finds) l.numbers
    ≡ map named_value l.entries.items ++ assignment_from (map find_of (drop l.find-index l.finds)) (drop l.place l.numbers)
