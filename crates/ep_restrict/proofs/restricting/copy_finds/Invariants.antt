use Rattle.std.proofs.Common.{◌≡◌, take}
use Rattle.std.specs.Prelude.{map}
use Rattle.ep_instance_parts.specs.Instances.{find_of}
use Rattle.ep_restrict.proofs.restricting.copy_finds.Given as goal

abbrev pub invariant-loop-find : goal.invariant-loop-find
invariant-loop-find l = map find_of l.copies.items ≡ map find_of (take l.find-index l.finds)
