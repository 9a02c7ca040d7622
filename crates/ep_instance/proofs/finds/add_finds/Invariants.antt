use Rattle.std.proofs.Common.{◌≡◌, ◌++◌, map, take}
use Rattle.ep_instance_parts.specs.Instances.{find_of}
use Rattle.ep_instance.specs.Finding.{kept_finds}
use Rattle.ep_instance.proofs.finds.add_finds.Given as goal

abbrev pub invariant-loop-name : goal.invariant-loop-name
invariant-loop-name l =
    map find_of l.finds.items ≡ map find_of l.initial.finds.items ++ kept_finds l.shape (take l.name-index l.names)
