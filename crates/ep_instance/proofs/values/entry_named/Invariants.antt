use Rattle.std.proofs.Common.{◌≡◌, drop, map}
use Rattle.ep_tree.specs.Solutions.{named_in}
use Rattle.ep_tree.specs.Views.{named_value}
use Rattle.ep_instance.proofs.values.entry_named.Given as goal

abbrev pub invariant-loop-entry : goal.invariant-loop-entry
invariant-loop-entry l = named_in (map named_value l.entries) l.name ≡ named_in (map named_value (drop l.entry-index l.entries)) l.name
