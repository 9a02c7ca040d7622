use Rattle.std.proofs.Common.{◌≡◌, drop}
use Rattle.ep_tree.specs.Faults.{has_open_range}
use Rattle.ep_tree.specs.Views.{ranges_of}
use Rattle.ep_types_rules.proofs.rules.has_open_range.Given as goal

abbrev pub invariant-loop-range : goal.invariant-loop-range
invariant-loop-range l = has_open_range (ranges_of l.ranges) ≡ has_open_range (ranges_of (drop l.range-index l.ranges))
