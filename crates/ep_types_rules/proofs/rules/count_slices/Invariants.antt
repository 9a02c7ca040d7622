use Rattle.std.proofs.Common.{◌≡◌, ◌≤◌, ◌+◌, drop}
use Rattle.ep_tree.specs.Types.{slice_count}
use Rattle.ep_tree.specs.Views.{indices_of}
use Rattle.ep_types_rules.proofs.rules.count_slices.Given as goal

abbrev pub invariant-loop-index : goal.invariant-loop-index
invariant-loop-index l = (l.count ≤ l.index-index) × (slice_count (indices_of l.indices) ≡ l.count + slice_count (indices_of (drop l.index-index l.indices)))
