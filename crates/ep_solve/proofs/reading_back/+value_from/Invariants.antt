use Rattle.std.proofs.Common.{◌≡◌, drop, map, length}
use Rattle.ep_tree.specs.Views.{value_tree}
use Rattle.ep_solve.specs.Reading.{parts_from, value_from}
use Rattle.ep_solve.proofs.reading_back.+value_from.Given as goal

abbrev pub decreases-value_from : goal.decreases-value_from
decreases-value_from l = length l.indices.now

abbrev pub invariant-loop-count : goal.invariant-loop-count
invariant-loop-count l =
    parts_from (value_from l.inner) l.count (drop l.fn.place l.numbers) ≡ (map value_tree l.parts.items, drop l.place l.numbers)
