-- What was read so far, and what is still read, are all that is read.
use Rattle.std.proofs.Common.{◌≡◌, length, map}
use Rattle.ep_parse_parts.proofs.NameTurns.{continued}
use Rattle.ep_parse_below.proofs.below.Below.all_ranges.Given as goal
use Rattle.ep_parse_parts.specs.Founds.{lower}
use Rattle.ep_parse_parts.specs.Gathered.{RangesCount, all_ranges_from, range_read}

abbrev pub invariant-more : goal.invariant-more
invariant-more g l =
    (continued (map range_read l.ranges.items.items) (all_ranges_from (lower l.fn.self.most) l.cursor) ≡ all_ranges_from (lower l.fn.self.most) l.fn.cursor)
    × RangesCount l.ranges

abbrev pub decreases-more : goal.decreases-more
decreases-more g l = length l.cursor
