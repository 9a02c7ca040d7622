-- What was read so far, and what is still read, are all that is read.
use Rattle.std.proofs.Common.{◌≡◌, length, map}
use Rattle.ep_parse_parts.proofs.NameTurns.{continued}
use Rattle.ep_parse_below.proofs.below.Below.generators.Given as goal
use Rattle.ep_parse_parts.specs.Founds.{lower}
use Rattle.ep_parse_parts.specs.Gathered.{GeneratorsCount, as_read, generators_from}

abbrev pub invariant-more : goal.invariant-more
invariant-more g l =
    (continued (map as_read l.generators.items.items) (generators_from (lower l.fn.self.most) l.cursor) ≡ generators_from (lower l.fn.self.most) l.fn.cursor)
    × GeneratorsCount l.generators

abbrev pub decreases-more : goal.decreases-more
decreases-more g l = length l.cursor
