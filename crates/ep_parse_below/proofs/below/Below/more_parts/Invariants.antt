-- What was read so far, and what is still read, are all that is read.
use Rattle.std.proofs.Common.{◌≡◌, length, map}
use Rattle.ep_parse_parts.proofs.NameTurns.{continued}
use Rattle.ep_parse_below.proofs.below.Below.more_parts.Given as goal
use Rattle.ep_parse_parts.specs.Founds.{lower}
use Rattle.ep_parse_parts.specs.Gathered.{PartsCount}
use Rattle.ep_parse_parts.specs.OperandReaders.{conditions_from}
use Rattle.ep_tree.specs.Views.{expr_tree}

abbrev pub invariant-more : goal.invariant-more
invariant-more g l =
    (continued (map expr_tree l.parts.items.items) (conditions_from (lower l.fn.self.most) l.cursor)
    ≡ continued (map expr_tree l.fn.parts.items.items) (conditions_from (lower l.fn.self.most) l.fn.cursor))
    × PartsCount l.parts

abbrev pub decreases-more : goal.decreases-more
decreases-more g l = length l.cursor
