-- What was read so far, and what is still read, are all that is read.
use Rattle.std.proofs.Common.{◌≡◌, length, map}
use Rattle.ep_parse_parts.proofs.NameTurns.{continued}
use Rattle.ep_parse_model.proofs.groups.groups.Given as goal
use Rattle.ep_parse_model.specs.TextReaders.{full, groups_from}
use Rattle.ep_tree.specs.Views.{group_of}

abbrev pub invariant-loop-groups : goal.invariant-loop-groups
invariant-loop-groups l = continued (map group_of l.groups.items) (groups_from full l.cursor) ≡ groups_from full l.fn.cursor

abbrev pub decreases-loop-groups : goal.decreases-loop-groups
decreases-loop-groups l = length l.cursor
