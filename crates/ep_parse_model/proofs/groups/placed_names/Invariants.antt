-- What was read so far, and what is still read, are all that is read.
use Rattle.std.proofs.Common.{◌≡◌, length}
use Rattle.ep_parse_parts.proofs.NameTurns.{continued}
use Rattle.ep_parse_model.proofs.groups.placed_names.Given as goal
use Rattle.ep_parse_model.specs.TextReaders.{placed_names_from}

abbrev pub invariant-loop-names : goal.invariant-loop-names
invariant-loop-names l = continued l.names.items (placed_names_from l.cursor) ≡ placed_names_from l.fn.cursor

abbrev pub decreases-loop-names : goal.decreases-loop-names
decreases-loop-names l = length l.cursor
