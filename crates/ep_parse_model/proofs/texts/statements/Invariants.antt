-- What was read so far, and what is still read, are all that is read.
use Rattle.std.proofs.Common.{◌≡◌, length, map}
use Rattle.ep_parse_parts.proofs.NameTurns.{continued}
use Rattle.ep_parse_model.proofs.texts.statements.Given as goal
use Rattle.ep_parse_model.specs.TextReaders.{full, statements_from}
use Rattle.ep_tree.specs.Views.{statement_tree}

abbrev pub invariant-loop-alloc : goal.invariant-loop-alloc
invariant-loop-alloc l = continued (map statement_tree l.statements.items) (statements_from full l.allowed l.cursor) ≡ statements_from full l.fn.first l.fn.cursor

abbrev pub decreases-loop-alloc : goal.decreases-loop-alloc
decreases-loop-alloc l = length l.cursor
