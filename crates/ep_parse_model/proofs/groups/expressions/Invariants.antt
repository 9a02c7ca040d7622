-- What was read so far, and what is still read, are all that is read.
use Rattle.std.proofs.Common.{◌≡◌, length, map}
use Rattle.ep_parse_parts.proofs.NameTurns.{continued}
use Rattle.ep_parse_model.proofs.groups.expressions.Given as goal
use Rattle.ep_parse_model.specs.TextReaders.{expressions_from, full}
use Rattle.ep_tree.specs.Views.{expr_tree}

abbrev pub invariant-loop-alloc : goal.invariant-loop-alloc
invariant-loop-alloc l = continued (map expr_tree l.expressions.items) (expressions_from full l.cursor) ≡ expressions_from full l.fn.cursor

abbrev pub decreases-loop-alloc : goal.decreases-loop-alloc
decreases-loop-alloc l = length l.cursor
