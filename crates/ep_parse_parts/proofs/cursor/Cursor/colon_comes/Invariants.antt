-- Whether a colon comes is told by the tokens that are ahead.
use Rattle.std.proofs.Common.{◌≡◌, true, length}
use Rattle.ep_parse_parts.proofs.cursor.Cursor.colon_comes.Given as goal
use Rattle.ep_parse_parts.specs.OperandReaders.{colon_comes}

abbrev pub invariant-loop-ahead : goal.invariant-loop-ahead
invariant-loop-ahead l = colon_comes true l.ahead ≡ colon_comes true l.fn.self

abbrev pub decreases-loop-ahead : goal.decreases-loop-ahead
decreases-loop-ahead l = length l.ahead
