-- Which error a call answers.
use Rattle.std.specs.Prelude.{ℕ}
use Rattle.ep_parse_parts.specs.declared.cursor.Stop.{Stop}
use Rattle.ep_parse_parts.specs.declared.cursor.Stop.TheVariants.{Memory as OutOfMemory, TooHigh as StopsHigh, Wrong}
use Rattle.ep_parse_expr.specs.declared.errors.ParseError.{ParseError}
use Rattle.ep_parse_expr.specs.declared.errors.ParseError.TheVariants.{Memory, Syntax, TooHigh}

-- the error of a call, where reading stopped at a token
abbrev pub error_at : ℕ → Stop → ParseError
error_at number Wrong = Syntax number
error_at number StopsHigh = TooHigh number
error_at number OutOfMemory = Memory
