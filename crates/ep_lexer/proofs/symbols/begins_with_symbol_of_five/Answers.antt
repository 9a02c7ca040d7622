use Rattle.std.proofs.Common.{arith}
use Rattle.ep_lexer.proofs.Fronts.{begins_with_symbol_of-is}
use Rattle.ep_lexer.proofs.symbols.begins_with_symbol_of_five.Goals as goal

pub returns-then-starts_with-2 : goal.returns-then-starts_with-2
returns-then-starts_with-2 c = let e = begins_with_symbol_of-is 5 c.args.bytes.now in grind arith

pub returns-else-starts_with-2 : goal.returns-else-starts_with-2
returns-else-starts_with-2 c = let e = begins_with_symbol_of-is 5 c.args.bytes.now in grind arith
