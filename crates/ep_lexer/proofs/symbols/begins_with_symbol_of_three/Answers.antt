use Rattle.std.proofs.Common.{arith}
use Rattle.ep_lexer.proofs.Fronts.{begins_with_symbol_of-is}
use Rattle.ep_lexer.proofs.symbols.begins_with_symbol_of_three.Goals as goal

pub returns : goal.returns
returns c = let e = begins_with_symbol_of-is 3 c.args.bytes.now in grind arith
