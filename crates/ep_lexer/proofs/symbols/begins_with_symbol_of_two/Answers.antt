use Rattle.std.proofs.Common.{arith, ◌∙◌}
use Rattle.std.proofs.lemmas.Bool.Decides.{nat_tests}
use Rattle.ep_lexer.proofs.Fronts.{symbol_of_two, symbol_too_short}
use Rattle.ep_lexer.proofs.symbols.begins_with_symbol_of_two.Goals as goal

pub returns-then-bytes-ge2 : goal.returns-then-bytes-ge2
returns-then-bytes-ge2 c = c.is_symbol_of_two.ensures ∙ symbol_of_two c.args.bytes.now (grind (arith, nat_tests))

pub returns-else-bytes-ge2 : goal.returns-else-bytes-ge2
returns-else-bytes-ge2 c = let e = symbol_too_short 2 c.args.bytes.now (grind (arith, nat_tests)) in grind (arith, nat_tests)
