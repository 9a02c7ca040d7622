use Rattle.std.proofs.Common.{arith, ◌∙◌}
use Rattle.std.proofs.lemmas.Bool.Decides.{nat_tests}
use Rattle.ep_lexer.proofs.Fronts.{symbol_of_one, symbol_too_short}
use Rattle.ep_lexer.proofs.symbols.begins_with_symbol_of_one.Goals as goal

pub returns-then-not-is_empty : goal.returns-then-not-is_empty
returns-then-not-is_empty c = c.is_symbol_of_one.ensures ∙ symbol_of_one c.args.bytes.now (grind (arith, nat_tests))

pub returns-else-not-is_empty : goal.returns-else-not-is_empty
returns-else-not-is_empty c = let e = symbol_too_short 1 c.args.bytes.now (grind (arith, nat_tests)) in grind (arith, nat_tests)
