use Rattle.ep_parse_parts.proofs.Finding.{finds_shown}
use Rattle.ep_parse_below.proofs.OperandFacts.{operand_named}
use Rattle.ep_parse_trees.proofs.operands.named.Goals as goal

pub returns : goal.returns
returns g c = record { read = finds_shown _ _ _ _ c.named.ensures.made (operand_named _ _ _ _ _ _ _ c.requires.next c.in_ok-name.ensures.copied c.pass.ensures.place c.pass.ensures.passed) }
