use Rattle.ep_parse_parts.proofs.Finding.{finds_at}
use Rattle.ep_parse_below.proofs.OperandFacts.{operand_begun, operand_unknown}
use Rattle.ep_parse_trees.proofs.operands.begun_by.Goals as goal

pub returns-in-Some : goal.returns-in-Some
returns-in-Some g c = record { read = finds_at _ _ _ _ (operand_begun _ _ _ _ _ c.requires.next c.in-Some.ensures.meant) c.begun.ensures.read }

pub returns-in-None : goal.returns-in-None
returns-in-None g c = record { read = operand_unknown _ _ _ _ c.requires.next c.in-None.ensures.meant }
