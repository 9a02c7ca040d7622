use Rattle.std.proofs.Common.{sym}
use Rattle.ep_parse_below.proofs.OperandFacts.{operand_nothing}
use Rattle.ep_parse_trees.proofs.operands.worded.Goals as goal

pub returns-in-None : goal.returns-in-None
returns-in-None g c = record { read = operand_nothing _ _ _ c.requires.no_name c.requires.no_number (sym c.in-None.ensures.next) }
