use Rattle.sat_text.proofs.Order.{clause_is}
use Rattle.sat_text.proofs.proof.order.Goals as goal

pub returns-clause-value : goal.returns-clause-value
returns-clause-value c = clause_is _ c.args.literals.now.items c.put_in_order.ensures.ordered c.put_in_order.ensures.same
