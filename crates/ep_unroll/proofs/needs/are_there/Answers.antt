use Rattle.ep_unroll.proofs.Words.{arith}
use Rattle.ep_unroll.proofs.needs.are_there.Goals as goal

pub returns : goal.returns
returns c h = grind (arith, h, c.in-Some.ensures.1, c.in_ok-over.ensures)
