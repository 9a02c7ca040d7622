use Rattle.ep_unroll.proofs.Words.{arith}
use Rattle.ep_unroll.proofs.PartSteps.{every_left}
use Rattle.ep_unroll.proofs.reads.leaves_all.Goals as goal

pub returns : goal.returns
returns c told numbers v e =
    every_left numbers c.args.rest.now c.args.block.domains.now c.args.block.first v (c.are_every.ensures told) (omega (arith, c.if-count-dims.false)) e
