use Rattle.ep_unroll.proofs.ProductSteps.{ProductTo}
use Rattle.ep_unroll.proofs.products.multiplied.Given as goal

abbrev pub invariant-loop-other : goal.invariant-loop-other
invariant-loop-other l = ProductTo l.fn.arena l.arena l.fn.first l.others l.other-index l.product
