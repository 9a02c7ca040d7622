use Rattle.std.proofs.Common.{arith}
use Rattle.opb_text.proofs.measure.capped_sum.Goals as goal

pub returns : goal.returns
returns c = omega (arith, c.min.ensures, c.saturating_add-sum.ensures, c.from.ensures, c.from-most.ensures, c.requires)
