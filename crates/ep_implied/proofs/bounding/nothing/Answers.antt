use Rattle.std.proofs.Common.{arith}
use Rattle.std.proofs.lemmas.Int.{ints}
use Rattle.ep_implied.proofs.SumSteps.{weighed_zeros}
use Rattle.ep_implied.proofs.bounding.nothing.Goals as goal

pub returns : goal.returns
returns c = λ values. let none = weighed_zeros 0 c.in_ok-coefficients.coefficients.items values c.in_ok-coefficients.ensures in omega (arith, ints, none)
