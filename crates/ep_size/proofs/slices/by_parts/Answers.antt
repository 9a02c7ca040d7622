use Rattle.ep_size.proofs.Words.{ap, number_reach}
use Rattle.ep_size.proofs.ExtentViews.{grid_of-matrix}
use Rattle.ep_size.proofs.slices.by_parts.Goals as goal

pub returns-in-Matrix-clause-none : goal.returns-in-Matrix-clause-none
unfolding number_reach
returns-in-Matrix-clause-none c = ap number_reach (grid_of-matrix c.in-Matrix.indices c.in-Matrix.parts)
