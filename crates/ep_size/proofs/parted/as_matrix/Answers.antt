use Rattle.ep_size.proofs.Words.{ap, sym, number_reach, filled, TellsValue, grid_of, plain_span}
use Rattle.ep_size.proofs.ExtentViews.{grid_of-matrix}
use Rattle.ep_size.proofs.parted.as_matrix.Goals as goal

pub returns-in-Matrix-clause-listed : goal.returns-in-Matrix-clause-listed
unfolding TellsValue
returns-in-Matrix-clause-listed c = record { grid = ap grid_of (sym c.in-Matrix.is); tells = λ mode env e h. h }

pub returns-in-Matrix-clause-none : goal.returns-in-Matrix-clause-none
unfolding number_reach
returns-in-Matrix-clause-none c = ap number_reach (grid_of-matrix c.in-Matrix.indices c.in-Matrix.parts)

pub returns-in-Some-clause-listed : goal.returns-in-Some-clause-listed
unfolding TellsValue
returns-in-Some-clause-listed c = record { grid = ap grid_of (sym c.in-Cells.is); tells = λ mode env e h. h }

pub returns-in-Some-clause-none : goal.returns-in-Some-clause-none
unfolding number_reach grid_of filled
returns-in-Some-clause-none c = ap (λ l. number_reach (filled (plain_span c.in-Cells.span) l)) c.in-Some.ensures.cases.0
