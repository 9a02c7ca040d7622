use Rattle.ep_solve.proofs.Cells.{fits-gives, numbers-read, numbers-same}
use Rattle.ep_solve.proofs.laws.cells_stand_for_values.Goals as goal

pub returns-clause-gives : goal.returns-clause-gives
returns-clause-gives c = fits-gives

pub returns-clause-reads : goal.returns-clause-reads
returns-clause-reads c = numbers-read

pub returns-clause-same : goal.returns-clause-same
returns-clause-same c = numbers-same
