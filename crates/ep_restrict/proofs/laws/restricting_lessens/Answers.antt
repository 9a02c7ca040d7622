use Rattle.ep_restrict.proofs.Fewer.{closed_fewer, limits_fewer, measures_fewer}
use Rattle.ep_restrict.proofs.laws.restricting_lessens.Goals as goal

pub returns-clause-closed : goal.returns-clause-closed
returns-clause-closed c = λ i numbers closed. closed_fewer i numbers closed

pub returns-clause-measures : goal.returns-clause-measures
returns-clause-measures c = λ mode i numbers are. measures_fewer mode i numbers are

pub returns-clause-limits : goal.returns-clause-limits
returns-clause-limits c = λ mode i numbers are within. limits_fewer mode i numbers are within
