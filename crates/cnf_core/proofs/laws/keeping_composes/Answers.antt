use Rattle.cnf_core.proofs.Kept.{Keeps-trans}
use Rattle.cnf_core.proofs.laws.keeping_composes.Goals as goal

pub returns : goal.returns
returns g c = λ first second third. Keeps-trans first second third g.C.Condition.holds g.E.Condition.holds
