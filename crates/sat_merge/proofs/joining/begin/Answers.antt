use Rattle.sat_merge.proofs.Named.{joint_none}
use Rattle.sat_merge.proofs.joining.begin.Goals as goal

pub returns-clause-joint : goal.returns-clause-joint
returns-clause-joint c = λ vars. joint_none c.args.formula.now.clauses vars c.in_ok-log.log c.clauses-clauses.ensures.clauses c.in_ok-log.ensures
