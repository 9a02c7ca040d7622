use Rattle.std.proofs.Common.{subst}
use Rattle.std.specs.Prelude.{All}
use Rattle.cnf_core.specs.Literal.{IsClause}
use Rattle.cnf_core.specs.Formula.{Cnf}
use Rattle.cnf_core.proofs.formula.Formula.clauses.Goals as goal

pub returns-clause-clauses : goal.returns-clause-clauses
returns-clause-clauses c = subst (λ (f : Cnf). All IsClause f.clauses) c.self.view_is c.self.invariant.clauses
