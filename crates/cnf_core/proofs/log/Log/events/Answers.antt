use Rattle.std.proofs.Common.{subst}
use Rattle.std.specs.Prelude.{All}
use Rattle.cnf_core.specs.Literal.{IsClause}
use Rattle.cnf_core.specs.Events.{LogState, clauses_of}
use Rattle.cnf_core.proofs.log.Log.events.Goals as goal

pub returns-clause-clauses : goal.returns-clause-clauses
returns-clause-clauses c = subst (λ (l : LogState). All IsClause (clauses_of l.events)) c.self.view_is c.self.invariant.clauses
