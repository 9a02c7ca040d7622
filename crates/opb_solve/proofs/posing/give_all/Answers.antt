use Rattle.std.proofs.Common.{◌≡◌, true, [], sym, subst}
use Rattle.std.specs.Prelude.{All}
use Rattle.cnf_core.specs.Events.{LogState, is_given}
use Rattle.opb_solve.proofs.GivenLogs.{are_given}
use Rattle.opb_solve.proofs.posing.give_all.Goals as goal

-- each event of a log is a given
abbrev HasGivens : LogState → Type 0
HasGivens log = All (λ e. is_given e ≡ true) log.events

pub returns-clause-givens : goal.returns-clause-givens
returns-clause-givens c = subst HasGivens (sym c.in_ok-log.ensures) (are_given c.into_clauses.result)

pub returns-in_err-log-clause-givens : goal.returns-in_err-log-clause-givens
returns-in_err-log-clause-givens c = subst HasGivens (sym c.requires) (are_given [])
