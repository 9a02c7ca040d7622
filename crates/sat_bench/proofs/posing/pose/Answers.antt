use Rattle.std.proofs.Common.{◌≡◌, ◌∙◌, ap, subst, sym, true}
use Rattle.std.specs.Prelude.{All}
use Rattle.cnf_core.specs.Events.{LogState, clauses_of, is_given, nonempty_steps}
use Rattle.cnf_core.proofs.Events.{all_are_given, clauses_given, none_counted}
use Rattle.sat_search.specs.View.{SolverView}
use Rattle.sat_bench.proofs.posing.pose.Goals as goal

pub returns-clause-sound : goal.returns-clause-sound
returns-clause-sound c = c.in_ok-solver.ensures.sound (subst (λ (l : LogState). All (λ e. is_given e ≡ true) l.events) (sym c.in_ok-log.ensures) (all_are_given c.into_clauses.result))

pub returns-clause-clauses : goal.returns-clause-clauses
returns-clause-clauses c = λ whole. ap (λ (s : SolverView). s.clauses) c.in_ok-solver.ensures.made

pub returns-clause-steps : goal.returns-clause-steps
returns-clause-steps c = ap (λ (l : LogState). nonempty_steps l.events) c.in_ok-log.ensures ∙ none_counted c.into_clauses.result

pub returns-clause-same : goal.returns-clause-same
returns-clause-same c = ap (λ (l : LogState). clauses_of l.events) c.in_ok-log.ensures ∙ clauses_given c.into_clauses.result ∙ c.into_clauses.ensures.value
