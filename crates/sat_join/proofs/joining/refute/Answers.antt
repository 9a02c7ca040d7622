use Rattle.std.proofs.Common.{List, inr, length, ap, ◌∙◌, subst}
use Rattle.std.specs.Prelude.{All}
use Rattle.cnf_core.specs.Events.{LogEvent, clauses_of}
use Rattle.sat_split.specs.Cubes.{IsFalseIn}
use Rattle.sat_join.proofs.joining.refute.Goals as goal

pub returns-in_ok-step-in-None : goal.returns-in_ok-step-in-None
returns-in_ok-step-in-None c = inr (
  c.in_ok-refutation-in-None.field-0,
  c.in_ok-step-in-None.ensures.ok,
  c.len-place.ensures.value ∙ ap (λ (es : List LogEvent). length es) c.events-in-None.ensures.value,
  c.in_ok-refutation-in-None.ensures.clause,
  c.in_ok-refutation-in-None.ensures.same,
  subst (λ (es : List LogEvent). All (λ other. IsFalseIn c.args.literals.now other → ⊥) (clauses_of es)) c.events.ensures.value c.in-None.ensures.none,
)
