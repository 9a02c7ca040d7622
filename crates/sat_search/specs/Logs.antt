-- Logs that a solver extends.
use Rattle.std.specs.Prelude.{◌≡◌, ◌≢◌, ℕ, ◌≤◌, false, List, [], ◌∷◌, ◌++◌, All}
use Rattle.cnf_core.specs.Literal.{Literal}
use Rattle.cnf_core.specs.Events.{LogEvent, LogState, step, is_given, clauses_of, givens, nonempty_steps}
use Rattle.cnf_core.specs.Clauses.{Satisfies}
use Rattle.sat_search.specs.View.{value_in}
use Rattle.sat_search.specs.declared.outcome.Outcome.{Outcome}
use Rattle.sat_search.specs.declared.outcome.Outcome.TheVariants.{Sat, Unsat, Spent}
use Rattle.cnf_core.specs.Steps.{IsValidLog, NonEmptyStepsAreNew, NonEmptyStepsAreEffective}

-- each step is valid, and each with a literal is new and effective
pub record IsSound (events : List LogEvent) : Type 0 where
  pub valid : IsValidLog events
  pub new : NonEmptyStepsAreNew events
  pub effective : NonEmptyStepsAreEffective events

-- the new log is the old one with some steps at its end
pub record AddsSteps (old new : LogState) : Type 0 where
  pub added : List LogEvent
  pub events : new.events ≡ old.events ++ added
  pub are_steps : All (λ e. is_given e ≡ false) added
  pub notes : new.notes ≡ old.notes
  pub base : new.base ≡ old.base

-- the last event is the empty step
pub record EndsWithEmptyStep (events : List LogEvent) : Type 0 where
  pub before : List LogEvent
  pub hints : List ℕ
  pub events_are : events ≡ before ++ step [] hints ∷ []

-- no event has the empty clause
abbrev pub NoneIsEmpty : List LogEvent → Type 0
NoneIsEmpty events = All (λ clause. clause ≢ []) (clauses_of events)

-- the log with a step at its end
abbrev pub with_step : LogState → List Literal → List ℕ → LogState
with_step log clause hints = record log { events = log.events ++ step clause hints ∷ [] }

-- the log goes on soundly, by steps alone, within the budget
pub record IsContinued (budget : ℕ) (old new : LogState) : Type 0 where
  pub sound : IsSound new.events
  pub steps : AddsSteps old new
  pub within : nonempty_steps new.events ≤ budget

-- how a search may end without values
abbrev pub HasEnded : ℕ → List LogEvent → Outcome → Type 0
HasEnded budget events Sat = ⊥
HasEnded budget events Unsat = EndsWithEmptyStep events
HasEnded budget events Spent = (nonempty_steps events ≡ budget) × NoneIsEmpty events

-- how a search may end where these literals are true
abbrev pub IsAnswer : ℕ → List Literal → List LogEvent → Outcome → Type 0
IsAnswer budget trues events Sat = Satisfies (value_in trues) (givens events)
IsAnswer budget trues events Unsat = EndsWithEmptyStep events
IsAnswer budget trues events Spent = (nonempty_steps events ≡ budget) × NoneIsEmpty events
