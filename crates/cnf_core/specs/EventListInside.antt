-- What contracts see of events that lie in lists, and what is true of each such list.
use Rattle.std.specs.Prelude.{◌≡◌, ℕ, ◌≤◌, Bool, List, [], ◌∷◌, All, length, if◌then◌else◌}
use Rattle.cnf_core.specs.declared.entries.EventList.TheInside.{Inside}
use Rattle.cnf_core.specs.Literal.{Literal}
use Rattle.cnf_core.specs.Events.{LogEvent, given, step}
use Rattle.cnf_core.specs.Pieces.{last_end, lists_from}

-- a step of a clause and hints, or a given of the clause
abbrev pub event_of : Bool → List Literal → List ℕ → LogEvent
event_of is_step clause hints = if is_step then step clause hints else given clause

-- the events of as many clauses, hints and answers
abbrev pub events_of : List (List Literal) → List (List ℕ) → List Bool → List LogEvent
events_of [] lists steps = []
events_of (clause ∷ clauses) [] steps = []
events_of (clause ∷ clauses) (hints ∷ lists) [] = []
events_of (clause ∷ clauses) (hints ∷ lists) (is_step ∷ steps) = event_of is_step clause hints ∷ events_of clauses lists steps

abbrev pub events_in : Inside → List LogEvent
events_in e = events_of e.clauses (lists_from e.hints.items 0 e.ends.items) e.steps.items

-- there are hints and an answer for each clause, the hints of each event lie in the list, and the last ones end where the list does
pub record AreEvents (e : Inside) : Type 0 where
  pub ended : length e.ends.items ≡ length e.clauses
  pub answered : length e.steps.items ≡ length e.clauses
  pub within : All (λ end. end ≤ length e.hints.items) e.ends.items
  pub whole : last_end 0 e.ends.items ≡ length e.hints.items
