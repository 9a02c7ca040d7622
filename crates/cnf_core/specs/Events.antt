-- Logs: clauses that were given, and clauses that were added as steps, with hints.
use Rattle.std.specs.Prelude.{◌≡◌, ℕ, ◌<◌, ◌≤◌, ℤ, Bool, true, false, List, [], ◌∷◌, ◌++◌, length, All, take, map, count_by, slice_index_or}
use Rattle.cnf_core.specs.Literal.{Literal}
use Rattle.cnf_core.specs.declared.log.CellNote.{CellNote}

-- a clause that is given, or a step: a clause, with the positions of the earlier events that show it
pub data LogEvent : Type 0 where
  given : List Literal → LogEvent
  step : List Literal → List ℕ → LogEvent

-- a cell has this value where the literal is true
pub record Note : Type 0 where
  pub cell : List ℕ
  pub value : ℤ
  pub lit : Literal

-- a log's events in order, the notes of the cells, and how many of the first events were there as the notes were made
pub record LogState : Type 0 where
  pub events : List LogEvent
  pub notes : List Note
  pub base : ℕ

-- a note without where it lies in memory
abbrev pub plain_note : CellNote → Note
plain_note note = record { cell = note.cell.items; value = note.value; lit = note.lit }

-- the clause of an event
abbrev pub clause_of : LogEvent → List Literal
clause_of (given clause) = clause
clause_of (step clause hints) = clause

-- the event of this number
abbrev pub event_at : List LogEvent → ℕ → LogEvent
event_at events place = slice_index_or events place (given [])

abbrev pub clauses_of : List LogEvent → List (List Literal)
clauses_of events = map clause_of events

-- the clauses that were given
abbrev pub givens : List LogEvent → List (List Literal)
givens [] = []
givens (given clause ∷ events) = clause ∷ givens events
givens (step clause hints ∷ events) = givens events

abbrev pub is_given : LogEvent → Bool
is_given (given clause) = true
is_given (step clause hints) = false

-- whether an event is a step with a literal
abbrev pub is_nonempty_step : LogEvent → Bool
is_nonempty_step (given clause) = false
is_nonempty_step (step [] hints) = false
is_nonempty_step (step (l ∷ clause) hints) = true

abbrev pub nonempty_steps : List LogEvent → ℕ
nonempty_steps events = count_by is_nonempty_step events

-- the log's first events, as many as its base says, are there and are givens
pub record HasBase (events : List LogEvent) (base : ℕ) : Type 0 where
  pub there : base ≤ length events
  pub givens : All (λ e. is_given e ≡ true) (take base events)

-- the fact holds of each step of later, over the events before it: those of earlier, and then those of later
abbrev pub EachStep : (List LogEvent → List Literal → List ℕ → Type 0) → List LogEvent → List LogEvent → Type 0
EachStep P earlier [] = Unit {0}
EachStep P earlier (given clause ∷ later) = EachStep P (earlier ++ given clause ∷ []) later
EachStep P earlier (step clause hints ∷ later) = P earlier clause hints × EachStep P (earlier ++ step clause hints ∷ []) later

-- each hint is the position of an event that is there
abbrev pub HintsAreThere : List LogEvent → List ℕ → Type 0
HintsAreThere earlier hints = All (λ h. h < length earlier) hints

-- each hint of a step is the position of an earlier event
abbrev pub HintsAreEarlier : List LogEvent → Type 0
HintsAreEarlier events = EachStep (λ earlier clause hints. HintsAreThere earlier hints) [] events
