-- What a budget that was spent tells of what was given to the solver.
use Rattle.std.specs.Prelude.{◌<◌, ◌^◌, ℕ, List, [], ◌∷◌, length}
use Rattle.cnf_core.specs.Events.{LogEvent, given, step}
use Rattle.cnf_core.specs.Steps.{GivensNameOnly, IsValidStep}

-- So many conflicts are fewer than 3 to the number of variables of what was given, which is the length of any list in which they
-- all stand.
abbrev pub IsBelowPower : ℕ → List LogEvent → Type 0
IsBelowPower conflicts events = (vars : List ℕ) → GivensNameOnly vars events → conflicts < 3 ^ length vars

-- the events before the first step
abbrev pub before_steps : List LogEvent → List LogEvent
before_steps [] = []
before_steps (given clause ∷ events) = given clause ∷ before_steps events
before_steps (step clause hints ∷ events) = []

-- Unit propagation on these events meets a conflict: read in some order, clauses of which all literals but one are false make that
-- one true, until all literals of one are false. So these clauses show the empty clause.
abbrev pub MeetsConflict : List LogEvent → Type 0
MeetsConflict events = (hints : List ℕ) × IsValidStep events [] hints
