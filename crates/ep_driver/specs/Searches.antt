-- Which commands search for solutions, and what they may ask for.
use Rattle.std.specs.Prelude.{◌≡◌, ◌≤◌, ℕ, List}
use Rattle.cnf_core.specs.Events.{LogEvent}
use Rattle.cnf_core.specs.Steps.{IsValidLog, NonEmptyStepsAreNew}
use Rattle.sat_search.specs.Logs.{IsSound}
use Rattle.ep_driver.specs.Commands.{Want, conflicts_wanted, no_outputs}
use Rattle.ep_driver.specs.declared.wanted.Outputs.{Outputs}
use Rattle.ep_driver.specs.declared.wanted.Request.{Request}
use Rattle.ep_driver.specs.declared.wanted.Wanted.{Wanted}

-- a search within so many conflicts is wanted, in a model, in a pseudo-Boolean problem or in the texts of a number
abbrev pub IsSearchFor : Wanted → ℕ → Type 0
IsSearchFor (Wanted.Search model params mode request output) conflicts = conflicts ≡ conflicts_wanted request
IsSearchFor (Wanted.Opb opb most) conflicts = conflicts ≡ most
IsSearchFor (Wanted.Verify model params mode solution) conflicts = ⊥
IsSearchFor (Wanted.Check formula proof workers) conflicts = ⊥
IsSearchFor (Wanted.Generate number most eprime param) conflicts = conflicts ≡ most

-- cubes are over six variables at most
abbrev pub HasFewCubes : Request → Type 0
HasFewCubes (Request.One conflicts) = Unit {0}
HasFewCubes (Request.Divided cubes conflicts) = cubes ≤ 6
HasFewCubes (Request.Many most conflicts) = Unit {0}
HasFewCubes (Request.Explained conflicts) = Unit {0}
HasFewCubes (Request.Generated number conflicts) = Unit {0}

-- cubes are over six variables at most, and an explanation names no file for output
abbrev pub CanBeRequested : Request → Outputs → Type 0
CanBeRequested (Request.One conflicts) outputs = Unit {0}
CanBeRequested (Request.Divided cubes conflicts) outputs = cubes ≤ 6
CanBeRequested (Request.Many most conflicts) outputs = Unit {0}
CanBeRequested (Request.Explained conflicts) outputs = outputs ≡ no_outputs
CanBeRequested (Request.Generated number conflicts) outputs = Unit {0}

-- what words can want: cubes and files for output as they can be requested, and where the texts of a number are wanted, one that has texts
abbrev pub CanBeWanted : Wanted → Type 0
CanBeWanted (Wanted.Search model params mode request outputs) = CanBeRequested request outputs
CanBeWanted (Wanted.Opb opb conflicts) = Unit {0}
CanBeWanted (Wanted.Verify model params mode solution) = Unit {0}
CanBeWanted (Wanted.Check formula proof workers) = Unit {0}
CanBeWanted (Wanted.Generate number conflicts eprime param) = number ≤ 1000000000

-- the log of what is requested stands for the instance itself; that of an explanation stands for some of its clauses
abbrev pub LogsInstance : Request → Type 0
LogsInstance (Request.One conflicts) = Unit {0}
LogsInstance (Request.Divided cubes conflicts) = Unit {0}
LogsInstance (Request.Many most conflicts) = Unit {0}
LogsInstance (Request.Explained conflicts) = ⊥
LogsInstance (Request.Generated number conflicts) = Unit {0}

-- the notes of the log may be written into a file
abbrev pub NotesMayBeWritten : Wanted → Type 0
NotesMayBeWritten (Wanted.Search model params mode request outputs) = LogsInstance request
NotesMayBeWritten (Wanted.Opb opb conflicts) = Unit {0}
NotesMayBeWritten (Wanted.Verify model params mode solution) = Unit {0}
NotesMayBeWritten (Wanted.Check formula proof workers) = Unit {0}
NotesMayBeWritten (Wanted.Generate number conflicts eprime param) = Unit {0}

-- ---- what a log is, however a run ends

-- The steps that a search logs are sound. Those of cubes, joined, are valid, and those with a literal new.
abbrev pub HasSoundSteps : Request → List LogEvent → Type 0
HasSoundSteps (Request.One conflicts) events = IsSound events
HasSoundSteps (Request.Divided cubes conflicts) events = IsValidLog events × NonEmptyStepsAreNew events
HasSoundSteps (Request.Many most conflicts) events = IsSound events
HasSoundSteps (Request.Explained conflicts) events = IsSound events
HasSoundSteps (Request.Generated number conflicts) events = IsSound events

-- the same of what is wanted
abbrev pub LogsSoundly : Wanted → List LogEvent → Type 0
LogsSoundly (Wanted.Search model params mode request outputs) events = HasSoundSteps request events
LogsSoundly (Wanted.Opb opb conflicts) events = IsSound events
LogsSoundly (Wanted.Verify model params mode solution) events = IsSound events
LogsSoundly (Wanted.Check formula proof workers) events = IsSound events
LogsSoundly (Wanted.Generate number conflicts eprime param) events = IsSound events

-- one solution is wanted by cubes
abbrev pub IsByCubes : Wanted → Type 0
IsByCubes (Wanted.Search model params mode (Request.Divided cubes conflicts) outputs) = Unit {0}
IsByCubes (Wanted.Search model params mode (Request.One conflicts) outputs) = ⊥
IsByCubes (Wanted.Search model params mode (Request.Many most conflicts) outputs) = ⊥
IsByCubes (Wanted.Search model params mode (Request.Explained conflicts) outputs) = ⊥
IsByCubes (Wanted.Search model params mode (Request.Generated number conflicts) outputs) = ⊥
IsByCubes (Wanted.Opb opb conflicts) = ⊥
IsByCubes (Wanted.Verify model params mode solution) = ⊥
IsByCubes (Wanted.Check formula proof workers) = ⊥
IsByCubes (Wanted.Generate number conflicts eprime param) = ⊥

-- the words ask for cubes
abbrev pub AskForCubes : List (List ℕ) → Type 0
AskForCubes words = (wanted : Wanted) × Want words wanted × IsByCubes wanted
