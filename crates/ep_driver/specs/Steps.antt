-- What the steps of a run tell.
use Rattle.std.specs.Prelude.{◌≡◌, ◌⊎◌, ℕ, List, [], ◌∷◌, Option, Ok, Err, Result, Contains, IfSome, IsSomeAnd}
use Rattle.cnf_core.specs.Events.{LogEvent, LogState}
use Rattle.cnf_core.specs.Steps.{IsValidLog, NonEmptyStepsAreNew}
use Rattle.ep_base.specs.Outside.{Held}
use Rattle.ep_tree.specs.Statements.{TextTree}
use Rattle.ep_tree.specs.Views.{assigned}
use Rattle.ep_print.specs.Refusals.{refusal_text}
use Rattle.ep_print.specs.declared.refusals.Refusal.{Refusal}
use Rattle.ep_tree.specs.Binding.{Instance}
use Rattle.ep_tree.specs.SolutionTexts.{Shaped as PlainShaped, fits, read_solution, wrong_shape}
use Rattle.ep_tree.specs.Solutions.{Fits, Found, judgement}
use Rattle.ep_tree.specs.declared.values.Mode.{Mode}
use Rattle.ep_instance.specs.declared.judging.Shaped.{Shaped}
use Rattle.ep_solve.specs.Right.{IsSpent, empty_log}
use Rattle.sat_search.specs.Logs.{IsSound}
use Rattle.ep_driver.specs.Answers.{Settles, judgement_status}
use Rattle.ep_driver.specs.Commands.{AreNoCommand, Want, conflicts_wanted, files_of}
use Rattle.ep_driver.specs.Outcomes.{Outcome, Task, as_outcome}
use Rattle.ep_outputs.specs.Outputs.{AreWritten, ArePartlyWritten, FailsAt}
use Rattle.ep_driver.specs.Outputs.{written_for}
use Rattle.ep_driver.specs.Searches.{AskForCubes, HasSoundSteps, LogsSoundly}
use Rattle.ep_files.specs.Readings.{without}
use Rattle.ep_driver.specs.Shown.{Ask, ComesTo, comes_to_generate}
use Rattle.ep_files.specs.Status.{status_of}
use Rattle.ep_driver.specs.declared.replies.Reply.{Reply}
use Rattle.ep_files.specs.declared.status.Status.{Status}
use Rattle.ep_files.specs.declared.stops.Stop.{Stop}
use Rattle.ep_driver.specs.declared.wanted.Request.{Request}
use Rattle.ep_driver.specs.declared.wanted.Wanted.{Wanted}
use Rattle.ep_files.specs.Reads.{IsOfText}
use Rattle.ep_said.specs.Judgements.{judgement_text}

-- the words want this, or they are no command
abbrev pub TellsWanted : List (List ℕ) → Result Wanted Stop → Type 0
TellsWanted words (Ok wanted) = Want words wanted
TellsWanted words (Err (Stop.Refused refusal)) = (refusal ≡ Refusal.Usage) × AreNoCommand words
TellsWanted words (Err Stop.Memory) = Unit {0}

-- some refusals come out, and this is one of them
abbrev pub IsAmong : {A : Type 0} → Outcome A → Refusal → Type 0
IsAmong outcome refusal = (refusals : List Refusal) × (outcome ≡ Err refusals) × Contains refusals refusal

-- a step tells what an outcome is: it gives the value, or one of the refusals; want of memory tells nothing
abbrev pub Tells : {V A : Type 0} → (V → A) → Outcome A → Result V Stop → Type 0
Tells view outcome (Ok x) = outcome ≡ Ok (view x)
Tells view outcome (Err (Stop.Refused refusal)) = IsOfText refusal × IsAmong outcome refusal
Tells view outcome (Err Stop.Memory) = Unit {0}

-- a step passes where there are no refusals, and else names one of them
abbrev pub Passes : {V : Type 0} → List Refusal → Result V Stop → Type 0
Passes refusals (Ok x) = refusals ≡ []
Passes refusals (Err (Stop.Refused refusal)) = IsOfText refusal × Contains refusals refusal
Passes refusals (Err Stop.Memory) = Unit {0}

-- nothing is logged, or this holds
abbrev pub OrUnlogged : LogState → Type 0 → Type 0
OrUnlogged log P = (log ≡ empty_log) ⊎ P

-- a reply answers the task that comes out, or one of the refusals; where memory is wanting, something is logged for a task alone
abbrev pub TellsReply : Outcome Task → LogState → Result Reply Stop → Type 0
TellsReply outcome log (Ok reply) =
    (task : Task) × (outcome ≡ Ok task) × Settles task reply.status reply.text.items log
TellsReply outcome log (Err (Stop.Refused refusal)) = IsOfText refusal × IsAmong outcome refusal
TellsReply outcome log (Err Stop.Memory) = OrUnlogged log ((task : Task) × (outcome ≡ Ok task))

-- the same of what shows outcomes, where no file is read
abbrev pub TellsShown : (Outcome Task → Type 0) → LogState → Result Reply Stop → Type 0
TellsShown shows log (Ok reply) = (task : Task) × shows (Ok task) × Settles task reply.status reply.text.items log
TellsShown shows log (Err (Stop.Refused refusal)) =
    IsOfText refusal × (refusals : List Refusal) × shows (Err refusals) × Contains refusals refusal
TellsShown shows log (Err Stop.Memory) = OrUnlogged log ((task : Task) × shows (Ok task))

-- the texts of a number come to a task, which a status, a text and a log answer; no file is asked
abbrev pub AnswersNumber : ℕ → ℕ → Status → List ℕ → LogState → Type 0
AnswersNumber number conflicts status text log =
    (task : Task) × comes_to_generate number conflicts (Ok task) × Settles task status text log

-- a reply does so where the texts of a number are wanted
abbrev pub AnswersTexts : Wanted → Reply → LogState → Type 0
AnswersTexts (Wanted.Search _ _ _ _ _) reply log = Unit {0}
AnswersTexts (Wanted.Opb _ _) reply log = Unit {0}
AnswersTexts (Wanted.Verify _ _ _ _) reply log = Unit {0}
AnswersTexts (Wanted.Check _ _ _) reply log = Unit {0}
AnswersTexts (Wanted.Generate number conflicts _ _) reply log = AnswersNumber number conflicts reply.status reply.text.items log

-- a status, a text and a log do so wherever words want the texts of a number
abbrev pub AnswersWords : List (List ℕ) → Status → List ℕ → LogState → Type 0
AnswersWords words status text log =
    (number conflicts : ℕ) (eprime param : Option (List ℕ)) → Want words (Wanted.Generate number conflicts eprime param)
    → AnswersNumber number conflicts status text log

-- a status and a text are those of the judgement of an assignment
abbrev pub IsJudged : Mode → Instance → Found → Status → List ℕ → Type 0
IsJudged mode i found status text =
    (status ≡ judgement_status (judgement mode i found))
    × (text ≡ judgement_text (judgement mode i found))

-- what an instance gives a solution text
abbrev pub shape_outcome : Mode → Instance → TextTree → Outcome PlainShaped
shape_outcome mode i solution = as_outcome (read_solution mode i solution)

-- a solution text gives an assignment that fits, or it is one of the names that keep it from that
abbrev pub TellsShape : Mode → Instance → TextTree → Result Shaped Stop → Type 0
TellsShape mode i solution (Ok (Shaped.Fits a)) =
    (shape_outcome mode i solution ≡ Ok (fits (assigned a))) × (found : Found) × Fits i (assigned a) found
TellsShape mode i solution (Ok (Shaped.WrongShape name)) =
    (names : List (List ℕ)) × (shape_outcome mode i solution ≡ Ok (wrong_shape names)) × Contains names name
TellsShape mode i solution (Err (Stop.Refused refusal)) =
    IsOfText refusal × IsAmong (shape_outcome mode i solution) refusal
TellsShape mode i solution (Err Stop.Memory) = Unit {0}

-- ---- a run

-- what comes to something over held files
abbrev pub Shows : Type 1
Shows = Held → Outcome Task → Type 0

-- one of these files can't be read, and without it the line that says so comes out
abbrev pub IsFailed : List (List ℕ) → Shows → Option Held → Type 0 → Refusal → Type 0
IsFailed names shows told rose refusal =
    (name : List ℕ) × Contains names name × (refusal ≡ Refusal.CannotRead name)
    × IfSome told (λ held. shows (without name held) (Err (Refusal.CannotRead name ∷ [])))
    × (rose ⊎ IsSomeAnd told (λ held. shows held (Err (Refusal.CannotRead name ∷ []))))

-- a fault or a limit of a text comes out
abbrev pub IsFaulty : Shows → Option Held → Refusal → Type 0
IsFaulty shows told refusal =
    IsOfText refusal
    × IfSome told (λ held. (refusals : List Refusal) × shows held (Err refusals) × Contains refusals refusal)

-- a task comes out, and the reply answers it
abbrev pub IsAnswer : Shows → Option Held → Status → List ℕ → LogState → Type 0
IsAnswer shows told status text log =
    IfSome told (λ held. (task : Task) × shows held (Ok task) × Settles task status text log)

-- what a run tells that has some files to read
abbrev pub TellsTask : List (List ℕ) → Shows → Option Held → Type 0 → LogState → Result Reply Stop → Type 0
TellsTask names shows told rose log (Ok reply) = IsAnswer shows told reply.status reply.text.items log
TellsTask names shows told rose log (Err (Stop.Refused refusal)) =
    IsFailed names shows told rose refusal ⊎ IsFaulty shows told refusal
TellsTask names shows told rose log (Err Stop.Memory) = OrUnlogged log (IfSome told (λ held. (task : Task) × shows held (Ok task)))

-- How a search within so many conflicts may end: with its answer, or with as many steps in the log, which are then valid, and those with a
-- literal new and effective. Whichever it is, the first argument holds.
abbrev pub IsSearchedWith : Type 0 → ℕ → Status → LogState → Type 0
IsSearchedWith steps conflicts status log =
    steps × ((status ≡ Status.Answered) ⊎ ((status ≡ Status.Unknown) × IsSpent conflicts log.events × IsSound log.events))

-- the steps are sound in any case
abbrev pub IsSearched : ℕ → Status → LogState → Type 0
IsSearched conflicts status log = IsSearchedWith (IsSound log.events) conflicts status log

-- how a search for what is requested may end
abbrev pub IsSearchedFor : Request → Status → LogState → Type 0
IsSearchedFor request status log = IsSearchedWith (HasSoundSteps request log.events) (conflicts_wanted request) status log

-- how a judgement may end: what is judged holds or doesn't, and nothing is logged
abbrev pub IsJudgedEnd : Status → LogState → Type 0
IsJudgedEnd status log = (log ≡ empty_log) × ((status ≡ Status.Answered) ⊎ (status ≡ Status.Refuted))

-- how a run may end that has its answer, and with which log
abbrev pub IsEnd : Wanted → Status → LogState → Type 0
IsEnd (Wanted.Search _ _ _ request _) status log = IsSearchedFor request status log
IsEnd (Wanted.Opb _ conflicts) status log = IsSearched conflicts status log
IsEnd (Wanted.Verify _ _ _ _) status log = IsJudgedEnd status log
IsEnd (Wanted.Check _ _ _) status log = IsJudgedEnd status log
IsEnd (Wanted.Generate _ conflicts _ _) status log = IsSearched conflicts status log

-- to judge is to log nothing
abbrev pub IsLogOf : Wanted → LogState → Type 0
IsLogOf (Wanted.Search _ _ _ _ _) log = Unit {0}
IsLogOf (Wanted.Opb _ _) log = Unit {0}
IsLogOf (Wanted.Verify _ _ _ _) log = log ≡ empty_log
IsLogOf (Wanted.Check _ _ _) log = log ≡ empty_log
IsLogOf (Wanted.Generate _ _ _ _) log = Unit {0}

-- an answer ends so; nothing is logged where there is a refusal, and where memory is wanting the first argument holds
abbrev pub EndsBy : Type 0 → (Status → Type 0) → LogState → Result Reply Stop → Type 0
EndsBy steps End log (Ok reply) = End reply.status
EndsBy steps End log (Err (Stop.Refused refusal)) = log ≡ empty_log
EndsBy steps End log (Err Stop.Memory) = steps

-- how a run ends, and with which log
abbrev pub EndsAs : Wanted → LogState → Result Reply Stop → Type 0
EndsAs wanted log result = IsLogOf wanted log × EndsBy (LogsSoundly wanted log.events) (λ status. IsEnd wanted status log) log result

-- a refusal that is shown: nothing is logged, and the files hold what they held
abbrev pub IsShown : Wanted → Option Held → Option Held → Type 0 → LogState → Refusal → Type 0
IsShown wanted told after rose log refusal =
    (log ≡ empty_log) × (after ≡ told)
    × (IsFailed (files_of wanted) (ComesTo wanted) told rose refusal ⊎ IsFaulty (ComesTo wanted) told refusal)

-- what is wanted comes to a task, which this text and this log answer
abbrev pub HasAnswer : Wanted → Option Held → List ℕ → LogState → Type 0
HasAnswer wanted told text log =
    IfSome told (λ held. (task : Task) × (status : Status) × ComesTo wanted held (Ok task) × Settles task status text log)

-- a file can't be written into which what answers is to be written
abbrev pub IsUnwritten : Wanted → Option Held → Option Held → Type 0 → LogState → Refusal → Type 0
IsUnwritten wanted told after rose log refusal =
    rose × (name : List ℕ) × (text : List ℕ) × (refusal ≡ Refusal.CannotWrite name)
    × FailsAt log text (written_for wanted) told after name × LogsSoundly wanted log.events × IsLogOf wanted log
    × HasAnswer wanted told text log

-- memory is wanting, and some first ones of the files that are named for output are written with what answers
abbrev pub IsWanting : Wanted → Option Held → Option Held → LogState → Type 0
IsWanting wanted told after log =
    (text : List ℕ) × ArePartlyWritten log text (written_for wanted) told after × HasAnswer wanted told text log

-- a refusal of what is wanted
abbrev pub IsRefused : Wanted → Option Held → Option Held → Type 0 → LogState → Refusal → Type 0
IsRefused wanted told after rose log refusal =
    IsShown wanted told after rose log refusal ⊎ IsUnwritten wanted told after rose log refusal

-- what is wanted is answered, and the files that are named for output are written
abbrev pub IsAnswered : Wanted → Option Held → Option Held → Status → List ℕ → LogState → Type 0
IsAnswered wanted told after status text log =
    IsEnd wanted status log × IsAnswer (ComesTo wanted) told status text log
    × AreWritten log text (written_for wanted) told after

-- a status, a text and a log with which what is wanted is answered
abbrev pub SaysTo : Wanted → Option Held → Option Held → Type 0 → Status → List ℕ → LogState → Type 0
SaysTo wanted told after rose status text log =
    IsAnswered wanted told after status text log
    ⊎ ((refusal : Refusal) × (status ≡ status_of refusal) × (text ≡ refusal_text refusal)
    × IsRefused wanted told after rose log refusal)

-- a status, a text and a log with which the words are answered
abbrev pub SaysOfRun : List (List ℕ) → Option Held → Option Held → Type 0 → Status → List ℕ → LogState → Type 0
SaysOfRun words told after rose status text log =
    ((status ≡ Status.Usage) × (text ≡ refusal_text Refusal.Usage) × (log ≡ empty_log) × (after ≡ told) × AreNoCommand words)
    ⊎ ((wanted : Wanted) × Want words wanted × SaysTo wanted told after rose status text log)

-- the steps of a run's log are sound; or the words ask for cubes, and they are valid, and those with a literal new
abbrev pub IsSoundRun : List (List ℕ) → List LogEvent → Type 0
IsSoundRun words events = IsSound events ⊎ (AskForCubes words × IsValidLog events × NonEmptyStepsAreNew events)

-- what a run tells of the words
abbrev pub TellsRun : List (List ℕ) → Option Held → Option Held → Type 0 → LogState → Result Reply Stop → Type 0
TellsRun words told after rose log (Ok reply) =
    (wanted : Wanted) × Want words wanted × IsAnswered wanted told after reply.status reply.text.items log
TellsRun words told after rose log (Err (Stop.Refused refusal)) =
    ((refusal ≡ Refusal.Usage) × (log ≡ empty_log) × (after ≡ told) × AreNoCommand words)
    ⊎ ((wanted : Wanted) × Want words wanted × IsRefused wanted told after rose log refusal)
TellsRun words told after rose log (Err Stop.Memory) =
    IsSoundRun words log.events
    × ((after ≡ told) ⊎ ((wanted : Wanted) × Want words wanted × IsWanting wanted told after log))
    × OrUnlogged log ((wanted : Wanted) × Want words wanted × IsLogOf wanted log
    × IfSome told (λ held. (task : Task) × ComesTo wanted held (Ok task)))

-- nothing is logged, or the words show a task, and want what may have this log
abbrev pub LogsTask : List (List ℕ) → Option Held → LogState → Type 0
LogsTask words told log =
    OrUnlogged log ((wanted : Wanted) × Want words wanted × IsLogOf wanted log
    × IfSome told (λ held. (task : Task) × Ask words held task))
