-- What a run may put out, and how much of it.
use Rattle.std.specs.Prelude.{◌≡◌, ◌≤◌, ◌⊎◌, ℕ, List, codes, length, take, Option, Some, Contains, IfSome, IsSomeAnd}
use Rattle.cnf_core.specs.Events.{LogState}
use Rattle.ep_base.specs.Outside.{Held, TookPart, with_more}
use Rattle.ep_print.specs.Refusals.{refusal_text}
use Rattle.ep_print.specs.declared.refusals.Refusal.{Refusal}
use Rattle.ep_solve.specs.Right.{empty_log}
use Rattle.ep_driver.specs.Answers.{Settles}
use Rattle.ep_driver.specs.Commands.{Want, files_of}
use Rattle.ep_driver.specs.Outcomes.{Task}
use Rattle.ep_outputs.specs.Outputs.{ArePartlyWritten, FailsAt}
use Rattle.ep_driver.specs.Outputs.{HasOutput, written_for}
use Rattle.ep_files.specs.Readings.{without}
use Rattle.ep_driver.specs.Shown.{Ask, Refuse, Refuses}
use Rattle.ep_files.specs.declared.status.Status.{Status}
use Rattle.ep_driver.specs.declared.wanted.Wanted.{Wanted}

-- the words name a file to be read
abbrev pub NameFile : List (List ℕ) → List ℕ → Type 0
NameFile words name = (wanted : Wanted) × Want words wanted × Contains (files_of wanted) name

-- the line that says that a file can't be read
abbrev pub read_line : List ℕ → List ℕ
read_line name = refusal_text (Refusal.CannotRead name)

-- the line that says that a file can't be written
abbrev pub write_line : List ℕ → List ℕ
write_line name = refusal_text (Refusal.CannotWrite name)

-- A read of a file that the words name failed: without this file the words would be refused by its line. Which of several
-- files that are read it was, the counts of faults don't tell.
abbrev pub IsFailedRead : List (List ℕ) → Option Held → List ℕ → Type 0
IsFailedRead words told name =
    NameFile words name × IfSome told (λ held. Refuse words (without name held) (Refusal.CannotRead name))

-- the words show a task, which this text and this log answer
abbrev pub IsAnsweredBy : List (List ℕ) → Option Held → List ℕ → LogState → Type 0
IsAnsweredBy words told text log =
    IfSome told (λ held. (task : Task) × (status : Status) × Ask words held task × Settles task status text log)

-- A write of what answers failed, and the files counted a fault: the words name this file for output. The files before it are
-- written, it may hold anything then, and every other one holds what it held.
abbrev pub IsFailedWrite : List (List ℕ) → Option Held → Option Held → Type 0 → LogState → List ℕ → Type 0
IsFailedWrite words told after rose log name =
    rose × (wanted : Wanted) × Want words wanted × (text : List ℕ)
    × FailsAt log text (written_for wanted) told after name × IsAnsweredBy words told text log

-- some first ones of the files that the words name for output are written with what answers
abbrev pub IsPartlyWritten : List (List ℕ) → Option Held → Option Held → LogState → Type 0
IsPartlyWritten words told after log =
    (wanted : Wanted) × Want words wanted × (text : List ℕ)
    × ArePartlyWritten log text (written_for wanted) told after × IsAnsweredBy words told text log

-- a file wasn't read: the files counted a fault, or it isn't held, so that its line is what the words are refused by
abbrev pub WasNotRead : List (List ℕ) → Option Held → Type 0 → List ℕ → Type 0
WasNotRead words told rose name = rose ⊎ IsSomeAnd told (λ held. Refuse words held (Refusal.CannotRead name))

-- the line of a file that wasn't read, where nothing is logged and the files hold what they held, or of a file that can't be
-- written
abbrev pub IsDeviceLine : List (List ℕ) → Option Held → Option Held → Type 0 → LogState → List ℕ → Type 0
IsDeviceLine words told after rose log text =
    ((name : List ℕ) × IsFailedRead words told name × WasNotRead words told rose name × (text ≡ read_line name)
    × (log ≡ empty_log) × (after ≡ told))
    ⊎ ((name : List ℕ) × IsFailedWrite words told after rose log name × (text ≡ write_line name))

-- A text of a refusal that the words and the held files show, where the files hold what they held; or of an answer, with its log,
-- where the files that are named for output are written.
abbrev pub IsShownText : List (List ℕ) → Held → Option Held → LogState → List ℕ → Type 0
IsShownText words held after log text =
    ((status : Status) × Refuses words held status text × (after ≡ Some held))
    ⊎ ((task : Task) × (status : Status) × Ask words held task × Settles task status text log
    × HasOutput words text log (Some held) after)

-- A text that a run may put out, with what the files hold then, where `rose` says that they counted a fault: one that the words
-- and the held files show, or the line of a file whose read or write failed. Where the files don't tell what they hold, nothing is
-- said of it.
abbrev pub MayBePut : List (List ℕ) → Option Held → Option Held → Type 0 → LogState → List ℕ → Type 0
MayBePut words told after rose log text =
    IfSome told (λ held. IsShownText words held after log text) ⊎ (rose × IsDeviceLine words told after rose log text)

-- of these bytes a first part was taken, or the whole, and nothing else
abbrev pub TookFirst : List ℕ → Option (List ℕ) → Option (List ℕ) → Type 0
TookFirst bytes before after =
    (count : ℕ) × (count ≤ length bytes) × (after ≡ with_more (take count bytes) before)

-- what the files hold where memory was wanting before anything was put out: what they held, but where some first ones of those that
-- are named for output were written, or a write failed
abbrev pub HoldOnWant : List (List ℕ) → Option Held → Option Held → Type 0 → LogState → Type 0
HoldOnWant words told after rose log =
    (after ≡ told) ⊎ (IsPartlyWritten words told after log ⊎ ((name : List ℕ) × IsFailedWrite words told after rose log name))

-- memory was wanting: of the line that says so a first part was taken, or of one text that may be put out a part that
-- isn't the whole
abbrev pub TookOnWant : List (List ℕ) → Option Held → Option Held → Type 0 → LogState → Option (List ℕ) → Option (List ℕ) → Type 0
TookOnWant words told after rose log before taken =
    (HoldOnWant words told after rose log × TookFirst (codes "memory\n") before taken)
    ⊎ ((text : List ℕ) × MayBePut words told after rose log text × TookPart text before taken)
