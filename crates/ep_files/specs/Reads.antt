-- What reading files tells.
use Rattle.std.specs.Prelude.{◌≡◌, ◌⊎◌, ◌+◌, ℕ, List, Option, Some, None, Ok, Err, Result, IfSome, IsSomeAnd}
use Rattle.cnf_core.specs.Formula.{Cnf}
use Rattle.cnf_core.specs.Literal.{Literal}
use Rattle.ep_base.specs.Outside.{Held, ReadGives}
use Rattle.ep_tree.specs.Views.{params_tree}
use Rattle.ep_tree.specs.declared.statements.Params.{Params}
use Rattle.ep_print.specs.declared.refusals.Refusal.{Refusal}
use Rattle.ep_print.specs.declared.refusals.TextFile.{TextFile}
use Rattle.ep_files.specs.Readings.{AreParams, IsReadBy, IsTextReadAs, ReadsTexts}
use Rattle.ep_files.specs.Status.{status_of}
use Rattle.ep_files.specs.declared.status.Status.{Status}
use Rattle.ep_files.specs.declared.stops.Stop.{Stop}

-- a refusal is a fault or a limit of a text
abbrev pub IsOfText : Refusal → Type 0
IsOfText refusal = (status_of refusal ≡ Status.Text) ⊎ (status_of refusal ≡ Status.Limit)

-- a file isn't there, or it wasn't read: a fault was counted
abbrev pub IsNotThere : Option Held → List ℕ → Type 0 → Type 0
IsNotThere told name rose = rose ⊎ IsSomeAnd told (λ held. held name ≡ None)

-- the bytes of a file were read, one more at most than a text may have; or it can't be read
abbrev pub TellsBytes : {V : Type 0} → (V → List ℕ) → ℕ → Option Held → List ℕ → Type 0 → Result V Stop → Type 0
TellsBytes view most told name rose (Ok bytes) = ReadGives told name (most + 1) (Some (view bytes))
TellsBytes view most told name rose (Err (Stop.Refused refusal)) =
    (refusal ≡ Refusal.CannotRead name) × IsNotThere told name rose
TellsBytes view most told name rose (Err Stop.Memory) = Unit {0}

-- a file can't be read; want of memory says nothing
abbrev pub IsUnreadStop : List ℕ → Stop → Type 0
IsUnreadStop name (Stop.Refused refusal) = refusal ≡ Refusal.CannotRead name
IsUnreadStop name Stop.Memory = Unit {0}

-- a text is read, or it has a refusal
abbrev pub TellsText : {V A : Type 0} → (V → A) → ReadsTexts A → List ℕ → Result V Stop → Type 0
TellsText view reads text (Ok x) = reads text (Ok (view x))
TellsText view reads text (Err (Stop.Refused refusal)) = IsOfText refusal × reads text (Err refusal)
TellsText view reads text (Err Stop.Memory) = Unit {0}

-- why a file gives nothing: it can't be read, or its text is refused
abbrev pub IsUnread : {A : Type 0} → ReadsTexts A → Option Held → List ℕ → Type 0 → Refusal → Type 0
IsUnread reads told name rose refusal =
    ((refusal ≡ Refusal.CannotRead name) × IsNotThere told name rose)
    ⊎ (IsOfText refusal × IfSome told (λ held. IsReadBy reads held name (Err refusal)))

-- what reading a file tells, where `rose` says that a fault was counted
abbrev pub TellsRead : {V A : Type 0} → (V → A) → ReadsTexts A → Option Held → List ℕ → Type 0 → Result V Stop → Type 0
TellsRead view reads told name rose (Ok x) = IfSome told (λ held. IsReadBy reads held name (Ok (view x)))
TellsRead view reads told name rose (Err (Stop.Refused refusal)) = IsUnread reads told name rose refusal
TellsRead view reads told name rose (Err Stop.Memory) = Unit {0}

-- the clauses of a formula
abbrev pub formula_clauses : Cnf → List (List Literal)
formula_clauses f = f.clauses

-- the same of a parameter file that may be left out
abbrev pub TellsParams : Option Held → Option (List ℕ) → Type 0 → Result Params Stop → Type 0
TellsParams told params rose (Ok x) = IfSome told (λ held. AreParams held params (Ok (params_tree x)))
TellsParams told params rose (Err (Stop.Refused refusal)) =
    (name : List ℕ) × (params ≡ Some name) × IsUnread (IsTextReadAs TextFile.Params) told name rose refusal
TellsParams told params rose (Err Stop.Memory) = Unit {0}
