-- What writing files tells.
use Rattle.std.specs.Prelude.{◌≡◌, ℕ, List, Option, Ok, Err, Result, option_map}
use Rattle.cnf_core.specs.Events.{LogState}
use Rattle.ep_base.specs.Outside.{Held, SameElsewhere, with_bytes}
use Rattle.ep_print.specs.declared.refusals.Refusal.{Refusal}
use Rattle.ep_outputs.specs.Outputs.{AreWritten, ArePartlyWritten, FailsAt, Output}
use Rattle.ep_files.specs.declared.stops.Stop.{Stop}

-- what writing a text under a name tells, where `rose` says that a fault was counted
abbrev pub TellsWrite : {V : Type 0} → List ℕ → List ℕ → Option Held → Option Held → Type 0 → Result V Stop → Type 0
TellsWrite name text told after rose (Ok x) = after ≡ option_map (with_bytes name text) told
TellsWrite name text told after rose (Err (Stop.Refused refusal)) =
    rose × (refusal ≡ Refusal.CannotWrite name) × SameElsewhere name told after
TellsWrite name text told after rose (Err Stop.Memory) = after ≡ told

-- what writing some files with what a log and an answer's text are tells, one after another
abbrev pub TellsWritten : {V : Type 0} → LogState → List ℕ → List Output → Option Held → Option Held → Type 0 → Result V Stop → Type 0
TellsWritten log answer outputs told after rose (Ok x) = AreWritten log answer outputs told after
TellsWritten log answer outputs told after rose (Err (Stop.Refused refusal)) =
    rose × (name : List ℕ) × (refusal ≡ Refusal.CannotWrite name) × FailsAt log answer outputs told after name
TellsWritten log answer outputs told after rose (Err Stop.Memory) = ArePartlyWritten log answer outputs told after
