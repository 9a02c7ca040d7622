-- The files of an answer: which ones the words name, in which order they are written, and what the files hold then.
use Rattle.std.specs.Prelude.{◌≡◌, ◌⊎◌, ℕ, List, [], ◌++◌, Option, Some, None, IfSome, IsSomeAnd}
use Rattle.cnf_core.specs.Events.{LogState}
use Rattle.ep_base.specs.Outside.{Held}
use Rattle.ep_driver.specs.Commands.{Want}
use Rattle.ep_driver.specs.declared.wanted.Outputs.{Outputs}
use Rattle.ep_driver.specs.declared.wanted.Wanted.{Wanted}
use Rattle.ep_outputs.specs.Outputs.{Output, named, for_texts, AreWritten, a_formula, steps, an_answer}

-- the files that are named for output, in the order in which they are written
unfoldable pub outputs_in_order : Outputs → List Output
outputs_in_order o = named a_formula o.formula ++ (named steps o.log ++ named an_answer o.solution)

-- the files that are written for what is wanted, in this order
unfoldable pub written_for : Wanted → List Output
written_for (Wanted.Search model params mode request outputs) = outputs_in_order outputs
written_for (Wanted.Opb opb conflicts) = []
written_for (Wanted.Verify model params mode solution) = []
written_for (Wanted.Check formula proof workers) = []
written_for (Wanted.Generate number conflicts eprime param) = for_texts number eprime param

-- ---- the words

-- a file is named for output
abbrev pub IsOutputName : Wanted → List ℕ → Type 0
IsOutputName (Wanted.Search model params mode request o) name =
    (o.formula ≡ Some name) ⊎ ((o.log ≡ Some name) ⊎ (o.solution ≡ Some name))
IsOutputName (Wanted.Opb opb conflicts) name = ⊥
IsOutputName (Wanted.Verify model params mode solution) name = ⊥
IsOutputName (Wanted.Check formula proof workers) name = ⊥
IsOutputName (Wanted.Generate number conflicts eprime param) name = (eprime ≡ Some name) ⊎ (param ≡ Some name)

-- the words name this file for output
abbrev pub IsOutput : List (List ℕ) → List ℕ → Type 0
IsOutput words name = (wanted : Wanted) × Want words wanted × IsOutputName wanted name

-- the files that the words name for output are written with what a log and an answer's text are, and nothing else was changed
abbrev pub HasOutput : List (List ℕ) → List ℕ → LogState → Option Held → Option Held → Type 0
HasOutput words text log before after =
    (wanted : Wanted) × Want words wanted × AreWritten log text (written_for wanted) before after

-- every file that isn't one of these holds what it held
abbrev pub SameBut : (List ℕ → Type 0) → Option Held → Option Held → Type 0
SameBut IsOne None after = after ≡ None
SameBut IsOne (Some before) after = IsSomeAnd after (λ held. (name : List ℕ) → ¬ IsOne name → held name ≡ before name)

-- every file but those that the words name for output holds what it held
abbrev pub SameButOutput : List (List ℕ) → Option Held → Option Held → Type 0
SameButOutput words before after = SameBut (IsOutput words) before after

-- where the files tell what they hold, a text of this kind stands under this name
abbrev pub HoldsText : Option Held → List ℕ → (List ℕ → Type 0) → Type 0
HoldsText told name IsOne = IfSome told (λ held. (text : List ℕ) × (held name ≡ Some text) × IsOne text)
