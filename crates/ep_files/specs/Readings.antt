-- What files are read as.
use Rattle.std.specs.Prelude.{◌≡◌, ◌<◌, ◌≤◌, ◌⊎◌, ℕ, List, [], length, Option, Some, None, Result, Ok, Err, bytes_eq, if◌then◌else◌}
use Rattle.cnf_core.specs.Lines.{ProofLine}
use Rattle.cnf_core.specs.Literal.{Literal}
use Rattle.ep_base.specs.Outside.{Held}
use Rattle.ep_tree.specs.Phrases.{Phrase}
use Rattle.ep_tree.specs.StatementSpelling.{SpellsModel, SpellsParams}
use Rattle.ep_tree.specs.Statements.{TextTree}
use Rattle.ep_tree.specs.Texts.{Answers, TextAnswer, bad_byte, long_number, read_as, syntax_fault, too_high, too_long}
use Rattle.ep_print.specs.declared.refusals.Refusal.{Refusal}
use Rattle.ep_print.specs.declared.refusals.TextFile.{TextFile}
use Rattle.sat_text.specs.CnfGrammar.{IsFaultLine, SpellsCnf}
use Rattle.sat_text.specs.LogGrammar.{IsFirstWrongLine, SpellsLog}
use Rattle.sat_text.specs.Words.{most_text_bytes}

-- what spells the tree of a text: a model, or else a parameter or solution text
abbrev pub spells_in : TextFile → TextTree → Phrase
spells_in TextFile.Model = SpellsModel
spells_in _ = SpellsParams

-- the text of such a file is a parameter or solution text
abbrev pub HasParams : TextFile → Type 0
HasParams TextFile.Model = ⊥
HasParams _ = Unit {0}

-- the tree that a text is read as, or its refusal
unfoldable pub tree_or_refusal : TextFile → TextAnswer → Result TextTree Refusal
tree_or_refusal file (read_as tree) = Ok tree
tree_or_refusal file too_long = Err (Refusal.TooLong file)
tree_or_refusal file (bad_byte place) = Err (Refusal.BadByte file place)
tree_or_refusal file (long_number place) = Err (Refusal.LongNumber file place)
tree_or_refusal file (syntax_fault place) = Err (Refusal.Syntax file place)
tree_or_refusal file (too_high place) = Err (Refusal.TooHigh file place)

-- a text is read as this tree, or has this refusal
abbrev pub IsTextReadAs : TextFile → List ℕ → Result TextTree Refusal → Type 0
IsTextReadAs file text reading =
    (answer : TextAnswer) × Answers (spells_in file) text answer × (reading ≡ tree_or_refusal file answer)

-- A text of a formula or of a proof is refused: it has more bytes than such a text may have; or nothing is spelled by it, and its
-- fault stands on a line.
abbrev pub IsClausesRefusal : TextFile → (ℕ → Refusal) → List ℕ → Type 0 → (ℕ → Type 0) → Refusal → Type 0
IsClausesRefusal file bad text Spells Faulty refusal =
    ((most_text_bytes < length text) × (refusal ≡ Refusal.TooLong file))
    ⊎ ((length text ≤ most_text_bytes) × ¬ Spells × (line : ℕ) × Faulty line × (refusal ≡ bad line))

-- a text spells these clauses, over some number of variables
abbrev pub SpellsFormulaClauses : List ℕ → List (List Literal) → Type 0
SpellsFormulaClauses text clauses = (vars : ℕ) × SpellsCnf text vars clauses

-- the text of a formula is read as these clauses, or has this refusal
abbrev pub IsFormulaReadAs : List ℕ → Result (List (List Literal)) Refusal → Type 0
IsFormulaReadAs text (Ok clauses) = (length text ≤ most_text_bytes) × SpellsFormulaClauses text clauses
IsFormulaReadAs text (Err refusal) =
    IsClausesRefusal TextFile.Cnf Refusal.BadCnf text ((clauses : List (List Literal)) × SpellsFormulaClauses text clauses)
    (IsFaultLine text) refusal

-- the text of a proof is read as these lines, or has this refusal
abbrev pub IsProofReadAs : List ℕ → Result (List ProofLine) Refusal → Type 0
IsProofReadAs text (Ok lines) = (length text ≤ most_text_bytes) × SpellsLog text lines
IsProofReadAs text (Err refusal) =
    IsClausesRefusal TextFile.Log Refusal.BadLog text ((lines : List ProofLine) × SpellsLog text lines)
    (IsFirstWrongLine text) refusal

-- what texts are read as: their contents, or a refusal
abbrev pub ReadsTexts : Type 0 → Type 1
ReadsTexts A = List ℕ → Result A Refusal → Type 0

-- the same of what is held under a name: without a text it can't be read
abbrev pub IsHeldReadBy : {A : Type 0} → ReadsTexts A → List ℕ → Option (List ℕ) → Result A Refusal → Type 0
IsHeldReadBy reads name None reading = reading ≡ Err (Refusal.CannotRead name)
IsHeldReadBy reads name (Some text) reading = reads text reading

-- a file is read as this, or has this refusal
abbrev pub IsReadBy : {A : Type 0} → ReadsTexts A → Held → List ℕ → Result A Refusal → Type 0
IsReadBy reads held name reading = IsHeldReadBy reads name (held name) reading

-- a file is read as this tree, or has this refusal
abbrev pub IsFileReadAs : Held → TextFile → List ℕ → Result TextTree Refusal → Type 0
IsFileReadAs held file name reading = IsReadBy (IsTextReadAs file) held name reading

-- the same of a parameter file, which may be left out: then there are no parameters
abbrev pub AreParams : Held → Option (List ℕ) → Result TextTree Refusal → Type 0
AreParams held None reading = reading ≡ Ok []
AreParams held (Some name) reading = IsFileReadAs held TextFile.Params name reading

-- what is held, but without a name
abbrev pub without : List ℕ → Held → Held
without name held asked = if bytes_eq asked name then None else held asked
