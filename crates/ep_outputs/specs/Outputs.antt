-- Files that are written one after another: what is written into them, and what they hold then.
use Rattle.std.specs.Prelude.{◌≡◌, ◌≤◌, ℕ, All, List, [], ◌∷◌, ◌++◌, length, Option, Some, None, option_map}
use Rattle.cnf_core.specs.Events.{LogState, Note, givens}
use Rattle.cnf_core.specs.Formula.{Cnf, NamesItsVariables}
use Rattle.cnf_core.specs.Literal.{VariablesUpTo}
use Rattle.cnf_core.specs.LogLines.{log_lines}
use Rattle.cnf_core.specs.declared.log.CellNote.{CellNote}
use Rattle.sat_text.specs.CnfGrammar.{SpellsCnf}
use Rattle.sat_text.specs.LogGrammar.{SpellsLog}
use Rattle.sat_text.specs.Writing.{SaysAgain, cnf_text, log_text}
use Rattle.ep_base.specs.Outside.{Held, SameElsewhere, with_bytes}
use Rattle.ep_solve.specs.Logged.{added_clauses}
use Rattle.ep_gen.specs.Texts.{generated_model, generated_params}

-- ---- what is written

-- no note has a literal of a variable over the number
abbrev pub NotesUpTo : ℕ → List Note → Type 0
NotesUpTo most notes = All (λ n. n.lit.var ≤ most) notes

-- the same of notes as a run keeps them
abbrev pub AreNotedUpTo : ℕ → List CellNote → Type 0
AreNotedUpTo most notes = All (λ n. n.lit.var ≤ most) notes

-- The text of a log's formula: its clauses are the log's givens in their order, its notes those of the log, and it says how many of
-- the givens were added to those that stand for the instance. It is over the fewest variables that cover the clauses and the notes.
-- The text spells this formula, and its notes and this number are read again.
pub record IsFormulaText (log : LogState) (text : List ℕ) : Type 0 where
  pub formula : Cnf
  pub clauses : formula.clauses ≡ givens log.events
  pub names : NamesItsVariables formula
  pub noted : NotesUpTo formula.vars log.notes
  pub least :
      (most : ℕ) → All (VariablesUpTo most) (givens log.events) → NotesUpTo most log.notes → formula.vars ≤ most
  pub is_text : text ≡ cnf_text formula log.notes (length (added_clauses log))
  pub spells : SpellsCnf text formula.vars formula.clauses
  pub again : SaysAgain text formula log.notes (length (added_clauses log))

-- The text of a log's steps: its lines are those of the log, one for each step, and it spells them.
pub record IsStepsText (log : LogState) (text : List ℕ) : Type 0 where
  pub is_text : text ≡ log_text log.events
  pub spells : SpellsLog text (log_lines log.events)

-- what is written into a file: a formula, the steps of a log, an answer, or a text that was made
pub data Content : Type 0 where
  a_formula : Content
  steps : Content
  an_answer : Content
  a_text : List ℕ → Content

-- a text is that of a log's formula or of its steps, or it is the answer's own, or the one that was made
abbrev pub IsTextOf : Content → LogState → List ℕ → List ℕ → Type 0
IsTextOf a_formula log answer text = IsFormulaText log text
IsTextOf steps log answer text = IsStepsText log text
IsTextOf an_answer log answer text = text ≡ answer
IsTextOf (a_text made) log answer text = text ≡ made

-- a file that is named for output, and what is written into it
pub record Output : Type 0 where
  pub content : Content
  pub name : List ℕ

-- such a file, if one is named
unfoldable pub named : Content → Option (List ℕ) → List Output
named content None = []
named content (Some name) = record { content = content; name = name } ∷ []

-- the files that are named for the texts of a number, the model first
unfoldable pub for_texts : ℕ → Option (List ℕ) → Option (List ℕ) → List Output
for_texts number eprime param = named (a_text generated_model) eprime ++ named (a_text (generated_params number)) param

-- ---- what the files hold then

-- The files are written one after another, each with its text, so that of one name the last text stands there. Where the files
-- don't tell what they hold, they don't tell it then.
abbrev pub AreWritten : LogState → List ℕ → List Output → Option Held → Option Held → Type 0
AreWritten log answer [] before after = after ≡ before
AreWritten log answer (o ∷ os) before after =
    (text : List ℕ) × IsTextOf o.content log answer text
    × AreWritten log answer os (option_map (with_bytes o.name text) before) after

-- some first ones of these files are written, and no other
pub record ArePartlyWritten (log : LogState) (answer : List ℕ) (outputs : List Output) (before after : Option Held) : Type 0 where
  pub made : List Output
  pub rest : List Output
  pub cut : outputs ≡ made ++ rest
  pub written : AreWritten log answer made before after

-- The write of the file of this name failed: those before it are written, it may hold anything, and every other file holds what it
-- held.
pub record FailsAt (log : LogState) (answer : List ℕ) (outputs : List Output) (before after : Option Held) (name : List ℕ) : Type 0 where
  pub made : List Output
  pub failed : Output
  pub rest : List Output
  pub cut : outputs ≡ made ++ failed ∷ rest
  pub is_named : name ≡ failed.name
  pub between : Option Held
  pub written : AreWritten log answer made before between
  pub elsewhere : SameElsewhere name between after
