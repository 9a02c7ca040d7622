-- The texts that are written.
use Rattle.std.specs.Prelude.{◌≡◌, ◌<◌, ◌^◌, All, unsigned_abs, false, Ok, ℕ, ℤ, pos, List, [], ◌∷◌, ◌++◌, length, map, codes, decimal}
use Rattle.std.specs.Fmt.{signed_decimal}
use Rattle.std.specs.List.{flat_map}
use Rattle.sat_text.specs.Words.{lines}
use Rattle.sat_text.specs.Notes.{notes_of, added_of}
use Rattle.sat_text.specs.NoteGrammar.{IsCell}
use Rattle.sat_text.specs.Cnf.{formula_of, plain_formula}
use Rattle.sat_text.specs.Clauses.{is_zero, number_of}
use Rattle.cnf_core.specs.Literal.{Literal, IsVariable, IsClause}
use Rattle.cnf_core.specs.Formula.{Cnf, NamesItsVariables}
use Rattle.cnf_core.specs.Events.{LogEvent, Note}
use Rattle.cnf_core.specs.Lines.{ProofLine, add, delete}
use Rattle.cnf_core.specs.LogLines.{log_lines}

-- numbers with a space before each
abbrev pub spaced : List ℤ → List ℕ
spaced numbers = flat_map (λ n. 32 ∷ signed_decimal n) numbers

-- ---- the text of a log

-- A line's text: the id, the literals and a 0, the hints and a 0. A line that deletes keeps no id
-- of its own, and gets a 1 for it: the 1, a `d`, the ids and a 0.
abbrev pub line_text : ProofLine → List ℕ
line_text (add id clause hints) =
    decimal id
    ++ (spaced (map number_of clause) ++ (codes " 0" ++ (spaced hints ++ codes " 0\n")))
line_text (delete ids) = codes "1 d" ++ (spaced (map (λ id. pos id) ids) ++ codes " 0\n")

-- the text of a log: that of its lines, one after another
abbrev pub log_text : List LogEvent → List ℕ
log_text events = flat_map line_text (log_lines events)

-- ---- the text of a formula

-- the line of a note
abbrev pub note_text : Note → List ℕ
note_text note =
    codes "c cell " ++ (note.cell ++ (spaced (note.value ∷ number_of note.lit ∷ []) ++ codes "\n"))

-- a clause's literals with a space behind each, and a 0
abbrev pub clause_text : List Literal → List ℕ
clause_text clause = flat_map (λ l. signed_decimal (number_of l) ++ 32 ∷ []) clause ++ codes "0\n"

-- the line of a header
abbrev pub header_text : ℕ → ℕ → List ℕ
header_text vars clauses =
    codes "p cnf " ++ (decimal vars ++ (codes " " ++ (decimal clauses ++ codes "\n")))

-- the line that says how many clauses were added
abbrev pub added_text : ℕ → List ℕ
added_text added = codes "c added " ++ (decimal added ++ codes "\n")

-- the text of a formula: the notes, the number of clauses that were added, the header, the clauses
abbrev pub cnf_text : Cnf → List Note → ℕ → List ℕ
cnf_text f notes added =
    flat_map note_text notes
    ++ (added_text added ++ (header_text f.vars (length f.clauses) ++ flat_map clause_text f.clauses))

-- ---- what can be read again

-- a number that isn't 0, of at most eighteen digits
abbrev pub IsShort : ℤ → Type 0
IsShort n = (unsigned_abs n < 10 ^ 18) × (is_zero n ≡ false)

-- a line that adds, with a positive id, a clause, and hints that aren't 0, all of at most eighteen
-- digits
abbrev pub IsReadable : ProofLine → Type 0
IsReadable (add id clause hints) = (0 < id) × (id < 10 ^ 18) × IsClause clause × All IsShort hints
IsReadable (delete ids) = ⊥

-- a note of a cell, and of a value of at most eighteen digits
pub record IsReadableNote (note : Note) : Type 0 where
  pub named : IsCell note.cell
  pub short : unsigned_abs note.value < 10 ^ 18

-- clauses over the variables of a formula, where both numbers have at most eighteen digits
pub record IsReadableFormula (f : Cnf) : Type 0 where
  pub few_variables : f.vars < 10 ^ 18
  pub few_clauses : length f.clauses < 10 ^ 18
  pub clauses : All IsClause f.clauses
  pub names : NamesItsVariables f

-- each note's literal is of a variable that there can be
abbrev pub NamesVariables : List Note → Type 0
NamesVariables notes = All (λ note. IsVariable note.lit.var) notes

-- a text says the formula, its notes and its number of clauses that were added
pub record SaysAgain (text : List ℕ) (f : Cnf) (notes : List Note) (added : ℕ) : Type 0 where
  pub same_formula : formula_of text ≡ Ok (plain_formula f)
  pub same_notes : notes_of (lines text) ≡ notes
  pub same_number : added_of 0 (lines text) ≡ added
