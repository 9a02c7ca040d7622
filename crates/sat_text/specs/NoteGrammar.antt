-- Which comments of a formula's text are notes, told without a reader.
use Rattle.std.specs.Prelude.{◌≡◌, ◌≤◌, ◌⊎◌, ◌==◌, ℕ, true, List, ◌∷◌, ◌++◌, codes, Some}
use Rattle.std.specs.List.{slice_split}
use Rattle.cnf_core.specs.Events.{Note}
use Rattle.sat_text.specs.Numbers.{natural_of, whole_of}
use Rattle.sat_text.specs.Clauses.{number_of}
use Rattle.sat_text.specs.Notes.{is_free_name, are_wholes}

-- the name of a cell of a matrix: a name, and in brackets whole numbers with commas between them
pub record IsMatrixCell (bytes : List ℕ) : Type 0 where
  pub name : List ℕ
  pub indices : List ℕ
  pub parts : bytes ≡ name ++ (codes "[" ++ (indices ++ codes "]"))
  pub named : is_free_name name ≡ true
  pub wholes : are_wholes (slice_split (λ b. b == 44) indices) ≡ true

-- the name of a cell: a name of the language, or that of a cell of a matrix
abbrev pub IsCell : List ℕ → Type 0
IsCell bytes = (is_free_name bytes ≡ true) ⊎ IsMatrixCell bytes

-- A line spells a note: `c cell `, the name of the cell, the number of its value and the number
-- of the literal, with one space between each two, and nothing else.
pub record SpellsNote (line : List ℕ) (note : Note) : Type 0 where
  pub value_word : List ℕ
  pub literal_word : List ℕ
  pub bytes : line ≡ codes "c cell " ++ (note.cell ++ 32 ∷ (value_word ++ 32 ∷ literal_word))
  pub named : IsCell note.cell
  pub value : whole_of value_word ≡ Some note.value
  pub literal : whole_of literal_word ≡ Some (number_of note.lit)
  pub variable : 1 ≤ note.lit.var

-- a line says how many clauses were added: `c added ` and a number, and nothing else
abbrev pub SpellsAdded : List ℕ → ℕ → Type 0
SpellsAdded line added =
    (word : List ℕ) × (line ≡ codes "c added " ++ word) × (natural_of word ≡ Some added)
