-- What the comments of a formula's text say, and how it is read. Which lines are notes says
-- NoteGrammar.
use Rattle.std.specs.Prelude.{ℕ, ◌+◌, ℤ, Bool, false, not, ◌&&◌, ◌==◌, nat_eq, if◌then◌else◌, is_some, unwrap_or, position, List, [], ◌∷◌, length, take, drop, fold, codes, Option, Some, None}
use Rattle.std.specs.List.{list_all, slice_split, filter_map, starts_with}
use Rattle.ep_base.specs.TokenTexts.{is_name, is_word}
use Rattle.cnf_core.specs.Events.{Note}
use Rattle.sat_text.specs.Numbers.{natural_of, whole_of}
use Rattle.sat_text.specs.Clauses.{is_zero, literal_of}

-- ---- the name of a cell: a name, and for a cell of a matrix its indices between brackets

-- a name of the language: it has the form of a name, and is none of the language's own words
abbrev pub is_free_name : List ℕ → Bool
is_free_name word = is_name word && not (is_word word)

-- whole numbers between commas
abbrev pub are_wholes : List (List ℕ) → Bool
are_wholes pieces = list_all (λ piece. is_some (whole_of piece)) pieces

-- what stands behind an opening bracket: whole numbers between commas, and a closing one at the end,
-- whose place is given
abbrev pub are_indices : Option ℕ → List ℕ → Bool
are_indices None bytes = false
are_indices (Some end) bytes =
    nat_eq (end + 1) (length bytes) && are_wholes (slice_split (λ b. b == 44) (take end bytes))

-- a name, or one with indices, where the place of the first opening bracket is given
abbrev pub is_cell_at : Option ℕ → List ℕ → Bool
is_cell_at None bytes = is_free_name bytes
is_cell_at (Some start) bytes =
    is_free_name (take start bytes)
    && are_indices (position (λ b. b == 93) (drop (start + 1) bytes)) (drop (start + 1) bytes)

-- whether bytes are the name of a cell, as `x` or `q[1,-2]`
abbrev pub is_cell : List ℕ → Bool
is_cell bytes = is_cell_at (position (λ b. b == 91) bytes) bytes

-- ---- the lines `c cell NAME VALUE LITERAL` and `c added NUMBER`, with single spaces

-- a value and a literal's number, which isn't 0
unfoldable pub note_with : List ℕ → Option ℤ → Option ℤ → Option Note
note_with cell None lit = None
note_with cell (Some value) None = None
note_with cell (Some value) (Some number) =
    if is_zero number then None
    else Some (record { cell = cell; value = value; lit = literal_of number })

-- three pieces between spaces: a cell's name, a value, and a literal's number
unfoldable pub note_literal : List ℕ → List ℕ → List (List ℕ) → Option Note
note_literal cell value [] = None
note_literal cell value (lit ∷ []) =
    if is_cell cell then note_with cell (whole_of value) (whole_of lit) else None
note_literal cell value (lit ∷ more ∷ pieces) = None

-- behind the cell: a value and a literal's number
unfoldable pub note_value : List ℕ → List (List ℕ) → Option Note
note_value cell [] = None
note_value cell (value ∷ pieces) = note_literal cell value pieces

-- behind `c cell `: a cell's name, a value and a literal's number
unfoldable pub note_at : List (List ℕ) → Option Note
note_at [] = None
note_at (cell ∷ pieces) = note_value cell pieces

-- the note that a line is
abbrev pub note_of : List ℕ → Option Note
note_of line =
    if starts_with nat_eq line (codes "c cell ") then note_at (slice_split (λ b. b == 32) (drop 7 line))
    else None

-- the number of clauses that a line says were added
abbrev pub added_on : List ℕ → Option ℕ
added_on line =
    if starts_with nat_eq line (codes "c added ") then natural_of (drop 8 line) else None

-- the notes of a text in order
abbrev pub notes_of : List (List ℕ) → List Note
notes_of all = filter_map note_of all

-- the number of the last line that says how many clauses were added, or this one where none does
abbrev pub added_of : ℕ → List (List ℕ) → ℕ
added_of before all = fold (λ added line. unwrap_or (added_on line) added) before all
