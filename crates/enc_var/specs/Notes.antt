-- The notes of cells: which literal says that a cell has a value.
use Rattle.std.specs.Prelude.{ℕ, ℤ, List, [], ◌∷◌, ◌++◌, map}
use Rattle.std.specs.Fmt.{signed_decimal}
use Rattle.cnf_core.specs.Events.{Note}
use Rattle.ep_ground.specs.declared.cells.Cell.{Cell}
use Rattle.enc_var.specs.Decoding.{VariableLiterals, literal_of_note}
use Rattle.enc_var.specs.Layouts.{literals_at}

-- numbers with a comma between any two
unfoldable pub joined_numbers : List ℤ → List ℕ
joined_numbers [] = []
joined_numbers (n ∷ []) = signed_decimal n
joined_numbers (n ∷ m ∷ ns) = signed_decimal n ++ 44 ∷ joined_numbers (m ∷ ns)

-- the indices of a cell in brackets, and nothing where there are none
unfoldable pub indices_text : List ℤ → List ℕ
indices_text [] = []
indices_text (n ∷ ns) = 91 ∷ joined_numbers (n ∷ ns) ++ 93 ∷ []

-- the name of a cell: that of its decision variable, with its indices
unfoldable pub cell_text : Cell → List ℕ
cell_text one = one.name ++ indices_text one.indices

-- the notes of a cell for which this variable stands: one for each of its values, in ascending order
unfoldable pub notes_of_cell : List VariableLiterals → Cell → ℕ → List Note
notes_of_cell layout one x =
    map (λ v. record { cell = cell_text one; value = v; lit = literal_of_note (literals_at layout x) v }) one.values

-- the notes of cells for which these variables stand, cell by cell
unfoldable pub cell_notes : List VariableLiterals → List Cell → List ℕ → List Note
cell_notes layout [] xs = []
cell_notes layout (one ∷ cells) [] = []
cell_notes layout (one ∷ cells) (x ∷ xs) = notes_of_cell layout one x ++ cell_notes layout cells xs
