-- Rows of numbers, and the variables that are them.
use Rattle.std.specs.Prelude.{◌≡◌, ℕ, ℤ, pos, true, ◌==◌, IsTrue, List, [], ◌∷◌, length, slice_index_or, if◌then◌else◌}
use Rattle.std.specs.List.{list_all}
use Rattle.std.specs.Ordering.{int_eq}
use Rattle.ep_base.specs.Numbers.{has_number, same_numbers}
use Rattle.ep_flat.specs.Cons.{number_at, numbers_of_vars}
use Rattle.enc_atoms.specs.declared.atoms.Atom.{Atom}
use Rattle.enc_atoms.specs.Steps.{is_not}

-- each row has so many numbers
abbrev pub AllFit : List (List ℤ) → ℕ → Type 0
AllFit rows count = list_all (λ row. length row == count) rows ≡ true

-- the variables are the row
abbrev pub IsRow : List ℕ → List ℤ → List ℤ → Type 0
IsRow vars row values = same_numbers row (numbers_of_vars values vars) ≡ true

-- where a variable is 1, others are the row
abbrev pub IsRowWhere : ℕ → List ℕ → List ℤ → List ℤ → Type 0
IsRowWhere t vars row values = number_at values t ≡ pos 1 → same_numbers row (numbers_of_vars values vars) ≡ true

-- for each variable "it isn't the row's number"
unfoldable pub others_of : List ℕ → List ℤ → List Atom
others_of [] row = []
others_of (x ∷ xs) [] = []
others_of (x ∷ xs) (v ∷ row) = is_not x v ∷ others_of xs row

-- the variables of the rows that have the number at a place
unfoldable pub truths_having : List ℕ → List (List ℤ) → ℕ → ℤ → List ℕ
truths_having [] rows place number = []
truths_having (t ∷ ts) [] place number = []
truths_having (t ∷ ts) (row ∷ rows) place number =
    if int_eq (slice_index_or row place (pos 0)) number then t ∷ truths_having ts rows place number else truths_having ts rows place number

-- one of the rows that have a variable's number at its place is chosen
abbrev pub IsSupported : List ℕ → List (List ℤ) → ℕ → ℕ → List ℤ → Type 0
IsSupported truths rows place x values =
    IsTrue (has_number (numbers_of_vars values (truths_having truths rows place (number_at values x))) (pos 1))
