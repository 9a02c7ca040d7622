-- Rows of numbers that pass a test fit a square domain.
use Rattle.std.proofs.Common.{◌≡◌, ℕ, Bool, true, List, [], ◌∷◌, length, map, ℤ, Option, Some, None, refl, sym, ap, ap₂, ◌∙◌, arith}
use Rattle.std.specs.Prelude.{◌==◌, if◌then◌else◌, option_and_then, option_map}
use Rattle.std.specs.List.{list_all}
use Rattle.std.proofs.lemmas.Bool.{and_parts}
use Rattle.std.proofs.lemmas.Bool.Decides.{nat_tests}
use Rattle.std.proofs.lemmas.List.{length-map}
use Rattle.ep_tree.specs.Values.{ValueTree, all_fitted, as_parts, fitted, list_value, matrix, scalar_fits, single, with_indices}
use Rattle.ep_tree.specs.declared.values.Scalar.{Scalar}
use Rattle.ep_gen.specs.Hints.{square_value}

-- rows of so many numbers each, all of which pass a test
abbrev pub RowsPass : (ℤ → Bool) → ℕ → List (List ℤ) → Type 0
RowsPass p n [] = Unit {0}
RowsPass p n (row ∷ rows) = (list_all p row ≡ true) × (length row ≡ n) × RowsPass p n rows

-- a row with these indices
abbrev pub row_in : List ℤ → List ℤ → ValueTree
row_in indices row = matrix indices (as_parts (map (λ x. single x) row))

-- rows with these indices, also for their own
abbrev pub square_in : List ℤ → List (List ℤ) → ValueTree
square_in indices rows = matrix indices (as_parts (map (λ row. row_in indices row) rows))

same_count : (m n : ℕ) → m ≡ n → (m == n) ≡ true
same_count m n e = grind (arith, nat_tests)

numbers_fit : (p : ℤ → Bool) (row : List ℤ) → list_all p row ≡ true → all_fitted Scalar.Int Scalar.Int p [] (as_parts (map (λ x. single x) row)) ≡ Some (map (λ x. single x) row)
unfolding fitted all_fitted as_parts scalar_fits
numbers_fit p [] e = refl
numbers_fit p (x ∷ row) e =
    let both = and_parts (p x) (list_all p row) e in
    ap₂ (λ (b : Bool) (o : Option (List ValueTree)). option_and_then (λ y. option_map (λ ys. y ∷ ys) o) (if b then Some (single x) else None)) both.0 (numbers_fit p row both.1)

row_fits : (p : ℤ → Bool) (indices row : List ℤ) → list_all p row ≡ true → length row ≡ length indices → fitted Scalar.Int Scalar.Int p (indices ∷ []) (list_value row) ≡ Some (row_in indices row)
unfolding fitted list_value with_indices
row_fits p indices row e long =
    ap (option_and_then (with_indices indices)) (numbers_fit p row e)
    ∙ ap (λ (b : Bool). if b then Some (row_in indices row) else None)
    (same_count (length indices) (length (map (λ (x : ℤ). single x) row)) (sym long ∙ sym (length-map row (λ (x : ℤ). single x))))

rows_fit : (p : ℤ → Bool) (indices : List ℤ) (rows : List (List ℤ)) → RowsPass p (length indices) rows
    → all_fitted Scalar.Int Scalar.Int p (indices ∷ []) (as_parts (map (λ row. list_value row) rows)) ≡ Some (map (λ row. row_in indices row) rows)
unfolding all_fitted as_parts
rows_fit p indices [] pass = refl
rows_fit p indices (row ∷ rows) pass =
    ap₂ (λ (o : Option ValueTree) (os : Option (List ValueTree)). option_and_then (λ y. option_map (λ ys. y ∷ ys) os) o)
    (row_fits p indices row pass.0 pass.1) (rows_fit p indices rows pass.2)

-- as many rows as indices, with as many numbers each, fit
pub square_fits : (p : ℤ → Bool) (indices : List ℤ) (n : ℕ) (rows : List (List ℤ)) → length rows ≡ length indices → RowsPass p (length indices) rows
    → fitted Scalar.Int Scalar.Int p (indices ∷ indices ∷ []) (square_value n rows) ≡ Some (square_in indices rows)
unfolding fitted square_value with_indices
square_fits p indices n rows long pass =
    ap (option_and_then (with_indices indices)) (rows_fit p indices rows pass)
    ∙ ap (λ (b : Bool). if b then Some (square_in indices rows) else None)
    (same_count (length indices) (length (map (λ row. row_in indices row) rows)) (sym long ∙ sym (length-map rows (λ row. row_in indices row))))
