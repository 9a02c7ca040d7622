-- What is read of a square: nothing, or a number that passes; nothing, or the one cell.
use Rattle.std.proofs.Common.{◌≡◌, ℕ, Bool, true, false, cond, List, [], ◌∷◌, ◌++◌, map, ℤ, Option, Some, None, refl, sym, subst}
use Rattle.std.specs.Prelude.{flat_map, option_and_then, option_to_list}
use Rattle.std.specs.List.{list_all}
use Rattle.std.specs.Ordering.{int_eq}
use Rattle.std.proofs.lemmas.Bool.{and_parts}
use Rattle.ep_tree.specs.Reach.{Span, fixed_index, left_by, parts_left}
use Rattle.ep_tree.specs.Values.{Grid, ValueTree, as_parts, at_index, filled, matrix, part_at, read_value, scalars_of, single}
use Rattle.ep_gen_laws.proofs.Fitting.{RowsPass, row_in, square_in}

-- nothing, or a number that passes a test
abbrev pub PassesRead : (ℤ → Bool) → Option ValueTree → Type 0
PassesRead p None = Unit {0}
PassesRead p (Some (single x)) = p x ≡ true
PassesRead p (Some (matrix indices parts)) = ⊥

number_read : (p : ℤ → Bool) (b : Bool) (x : ℤ) (o : Option ValueTree) → p x ≡ true → PassesRead p (option_and_then (read_value []) o) → PassesRead p (option_and_then (read_value []) (cond b (Some (single x)) o))
unfolding read_value
number_read p true x o pass later = pass
number_read p false x o pass later = later

row_read : (p : ℤ → Bool) (indices row : List ℤ) (j : ℤ) → list_all p row ≡ true → PassesRead p (option_and_then (read_value []) (part_at indices (as_parts (map (λ x. single x) row)) j))
unfolding part_at as_parts
row_read p [] row j pass = tt
row_read p (k ∷ indices) [] j pass = tt
row_read p (k ∷ indices) (x ∷ row) j pass =
    let both = and_parts (p x) (list_all p row) pass in
    number_read p (int_eq j k) x (part_at indices (as_parts (map (λ x. single x) row)) j) both.0 (row_read p indices row j both.1)

either_read : (p : ℤ → Bool) (b : Bool) (v : ValueTree) (j : ℤ) (o : Option ValueTree) → PassesRead p (read_value (at_index j ∷ []) v) → PassesRead p (option_and_then (read_value (at_index j ∷ [])) o) → PassesRead p (option_and_then (read_value (at_index j ∷ [])) (cond b (Some v) o))
either_read p true v j o own later = own
either_read p false v j o own later = later

rows_read : (p : ℤ → Bool) (n : ℕ) (own indices : List ℤ) (rows : List (List ℤ)) (i j : ℤ) → RowsPass p n rows
    → PassesRead p (option_and_then (read_value (at_index j ∷ [])) (part_at indices (as_parts (map (λ row. row_in own row) rows)) i))
unfolding part_at as_parts read_value
rows_read p n own [] rows i j pass = tt
rows_read p n own (k ∷ indices) [] i j pass = tt
rows_read p n own (k ∷ indices) (row ∷ rows) i j pass =
    either_read p (int_eq i k) (row_in own row) j (part_at indices (as_parts (map (λ row. row_in own row) rows)) i)
    (row_read p own row j pass.0) (rows_read p n own indices rows i j pass.2)

-- a read of a square by two numbers
pub square_read : (p : ℤ → Bool) (n : ℕ) (indices : List ℤ) (rows : List (List ℤ)) (i j : ℤ) → RowsPass p n rows → PassesRead p (read_value (at_index i ∷ at_index j ∷ []) (square_in indices rows))
unfolding read_value
square_read p n indices rows i j pass = rows_read p n indices indices rows i j pass

-- ---- cells

-- no part, or this one
abbrev pub Lone : {A : Type 0} → A → List A → Type 0
Lone x [] = Unit {0}
Lone x (y ∷ []) = y ≡ x
Lone x (y ∷ z ∷ zs) = ⊥

abbrev Alike : {A : Type 0} → A → Option A → Type 0
Alike x None = Unit {0}
Alike x (Some y) = y ≡ x

alike_next : {A : Type 0} (b : Bool) (x : A) (o : Option A) → Alike x o → Alike x (cond b (Some x) o)
alike_next true x o later = refl
alike_next false x o later = later

alike_part : {A : Type 0} (g : Grid A) (indices : List ℤ) (others : List ℤ) (i : ℤ) → Alike g (part_at indices (as_parts (map (λ k. g) others)) i)
unfolding part_at as_parts
alike_part g [] others i = tt
alike_part g (k ∷ indices) [] i = tt
alike_part g (k ∷ indices) (l ∷ others) i = alike_next (int_eq i k) g (part_at indices (as_parts (map (λ k. g) others)) i) (alike_part g indices others i)

-- a row of cells that are alike, and a square of them
abbrev cell_row : Span → List ℤ → Grid Span
cell_row s indices = matrix indices (as_parts (map (λ k. single s) indices))

cell_left : (s : Span) (o : Option (Grid Span)) → Alike (single s) o → Lone s (flat_map scalars_of (flat_map (parts_left []) (option_to_list o) ++ []))
unfolding parts_left scalars_of
cell_left s None h = tt
cell_left s (Some x) h = subst (λ (y : Grid Span). Lone s (flat_map scalars_of (flat_map (parts_left []) (option_to_list (Some y)) ++ []))) (sym h) refl

row_left : (s : Span) (indices : List ℤ) (j : ℤ) (o : Option (Grid Span)) → Alike (cell_row s indices) o → Lone s (flat_map scalars_of (flat_map (parts_left (fixed_index (Some j) ∷ [])) (option_to_list o)))
unfolding parts_left left_by
row_left s indices j None h = tt
row_left s indices j (Some x) h =
    subst (λ (y : Grid Span). Lone s (flat_map scalars_of (flat_map (parts_left (fixed_index (Some j) ∷ [])) (option_to_list (Some y))))) (sym h)
    (cell_left s (part_at indices (as_parts (map (λ k. single s) indices)) j) (alike_part (single s) indices indices j))

-- what two indices leave of a square of cells that are alike
pub square_left : (s : Span) (indices : List ℤ) (i j : ℤ) → Lone s (flat_map scalars_of (parts_left (fixed_index (Some i) ∷ fixed_index (Some j) ∷ []) (filled s (indices ∷ indices ∷ []))))
unfolding parts_left left_by filled
square_left s indices i j = row_left s indices j (part_at indices (as_parts (map (λ k. cell_row s indices) indices)) i) (alike_part (cell_row s indices) indices indices i)
