-- The scalars of values and of cells, one after another.
use Rattle.ep_size.proofs.Words.{◌≡◌, ℕ, ◌+◌, ◌*◌, ◌<◌, ℤ, suc, List, [], ◌∷◌, ◌++◌, length, refl, sym, ap, ◌∙◌, arith, append_assoc, Some, map, replicate, suc-mul, map_push, replicate-append-replicate, replicate_more, fixed_span, cell_count, as_parts, filled, map_grid, map_grids, matrix, scalars_of, scalars_of_all, single, value_tree, values_from, Value, fixed_grid, plain_span, MOST_TOLD, capped}
use Rattle.ep_tree.specs.Reach as defined
use Rattle.ep_size.specs.declared.extents.Span.{Span}

-- one number more
pub span_pushed : (old new : List Span) (x : Span) → new ≡ old ++ x ∷ [] → map plain_span new ≡ map plain_span old ++ plain_span x ∷ []
span_pushed old new x h = ap (map plain_span) h ∙ map_push plain_span old x

-- ---- values

-- the numbers of some values
abbrev pub fixed_parts : List Value → List defined.Span
fixed_parts vs = scalars_of_all (map_grids (λ n. fixed_span (Some n)) (values_from vs))

pub fixed_single : (n : ℤ) → scalars_of (fixed_grid (single n)) ≡ fixed_span (Some n) ∷ []
unfolding scalars_of map_grid
fixed_single n = refl

pub fixed_matrix : (indices : List ℤ) (parts : List Value) → scalars_of (fixed_grid (matrix indices (values_from parts))) ≡ fixed_parts parts
unfolding scalars_of map_grid
fixed_matrix indices parts = refl

pub fixed_part : (part : Value) (rest : List Value) → fixed_parts (part ∷ rest) ≡ scalars_of (fixed_grid (value_tree part)) ++ fixed_parts rest
unfolding scalars_of_all map_grids values_from
fixed_part part rest = refl

pub fixed_none : fixed_parts [] ≡ []
unfolding scalars_of_all map_grids values_from
fixed_none = refl

-- ---- cells

parts_repeated : (s : defined.Span) (n : ℕ) (inner : List (List ℤ)) (is : List ℤ) → scalars_of (filled s inner) ≡ replicate n s
    → scalars_of_all (as_parts (map (λ i. filled s inner) is)) ≡ replicate (length is * n) s
unfolding scalars_of_all as_parts
parts_repeated s n inner [] h = let none : 0 ≡ 0 * n = omega arith in ap (λ k. replicate k s) none
parts_repeated s n inner (i ∷ is) h =
    let count : n + length is * n ≡ suc (length is) * n = omega (arith, suc-mul (length is) n) in
    ap (λ l. l ++ scalars_of_all (as_parts (map (λ j. filled s inner) is))) h ∙ ap (λ l. replicate n s ++ l) (parts_repeated s n inner is h)
    ∙ replicate-append-replicate n (length is * n) s ∙ ap (λ k. replicate k s) count

-- the cells of a decision variable are alike
pub cells_repeated : (s : defined.Span) (indices : List (List ℤ)) → scalars_of (filled s indices) ≡ replicate (cell_count indices) s
unfolding scalars_of filled cell_count
cells_repeated s [] = refl
cells_repeated s (is ∷ inner) = parts_repeated s (cell_count inner) inner is (cells_repeated s inner)

-- so many of them are put behind others
abbrev pub with_copies : List Span → List Span → ℕ → Span → Type 0
with_copies old new n x = map plain_span new ≡ map plain_span old ++ replicate n (plain_span x)

pub copies_more : (old now next : List Span) (n : ℕ) (x : Span) → next ≡ now ++ x ∷ [] → with_copies old now n x → with_copies old next (n + 1) x
copies_more old now next n x pushed h =
    span_pushed now next x pushed ∙ ap (λ l. l ++ plain_span x ∷ []) h ∙ append_assoc (map plain_span old) (replicate n (plain_span x)) (plain_span x ∷ [])
    ∙ ap (λ l. map plain_span old ++ l) (replicate_more n (plain_span x))

pub copies_all : (old new : List Span) (n told : ℕ) (x : Span) (indices : List (List ℤ)) → with_copies old new n x → n ≡ told
    → told ≡ capped (cell_count indices) → told < MOST_TOLD → map plain_span new ≡ map plain_span old ++ scalars_of (filled (plain_span x) indices)
copies_all old new n told x indices h same is small =
    let count : n ≡ cell_count indices = omega (arith, same, is, small) in
    h ∙ ap (λ l. map plain_span old ++ l) (ap (λ k. replicate k (plain_span x)) count ∙ sym (cells_repeated (plain_span x) indices))
