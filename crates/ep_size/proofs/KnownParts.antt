-- What indices leave of parts that are known one by one.
use Rattle.ep_size.proofs.Words.{◌≡◌, ℤ, Bool, Bor, List, [], ◌∷◌, ◌++◌, map, refl, sym, ap, append-nil, ◌∙◌, Some, None, true, Option, flat_map, if◌then◌else◌, option_map, option_to_list, flat_map-append, compare_holds, CompareOp, MeasuredIndex, decided_index, fixed_index, left_by, parts_left, whole_index, listed_values, matrix, part_at, scalars_of, grid_of, grids_from, keeps_all, measured_of, Indexed}
use Rattle.ep_tree.specs.Reach.{Span}
use Rattle.ep_size.proofs.ReadSteps.{none_left}
use Rattle.ep_size.specs.declared.extents.Extent.{Extent}
use Rattle.ep_size.specs.declared.extents.Extent.TheVariants.{NoParts, Nothing, Number}
use Rattle.ep_size.specs.declared.extents.Span.{Span as OneSpan}

-- the scalars that indices leave of some parts
abbrev pub left_known : List MeasuredIndex → List Extent → List Span
left_known ms xs = flat_map scalars_of (flat_map (parts_left ms) (map grid_of xs))

pub listed_known : (xs : List Extent) → listed_values (grids_from xs) ≡ map grid_of xs
unfolding listed_values grids_from
listed_known [] = refl
listed_known (x ∷ xs) = ap (λ l. grid_of x ∷ l) (listed_known xs)

-- an index that leaves each part
pub known_kept : (i : MeasuredIndex) (ms : List MeasuredIndex) (own : List ℤ) (xs : List Extent) → keeps_all i ≡ true
    → flat_map scalars_of (parts_left (i ∷ ms) (matrix own (grids_from xs))) ≡ left_known ms xs
unfolding parts_left left_by keeps_all
known_kept (fixed_index n) ms own xs h = absurd cc
known_kept whole_index ms own xs h = ap (λ l. flat_map scalars_of (flat_map (parts_left ms) l)) (listed_known xs)
known_kept (decided_index s) ms own xs h = ap (λ l. flat_map scalars_of (flat_map (parts_left ms) l)) (listed_known xs)

pub known_part : (ms : List MeasuredIndex) (x : Extent) (rest : List Extent)
    → left_known ms (x ∷ rest) ≡ flat_map scalars_of (parts_left ms (grid_of x)) ++ left_known ms rest
known_part ms x rest = flat_map-append scalars_of (parts_left ms (grid_of x)) (flat_map (parts_left ms) (map grid_of rest))

pub known_none : (ms : List MeasuredIndex) → left_known ms [] ≡ []
known_none ms = refl

-- ---- a part with an index

pub known_next : (own js : List ℤ) (xs rest : List Extent) (j i : ℤ) (x : Extent) (b : Bool) → own ≡ j ∷ js → xs ≡ x ∷ rest → compare_holds CompareOp.Equal i j ≡ b
    → part_at own (grids_from xs) i ≡ (if b then Some (grid_of x) else part_at js (grids_from rest) i)
unfolding part_at grids_from compare_holds
known_next own js xs rest j i x b cut more same =
    ap (λ o. part_at o (grids_from xs) i) cut ∙ ap (λ ys. part_at (j ∷ js) (grids_from ys) i) more
    ∙ ap (λ c. if c then Some (grid_of x) else part_at js (grids_from rest) i) same

-- there are fewer parts than indices
pub known_short : (own js : List ℤ) (xs : List Extent) (j i : ℤ) → own ≡ j ∷ js → xs ≡ [] → part_at own (grids_from xs) i ≡ None
unfolding part_at grids_from
known_short own js xs j i cut none = ap (λ o. part_at o (grids_from xs) i) cut ∙ ap (λ ys. part_at (j ∷ js) (grids_from ys) i) none

-- there is no index
pub known_unlisted : (own : List ℤ) (xs : List Extent) (i : ℤ) → own ≡ [] → part_at own (grids_from xs) i ≡ None
unfolding part_at
known_unlisted own xs i none = ap (λ o. part_at o (grids_from xs) i) none

pub known_stated : (n : ℤ) (is : List MeasuredIndex) (own : List ℤ) (xs : List Extent)
    → parts_left (fixed_index (Some n) ∷ is) (matrix own (grids_from xs)) ≡ flat_map (parts_left is) (option_to_list (part_at own (grids_from xs) n))
unfolding parts_left left_by
known_stated n is own xs = refl

pub known_undefined : (is : List MeasuredIndex) (own : List ℤ) (xs : List Extent) → parts_left (fixed_index None ∷ is) (matrix own (grids_from xs)) ≡ []
unfolding parts_left left_by
known_undefined is own xs = refl

-- ---- the part that a stated index leaves

pub one_left : (i : MeasuredIndex) (ms : List MeasuredIndex) (x : Extent) (found : Option (Bor Extent)) (part : Bor Extent)
    → parts_left (i ∷ ms) (grid_of x) ≡ flat_map (parts_left ms) (option_to_list (option_map (λ p. grid_of p.now) found)) → found ≡ Some part
    → flat_map scalars_of (parts_left (i ∷ ms) (grid_of x)) ≡ flat_map scalars_of (parts_left ms (grid_of part.now))
one_left i ms x found part told is =
    ap (flat_map scalars_of) (told ∙ ap (λ f. flat_map (parts_left ms) (option_to_list (option_map (λ p. grid_of p.now) f))) is ∙ append-nil (parts_left ms (grid_of part.now)))

pub no_part_left : (i : MeasuredIndex) (ms : List MeasuredIndex) (x : Extent) (found : Option (Bor Extent))
    → parts_left (i ∷ ms) (grid_of x) ≡ flat_map (parts_left ms) (option_to_list (option_map (λ p. grid_of p.now) found)) → found ≡ None
    → flat_map scalars_of (parts_left (i ∷ ms) (grid_of x)) ≡ []
no_part_left i ms x found told is =
    ap (flat_map scalars_of) (told ∙ ap (λ f. flat_map (parts_left ms) (option_to_list (option_map (λ p. grid_of p.now) f))) is)

-- ---- what has no part

pub nothing_added : (old more : List Span) → more ≡ [] → old ≡ old ++ more
nothing_added old more none = sym (append-nil old) ∙ ap (λ l. old ++ l) (sym none)

-- an index leaves nothing of a number, and of a number without a value
pub number_leaves_none : (is rest : List Indexed) (i : Indexed) (x : Extent) (s : OneSpan) → is ≡ i ∷ rest → x ≡ Number s → flat_map scalars_of (parts_left (map measured_of is) (grid_of x)) ≡ []
unfolding parts_left grid_of
number_leaves_none is rest i x s cut same =
    ap (λ l. flat_map scalars_of (parts_left (map measured_of l) (grid_of x))) cut ∙ ap (λ y. flat_map scalars_of (parts_left (measured_of i ∷ map measured_of rest) (grid_of y))) same

pub nothing_leaves_none : (is rest : List Indexed) (i : Indexed) (x : Extent) → is ≡ i ∷ rest → x ≡ Nothing → flat_map scalars_of (parts_left (map measured_of is) (grid_of x)) ≡ []
unfolding parts_left grid_of
nothing_leaves_none is rest i x cut same =
    ap (λ l. flat_map scalars_of (parts_left (map measured_of l) (grid_of x))) cut ∙ ap (λ y. flat_map scalars_of (parts_left (measured_of i ∷ map measured_of rest) (grid_of y))) same

-- indices leave nothing of a matrix without parts
pub no_parts_leave_none : (ms : List MeasuredIndex) (x : Extent) → x ≡ NoParts → flat_map scalars_of (parts_left ms (grid_of x)) ≡ []
unfolding grid_of
no_parts_leave_none ms x same = ap (λ y. flat_map scalars_of (parts_left ms (grid_of y))) same ∙ none_left ms
