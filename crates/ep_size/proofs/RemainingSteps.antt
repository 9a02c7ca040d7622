-- What indices leave of values, part by part.
use Rattle.ep_size.proofs.Words.{◌≡◌, ℤ, Bool, List, [], ◌∷◌, ◌++◌, map, refl, sym, ap, subst, ◌∙◌, append-nil, Option, Some, None, true, false, int_eq, flat_map, if◌then◌else◌, option_map, option_to_list, IfOk, Result, flat_map-append, MeasuredIndex, decided_index, fixed_index, fixed_span, left_by, parts_left, whole_index, Grid, Grids, listed_values, map_grid, map_grids, no_values, part_at, ValueTree, matrix, scalars_of, single, value_and, value_tree, values_from, Value, held_value, part_under, Held, fixed_grid, grid_of, plain_span, Hulls, SizeError, Hulled, keeps_all, measured_of, Indexed}
use Rattle.ep_tree.specs.Reach.{Span}
use Rattle.ep_eval.specs.declared.held.Held.TheVariants.{Number as HeldNumber}
use Rattle.ep_size.specs.declared.extents.Extent.{Extent}
use Rattle.ep_size.specs.declared.extents.Extent.TheVariants.{Fixed}
use Rattle.ep_size.specs.declared.extents.Span.{Span as OneSpan}

-- the scalars that indices leave of some values
abbrev pub left_parts : List MeasuredIndex → List Value → List Span
left_parts ms vs = flat_map scalars_of (flat_map (parts_left ms) (map (λ v. fixed_grid (value_tree v)) vs))

listed_fixed : (vs : List Value) → listed_values (map_grids (λ n. fixed_span (Some n)) (values_from vs)) ≡ map (λ v. fixed_grid (value_tree v)) vs
unfolding listed_values map_grids values_from
listed_fixed [] = refl
listed_fixed (v ∷ vs) = ap (λ l. fixed_grid (value_tree v) ∷ l) (listed_fixed vs)

-- an index that leaves each part of a matrix
pub matrix_kept : (i : MeasuredIndex) (ms : List MeasuredIndex) (own : List ℤ) (vs : List Value) → keeps_all i ≡ true
    → flat_map scalars_of (parts_left (i ∷ ms) (fixed_grid (matrix own (values_from vs)))) ≡ left_parts ms vs
unfolding parts_left left_by keeps_all map_grid
matrix_kept (fixed_index n) ms own vs h = absurd cc
matrix_kept whole_index ms own vs h = ap (λ l. flat_map scalars_of (flat_map (parts_left ms) l)) (listed_fixed vs)
matrix_kept (decided_index s) ms own vs h = ap (λ l. flat_map scalars_of (flat_map (parts_left ms) l)) (listed_fixed vs)

-- ---- a part with an index

-- finding a part commutes with a function of each scalar
part_mapped : {A B : Type 0} (f : A → B) (own : List ℤ) (vs : Grids A) (i : ℤ)
    → part_at own (map_grids f vs) i ≡ option_map (map_grid f) (part_at own vs i)
unfolding part_at map_grids
part_mapped f [] vs i = refl
part_mapped f (j ∷ js) no_values i = refl
part_mapped f (j ∷ js) (value_and v vs) i = by (int_eq i j) (part_mapped f js vs i)
  where
    by : (b : Bool) → part_at js (map_grids f vs) i ≡ option_map (map_grid f) (part_at js vs i)
        → (if b then Some (map_grid f v) else part_at js (map_grids f vs) i) ≡ option_map (map_grid f) (if b then Some v else part_at js vs i)
    by true h = refl
    by false h = h

pub left_stated : (n : ℤ) (is : List MeasuredIndex) (g : ValueTree)
    → parts_left (fixed_index (Some n) ∷ is) (fixed_grid g) ≡ flat_map (parts_left is) (option_to_list (option_map fixed_grid (part_under g n)))
unfolding parts_left left_by map_grid part_under
left_stated n is (single x) = refl
left_stated n is (matrix own vs) = ap (λ o. flat_map (parts_left is) (option_to_list o)) (part_mapped (λ m. fixed_span (Some m)) own vs n)

pub mapped_twice : {A B C : Type 0} (f : B → C) (g : A → B) (o : Option A) → option_map f (option_map g o) ≡ option_map (λ x. f (g x)) o
mapped_twice f g None = refl
mapped_twice f g (Some x) = refl

pub left_undefined : (is : List MeasuredIndex) (g : ValueTree) → parts_left (fixed_index None ∷ is) (fixed_grid g) ≡ []
unfolding parts_left left_by map_grid
left_undefined is (single x) = refl
left_undefined is (matrix own vs) = refl

pub number_kept : (i : MeasuredIndex) (ms : List MeasuredIndex) (n : ℤ) → flat_map scalars_of (parts_left (i ∷ ms) (fixed_grid (single n))) ≡ []
unfolding parts_left map_grid
number_kept i ms n = refl

pub left_part : (ms : List MeasuredIndex) (v : Value) (rest : List Value)
    → left_parts ms (v ∷ rest) ≡ flat_map scalars_of (parts_left ms (fixed_grid (value_tree v))) ++ left_parts ms rest
left_part ms v rest =
    flat_map-append scalars_of (parts_left ms (fixed_grid (value_tree v))) (flat_map (parts_left ms) (map (λ w. fixed_grid (value_tree w)) rest))

pub left_none : (ms : List MeasuredIndex) → left_parts ms [] ≡ []
left_none ms = refl

pub whole_left : (is : List Indexed) (g : Grid Span) → is ≡ [] → scalars_of g ≡ flat_map scalars_of (parts_left (map measured_of is) g)
unfolding parts_left
whole_left is g none =
    sym (append-nil (scalars_of g)) ∙ ap (λ l. flat_map scalars_of (parts_left (map measured_of l) g)) (sym none)

-- ---- what is held

-- what indices leave of a number that is held
pub number_grid : (ms : List MeasuredIndex) (h : Held) (n : ℤ) (s : OneSpan) → h ≡ HeldNumber n → plain_span s ≡ fixed_span (Some n)
    → flat_map scalars_of (parts_left ms (single (plain_span s))) ≡ flat_map scalars_of (parts_left ms (fixed_grid (held_value h)))
unfolding held_value map_grid
number_grid ms h n s is same =
    ap (λ c. flat_map scalars_of (parts_left ms (single c))) same ∙ ap (λ v. flat_map scalars_of (parts_left ms (fixed_grid (held_value v)))) (sym is)

pub number_held : (t : Hulled) (ms : List MeasuredIndex) (h : Held) (n : ℤ) (s : OneSpan) → h ≡ HeldNumber n → plain_span s ≡ fixed_span (Some n)
    → Hulls t (flat_map scalars_of (parts_left ms (single (plain_span s)))) → Hulls t (flat_map scalars_of (parts_left ms (fixed_grid (held_value h))))
unfolding held_value map_grid
number_held t ms h n s is same left =
    subst (λ v. Hulls t (flat_map scalars_of (parts_left ms (fixed_grid (held_value v))))) (sym is)
    (subst (λ c. Hulls t (flat_map scalars_of (parts_left ms (single c)))) same left)

pub gives_held : (r : Result Hulled SizeError) (ms : List MeasuredIndex) (h : Held) (g : ValueTree) → held_value h ≡ g
    → IfOk r (λ t. Hulls t (flat_map scalars_of (parts_left ms (fixed_grid g)))) → IfOk r (λ t. Hulls t (flat_map scalars_of (parts_left ms (fixed_grid (held_value h)))))
gives_held r ms h g same left = subst (λ v. IfOk r (λ t. Hulls t (flat_map scalars_of (parts_left ms (fixed_grid v))))) (sym same) left

pub gives_fixed : (r : Result Hulled SizeError) (ms : List MeasuredIndex) (x : Extent) (h : Held) → x ≡ Fixed h
    → IfOk r (λ t. Hulls t (flat_map scalars_of (parts_left ms (fixed_grid (held_value h))))) → IfOk r (λ t. Hulls t (flat_map scalars_of (parts_left ms (grid_of x))))
unfolding grid_of
gives_fixed r ms x h is left = subst (λ y. IfOk r (λ t. Hulls t (flat_map scalars_of (parts_left ms (grid_of y))))) (sym is) left
