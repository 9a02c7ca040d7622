-- Reads: a number that is read lies in a part that the indices leave, and a matrix in what they leave of a matrix.
use Rattle.std.specs.Prelude.{◌≡◌, ℕ, zero, suc, ◌-◌, List, [], ◌∷◌, ◌++◌, map, length, ℤ, Bool, true, false, if◌then◌else◌, Some, None, flat_map, Option, option_and_then, option_map, option_to_list, unwrap_or, refl}
use Rattle.std.proofs.Common.{ap, subst, sym, ◌∙◌, ◌⊎◌, inl, inr}
use Rattle.std.specs.Ordering.{int_eq}
use Rattle.ep_base.specs.Intervals.{LiesIn, truth_interval}
use Rattle.ep_base.specs.Options.{on_both}
use Rattle.ep_base.specs.declared.places.Place.{Place}
use Rattle.ep_base.specs.declared.names.Name.{Name}
use Rattle.ep_tree.proofs.TypedParts.{both_is, gives_is, map_is, mistyped_is, no_some, some_is, then_is, truths_differ, typed_is}
use Rattle.ep_tree.specs.Agreement.{LieWithin, LiesWithin}
use Rattle.ep_tree.specs.Environments.{Bound, Env, has_cells, has_domain, has_value, meaning_in, shape_type}
use Rattle.ep_tree.specs.Evaluation.{read_result}
use Rattle.ep_tree.specs.Reach.{Extent, MeasuredIndex, Span, cell_reach, cell_span, decided_index, decisions_in, fixed_index, is_decision, is_decision_name, left_by, named_extent, no_extent, parts_left, plain_index, read_extent, read_span, reaches, slice_extent, whole_index, wide_span}
use Rattle.ep_tree.specs.Trees.{ExprTree, named}
use Rattle.ep_tree.specs.TypedValues.{IsOf, is_number_of}
use Rattle.ep_tree.specs.Types.{is_integer, left_type, named_type, of_scalar, read_type, typed}
use Rattle.ep_tree.specs.Values.{Grids, Index, ValueTree, ValueTrees, all_defined, any_index, as_parts, at_index, filled, listed_values, matrix, no_values, part_at, read_value, scalars_of, scalars_of_all, single, value_and}
use Rattle.ep_tree.specs.declared.values.Mode.{Mode}
use Rattle.ep_tree.specs.declared.values.Scalar.{Scalar}
use Rattle.ep_tree.specs.declared.values.ValueType.{ValueType}
use Rattle.ep_reach_laws.specs.Reaches.{LiesInOne}
use Rattle.ep_reach_laws.proofs.Cells.{hull_lies}
use Rattle.ep_reach_laws.proofs.AlikeEnvironments.{Matched}
use Rattle.ep_reach_laws.proofs.Extents.{Within, bit_lies, defined_first, defined_more}

-- an index of a read is what is measured of it
abbrev pub Follows : MeasuredIndex → Index → Type 0
Follows (fixed_index i) (at_index j) = i ≡ Some j
Follows (fixed_index i) any_index = ⊥
Follows whole_index (at_index j) = ⊥
Follows whole_index any_index = Unit {0}
Follows (decided_index s) (at_index j) = Unit {0}
Follows (decided_index s) any_index = ⊥

-- a number lies in one of some parts
abbrev OneHolds : ℤ → List Extent → Type 0
OneHolds n [] = ⊥
OneHolds n (x ∷ xs) = LiesWithin (single n) x ⊎ OneHolds n xs

one_left : (n : ℤ) (xs ys : List Extent) → OneHolds n xs → OneHolds n (xs ++ ys)
one_left n [] ys h = absurd h
one_left n (x ∷ xs) ys (inl h) = inl h
one_left n (x ∷ xs) ys (inr h) = inr (one_left n xs ys h)

one_right : (n : ℤ) (xs ys : List Extent) → OneHolds n ys → OneHolds n (xs ++ ys)
one_right n [] ys h = h
one_right n (x ∷ xs) ys h = inr (one_right n xs ys h)

-- ---- parts

part_lies : (ks : List ℤ) (vs : ValueTrees) (xs : Grids Span) (j : ℤ) (p : ValueTree) → LieWithin vs xs → part_at ks vs j ≡ Some p
    → (y : Extent) × (part_at ks xs j ≡ Some y) × LiesWithin p y
unfolding part_at
part_lies [] vs xs j p h e = no_some e
part_lies (k ∷ ks) no_values xs j p h e = no_some e
part_lies (k ∷ ks) (value_and v vs) no_values j p h e = absurd h
part_lies (k ∷ ks) (value_and v vs) (value_and x xs) j p h e = go (int_eq j k) e (part_lies ks vs xs j p h.1)
  where
    go : (b : Bool) → (if b then Some v else part_at ks vs j) ≡ Some p → (part_at ks vs j ≡ Some p → (y : Extent) × (part_at ks xs j ≡ Some y) × LiesWithin p y)
        → (y : Extent) × ((if b then Some x else part_at ks xs j) ≡ Some y) × LiesWithin p y
    go true e later = (x, refl, subst (λ u. LiesWithin u x) (some_is e) h.0)
    go false e later = later e

one_of_parts : (ks : List ℤ) (vs : ValueTrees) (xs : Grids Span) (j : ℤ) (p : ValueTree) → LieWithin vs xs → part_at ks vs j ≡ Some p
    → (n : ℤ) (f : Extent → List Extent) → ((y : Extent) → LiesWithin p y → OneHolds n (f y)) → OneHolds n (flat_map f (listed_values xs))
unfolding part_at listed_values
one_of_parts [] vs xs j p h e n f each = no_some e
one_of_parts (k ∷ ks) no_values xs j p h e n f each = no_some e
one_of_parts (k ∷ ks) (value_and v vs) no_values j p h e n f each = absurd h
one_of_parts (k ∷ ks) (value_and v vs) (value_and x xs) j p h e n f each = go (int_eq j k) e (λ d. one_of_parts ks vs xs j p h.1 d n f each)
  where
    go : (b : Bool) → (if b then Some v else part_at ks vs j) ≡ Some p → (part_at ks vs j ≡ Some p → OneHolds n (flat_map f (listed_values xs)))
        → OneHolds n (f x ++ flat_map f (listed_values xs))
    go true e later = one_left n (f x) (flat_map f (listed_values xs)) (each x (subst (λ u. LiesWithin u x) (some_is e) h.0))
    go false e later = one_right n (f x) (flat_map f (listed_values xs)) (later e)

-- ---- a number that is read

read_one : (is : List MeasuredIndex) (js : List Index) → Matched Follows is js → (w : ValueTree) (x : Extent) → LiesWithin w x → (n : ℤ) → read_value js w ≡ Some (single n)
    → OneHolds n (parts_left is x)
unfolding read_value parts_left left_by
read_one [] [] f w x h n e = inl (subst (λ u. LiesWithin u x) (some_is e) h)
read_one [] (j ∷ js) f w x h n e = absurd f
read_one (i ∷ is) [] f w x h n e = absurd f
read_one (fixed_index i ∷ is) (at_index j ∷ js) f (single m) x h n e = no_some e
read_one (fixed_index i ∷ is) (at_index j ∷ js) f (matrix ks vs) (single s) h n e = absurd h
read_one (fixed_index i ∷ is) (at_index j ∷ js) f (matrix ks vs) (matrix ls xs) h n e =
    let p : _ = then_is (read_value js) (part_at ks vs j) (single n) e in
    let q : _ = part_lies ks vs xs j p.0 h.1 p.1 in
    let left : option_to_list (option_and_then (part_at ls xs) i) ≡ q.0 ∷ [] =
    ap (λ o. option_to_list (option_and_then (part_at ls xs) o)) f.0 ∙ ap (λ l. option_to_list (part_at l xs j)) (sym h.0) ∙ ap option_to_list q.1 in
    subst (λ l. OneHolds n (flat_map (parts_left is) l)) (sym left) (one_left n (parts_left is q.0) [] (read_one is js f.1 p.0 q.0 q.2 n p.2))
read_one (fixed_index i ∷ is) (any_index ∷ js) f w x h n e = absurd f.0
read_one (whole_index ∷ is) (at_index j ∷ js) f w x h n e = absurd f.0
read_one (whole_index ∷ is) (any_index ∷ js) f (single m) x h n e = no_some e
read_one (whole_index ∷ is) (any_index ∷ js) f (matrix ks vs) x h n e =
    let p : _ = map_is (λ us. matrix ks (as_parts us)) (all_defined (map (read_value js) (listed_values vs))) (single n) e in absurd (cc p.2)
read_one (decided_index s ∷ is) (at_index j ∷ js) f (single m) x h n e = no_some e
read_one (decided_index s ∷ is) (at_index j ∷ js) f (matrix ks vs) (single t) h n e = absurd h
read_one (decided_index s ∷ is) (at_index j ∷ js) f (matrix ks vs) (matrix ls xs) h n e =
    let p : _ = then_is (read_value js) (part_at ks vs j) (single n) e in
    one_of_parts ks vs xs j p.0 h.1 p.1 n (parts_left is) (λ y l. read_one is js f.1 p.0 y l n p.2)
read_one (decided_index s ∷ is) (any_index ∷ js) f w x h n e = absurd f.0

in_later : (n : ℤ) (zs ys : List Span) → LiesInOne n (reaches ys) → LiesInOne n (reaches (zs ++ ys))
in_later n [] ys h = h
in_later n (z ∷ zs) ys h = inr (in_later n zs ys h)

one_span : (n : ℤ) (xs : List Extent) → OneHolds n xs → LiesInOne n (reaches (flat_map scalars_of xs))
unfolding scalars_of
one_span n [] h = absurd h
one_span n (single s ∷ xs) (inl h) = inl h
one_span n (single s ∷ xs) (inr h) = inr (one_span n xs h)
one_span n (matrix is ys ∷ xs) (inl h) = absurd h
one_span n (matrix is ys ∷ xs) (inr h) = in_later n (scalars_of_all ys) (flat_map scalars_of xs) (one_span n xs h)

integer_lies : (of_cell : Bool) (n : ℤ) (spans : List Span) → LiesInOne n (reaches spans) → LiesIn n (read_span of_cell Scalar.Int spans).reach
unfolding read_span wide_span
integer_lies false n spans h = hull_lies n (reaches spans) h
integer_lies true n [] h = absurd h
integer_lies true n (c ∷ []) (inl h) = h
integer_lies true n (c ∷ []) (inr h) = absurd h
integer_lies true n (c ∷ d ∷ spans) h = hull_lies n (reaches (c ∷ d ∷ spans)) h

-- ---- Boolean cells

-- each scalar is a Boolean's
abbrev EachTruth : List Span → Type 0
EachTruth [] = Unit {0}
EachTruth (s ∷ ss) = (s.reach ≡ truth_interval) × EachTruth ss

abbrev mutual
  pub IsTruths : Extent → Type 0
  IsTruths (single s) = s.reach ≡ truth_interval
  IsTruths (matrix is xs) = AreTruths xs

  AreTruths : Grids Span → Type 0
  AreTruths no_values = Unit {0}
  AreTruths (value_and x xs) = IsTruths x × AreTruths xs

abbrev EachTruths : List Extent → Type 0
EachTruths [] = Unit {0}
EachTruths (x ∷ xs) = IsTruths x × EachTruths xs

truths_append : (xs ys : List Extent) → EachTruths xs → EachTruths ys → EachTruths (xs ++ ys)
truths_append [] ys h k = k
truths_append (x ∷ xs) ys h k = (h.0, truths_append xs ys h.1 k)

truths_flat : (f : Extent → List Extent) → ((y : Extent) → IsTruths y → EachTruths (f y)) → (xs : List Extent) → EachTruths xs → EachTruths (flat_map f xs)
truths_flat f each [] h = tt
truths_flat f each (x ∷ xs) h = truths_append (f x) (flat_map f xs) (each x h.0) (truths_flat f each xs h.1)

truth_append : (xs ys : List Span) → EachTruth xs → EachTruth ys → EachTruth (xs ++ ys)
truth_append [] ys h k = k
truth_append (x ∷ xs) ys h k = (h.0, truth_append xs ys h.1 k)

mutual
  unfolding scalars_of

  truth_scalars : (x : Extent) → IsTruths x → EachTruth (scalars_of x)
  truth_scalars (single s) h = (h, tt)
  truth_scalars (matrix is xs) h = truth_scalars_all xs h

  truth_scalars_all : (xs : Grids Span) → AreTruths xs → EachTruth (scalars_of_all xs)
  truth_scalars_all no_values h = tt
  truth_scalars_all (value_and x xs) h = truth_append (scalars_of x) (scalars_of_all xs) (truth_scalars x h.0) (truth_scalars_all xs h.1)

truth_flat : (xs : List Extent) → EachTruths xs → EachTruth (flat_map scalars_of xs)
truth_flat [] h = tt
truth_flat (x ∷ xs) h = truth_append (scalars_of x) (flat_map scalars_of xs) (truth_scalars x h.0) (truth_flat xs h.1)

truths_listed : (xs : Grids Span) → AreTruths xs → EachTruths (listed_values xs)
unfolding listed_values
truths_listed no_values h = tt
truths_listed (value_and x xs) h = (h.0, truths_listed xs h.1)

truths_part : (ks : List ℤ) (xs : Grids Span) (j : ℤ) → AreTruths xs → EachTruths (option_to_list (part_at ks xs j))
unfolding part_at
truths_part [] xs j h = tt
truths_part (k ∷ ks) no_values j h = tt
truths_part (k ∷ ks) (value_and x xs) j h = go (int_eq j k) (truths_part ks xs j h.1)
  where
    go : (b : Bool) → EachTruths (option_to_list (part_at ks xs j)) → EachTruths (option_to_list (if b then Some x else part_at ks xs j))
    go true later = (h.0, tt)
    go false later = later

truths_left : (i : MeasuredIndex) (ks : List ℤ) (xs : Grids Span) → AreTruths xs → EachTruths (left_by i ks xs)
unfolding left_by
truths_left (fixed_index None) ks xs h = tt
truths_left (fixed_index (Some j)) ks xs h = truths_part ks xs j h
truths_left whole_index ks xs h = truths_listed xs h
truths_left (decided_index s) ks xs h = truths_listed xs h

parts_truths : (is : List MeasuredIndex) (x : Extent) → IsTruths x → EachTruths (parts_left is x)
unfolding parts_left
parts_truths [] x h = (h, tt)
parts_truths (i ∷ is) (single s) h = tt
parts_truths (i ∷ is) (matrix ks xs) h = truths_flat (parts_left is) (λ y k. parts_truths is y k) (left_by i ks xs) (truths_left i ks xs h)

copies_truths : (x : Extent) → IsTruths x → (ix : List ℤ) → AreTruths (as_parts (map (λ (i : ℤ). x) ix))
unfolding as_parts
copies_truths x h [] = tt
copies_truths x h (i ∷ ix) = (h, copies_truths x h ix)

filled_truths : (s : Span) → s.reach ≡ truth_interval → (indices : List (List ℤ)) → IsTruths (filled s indices)
unfolding filled
filled_truths s h [] = h
filled_truths s h (ix ∷ inner) = copies_truths (filled s inner) (filled_truths s h inner) ix

boolean_lies : (of_cell : Bool) (n : ℤ) (spans : List Span) → is_number_of Scalar.Bool n ≡ true → (of_cell ≡ true → EachTruth spans) → LiesIn n (read_span of_cell Scalar.Bool spans).reach
unfolding read_span
boolean_lies false n spans bit each = bit_lies n bit
boolean_lies true n [] bit each = bit_lies n bit
boolean_lies true n (c ∷ []) bit each = subst (λ i. LiesIn n i) (sym (each refl).0) (bit_lies n bit)
boolean_lies true n (c ∷ d ∷ spans) bit each = bit_lies n bit

left_integer : (k : ℕ) → left_type k Scalar.Int ≡ ValueType.Bool → ⊥
unfolding left_type of_scalar
left_integer zero e = cc
left_integer (suc k) e = cc

-- what is read as a Boolean holds Booleans
pub bound_truths : (bound : Option Bound) → is_decision bound ≡ true → (t : ValueType) → named_type (option_map meaning_in bound) ≡ typed t
    → (ts : List ValueType) (slices : ℕ) → read_type t ts slices ≡ typed ValueType.Bool → IsTruths (named_extent bound)
unfolding is_decision named_type meaning_in named_extent read_type shape_type of_scalar cell_span cell_reach
bound_truths None d t h ts slices e = truths_differ d
bound_truths (Some (has_value u v)) d t h ts slices e = truths_differ d
bound_truths (Some (has_domain s is ns)) d t h ts slices e = truths_differ d
bound_truths (Some (has_cells Scalar.Bool is ns)) d t h ts slices e = filled_truths (cell_span Scalar.Bool ns) refl is
bound_truths (Some (has_cells Scalar.Int [] ns)) d t h ts slices e =
    mistyped_is (ap (λ u. read_type u ts slices) (typed_is h) ∙ e)
bound_truths (Some (has_cells Scalar.Int (i ∷ is) ns)) d t h ts slices e =
    let g : _ = gives_is (left_type (length (i ∷ is) - length ts) Scalar.Int) _ ValueType.Bool (ap (λ u. read_type u ts slices) (typed_is h) ∙ e) in
    absurd (left_integer (length (i ∷ is) - length ts) g.0)

pub decision_name : (env : Env) (m : ExprTree) → is_decision_name env m ≡ true → (p : Place) × (name : Name) × (m ≡ named p name) × (decisions_in env name ≡ true)
unfolding is_decision_name
decision_name env (named p name) h = (p, name, refl, h)
decision_name env _ h = truths_differ h

-- ---- a matrix that is read

slices_lie : (f : ValueTree → Option ValueTree) (g : Extent → Option Extent)
    → ((w : ValueTree) (x : Extent) → LiesWithin w x → (u : ValueTree) → f w ≡ Some u → (y : Extent) × (g x ≡ Some y) × LiesWithin u y)
    → (vs : ValueTrees) (xs : Grids Span) → LieWithin vs xs → (us : List ValueTree) → all_defined (map f (listed_values vs)) ≡ Some us
    → (ys : List Extent) × (all_defined (map g (listed_values xs)) ≡ Some ys) × LieWithin (as_parts us) (as_parts ys)
unfolding listed_values as_parts all_defined
slices_lie f g each no_values no_values h us e = ([], refl, subst (λ l. LieWithin (as_parts l) no_values) (some_is e) tt)
slices_lie f g each no_values (value_and x xs) h us e = absurd h
slices_lie f g each (value_and v vs) no_values h us e = absurd h
slices_lie f g each (value_and v vs) (value_and x xs) h us e =
    let p : _ = defined_first (f v) (map f (listed_values vs)) us e in
    let a : _ = each v x h.0 p.0 p.2 in
    let b : _ = slices_lie f g each vs xs h.1 p.1 p.3 in (
      a.0 ∷ b.0,
      defined_more (g x) a.0 (map g (listed_values xs)) b.0 a.1 b.1,
      subst (λ l. LieWithin (as_parts l) (as_parts (a.0 ∷ b.0))) p.4 (a.2, b.2),
    )

slice_lies : (js : List Index) (w : ValueTree) (x : Extent) → LiesWithin w x → (u : ValueTree) → read_value js w ≡ Some u
    → (y : Extent) × (read_value js x ≡ Some y) × LiesWithin u y
unfolding read_value
slice_lies [] w x h u e = (x, refl, subst (λ z. LiesWithin z x) (some_is e) h)
slice_lies (at_index j ∷ js) (single n) x h u e = no_some e
slice_lies (any_index ∷ js) (single n) x h u e = no_some e
slice_lies (at_index j ∷ js) (matrix ks vs) (single s) h u e = absurd h
slice_lies (any_index ∷ js) (matrix ks vs) (single s) h u e = absurd h
slice_lies (at_index j ∷ js) (matrix ks vs) (matrix ls xs) h u e =
    let p : _ = then_is (read_value js) (part_at ks vs j) u e in
    let q : _ = part_lies ks vs xs j p.0 h.1 p.1 in
    let r : _ = slice_lies js p.0 q.0 q.2 u p.2 in (
      r.0,
      ap (λ l. option_and_then (read_value js) (part_at l xs j)) (sym h.0) ∙ ap (option_and_then (read_value js)) q.1 ∙ r.1,
      r.2,
    )
slice_lies (any_index ∷ js) (matrix ks vs) (matrix ls xs) h u e =
    let p : _ = map_is (λ us. matrix ks (as_parts us)) (all_defined (map (read_value js) (listed_values vs))) u e in
    let q : _ = slices_lie (read_value js) (read_value js) (λ w x k z d. slice_lies js w x k z d) vs xs h.1 p.0 p.1 in (
      matrix ls (as_parts q.0),
      ap (option_map (λ ys. matrix ls (as_parts ys))) q.1,
      subst (λ z. LiesWithin z (matrix ls (as_parts q.0))) p.2 (h.0, q.2),
    )

-- ---- what a read gives

plain_result : (mode : Mode) (t : ValueType) (o : Option ValueTree) (v : ValueTree) → (t ≡ ValueType.Bool → ⊥) → read_result mode t o ≡ Some v → o ≡ Some v
unfolding read_result
plain_result Mode.Relational ValueType.Bool o v other e = absurd (other refl)
plain_result Mode.Relational ValueType.Int o v other e = e
plain_result Mode.Relational (ValueType.Matrix k s) o v other e = e
plain_result Mode.Relational ValueType.Empty o v other e = e
plain_result Mode.Strict t o v other e = e

slice_within : (is : List MeasuredIndex) (x : Extent) (o : Option (List Index)) (m : Option ValueTree) → Within x m → ((js : List Index) → o ≡ Some js → all_defined (map plain_index is) ≡ Some js)
    → Within (slice_extent is x) (on_both o m read_value)
unfolding slice_extent
slice_within is x o m w plain v e =
    let p : _ = both_is o m read_value v e in
    let q : _ = slice_lies p.0 p.1 x (w p.1 p.3) v p.4 in
    subst (λ l. LiesWithin v (unwrap_or l no_extent)) (sym (ap (option_and_then (λ js. read_value js x)) (plain p.0 p.2) ∙ q.1)) q.2

-- A read gives what lies in what is known of it.
pub read_within : (mode : Mode) (t : ValueType) (of_cell : Bool) (is : List MeasuredIndex) (x : Extent) (o : Option (List Index)) (m : Option ValueTree)
    → ((js : List Index) → o ≡ Some js → Matched Follows is js) → Within x m
    → ((v : ValueTree) → read_result mode t (on_both o m read_value) ≡ Some v → IsOf t v)
    → (t ≡ ValueType.Bool → of_cell ≡ true → IsTruths x)
    → (is_integer t ≡ false → (js : List Index) → o ≡ Some js → all_defined (map plain_index is) ≡ Some js)
    → Within (read_extent t of_cell is x) (read_result mode t (on_both o m read_value))
unfolding read_extent is_integer
read_within mode ValueType.Bool of_cell is x o m follows w of_type truths plain (single n) e =
    boolean_lies of_cell n (flat_map scalars_of (parts_left is x)) (of_type (single n) e) (λ c. truth_flat (parts_left is x) (parts_truths is x (truths refl c)))
read_within mode ValueType.Bool of_cell is x o m follows w of_type truths plain (matrix ks vs) e = absurd (of_type (matrix ks vs) e)
read_within mode ValueType.Int of_cell is x o m follows w of_type truths plain (single n) e =
    let p : _ = both_is o m read_value (single n) (plain_result mode ValueType.Int (on_both o m read_value) (single n) (λ d. cc) e) in
    integer_lies of_cell n (flat_map scalars_of (parts_left is x)) (one_span n (parts_left is x) (read_one is p.0 (follows p.0 p.2) p.1 x (w p.1 p.3) n p.4))
read_within mode ValueType.Int of_cell is x o m follows w of_type truths plain (matrix ks vs) e = absurd (of_type (matrix ks vs) e)
read_within mode (ValueType.Matrix k s) of_cell is x o m follows w of_type truths plain v e =
    slice_within is x o m w (plain refl) v (plain_result mode (ValueType.Matrix k s) (on_both o m read_value) v (λ d. cc) e)
read_within mode ValueType.Empty of_cell is x o m follows w of_type truths plain v e =
    slice_within is x o m w (plain refl) v (plain_result mode ValueType.Empty (on_both o m read_value) v (λ d. cc) e)
