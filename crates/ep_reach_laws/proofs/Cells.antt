-- Values of decision variables in the extents of their cells.
use Rattle.std.specs.Prelude.{◌≡◌, suc, ◌≤ℤ◌, ◌||◌, ◌&&◌, List, [], ◌∷◌, map, length, ℤ, Bool, true, false, if◌then◌else◌, fold, Some, None, Option, option_map, refl}
use Rattle.std.proofs.Common.{ap, arith, subst, sym, ◌∙◌, ◌⊎◌, inl, inr}
use Rattle.std.proofs.lemmas.Int.{ints}
use Rattle.std.specs.Int.{int_max, int_min}
use Rattle.std.specs.List.{list_any}
use Rattle.std.specs.Ordering.{int_eq}
use Rattle.ep_base.specs.Intervals.{Interval, LiesIn, greatest_or_zero, highs, hull, least_or_zero, lows, spanned}
use Rattle.ep_base.specs.Numbers.{greatest_of, has_number, least_of}
use Rattle.ep_tree.proofs.TypedEvaluation.{with_indices_is}
use Rattle.ep_tree.proofs.TypedParts.{map_is, no_some, some_is, then_is, truths_differ}
use Rattle.ep_tree.specs.Agreement.{AgreeOn, LieWithin, LiesWithin}
use Rattle.ep_tree.specs.Environments.{Bound, has_cells, has_domain, has_value, shape_type, value_bound}
use Rattle.ep_tree.specs.Reach.{Extent, cell_reach, cell_span, is_decision, named_extent}
use Rattle.ep_tree.specs.TypedValues.{AreOfDims, IsOf, IsOfDims, IsTypedBound, is_number_of}
use Rattle.ep_tree.specs.Types.{of_scalar}
use Rattle.ep_tree.specs.Values.{ValueTree, ValueTrees, all_fitted, as_parts, filled, fitted, matrix, no_values, scalar_fits, single, value_and, with_indices}
use Rattle.ep_tree.specs.declared.values.Scalar.{Scalar}
use Rattle.ep_reach_laws.specs.Reaches.{LiesInOne}
use Rattle.ep_reach_laws.proofs.Extents.{Within, bit_lies}

-- ---- the least and the greatest of some numbers

-- one of some numbers is at most another; at least another
abbrev OneBelow : ℤ → List ℤ → Type 0
OneBelow n [] = ⊥
OneBelow n (x ∷ xs) = (x ≤ℤ n) ⊎ OneBelow n xs

abbrev OneAbove : ℤ → List ℤ → Type 0
OneAbove n [] = ⊥
OneAbove n (x ∷ xs) = (n ≤ℤ x) ⊎ OneAbove n xs

fold_below : (n a : ℤ) (xs : List ℤ) → (a ≤ℤ n) ⊎ OneBelow n xs → fold int_min a xs ≤ℤ n
fold_below n a [] (inl h) = h
fold_below n a [] (inr h) = absurd h
fold_below n a (x ∷ xs) (inl h) = fold_below n (int_min a x) xs (inl (grind (arith, ints)))
fold_below n a (x ∷ xs) (inr (inl h)) = fold_below n (int_min a x) xs (inl (grind (arith, ints)))
fold_below n a (x ∷ xs) (inr (inr h)) = fold_below n (int_min a x) xs (inr h)

fold_above : (n a : ℤ) (xs : List ℤ) → (n ≤ℤ a) ⊎ OneAbove n xs → n ≤ℤ fold int_max a xs
fold_above n a [] (inl h) = h
fold_above n a [] (inr h) = absurd h
fold_above n a (x ∷ xs) (inl h) = fold_above n (int_max a x) xs (inl (grind (arith, ints)))
fold_above n a (x ∷ xs) (inr (inl h)) = fold_above n (int_max a x) xs (inl (grind (arith, ints)))
fold_above n a (x ∷ xs) (inr (inr h)) = fold_above n (int_max a x) xs (inr h)

least_below : (n : ℤ) (xs : List ℤ) → OneBelow n xs → least_or_zero xs ≤ℤ n
unfolding least_or_zero least_of
least_below n [] h = absurd h
least_below n (x ∷ xs) h = fold_below n x xs h

greatest_above : (n : ℤ) (xs : List ℤ) → OneAbove n xs → n ≤ℤ greatest_or_zero xs
unfolding greatest_or_zero greatest_of
greatest_above n [] h = absurd h
greatest_above n (x ∷ xs) h = fold_above n x xs h

one_low : (n : ℤ) (is : List Interval) → LiesInOne n is → OneBelow n (lows is)
one_low n [] h = absurd h
one_low n (i ∷ is) (inl h) = inl h.0
one_low n (i ∷ is) (inr h) = inr (one_low n is h)

one_high : (n : ℤ) (is : List Interval) → LiesInOne n is → OneAbove n (highs is)
one_high n [] h = absurd h
one_high n (i ∷ is) (inl h) = inl h.1
one_high n (i ∷ is) (inr h) = inr (one_high n is h)

-- what lies in one of some intervals lies from their least lower end to their greatest upper end
pub hull_lies : (n : ℤ) (is : List Interval) → LiesInOne n is → LiesIn n (hull is)
unfolding hull
hull_lies n is h = (least_below n (lows is) (one_low n is h), greatest_above n (highs is) (one_high n is h))

has_below : (n : ℤ) (xs : List ℤ) → list_any (λ y. int_eq n y) xs ≡ true → OneBelow n xs × OneAbove n xs
has_below n [] h = truths_differ h
has_below n (x ∷ xs) h = go (int_eq n x) refl h (has_below n xs)
  where
    go : (b : Bool) → int_eq n x ≡ b → (b || list_any (λ y. int_eq n y) xs) ≡ true → (list_any (λ y. int_eq n y) xs ≡ true → OneBelow n xs × OneAbove n xs)
        → OneBelow n (x ∷ xs) × OneAbove n (x ∷ xs)
    go true e h later = (inl (grind (arith, ints, e)), inl (grind (arith, ints, e)))
    go false e h later = let q : _ = later h in (inr q.0, inr q.1)

spanned_lies : (n : ℤ) (xs : List ℤ) → has_number xs n ≡ true → LiesIn n (spanned xs)
unfolding has_number spanned
spanned_lies n xs h = let q : _ = has_below n xs h in (least_below n xs q.0, greatest_above n xs q.1)

-- ---- one cell

pub cell_lies : (s : Scalar) (values : List ℤ) (n : ℤ) → is_number_of s n ≡ true → has_number values n ≡ true → LiesIn n (cell_span s values).reach
unfolding cell_span cell_reach
cell_lies Scalar.Bool values n bit has = bit_lies n bit
cell_lies Scalar.Int values n bit has = spanned_lies n values has

pub number_fits : (n : ℤ) (w : ValueTree) (a b : Bool) → (if a && b then Some (single n) else None) ≡ Some w → (b ≡ true) × (single n ≡ w)
number_fits n w true true e = (refl, some_is e)
number_fits n w true false e = no_some e
number_fits n w false b e = no_some e

-- ---- all cells

none_left : (x : Extent) (ix : List ℤ) → length ix ≡ 0 → LieWithin no_values (as_parts (map (λ (i : ℤ). x) ix))
unfolding as_parts
none_left x [] l = tt
none_left x (i ∷ ix) l = absurd cc

one_more : (x : Extent) (v : ValueTree) (vs : List ValueTree) (ix : List ℤ) → length ix ≡ length (v ∷ vs) → LiesWithin v x
    → ((is : List ℤ) → length is ≡ length vs → LieWithin (as_parts vs) (as_parts (map (λ (i : ℤ). x) is))) → LieWithin (as_parts (v ∷ vs)) (as_parts (map (λ (i : ℤ). x) ix))
unfolding as_parts
one_more x v vs [] l h each = absurd cc
one_more x v vs (i ∷ ix) l h each = (h, each ix (omega (arith, l)))

mutual
  unfolding fitted filled as_parts

  -- a value that fits lies in the extents of the cells
  fits_cells : (own s : Scalar) (values : List ℤ) (indices : List (List ℤ)) (v w : ValueTree) → fitted own s (has_number values) indices v ≡ Some w → IsOfDims s (length indices) w
      → LiesWithin w (filled (cell_span s values) indices)
  fits_cells own s values [] (single n) w e typed =
      let p : _ = number_fits n w (scalar_fits own s) (has_number values n) e in
      subst (λ u. IsOfDims s 0 u → LiesWithin u (single (cell_span s values))) p.1 (λ bit. cell_lies s values n bit p.0) typed
  fits_cells own s values [] (matrix old parts) w e typed = no_some e
  fits_cells own s values (ix ∷ inner) (single n) w e typed = no_some e
  fits_cells own s values (ix ∷ inner) (matrix old parts) w e typed =
      let p : _ = then_is (with_indices ix) (all_fitted own s (has_number values) inner parts) w e in
      let q : _ = with_indices_is ix p.0 w p.2 in
      subst (λ u. IsOfDims s (suc (length inner)) u → LiesWithin u (matrix ix (as_parts (map (λ (i : ℤ). filled (cell_span s values) inner) ix)))) q.1
      (λ t. (refl, parts_fit_cells own s values inner parts p.0 ix p.1 q.0 t.1)) typed

  parts_fit_cells : (own s : Scalar) (values : List ℤ) (inner : List (List ℤ)) (vs : ValueTrees) (ws : List ValueTree) (ix : List ℤ)
      → all_fitted own s (has_number values) inner vs ≡ Some ws → length ix ≡ length ws → AreOfDims s (length inner) (as_parts ws)
      → LieWithin (as_parts ws) (as_parts (map (λ (i : ℤ). filled (cell_span s values) inner) ix))
  parts_fit_cells own s values inner no_values ws ix e l t =
      subst (λ (xs : List ValueTree). length ix ≡ length xs → LieWithin (as_parts xs) (as_parts (map (λ (i : ℤ). filled (cell_span s values) inner) ix))) (some_is e)
      (none_left (filled (cell_span s values) inner) ix) l
  parts_fit_cells own s values inner (value_and v vs) ws ix e l t =
      let p : _ = then_is (λ x. option_map (λ xs. x ∷ xs) (all_fitted own s (has_number values) inner vs)) (fitted own s (has_number values) inner v) ws e in
      let q : _ = map_is (λ xs. p.0 ∷ xs) (all_fitted own s (has_number values) inner vs) ws p.2 in
      subst (λ (xs : List ValueTree). length ix ≡ length xs → AreOfDims s (length inner) (as_parts xs) → LieWithin (as_parts xs) (as_parts (map (λ (i : ℤ). filled (cell_span s values) inner) ix))) q.2
      (λ m u. one_more (filled (cell_span s values) inner) p.0 q.0 ix m (fits_cells own s values inner v p.0 p.1 u.0)
      (λ is k. parts_fit_cells own s values inner vs q.0 is q.1 k u.1)) l t

dims_of : (s : Scalar) (is : List (List ℤ)) (v : ValueTree) → IsOf (shape_type s is) v → IsOfDims s (length is) v
unfolding shape_type of_scalar
dims_of Scalar.Bool [] v h = h
dims_of Scalar.Int [] v h = h
dims_of s (i ∷ is) v h = h

-- A decision variable's value lies in the extents of its cells.
pub named_within : (bound other : Option Bound) → AgreeOn bound other → IsTypedBound other → is_decision bound ≡ true → Within (named_extent bound) (value_bound other)
unfolding named_extent value_bound IsTypedBound is_decision
named_within None other h typed d v e = truths_differ d
named_within (Some (has_value t w)) other h typed d v e = truths_differ d
named_within (Some (has_domain s is ns)) other h typed d v e = truths_differ d
named_within (Some (has_cells s is ns)) other h typed d v e =
    subst (λ u. LiesWithin u (filled (cell_span s ns) is)) (some_is (sym (ap value_bound h.1) ∙ e))
    (fits_cells s s ns is h.0 h.0 h.2 (dims_of s is h.0 (subst IsTypedBound h.1 typed)))
