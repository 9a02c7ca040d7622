-- Values that fit make a reading of the cells.
use Rattle.ep_unroll.proofs.Words.{◌≡◌, ℕ, suc, ◌+◌, ◌*◌, Bool, true, false, ℤ, List, [], ◌∷◌, ◌++◌, length, Some, None, refl, sym, ap, subst, ◌∙◌, arith, slice_get, append_assoc, Option, bytes_eq, if◌then◌else◌, ◌&&◌, ◌==◌, option_map, sum_by, append-nil, length-append, sum_by-cons, map_is, no_some, some_is, then_is, has_number, Name, Instance, IsClosed, clause_env, Bound, Env, has_cells, has_domain, has_value, shape_type, put_all, decisions_in, is_decision, Assigned, Fits, Found, cell_count, cells_bound, found_values, under, ValueTree, ValueTrees, all_defined, all_fitted, as_parts, fitted, matrix, no_values, scalar_fits, scalars_of, scalars_of_all, single, value_and, with_indices, Scalar, Mode, found_alike, taken_from, bound_numbers, found_numbers, numbering, Reading, ReadsName, cells_value, each_from}
use Rattle.ep_tree.specs.Binding.{Find}
use Rattle.ep_unroll.specs.Firsts.{first_of}

-- ---- a value over index domains, by the numbers of its cells

at_seam : (pre post : List ℤ) (n : ℤ) → slice_get (pre ++ n ∷ post) (length pre) ≡ Some n
at_seam [] post n = refl
at_seam (x ∷ pre) post n = at_seam pre post n

refits : (n : ℤ) (w : ValueTree) (b : Bool) → (if b then Some (single n) else None) ≡ Some w → single n ≡ w
refits n w true e = some_is e
refits n w false e = no_some e

record Indexed (indices : List ℤ) (ws : List ValueTree) (w : ValueTree) : Type 0 where
  pub long : length indices ≡ length ws
  pub is : matrix indices (as_parts ws) ≡ w

indexed : (indices : List ℤ) (ws : List ValueTree) (w : ValueTree) → with_indices indices ws ≡ Some w → Indexed indices ws w
unfolding with_indices
indexed indices ws w e = go (length indices == length ws) refl e
  where
    go : (b : Bool) → (length indices == length ws) ≡ b → (if b then Some (matrix indices (as_parts ws)) else None) ≡ Some w → Indexed indices ws w
    go true same h = record { long = grind (arith, same); is = some_is h }
    go false same h = no_some h

none_times : (n : ℕ) → 0 ≡ 0 * n
none_times n = omega arith

one_more : (a b k n : ℕ) → a ≡ n → b ≡ k * n → a + b ≡ suc k * n
one_more a b k n p q = grind (arith, p, q)

mutual
  unfolding fitted all_fitted as_parts scalars_of scalars_of_all cell_count

  -- as many scalars as cells
  many_scalars : (own wanted : Scalar) (passes : ℤ → Bool) (indices : List (List ℤ)) (v w : ValueTree) → fitted own wanted passes indices v ≡ Some w
      → length (scalars_of w) ≡ cell_count indices
  many_scalars own wanted passes [] (single n) w e =
      subst (λ x. length (scalars_of x) ≡ 1) (refits n w (scalar_fits own wanted && passes n) e) refl
  many_scalars own wanted passes (ix ∷ inner) (single n) w e = no_some e
  many_scalars own wanted passes [] (matrix old parts) w e = no_some e
  many_scalars own wanted passes (ix ∷ inner) (matrix old parts) w e =
      let p : _ = then_is (with_indices ix) (all_fitted own wanted passes inner parts) w e in
      let q : _ = indexed ix p.0 w p.2 in
      subst (λ x. length (scalars_of x) ≡ length ix * cell_count inner) q.is
      (many_in_parts own wanted passes inner parts p.0 p.1 ∙ ap (λ k. k * cell_count inner) (sym q.long))

  many_in_parts : (own wanted : Scalar) (passes : ℤ → Bool) (inner : List (List ℤ)) (vs : ValueTrees) (ws : List ValueTree) → all_fitted own wanted passes inner vs ≡ Some ws
      → length (scalars_of_all (as_parts ws)) ≡ length ws * cell_count inner
  many_in_parts own wanted passes inner no_values ws e =
      subst (λ xs. length (scalars_of_all (as_parts xs)) ≡ length xs * cell_count inner) (some_is e) (none_times (cell_count inner))
  many_in_parts own wanted passes inner (value_and v vs) ws e =
      let p : _ = then_is (λ x. option_map (λ xs. x ∷ xs) (all_fitted own wanted passes inner vs)) (fitted own wanted passes inner v) ws e in
      let q : _ = map_is (λ xs. p.0 ∷ xs) (all_fitted own wanted passes inner vs) ws p.2 in
      subst (λ xs. length (scalars_of_all (as_parts xs)) ≡ length xs * cell_count inner) q.2
      (length-append (scalars_of p.0) (scalars_of_all (as_parts q.0))
      ∙ one_more (length (scalars_of p.0)) (length (scalars_of_all (as_parts q.0))) (length q.0) (cell_count inner)
      (many_scalars own wanted passes inner v p.0 p.1) (many_in_parts own wanted passes inner vs q.0 q.1))

no_indices : (ix : List ℤ) (ws : List ValueTree) (f : ℕ → Option ValueTree) (step k : ℕ) → [] ≡ ws → length ix ≡ length ws → all_defined (each_from f step k ix) ≡ Some ws
unfolding each_from all_defined
no_indices [] ws f step k none same = ap Some none
no_indices (i ∷ ix) ws f step k none same = absurd (let long : suc (length ix) ≡ 0 = same ∙ ap length (sym none) in omega (arith, long))

some_indices : (ix : List ℤ) (xs : List ValueTree) (x : ValueTree) (ws : List ValueTree) (f : ℕ → Option ValueTree) (step k : ℕ) → length ix ≡ suc (length xs) → x ∷ xs ≡ ws
    → f k ≡ Some x → ((rest : List ℤ) → length rest ≡ length xs → all_defined (each_from f step (k + step) rest) ≡ Some xs) → all_defined (each_from f step k ix) ≡ Some ws
unfolding each_from all_defined
some_indices [] xs x ws f step k same whole one others = absurd (omega (arith, same))
some_indices (i ∷ ix) xs x ws f step k same whole one others =
    ap (λ o. all_defined (o ∷ each_from f step (k + step) ix)) one
    ∙ ap (option_map (λ ys. x ∷ ys)) (others ix (omega (arith, same))) ∙ ap Some whole

mutual
  unfolding fitted all_fitted as_parts scalars_of scalars_of_all cell_count cells_value each_from all_defined

  -- the value of the cells from a number on
  cells_are : (own wanted : Scalar) (passes : ℤ → Bool) (indices : List (List ℤ)) (v w : ValueTree) → fitted own wanted passes indices v ≡ Some w
      → (numbers pre post : List ℤ) (k : ℕ) → numbers ≡ pre ++ (scalars_of w ++ post) → length pre ≡ k → cells_value numbers indices k ≡ Some w
  cells_are own wanted passes [] (single n) w e numbers pre post k whole long =
      let is : single n ≡ w = refits n w (scalar_fits own wanted && passes n) e in
      ap (λ xs. option_map single (slice_get xs k)) (whole ∙ ap (λ x. pre ++ (scalars_of x ++ post)) (sym is))
      ∙ ap (λ j. option_map single (slice_get (pre ++ n ∷ post) j)) (sym long)
      ∙ ap (option_map single) (at_seam pre post n) ∙ ap Some is
  cells_are own wanted passes (ix ∷ inner) (single n) w e numbers pre post k whole long = no_some e
  cells_are own wanted passes [] (matrix old parts) w e numbers pre post k whole long = no_some e
  cells_are own wanted passes (ix ∷ inner) (matrix old parts) w e numbers pre post k whole long =
      let p : _ = then_is (with_indices ix) (all_fitted own wanted passes inner parts) w e in
      let q : _ = indexed ix p.0 w p.2 in
      ap (option_map (λ vs. matrix ix (as_parts vs)))
      (parts_are own wanted passes inner parts p.0 p.1 ix q.long numbers pre post k (whole ∙ ap (λ x. pre ++ (scalars_of x ++ post)) (sym q.is)) long)
      ∙ ap Some q.is

  parts_are : (own wanted : Scalar) (passes : ℤ → Bool) (inner : List (List ℤ)) (vs : ValueTrees) (ws : List ValueTree) → all_fitted own wanted passes inner vs ≡ Some ws
      → (ix : List ℤ) → length ix ≡ length ws → (numbers pre post : List ℤ) (k : ℕ) → numbers ≡ pre ++ (scalars_of_all (as_parts ws) ++ post) → length pre ≡ k
      → all_defined (each_from (cells_value numbers inner) (cell_count inner) k ix) ≡ Some ws
  parts_are own wanted passes inner no_values ws e ix same numbers pre post k whole long =
      no_indices ix ws (cells_value numbers inner) (cell_count inner) k (some_is e) same
  parts_are own wanted passes inner (value_and v vs) ws e ix same numbers pre post k whole long =
      let p : _ = then_is (λ x. option_map (λ xs. x ∷ xs) (all_fitted own wanted passes inner vs)) (fitted own wanted passes inner v) ws e in
      let q : _ = map_is (λ xs. p.0 ∷ xs) (all_fitted own wanted passes inner vs) ws p.2 in
      let longer : length ix ≡ suc (length q.0) = same ∙ ap length (sym q.2) in
      let cut : numbers ≡ pre ++ ((scalars_of p.0 ++ scalars_of_all (as_parts q.0)) ++ post) = whole ∙ ap (λ xs. pre ++ (scalars_of_all (as_parts xs) ++ post)) (sym q.2) in
      some_indices ix q.0 p.0 ws (cells_value numbers inner) (cell_count inner) k longer q.2
      (cells_are own wanted passes inner v p.0 p.1 numbers pre (scalars_of_all (as_parts q.0) ++ post) k
      (cut ∙ ap (λ xs. pre ++ xs) (append_assoc (scalars_of p.0) (scalars_of_all (as_parts q.0)) post)) long)
      (λ rest few. parts_are own wanted passes inner vs q.0 q.1 rest few numbers (pre ++ scalars_of p.0) post (k + cell_count inner)
      (cut ∙ ap (λ xs. pre ++ xs) (append_assoc (scalars_of p.0) (scalars_of_all (as_parts q.0)) post) ∙ sym (append_assoc pre (scalars_of p.0) (scalars_of_all (as_parts q.0) ++ post)))
      (length-append pre (scalars_of p.0) ∙ ap (λ j. length pre + j) (many_scalars own wanted passes inner v p.0 p.1) ∙ ap (λ j. j + cell_count inner) long))

-- ---- decision variables, one after another

undecided_reads : (first : Option ℕ) (numbers : List ℤ) (o : Option Bound) → is_decision o ≡ false → ReadsName first numbers o o
unfolding is_decision ReadsName
undecided_reads first numbers None h = tt
undecided_reads first numbers (Some (has_value t v)) h = tt
undecided_reads first numbers (Some (has_cells s is vs)) h = absurd cc
undecided_reads first numbers (Some (has_domain s is vs)) h = tt

one_of : (b : Bool) (k : ℕ) (others : Option ℕ) (numbers : List ℤ) (s : Scalar) (indices : List (List ℤ)) (values : List ℤ) (v : ValueTree) (c d : Option Bound)
    → cells_value numbers indices k ≡ Some v → ReadsName others numbers c d
    → ReadsName (if b then Some k else others) numbers (if b then Some (has_cells s indices values) else c) (if b then Some (has_value (shape_type s indices) v) else d)
unfolding ReadsName
one_of true k others numbers s indices values v c d e h = (k, v, refl, refl, e)
one_of false k others numbers s indices values v c d e h = h

pub reads_names : (fs : List Find) (a : Assigned) (found : Found) (env : Env) → found_values fs a ≡ Some found → ((name : Name) → decisions_in env name ≡ false)
    → (numbers pre post : List ℤ) (k : ℕ) → numbers ≡ pre ++ (found_numbers found ++ post) → length pre ≡ k
    → (name : Name) → ReadsName (first_of fs k name) numbers (put_all (cells_bound fs) env name) (put_all found env name)
unfolding found_values put_all cells_bound first_of found_numbers bound_numbers ReadsName
reads_names [] a found env e none numbers pre post k whole long name =
    subst (λ fd. ReadsName None numbers (env name) (put_all fd env name)) (some_is e) (undecided_reads None numbers (env name) (none name))
reads_names (f ∷ fs) a found env e none numbers pre post k whole long name =
    let t = taken_from f fs a found e in
    let cut : numbers ≡ pre ++ ((scalars_of t.value ++ found_numbers t.rest) ++ post) = whole ∙ ap (λ fd. pre ++ (found_numbers fd ++ post)) (sym t.whole) in
    let again : numbers ≡ pre ++ (scalars_of t.value ++ (found_numbers t.rest ++ post)) = cut ∙ ap (λ xs. pre ++ xs) (append_assoc (scalars_of t.value) (found_numbers t.rest) post) in
    subst (λ fd. ReadsName (first_of (f ∷ fs) k name) numbers (put_all (cells_bound (f ∷ fs)) env name) (put_all fd env name)) t.whole
    (one_of (bytes_eq name f.name) k (first_of fs (k + cell_count f.indices) name) numbers f.scalar f.indices f.values t.value (put_all (cells_bound fs) env name) (put_all t.rest env name)
    (cells_are t.own f.scalar (has_number f.values) f.indices t.given t.value t.fits numbers pre (found_numbers t.rest ++ post) k again long)
    (reads_names fs a t.rest env t.others none numbers (pre ++ scalars_of t.value) post (k + cell_count f.indices)
    (again ∙ sym (append_assoc pre (scalars_of t.value) (found_numbers t.rest ++ post)))
    (length-append pre (scalars_of t.value) ∙ ap (λ j. length pre + j) (many_scalars t.own f.scalar (has_number f.values) f.indices t.given t.value t.fits) ∙ ap (λ j. j + cell_count f.indices) long) name))

pub many_numbers : (fs : List Find) (a : Assigned) (found : Found) → found_values fs a ≡ Some found → sum_by (λ f. cell_count f.indices) fs ≡ length (found_numbers found)
unfolding found_values found_numbers bound_numbers
many_numbers [] a found e = ap (λ fd. length (found_numbers fd)) (some_is e)
many_numbers (f ∷ fs) a found e =
    let t = taken_from f fs a found e in
    sum_by-cons (λ g. cell_count g.indices) f fs
    ∙ ap (λ k. k + sum_by (λ g. cell_count g.indices) fs) (sym (many_scalars t.own f.scalar (has_number f.values) f.indices t.given t.value t.fits))
    ∙ ap (λ k. length (scalars_of t.value) + k) (many_numbers fs a t.rest t.others)
    ∙ sym (length-append (scalars_of t.value) (found_numbers t.rest))
    ∙ ap (λ fd. length (found_numbers fd)) t.whole

-- Values of the decision variables that fit are a reading of the cells.
unfoldable pub found_reading : (mode : Mode) (i : Instance) (a : Assigned) (found : Found) → IsClosed i → Fits i a found → Reading (numbering mode i.finds) (clause_env i)
found_reading mode i a found closed fits = record {
  numbers = found_numbers found;
  values = under i found;
  reads = record {
    agree = (found_alike i closed a found fits).agree;
    typed = (found_alike i closed a found fits).typed;
    names = reads_names i.finds a found i.env fits.values closed.decided (found_numbers found) [] [] 0 (sym (append-nil (found_numbers found))) refl;
    long = (let same = many_numbers i.finds a found fits.values in omega (arith, same));
  };
}
