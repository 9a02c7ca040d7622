-- Values that fit the decision variables of a closed instance: they agree with the cells, and are of their types.
use Rattle.std.specs.Prelude.{◌≡◌, ◌&&◌, ◌||◌, List, [], ◌∷◌, length, ℤ, Bool, true, false, if◌then◌else◌, IsTrue, Some, None, All, bytes_eq, Option, option_and_then, option_map, refl}
use Rattle.std.proofs.Common.{ap, subst, sym, ◌∙◌}
use Rattle.std.proofs.lemmas.List.Elements.{All-head, All-tail}
use Rattle.std.specs.List.{list_all}
use Rattle.std.specs.Ordering.{int_eq}
use Rattle.std.proofs.lemmas.Bool.Decides.{Decides-int_eq}
use Rattle.ep_base.specs.Numbers.{has_number}
use Rattle.ep_base.specs.declared.names.Name.{Name}
use Rattle.ep_tree.proofs.TypedEvaluation.{with_indices_is}
use Rattle.ep_tree.proofs.TypedFitting.{fitted_typed}
use Rattle.ep_tree.proofs.TypedParts.{and_left, and_right, both_is, map_is, no_some, some_is, then_is, truths_differ}
use Rattle.ep_tree.specs.Agreement.{AgreeOn}
use Rattle.ep_tree.specs.Binding.{Find, Instance}
use Rattle.ep_tree.specs.Closed.{IsClosed, clause_env}
use Rattle.ep_tree.specs.Environments.{Bound, Env, has_cells, has_domain, has_value, shape_type}
use Rattle.ep_tree.specs.Names.{put_all}
use Rattle.ep_tree.specs.Reach.{decisions_in, is_decision}
use Rattle.ep_tree.specs.Solutions.{Assigned, Fits, Found, cells_bound, find_type, fitted_find, found_values, named_in, under}
use Rattle.ep_tree.specs.TypedValues.{IsOf, IsOfDims, IsTypedBound, IsTypedEnv, is_number_of}
use Rattle.ep_tree.specs.Types.{of_scalar, scalar_of}
use Rattle.ep_tree.specs.Values.{ValueTree, ValueTrees, all_fitted, as_parts, fitted, matrix, no_values, scalar_fits, single, value_and, with_indices}
use Rattle.ep_tree.specs.declared.values.Scalar.{Scalar}
use Rattle.ep_reach_laws.proofs.AlikeEnvironments.{Alike}
use Rattle.ep_reach_laws.proofs.Cells.{number_fits}

-- ---- a fitted value fits again

fits_own : (s : Scalar) → scalar_fits s s ≡ true
unfolding scalar_fits
fits_own Scalar.Bool = refl
fits_own Scalar.Int = refl

number_again : (s : Scalar) (passes : ℤ → Bool) (n : ℤ) → passes n ≡ true → fitted s s passes [] (single n) ≡ Some (single n)
unfolding fitted
number_again s passes n h =
    ap (λ a. if a && passes n then Some (single n) else None) (fits_own s)
    ∙ ap (λ b. if b then Some (single n) else None) h

mutual
  unfolding fitted as_parts

  -- A fitted value fits again, and is then itself.
  pub fits_again : (own wanted : Scalar) (passes : ℤ → Bool) (indices : List (List ℤ)) (v w : ValueTree) → fitted own wanted passes indices v ≡ Some w
      → fitted wanted wanted passes indices w ≡ Some w
  fits_again own wanted passes [] (single n) w e =
      let p : _ = number_fits n w (scalar_fits own wanted) (passes n) e in
      subst (λ x. fitted wanted wanted passes [] x ≡ Some x) p.1 (number_again wanted passes n p.0)
  fits_again own wanted passes (ix ∷ inner) (single n) w e = no_some e
  fits_again own wanted passes [] (matrix old parts) w e = no_some e
  fits_again own wanted passes (ix ∷ inner) (matrix old parts) w e =
      let p : _ = then_is (with_indices ix) (all_fitted own wanted passes inner parts) w e in
      let q : _ = with_indices_is ix p.0 w p.2 in
      subst (λ x. fitted wanted wanted passes (ix ∷ inner) x ≡ Some x) q.1
      (ap (option_and_then (with_indices ix)) (parts_fit_again own wanted passes inner parts p.0 p.1) ∙ p.2 ∙ ap Some (sym q.1))

  -- The same of each part.
  parts_fit_again : (own wanted : Scalar) (passes : ℤ → Bool) (inner : List (List ℤ)) (vs : ValueTrees) (ws : List ValueTree) → all_fitted own wanted passes inner vs ≡ Some ws
      → all_fitted wanted wanted passes inner (as_parts ws) ≡ Some ws
  parts_fit_again own wanted passes inner no_values ws e = subst (λ xs. all_fitted wanted wanted passes inner (as_parts xs) ≡ Some xs) (some_is e) refl
  parts_fit_again own wanted passes inner (value_and v vs) ws e =
      let p : _ = then_is (λ x. option_map (λ xs. x ∷ xs) (all_fitted own wanted passes inner vs)) (fitted own wanted passes inner v) ws e in
      let q : _ = map_is (λ xs. p.0 ∷ xs) (all_fitted own wanted passes inner vs) ws p.2 in
      subst (λ xs. all_fitted wanted wanted passes inner (as_parts xs) ≡ Some xs) q.2
      (ap (option_and_then (λ x. option_map (λ xs. x ∷ xs) (all_fitted wanted wanted passes inner (as_parts q.0)))) (fits_again own wanted passes inner v p.0 p.1)
      ∙ ap (option_map (λ xs. p.0 ∷ xs)) (parts_fit_again own wanted passes inner vs q.0 q.1))

-- ---- it is of its type

-- a number that stands in a list passes what all of it passes
one_passes : (p : ℤ → Bool) (n : ℤ) (ns : List ℤ) → list_all p ns ≡ true → has_number ns n ≡ true → p n ≡ true
unfolding has_number
one_passes p n [] h k = truths_differ k
one_passes p n (m ∷ ns) h k = by (int_eq n m) refl k (λ l. one_passes p n ns (and_right (p m) (list_all p ns) h) l)
  where
    by : (b : Bool) → int_eq n m ≡ b → (b || has_number ns n) ≡ true → (has_number ns n ≡ true → p n ≡ true) → p n ≡ true
    by true is l below = ap p ((Decides-int_eq n m).0 is) ∙ and_left (p m) (list_all p ns) h
    by false is l below = below l

shaped : (s : Scalar) (indices : List (List ℤ)) (v : ValueTree) → IsOfDims s (length indices) v → IsOf (shape_type s indices) v
unfolding shape_type of_scalar
shaped Scalar.Bool [] v h = h
shaped Scalar.Int [] v h = h
shaped s (i ∷ is) v h = h

fit_bound : (s : Scalar) (values : List ℤ) (own : Scalar) (indices : List (List ℤ)) (v w : ValueTree) → list_all (is_number_of s) values ≡ true
    → fitted own s (has_number values) indices v ≡ Some w → IsTypedBound (Some (has_value (shape_type s indices) w))
unfolding IsTypedBound
fit_bound s values own indices v w all e =
    shaped s indices w (fitted_typed own s (has_number values) (λ n h. one_passes (is_number_of s) n values all h) indices v w e)

-- ---- decision variables, one after another

-- a decision variable with its value, and the others
pub record Taken (f : Find) (fs : List Find) (a : Assigned) (found : Found) : Type 0 where
  pub value : ValueTree
  pub rest : Found
  pub given : ValueTree
  pub own : Scalar
  pub fits : fitted own f.scalar (has_number f.values) f.indices given ≡ Some value
  pub others : found_values fs a ≡ Some rest
  pub whole : (f.name, has_value (find_type f) value) ∷ rest ≡ found

-- what decision variables take is what the first one takes, and what the others do
pub taken_from : (f : Find) (fs : List Find) (a : Assigned) (found : Found) → found_values (f ∷ fs) a ≡ Some found → Taken f fs a found
unfolding found_values fitted_find
taken_from f fs a found e =
    let p : _ = both_is (option_and_then (fitted_find f) (named_in a f.name)) (found_values fs a) (λ v rest. Some ((f.name, has_value (find_type f) v) ∷ rest)) found e in
    let q : _ = then_is (fitted_find f) (named_in a f.name) p.0 p.2 in
    record { value = p.0; rest = p.1; given = q.0.value; own = scalar_of q.0.ty; fits = q.2; others = p.3; whole = some_is p.4 }

undecided_agrees : (o : Option Bound) → is_decision o ≡ false → AgreeOn o o
unfolding is_decision
undecided_agrees None h = refl
undecided_agrees (Some (has_value t v)) h = refl
undecided_agrees (Some (has_cells s is vs)) h = absurd cc
undecided_agrees (Some (has_domain s is vs)) h = refl

one_agrees : (b : Bool) (f : Find) (v : ValueTree) (c d : Option Bound) → fitted f.scalar f.scalar (has_number f.values) f.indices v ≡ Some v → AgreeOn c d
    → AgreeOn (if b then Some (has_cells f.scalar f.indices f.values) else c) (if b then Some (has_value (find_type f) v) else d)
one_agrees true f v c d e h = (v, refl, e)
one_agrees false f v c d e h = h

one_typed : (b : Bool) (x y : Option Bound) → IsTypedBound x → IsTypedBound y → IsTypedBound (if b then x else y)
one_typed true x y h k = h
one_typed false x y h k = k

agrees_names : (fs : List Find) (a : Assigned) (found : Found) (env : Env) → found_values fs a ≡ Some found → ((name : Name) → decisions_in env name ≡ false)
    → (name : Name) → AgreeOn (put_all (cells_bound fs) env name) (put_all found env name)
unfolding found_values put_all cells_bound
agrees_names [] a found env e none name = subst (λ fd. AgreeOn (env name) (put_all fd env name)) (some_is e) (undecided_agrees (env name) (none name))
agrees_names (f ∷ fs) a found env e none name =
    let t : _ = taken_from f fs a found e in
    subst (λ fd. AgreeOn (put_all (cells_bound (f ∷ fs)) env name) (put_all fd env name)) t.whole
    (one_agrees (bytes_eq name f.name) f t.value (put_all (cells_bound fs) env name) (put_all t.rest env name)
    (fits_again t.own f.scalar (has_number f.values) f.indices t.given t.value t.fits) (agrees_names fs a t.rest env t.others none name))

typed_names : (fs : List Find) (a : Assigned) (found : Found) (env : Env) → found_values fs a ≡ Some found → All (λ f. IsTrue (list_all (is_number_of f.scalar) f.values)) fs → IsTypedEnv env
    → (name : Name) → IsTypedBound (put_all found env name)
unfolding found_values put_all
typed_names [] a found env e values h name = subst (λ fd. IsTypedBound (put_all fd env name)) (some_is e) (h name)
typed_names (f ∷ fs) a found env e values h name =
    let t : _ = taken_from f fs a found e in
    subst (λ fd. IsTypedBound (put_all fd env name)) t.whole
    (one_typed (bytes_eq name f.name) (Some (has_value (find_type f) t.value)) (put_all t.rest env name)
    (fit_bound f.scalar f.values t.own f.indices t.given t.value (All-head (λ g. IsTrue (list_all (is_number_of g.scalar) g.values)) f fs values) t.fits)
    (typed_names fs a t.rest env t.others (All-tail (λ g. IsTrue (list_all (is_number_of g.scalar) g.values)) f fs values) h name))

-- The cells of an instance and values that fit.
pub found_alike : (i : Instance) → IsClosed i → (a : Assigned) (found : Found) → Fits i a found → Alike (clause_env i) (under i found)
found_alike i closed a found fits = record {
  agree = agrees_names i.finds a found i.env fits.values closed.decided;
  typed = typed_names i.finds a found i.env fits.values closed.values closed.of_types;
}
