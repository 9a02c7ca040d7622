-- A value that fits a domain is, fitted, of the domain's type.
use Rattle.std.specs.Prelude.{◌≡◌, suc, Bool, true, false, ◌&&◌, List, [], ◌∷◌, length, ℤ, if◌then◌else◌, Some, None, option_map, refl}
use Rattle.std.proofs.Common.{ap, subst, sym, ◌∙◌}
use Rattle.ep_base.proofs.Small.{map_is, no_some, some_is, then_is}
use Rattle.ep_tree.proofs.TypedEvaluation.{with_indices_is}
use Rattle.ep_tree.proofs.TypedParts.{listed-as_parts}
use Rattle.ep_tree.specs.TypedValues.{AreOfDims, IsOfDims, is_number_of}
use Rattle.ep_tree.specs.Values.{ValueTree, ValueTrees, all_fitted, as_parts, fitted, matrix, no_values, scalar_fits, single, value_and, with_indices}
use Rattle.ep_tree.specs.declared.values.Scalar.{Scalar}

-- a number that passes
number_fits : (own wanted : Scalar) (passes : ℤ → Bool) → ((n : ℤ) → passes n ≡ true → is_number_of wanted n ≡ true)
    → (n : ℤ) (w : ValueTree) (a b : Bool) → passes n ≡ b → (if a && b then Some (single n) else None) ≡ Some w → IsOfDims wanted 0 w
number_fits own wanted passes good n w true true p e = subst (λ x. IsOfDims wanted 0 x) (some_is e) (good n p)
number_fits own wanted passes good n w true false p e = no_some e
number_fits own wanted passes good n w false b p e = no_some e

mutual
  unfolding fitted as_parts

  -- A fitted value has as many dimensions as there are index domains, and numbers of the wanted scalar.
  pub fitted_typed : (own wanted : Scalar) (passes : ℤ → Bool) → ((n : ℤ) → passes n ≡ true → is_number_of wanted n ≡ true)
      → (indices : List (List ℤ)) (v w : ValueTree) → fitted own wanted passes indices v ≡ Some w → IsOfDims wanted (length indices) w
  fitted_typed own wanted passes good [] (single n) w e = number_fits own wanted passes good n w (scalar_fits own wanted) (passes n) refl e
  fitted_typed own wanted passes good (ix ∷ inner) (single n) w e = no_some e
  fitted_typed own wanted passes good [] (matrix old parts) w e = no_some e
  fitted_typed own wanted passes good (ix ∷ inner) (matrix old parts) w e =
      let p : _ = then_is (with_indices ix) (all_fitted own wanted passes inner parts) w e in
      let q : _ = with_indices_is ix p.0 w p.2 in
      subst (λ x. IsOfDims wanted (suc (length inner)) x) q.1
      (q.0 ∙ sym (ap length (listed-as_parts p.0)), parts_typed own wanted passes good inner parts p.0 p.1)

  -- The same of each part.
  pub parts_typed : (own wanted : Scalar) (passes : ℤ → Bool) → ((n : ℤ) → passes n ≡ true → is_number_of wanted n ≡ true)
      → (inner : List (List ℤ)) (vs : ValueTrees) (ws : List ValueTree) → all_fitted own wanted passes inner vs ≡ Some ws → AreOfDims wanted (length inner) (as_parts ws)
  parts_typed own wanted passes good inner no_values ws e = subst (λ xs. AreOfDims wanted (length inner) (as_parts xs)) (some_is e) tt
  parts_typed own wanted passes good inner (value_and v vs) ws e =
      let p : _ = then_is (λ x. option_map (λ xs. x ∷ xs) (all_fitted own wanted passes inner vs)) (fitted own wanted passes inner v) ws e in
      let q : _ = map_is (λ xs. p.0 ∷ xs) (all_fitted own wanted passes inner vs) ws p.2 in
      subst (λ xs. AreOfDims wanted (length inner) (as_parts xs)) q.2
      (fitted_typed own wanted passes good inner v p.0 p.1, parts_typed own wanted passes good inner vs q.0 q.1)
