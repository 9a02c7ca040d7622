-- The parts of a matrix, fitted one by one.
use Rattle.std.proofs.Common.{◌≡◌, ℕ, suc, ◌+◌, Bool, true, false, ◌&&◌, ℤ, List, [], ◌∷◌, ◌++◌, map, length, drop, Option, Some, None, refl, sym, ap, ◌∙◌, arith, option_map, if◌then◌else◌, ◌==◌}
use Rattle.std.specs.Prelude.{option_and_then}
use Rattle.std.proofs.lemmas.List.{append-nil, drop_all}
use Rattle.ep_tree.specs.Values.{ValueTree, all_fitted, as_parts, fitted, matrix, scalar_fits, single, value_and, with_indices}
use Rattle.ep_tree.specs.Views.{value_tree, values_from}
use Rattle.ep_tree.specs.declared.values.Scalar.{Scalar}
use Rattle.ep_tree.specs.declared.values.Value.{Value}
use Rattle.ep_instance_parts.specs.declared.elements.Elements.{Elements}
use Rattle.ep_instance_parts.specs.Elements.{PassesAs}

-- so many parts are fitted, and what all of them give is these before what the others give
pub record FitsSoFar (elements : Elements) (own wanted : Scalar) (inner : List (List ℤ)) (parts : List Value) (k : ℕ) (done : List Value) : Type 0 where
  pub rest : (passes : ℤ → Bool) → PassesAs elements passes
      → all_fitted own wanted passes inner (values_from parts)
      ≡ option_map (λ xs. map value_tree done ++ xs) (all_fitted own wanted passes inner (values_from (drop k parts)))

same_option : {A : Type 0} (o : Option A) → o ≡ option_map (λ x. x) o
same_option None = refl
same_option (Some x) = refl

pub none_fitted : (elements : Elements) (own wanted : Scalar) (inner : List (List ℤ)) (parts : List Value) → FitsSoFar elements own wanted inner parts 0 []
none_fitted elements own wanted inner parts = record { rest = λ passes h. same_option (all_fitted own wanted passes inner (values_from parts)) }

-- what all parts give, by what the first gives and what the others give
fitted_first : (own wanted : Scalar) (passes : ℤ → Bool) (inner : List (List ℤ)) (v : Value) (vs : List Value) (first : Option ValueTree)
    → first ≡ fitted own wanted passes inner (value_tree v)
    → all_fitted own wanted passes inner (values_from (v ∷ vs))
    ≡ option_and_then (λ x. option_map (λ xs. x ∷ xs) (all_fitted own wanted passes inner (values_from vs))) first
unfolding fitted values_from
fitted_first own wanted passes inner v vs first e =
    ap (option_and_then (λ x. option_map (λ xs. x ∷ xs) (all_fitted own wanted passes inner (values_from vs)))) (sym e)

push_first : (done : List Value) (v : Value) (xs : List ValueTree) → map value_tree done ++ (value_tree v ∷ xs) ≡ map value_tree (done ++ v ∷ []) ++ xs
push_first [] v xs = refl
push_first (d ∷ done) v xs = ap (λ rest. value_tree d ∷ rest) (push_first done v xs)

joined_maps : (done : List Value) (v : Value) (o : Option (List ValueTree))
    → option_map (λ xs. map value_tree done ++ xs) (option_map (λ xs. value_tree v ∷ xs) o) ≡ option_map (λ xs. map value_tree (done ++ v ∷ []) ++ xs) o
joined_maps done v None = refl
joined_maps done v (Some xs) = ap Some (push_first done v xs)

-- one part, whose copy is what fitting it gives
pub record IsFit (elements : Elements) (own wanted : Scalar) (inner : List (List ℤ)) (v : Value) (fit : Option Value) : Type 0 where
  pub same : (passes : ℤ → Bool) → PassesAs elements passes → option_map value_tree fit ≡ fitted own wanted passes inner (value_tree v)

-- one part more
pub one_fitted : (elements : Elements) (own wanted : Scalar) (inner : List (List ℤ)) (parts : List Value) (k : ℕ) (done : List Value) (v fit : Value)
    → drop k parts ≡ v ∷ drop (k + 1) parts → FitsSoFar elements own wanted inner parts k done
    → IsFit elements own wanted inner v (Some fit) → FitsSoFar elements own wanted inner parts (k + 1) (done ++ fit ∷ [])
one_fitted elements own wanted inner parts k done v fit cut h one = record {
  rest = λ passes agrees.
      h.rest passes agrees
      ∙ ap (λ vs. option_map (λ xs. map value_tree done ++ xs) (all_fitted own wanted passes inner (values_from vs))) cut
      ∙ ap (option_map (λ xs. map value_tree done ++ xs)) (fitted_first own wanted passes inner v (drop (k + 1) parts) (Some (value_tree fit)) (one.same passes agrees))
      ∙ joined_maps done fit (all_fitted own wanted passes inner (values_from (drop (k + 1) parts)));
}

-- a part that doesn't fit
pub one_unfitted : (elements : Elements) (own wanted : Scalar) (inner : List (List ℤ)) (parts : List Value) (k : ℕ) (done : List Value) (v : Value)
    → drop k parts ≡ v ∷ drop (k + 1) parts → FitsSoFar elements own wanted inner parts k done
    → IsFit elements own wanted inner v None
    → (passes : ℤ → Bool) → PassesAs elements passes → all_fitted own wanted passes inner (values_from parts) ≡ None
one_unfitted elements own wanted inner parts k done v cut h one passes agrees =
    h.rest passes agrees
    ∙ ap (λ vs. option_map (λ xs. map value_tree done ++ xs) (all_fitted own wanted passes inner (values_from vs))) cut
    ∙ ap (option_map (λ xs. map value_tree done ++ xs)) (fitted_first own wanted passes inner v (drop (k + 1) parts) None (one.same passes agrees))

-- a matrix whose parts don't all fit
pub unfitted_matrix : (own wanted : Scalar) (passes : ℤ → Bool) (first : List ℤ) (inner : List (List ℤ)) (old : List ℤ) (parts : List Value)
    → all_fitted own wanted passes inner (values_from parts) ≡ None
    → None ≡ fitted own wanted passes (first ∷ inner) (matrix old (values_from parts))
unfolding fitted
unfitted_matrix own wanted passes first inner old parts e = sym (ap (option_and_then (with_indices first)) e)

pub unfitted_scalar : (own wanted : Scalar) (passes : ℤ → Bool) (old : List ℤ) (parts : List Value)
    → None ≡ fitted own wanted passes [] (matrix old (values_from parts))
unfolding fitted
unfitted_scalar own wanted passes old parts = refl

-- one value more, for one part more
counted_more : (n : ℕ) (first : Option ValueTree) (rest : Option (List ValueTree)) → ((zs : List ValueTree) → rest ≡ Some zs → length zs ≡ n)
    → (ys : List ValueTree) → option_and_then (λ x. option_map (λ zs. x ∷ zs) rest) first ≡ Some ys → length ys ≡ suc n
counted_more n None rest h ys e = cc
counted_more n (Some x) None h ys e = cc
counted_more n (Some x) (Some zs) h [] e = cc
counted_more n (Some x) (Some zs) h (y ∷ ys) e =
    let same : zs ≡ ys = cc in
    ap suc (sym (ap length same) ∙ h zs refl)

-- as many values as parts
counted_parts : (own wanted : Scalar) (passes : ℤ → Bool) (inner : List (List ℤ)) (parts : List Value) (xs : List ValueTree)
    → all_fitted own wanted passes inner (values_from parts) ≡ Some xs → length xs ≡ length parts
unfolding fitted values_from
counted_parts own wanted passes inner [] [] e = refl
counted_parts own wanted passes inner [] (x ∷ xs) e = cc
counted_parts own wanted passes inner (v ∷ vs) xs e =
    counted_more (length vs) (fitted own wanted passes inner (value_tree v)) (all_fitted own wanted passes inner (values_from vs))
    (counted_parts own wanted passes inner vs) xs e

-- a matrix with more or fewer parts than the index domain has numbers
pub miscounted_matrix : (own wanted : Scalar) (passes : ℤ → Bool) (first : List ℤ) (inner : List (List ℤ)) (old : List ℤ) (parts : List Value)
    → (length first == length parts) ≡ false
    → None ≡ fitted own wanted passes (first ∷ inner) (matrix old (values_from parts))
unfolding fitted with_indices
miscounted_matrix own wanted passes first inner old parts e = go (all_fitted own wanted passes inner (values_from parts)) refl
  where
    go : (o : Option (List ValueTree)) → all_fitted own wanted passes inner (values_from parts) ≡ o → None ≡ option_and_then (with_indices first) o
    go None h = refl
    go (Some xs) h =
        sym
        (ap (λ n. if length first == n then Some (matrix first (as_parts xs)) else None) (counted_parts own wanted passes inner parts xs h)
        ∙ ap (λ b. if b then Some (matrix first (as_parts xs)) else None) e)

parts_of : (done : List Value) → as_parts (map value_tree done) ≡ values_from done
unfolding as_parts values_from
parts_of [] = refl
parts_of (v ∷ vs) = ap (λ rest. value_and (value_tree v) rest) (parts_of vs)

-- a matrix with as many parts as the index domain has numbers, all of which fit
pub fitted_matrix : (elements : Elements) (own wanted : Scalar) (first : List ℤ) (inner : List (List ℤ)) (old : List ℤ) (parts done : List Value)
    → (length first == length parts) ≡ true
    → FitsSoFar elements own wanted inner parts (length parts) done
    → (passes : ℤ → Bool) → PassesAs elements passes
    → Some (matrix first (values_from done)) ≡ fitted own wanted passes (first ∷ inner) (matrix old (values_from parts))
unfolding fitted with_indices values_from
fitted_matrix elements own wanted first inner old parts done e h passes agrees =
    let ys : List ValueTree = map value_tree done in
    let all : all_fitted own wanted passes inner (values_from parts) ≡ Some ys =
    h.rest passes agrees
    ∙ ap (λ vs. option_map (λ xs. ys ++ xs) (all_fitted own wanted passes inner (values_from vs))) (drop_all (length parts) parts (omega arith))
    ∙ ap Some (append-nil ys) in
    sym
    (ap (option_and_then (with_indices first)) all
    ∙ ap (λ n. if length first == n then Some (matrix first (as_parts ys)) else None) (counted_parts own wanted passes inner parts ys all)
    ∙ ap (λ b. if b then Some (matrix first (as_parts ys)) else None) e
    ∙ ap (λ rest. Some (matrix first rest)) (parts_of done))

-- a number where an index domain is left
pub deep_number : (own wanted : Scalar) (passes : ℤ → Bool) (indices : List (List ℤ)) (n : ℤ) → (length indices ≡ 0 → ⊥) → None ≡ fitted own wanted passes indices (single n)
unfolding fitted
deep_number own wanted passes [] n h = absurd (h refl)
deep_number own wanted passes (i ∷ is) n h = refl

-- a number where none is left
pub flat_number : (own wanted : Scalar) (passes : ℤ → Bool) (indices : List (List ℤ)) (n : ℤ) (b : Bool) → length indices ≡ 0
    → b ≡ (scalar_fits own wanted && passes n) → (if b then Some (single n) else None) ≡ fitted own wanted passes indices (single n)
unfolding fitted
flat_number own wanted passes [] n b h e = ap (λ t. if t then Some (single n) else None) e
flat_number own wanted passes (i ∷ is) n b h e = absurd (omega (arith, h))

-- the same with equal index domains and values
pub fitted_alike : (own wanted : Scalar) (passes : ℤ → Bool) (is js : List (List ℤ)) (v w : ValueTree) (x : Option ValueTree)
    → is ≡ js → v ≡ w → x ≡ fitted own wanted passes js w → x ≡ fitted own wanted passes is v
fitted_alike own wanted passes is js v w x p q h = h ∙ sym (ap (λ i. fitted own wanted passes i v) p ∙ ap (fitted own wanted passes js) q)

pub no_elements : {A : Type 0} (xs : List A) → length xs ≡ 0 → xs ≡ []
no_elements [] h = refl
no_elements (x ∷ xs) h = absurd (omega (arith, h))
