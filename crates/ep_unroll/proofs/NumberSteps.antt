-- The terms of what was unrolled, as numbers.
use Rattle.ep_unroll.proofs.Words.{◌≡◌, ℕ, ℤ, List, [], ◌∷◌, Some, None, refl, sym, ap, subst, ◌∙◌, slice_get, Option, length, option_map, unwrap_or, append-nil, GroundNode, cell, constant, undefined, node_value, term_value, only_cells_is, Bound, Env, has_cells, has_domain, has_value, number_in, ExprTree, ValueTree, as_parts, matrix, single, Scalar, only_cells, Puts, AreTerms, IsNumberOf, Means, worth, HasNumber, Numbering, cells_value, Unrolled, Number}
use Rattle.ep_unroll.proofs.FormValues.{grows_on}

pub constant_number : (old new : List GroundNode) (x : ℤ) (o : Option ℤ) (t : ℕ) → o ≡ Some x → Puts old new (constant x) t → HasNumber old new (λ numbers. o) t
unfolding node_value
constant_number old new x o t is put = record { grows = put.grows; known = put.known; value = λ numbers. put.value numbers ∙ sym is }

pub undefined_number : (old new : List GroundNode) (number : List ℤ → Option ℤ) (t : ℕ) → ((numbers : List ℤ) → number numbers ≡ None) → Puts old new undefined t → HasNumber old new number t
unfolding node_value
undefined_number old new number t none put = record { grows = put.grows; known = put.known; value = λ numbers. put.value numbers ∙ sym (none numbers) }

pub cell_is : (o : Option ℤ) → o ≡ number_in (option_map single o)
unfolding number_in
cell_is None = refl
cell_is (Some x) = refl

pub cell_number : (old new : List GroundNode) (k : ℕ) (indices : List (List ℤ)) (t : ℕ) → indices ≡ [] → Puts old new (cell k) t
    → HasNumber old new (λ numbers. number_in (cells_value numbers indices k)) t
unfolding node_value cells_value
cell_number old new k indices t none put = record {
  grows = put.grows;
  known = put.known;
  value = λ numbers.
      put.value numbers ∙ cell_is (slice_get numbers k) ∙ ap (λ is. number_in (cells_value numbers is k)) (sym none);
}

-- a number that is the same
pub has_same : (old new : List GroundNode) (number other : List ℤ → Option ℤ) (t : ℕ) → ((numbers : List ℤ) → number numbers ≡ other numbers) → HasNumber old new number t → HasNumber old new other t
has_same old new number other t same h = record { grows = h.grows; known = h.known; value = λ numbers. h.value numbers ∙ same numbers }

-- a term that was there
pub number_kept : (nodes : List GroundNode) (t : ℕ) → AreTerms (length nodes) (Number t) → HasNumber nodes nodes (λ numbers. number_in (worth nodes numbers (Number t))) t
unfolding worth AreTerms
number_kept nodes t known = record {
  grows = record { more = []; whole = sym (append-nil nodes) };
  known = known;
  value = λ numbers. cell_is (term_value nodes numbers t);
}

pub of_matrix : {A : Type 0} (f : A → ValueTree) (o : Option A) → ((x : A) → number_in (Some (f x)) ≡ None) → number_in (option_map f o) ≡ None
unfolding number_in
of_matrix f None h = refl
of_matrix f (Some x) h = h x

pub cells_none : (numbers : List ℤ) (indices : List (List ℤ)) (first : List ℤ) (inner : List (List ℤ)) (k : ℕ) → indices ≡ first ∷ inner
    → number_in (cells_value numbers indices k) ≡ None
unfolding cells_value number_in
cells_none numbers indices first inner k cut =
    ap (λ is. number_in (cells_value numbers is k)) cut
    ∙ of_matrix (λ vs. matrix first (as_parts vs)) _ (λ vs. refl)

-- the number of what was unrolled
pub number_means : (n : Numbering) (cells : Env) (nodes mid new : List GroundNode) (e : ExprTree) (x : Unrolled) (number : List ℤ → Option ℤ) (t : ℕ)
    → ((numbers : List ℤ) → number_in (worth mid numbers x) ≡ number numbers) → Means n cells nodes mid e x → HasNumber mid new number t → IsNumberOf n cells nodes new e t
number_means n cells nodes mid new e x number t is h has = record {
  grows = grows_on nodes mid new h.grows has.grows;
  known = has.known;
  number = λ r. has.value r.numbers ∙ sym (is r.numbers) ∙ ap number_in (h.value r);
}

some_number : (k m : ℕ) → Some k ≡ Some m → k ≡ m
some_number k m h = ap (λ o. unwrap_or o k) h
