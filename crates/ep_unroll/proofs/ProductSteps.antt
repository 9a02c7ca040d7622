-- Products of terms, from the first to the last.
use Rattle.ep_unroll.proofs.Words.{◌≡◌, ℕ, suc, ◌+◌, ◌<◌, ◌≤◌, ℤ, pos, List, [], ◌∷◌, ◌++◌, length, get_or, take, Some, None, refl, sym, ap, subst, ◌∙◌, arith, Option, ◌*ℤ◌, map, option_map, All, ints, map-append, take_all, take_more, product_of, on_both, all_there, Place, GroundNode, node_value, term_value, evaluate-folded, Env, folded_value, ExprTree, folded, single, FoldOp, times_again, Puts, IsTermOf, HasNumber, Numbering, AreScalarsOf}
use Rattle.ep_ground.specs.Nodes as node
use Rattle.ep_unroll.proofs.FormSteps.{two_known}
use Rattle.ep_unroll.proofs.FormValues.{grown_value, grows_long, grows_on}
use Rattle.ep_unroll.proofs.MatrixSteps.{joined, there_cut}
use Rattle.ep_unroll.proofs.MeaningSteps.{grows_none}

-- the product of some terms, by the values that they have among old nodes
abbrev pub multiplied : List GroundNode → List ℕ → List ℤ → Option ℤ
multiplied nodes ts numbers = option_map product_of (all_there (map (term_value nodes numbers) ts))

-- a term is the product of one and of those before a place among others
abbrev pub ProductTo : List GroundNode → List GroundNode → ℕ → List ℕ → ℕ → ℕ → Type 0
ProductTo old new first others k t = HasNumber old new (multiplied old (first ∷ take k others)) t

times_one : (x : ℤ) → (x *ℤ pos 1) ≡ x
times_one x = omega (arith, ints)

one_times : (x : ℤ) → (x *ℤ pos 1) ≡ (pos 1 *ℤ x)
one_times x = omega (arith, ints)

pub product_begins : (nodes : List GroundNode) (first : ℕ) (others : List ℕ) → first < length nodes → ProductTo nodes nodes first others 0 first
unfolding product_of all_there
product_begins nodes first others known = record {
  grows = grows_none nodes nodes refl;
  known = known;
  value = λ numbers. alone (term_value nodes numbers first);
}
  where
    alone : (o : Option ℤ) → o ≡ option_map product_of (all_there (o ∷ []))
    alone None = refl
    alone (Some x) = ap Some (sym (times_one x))

product_behind : (xs : List ℤ) (y : ℤ) → product_of (xs ++ y ∷ []) ≡ (product_of xs *ℤ y)
unfolding product_of
product_behind [] y = one_times y
product_behind (x ∷ xs) y = ap (λ m. x *ℤ m) (product_behind xs y) ∙ sym (times_again x (product_of xs) y)

step_of : (a : Option (List ℤ)) (o : Option ℤ) → on_both (option_map product_of a) o (λ x y. Some (x *ℤ y)) ≡ option_map product_of (joined a (all_there (o ∷ [])))
unfolding on_both all_there joined
step_of None o = refl
step_of (Some xs) None = refl
step_of (Some xs) (Some y) = ap Some (sym (product_behind xs y))

step : (os : List (Option ℤ)) (o : Option ℤ) → on_both (option_map product_of (all_there os)) o (λ x y. Some (x *ℤ y)) ≡ option_map product_of (all_there (os ++ o ∷ []))
step os o = step_of (all_there os) o ∙ ap (option_map product_of) (sym (there_cut os (o ∷ [])))

pub product_more : (old mid new : List GroundNode) (first : ℕ) (others : List ℕ) (k a d t u : ℕ) → k < length others → a ≡ get_or others k d → a < length old → ProductTo old mid first others k t
    → Puts mid new (node.product t a) u → ProductTo old new first others (k + 1) u
unfolding node_value
product_more old mid new first others k a d t u less same known so put = record {
  grows = grows_on old mid new so.grows put.grows;
  known = put.known;
  value = λ numbers.
      let so_far : List ℕ = first ∷ take k others in
      put.value numbers
      ∙ ap (λ o. on_both o (term_value new numbers a) (λ x y. Some (x *ℤ y))) (grown_value mid new numbers t put.grows so.known ∙ so.value numbers)
      ∙ ap (λ o. on_both (multiplied old so_far numbers) o (λ x y. Some (x *ℤ y))) (grown_value old new numbers a (grows_on old mid new so.grows put.grows) known)
      ∙ step (map (term_value old numbers) so_far) (term_value old numbers a)
      ∙ ap (λ os. option_map product_of (all_there os)) (sym (map-append (term_value old numbers) so_far (a ∷ [])))
      ∙ ap (λ ts. multiplied old (first ∷ ts) numbers) (ap (λ b. take k others ++ b ∷ []) same ∙ sym (take_more others k d less));
}

pub product_all : (old new : List GroundNode) (first : ℕ) (others : List ℕ) (k t : ℕ) → length others ≤ k → ProductTo old new first others k t → HasNumber old new (multiplied old (first ∷ others)) t
product_all old new first others k t least so = subst (λ ts. HasNumber old new (multiplied old (first ∷ ts)) t) (take_all k others least) so

pub product_parts : (old mid : List GroundNode) (first : ℕ) (others : List ℕ) (k a t : ℕ) → a < length old → ProductTo old mid first others k t → All (λ part. part < length mid) (t ∷ a ∷ [])
product_parts old mid first others k a t known so = two_known t a (length mid) so.known (grows_long old mid a so.grows known)

pub product_none : (old new : List GroundNode) (t : ℕ) → Puts old new (node.constant (pos 1)) t → HasNumber old new (multiplied old []) t
unfolding node_value product_of all_there
product_none old new t put = record { grows = put.grows; known = put.known; value = λ numbers. put.value numbers }

pub first_known : (n : ℕ) (ts : List ℕ) (t : ℕ) (us : List ℕ) → ts ≡ t ∷ us → All (λ u. u < n) ts → t < n
first_known n ts t us cut h = subst (All (λ u. u < n)) cut h 0 t (omega arith)

pub others_known : (n : ℕ) (ts : List ℕ) (t : ℕ) (us : List ℕ) → ts ≡ t ∷ us → All (λ u. u < n) ts → All (λ u. u < n) us
others_known n ts t us cut h k d less = subst (All (λ u. u < n)) cut h (suc k) d (omega (arith, less))

pub product_is : (n : Numbering) (cells : Env) (nodes mid new : List GroundNode) (p : Place) (e : ExprTree) (ts : List ℕ) (t : ℕ) → AreScalarsOf n cells nodes mid e ts
    → HasNumber mid new (multiplied mid ts) t → IsTermOf n cells nodes new (folded p FoldOp.Product e) t
unfolding folded_value
product_is n cells nodes mid new p e ts t h own = record {
  grows = grows_on nodes mid new h.grows own.grows;
  known = own.known;
  value = λ r. evaluate-folded n.mode r.values p FoldOp.Product e ∙ ap (λ o. option_map single (option_map product_of o)) (sym (h.scalars r)) ∙ ap (option_map single) (sym (own.value r.numbers));
}
