-- Clauses and the objective, one after another.
use Rattle.ep_unroll.proofs.Words.{◌≡◌, ℕ, suc, ◌+◌, ◌<◌, ◌≤◌, false, ℤ, List, [], ◌∷◌, ◌++◌, length, take, get_or, Some, None, refl, sym, ap, subst, ◌∙◌, arith, Option, map, option_map, unwrap_or, All, AllZip, map-append, take_all, take_more, All-push, and-true, all_one, is_one, of_bool, all_there, GroundNode, Env, evaluate, is_true_in, number_in, ExprTree, expr_tree, Expr, AreClauses, IsClauseTerm, Grows, Puts, IsNumberOf, Numbering}
use Rattle.ep_ground.specs.Nodes as node
use Rattle.ep_ground.specs.Terms as ground
use Rattle.ep_ground.specs.Terms.{node_value, term_value, truth as ground_truth}
use Rattle.ep_unroll.proofs.FormValues.{grows_long, grows_on, grown_value, number_grown}
use Rattle.ep_unroll.proofs.MeaningSteps.{grows_none}

one_truth : (o : Option ℤ) → ground_truth (option_map all_one (all_there (o ∷ []))) ≡ Some (of_bool (unwrap_or (option_map is_one o) false))
unfolding ground_truth all_there all_one of_bool
one_truth None = refl
one_truth (Some x) = ap (λ b. Some (of_bool b)) (and-true (is_one x))

pub clause_is : (n : Numbering) (cells : Env) (nodes mid new : List GroundNode) (e : ExprTree) (a t : ℕ) → IsNumberOf n cells nodes mid e a → Puts mid new (node.all_of (a ∷ [])) t → IsClauseTerm n cells nodes new e t
unfolding node_value ground.term_values_of
clause_is n cells nodes mid new e a t h put = record {
  grows = grows_on nodes mid new h.grows put.grows;
  known = put.known;
  value = λ r.
      put.value r.numbers
      ∙ ap (λ o. ground_truth (option_map all_one (all_there (o ∷ [])))) ((number_grown n cells nodes mid new e a put.grows h).number r)
      ∙ one_truth (number_in (evaluate n.mode r.values e));
}

zip_push : {A B : Type 0} (R : A → B → Type 0) (xs : List A) (ys : List B) (x : A) (y : B) → AllZip R xs ys → R x y → AllZip R (xs ++ x ∷ []) (ys ++ y ∷ [])
zip_push R [] [] x y h k = (k, tt)
zip_push R [] (z ∷ ys) x y h k = absurd h
zip_push R (z ∷ xs) [] x y h k = absurd h
zip_push R (z ∷ xs) (w ∷ ys) x y h k = (h.0, zip_push R xs ys x y h.1 k)

pub zip_kept : {B : Type 0} (mid new : List GroundNode) (numbers : List ℤ) (want : B → Option ℤ) (ts : List ℕ) (es : List B) → Grows mid new → All (λ t. t < length mid) ts
    → AllZip (λ t e. term_value mid numbers t ≡ want e) ts es → AllZip (λ t e. term_value new numbers t ≡ want e) ts es
zip_kept mid new numbers want [] [] g known h = tt
zip_kept mid new numbers want [] (e ∷ es) g known h = absurd h
zip_kept mid new numbers want (t ∷ ts) [] g known h = absurd h
zip_kept mid new numbers want (t ∷ ts) (e ∷ es) g known h =
    (grown_value mid new numbers t g (known 0 t (omega arith)) ∙ h.0, zip_kept mid new numbers want ts es g (λ k d less. known (suc k) d (omega (arith, less))) h.1)

pub clauses_begin : (n : Numbering) (env : Env) (old : List GroundNode) (xs : List Expr) (ts : List ℕ) → ts ≡ [] → AreClauses n env old old (map expr_tree (take 0 xs)) ts
clauses_begin n env old xs ts none = record {
  grows = grows_none old old refl;
  known = subst (λ ys. All (λ t. t < length old) ys) (sym none) (λ k d less. absurd (no_less k less));
  values = λ r. subst (λ ys. AllZip (λ t e. term_value old r.numbers t ≡ Some (of_bool (is_true_in n.mode r.values e))) ys []) (sym none) tt;
}
  where
    no_less : (k : ℕ) → k < 0 → ⊥
    no_less k less = omega (arith, less)

pub clauses_more : (n : Numbering) (env : Env) (old mid new : List GroundNode) (xs : List Expr) (k : ℕ) (x d : Expr) (t : ℕ) (ts us : List ℕ) → k < length xs → x ≡ get_or xs k d
    → AreClauses n env old mid (map expr_tree (take k xs)) ts → IsClauseTerm n env mid new (expr_tree x) t → us ≡ ts ++ t ∷ [] → AreClauses n env old new (map expr_tree (take (k + 1) xs)) us
clauses_more n env old mid new xs k x d t ts us h same so one pushed =
    let longer : map expr_tree (take (k + 1) xs) ≡ map expr_tree (take k xs) ++ expr_tree x ∷ [] =
    ap (map expr_tree) (take_more xs k d h ∙ ap (λ y. take k xs ++ y ∷ []) (sym same)) ∙ map-append expr_tree (take k xs) (x ∷ []) in
    record {
      grows = grows_on old mid new so.grows one.grows;
      known = subst (λ ys. All (λ u. u < length new) ys) (sym pushed) (All-push (λ u. u < length new) ts t (λ j e less. grows_long mid new _ one.grows (so.known j e less)) one.known);
      values = λ r.
          subst (λ es. AllZip (λ u e. term_value new r.numbers u ≡ Some (of_bool (is_true_in n.mode r.values e))) us es) (sym longer)
          (subst (λ ys. AllZip (λ u e. term_value new r.numbers u ≡ Some (of_bool (is_true_in n.mode r.values e))) ys (map expr_tree (take k xs) ++ expr_tree x ∷ [])) (sym pushed)
          (zip_push (λ u e. term_value new r.numbers u ≡ Some (of_bool (is_true_in n.mode r.values e))) ts (map expr_tree (take k xs)) t (expr_tree x)
          (zip_kept mid new r.numbers (λ e. Some (of_bool (is_true_in n.mode r.values e))) ts (map expr_tree (take k xs)) one.grows so.known (so.values r)) (one.value r)));
    }

pub clauses_all : (n : Numbering) (env : Env) (old new : List GroundNode) (xs : List Expr) (k : ℕ) (ts : List ℕ) → length xs ≤ k → AreClauses n env old new (map expr_tree (take k xs)) ts → AreClauses n env old new (map expr_tree xs) ts
clauses_all n env old new xs k ts h so = subst (λ ys. AreClauses n env old new (map expr_tree ys) ts) (take_all k xs h) so
