-- The scalars of matrices as terms.
use Rattle.ep_unroll.proofs.Words.{◌≡◌, ℕ, zero, suc, ◌+◌, ◌*◌, ◌<◌, ℤ, List, [], ◌∷◌, ◌++◌, length, Some, None, refl, sym, ap, ◌∙◌, arith, slice_get, Bool, Option, is_some, map, option_and_then, option_map, All, all_one, any_one, are_different, greatest_of, least_of, all_there, Place, GroundNode, node_value, term_value, evaluate-all_different, evaluate-folded, Env, evaluate, folded_value, number_value, scalars_in, truth_in, cell_count, ExprTree, all_different, folded, ValueTree, all_defined, as_parts, matrix, scalars_of, scalars_of_all, single, FoldOp, Grows, Puts, IsTermOf, ArePartial, HasNumber, Numbering, Reading, cells_value, each_from, AreScalarsOf, cells_from, IsJudged, needed_in}
use Rattle.ep_ground.specs.Nodes as node
use Rattle.ep_ground.specs.Terms as ground
use Rattle.ep_ground.specs.Terms.{truth}
use Rattle.ep_unroll.proofs.FormValues.{grown_value, grows_on, truth_told}
use Rattle.ep_unroll.proofs.TruthSteps.{length_mapped, list_there, there_length, told_both}

-- ---- cells one after another

from_cut : (numbers : List ℤ) (k a b : ℕ) → cells_from numbers k (a + b) ≡ cells_from numbers k a ++ cells_from numbers (k + a) b
unfolding cells_from
from_cut numbers k zero b = ap (λ n. cells_from numbers k n) (none_before b) ∙ ap (λ j. cells_from numbers j b) (none_behind k)
  where
    none_before : (n : ℕ) → 0 + n ≡ n
    none_before n = omega arith

    none_behind : (n : ℕ) → n ≡ n + 0
    none_behind n = omega arith
from_cut numbers k (suc a) b =
    ap (λ n. cells_from numbers k n) (one_more a b)
    ∙ ap (λ xs. slice_get numbers k ∷ xs) (from_cut numbers (suc k) a b ∙ ap (λ j. cells_from numbers (suc k) a ++ cells_from numbers j b) (moved k a))
  where
    one_more : (m n : ℕ) → suc m + n ≡ suc (m + n)
    one_more m n = omega arith

    moved : (m n : ℕ) → suc m + n ≡ m + suc n
    moved m n = omega arith

-- lists joined, where both are there
unfoldable pub joined : Option (List ℤ) → Option (List ℤ) → Option (List ℤ)
joined a b = option_and_then (λ xs. option_map (λ ys. xs ++ ys) b) a

pub there_cut : (xs ys : List (Option ℤ)) → all_there (xs ++ ys) ≡ joined (all_there xs) (all_there ys)
unfolding all_there joined
there_cut [] ys = go (all_there ys)
  where
    go : (o : Option (List ℤ)) → o ≡ option_map (λ zs. [] ++ zs) o
    go None = refl
    go (Some zs) = refl
there_cut (None ∷ xs) ys = refl
there_cut (Some x ∷ xs) ys = ap (option_map (λ zs. x ∷ zs)) (there_cut xs ys) ∙ go (all_there xs) (all_there ys)
  where
    go : (a b : Option (List ℤ)) → option_map (λ zs. x ∷ zs) (option_and_then (λ us. option_map (λ vs. us ++ vs) b) a) ≡ option_and_then (λ us. option_map (λ vs. us ++ vs) b) (option_map (λ zs. x ∷ zs) a)
    go None b = refl
    go (Some us) None = refl
    go (Some us) (Some vs) = refl

-- the scalars of values that are all there
unfoldable pub scalars_each : List (Option ValueTree) → Option (List ℤ)
scalars_each vs = option_map (λ ws. scalars_of_all (as_parts ws)) (all_defined vs)

pub each_cut : (v : Option ValueTree) (vs : List (Option ValueTree)) → scalars_each (v ∷ vs) ≡ joined (option_map scalars_of v) (scalars_each vs)
unfolding scalars_each joined all_defined scalars_of_all as_parts
each_cut None vs = refl
each_cut (Some v) vs = go (all_defined vs)
  where
    go : (o : Option (List ValueTree)) → option_map (λ ws. scalars_of_all (as_parts ws)) (option_map (λ ys. v ∷ ys) o) ≡ option_map (λ ys. scalars_of v ++ ys) (option_map (λ ws. scalars_of_all (as_parts ws)) o)
    go None = refl
    go (Some ws) = refl

pub one_cell : (numbers : List ℤ) (k : ℕ) → all_there (cells_from numbers k 1) ≡ option_map scalars_of (option_map single (slice_get numbers k))
unfolding cells_from all_there scalars_of
one_cell numbers k = go (slice_get numbers k)
  where
    go : (o : Option ℤ) → option_and_then (λ x. option_map (λ xs. x ∷ xs) (Some [])) o ≡ option_map scalars_of (option_map single o)
    go None = refl
    go (Some x) = refl

pub whole_scalars : (own : List ℤ) (o : Option (List ValueTree)) → option_map (λ ws. scalars_of_all (as_parts ws)) o ≡ option_map scalars_of (option_map (λ ws. matrix own (as_parts ws)) o)
unfolding scalars_of
whole_scalars own None = refl
whole_scalars own (Some ws) = refl

no_cells : (numbers : List ℤ) (k c : ℕ) → all_there (cells_from numbers k (0 * c)) ≡ scalars_each []
unfolding cells_from all_there scalars_each all_defined scalars_of_all as_parts
no_cells numbers k c = ap (λ n. all_there (cells_from numbers k n)) (none c)
  where
    none : (n : ℕ) → 0 * n ≡ 0
    none n = omega arith

one_part : (n c : ℕ) → suc n * c ≡ c + n * c
one_part n c = grind arith

each_scalars : (numbers : List ℤ) (inner : List (List ℤ)) → ((j : ℕ) → all_there (cells_from numbers j (cell_count inner)) ≡ option_map scalars_of (cells_value numbers inner j))
    → (own : List ℤ) (k : ℕ) → all_there (cells_from numbers k (length own * cell_count inner)) ≡ scalars_each (each_from (cells_value numbers inner) (cell_count inner) k own)
unfolding each_from
each_scalars numbers inner below [] k = no_cells numbers k (cell_count inner)
each_scalars numbers inner below (i ∷ own) k =
    ap (λ n. all_there (cells_from numbers k n)) (one_part (length own) (cell_count inner))
    ∙ ap all_there (from_cut numbers k (cell_count inner) (length own * cell_count inner))
    ∙ there_cut (cells_from numbers k (cell_count inner)) (cells_from numbers (k + cell_count inner) (length own * cell_count inner))
    ∙ ap (λ a. joined a (all_there (cells_from numbers (k + cell_count inner) (length own * cell_count inner)))) (below k)
    ∙ ap (λ b. joined (option_map scalars_of (cells_value numbers inner k)) b) (each_scalars numbers inner below own (k + cell_count inner))
    ∙ sym (each_cut (cells_value numbers inner k) (each_from (cells_value numbers inner) (cell_count inner) (k + cell_count inner) own))

pub cells_scalars : (numbers : List ℤ) (domains : List (List ℤ)) (k : ℕ) → all_there (cells_from numbers k (cell_count domains)) ≡ option_map scalars_of (cells_value numbers domains k)
unfolding cells_value cell_count scalars_each
cells_scalars numbers [] k = one_cell numbers k
cells_scalars numbers (own ∷ inner) k =
    each_scalars numbers inner (λ j. cells_scalars numbers inner j) own k ∙ whole_scalars own (all_defined (each_from (cells_value numbers inner) (cell_count inner) k own))

-- ---- forms of a list of scalars

pub values_kept : (mid new : List GroundNode) (numbers : List ℤ) (ts : List ℕ) → Grows mid new → All (λ t. t < length mid) ts → map (term_value new numbers) ts ≡ map (term_value mid numbers) ts
values_kept mid new numbers [] g known = refl
values_kept mid new numbers (t ∷ ts) g known =
    ap (λ x. x ∷ map (term_value new numbers) ts) (grown_value mid new numbers t g (known 0 t (omega arith)))
    ∙ ap (λ xs. term_value mid numbers t ∷ xs) (values_kept mid new numbers ts g (λ k d less. known (suc k) d (omega (arith, less))))

-- a truth value by the scalars of one list
pub one_list : (n : Numbering) (cells : Env) (nodes mid new : List GroundNode) (e tree : ExprTree) (ts us : List ℕ) (t : ℕ) (own : GroundNode) (f : Option (List ℤ) → Option Bool)
    → ((r : Reading n cells) → evaluate n.mode r.values tree ≡ truth_in n.mode (f (scalars_in (evaluate n.mode r.values e))))
    → ((numbers : List ℤ) (value : ℕ → Option ℤ) → node_value numbers value own ≡ truth (f (all_there (map value ts))))
    → ((o : Option (List ℤ)) → ((xs : List ℤ) → o ≡ Some xs → length xs ≡ length ts) → is_some o ≡ is_some (f o))
    → AreScalarsOf n cells nodes mid e ts → ArePartial mid n.count (needed_in n.mode ts) us → IsJudged mid new own us t → IsTermOf n cells nodes new tree t
one_list n cells nodes mid new e tree ts us t own f one other there h needed j =
    truth_told n cells nodes mid new tree ts us t own (λ r. f (scalars_in (evaluate n.mode r.values e))) h.grows needed j one
    (λ r. told_both n.mode (f (scalars_in (evaluate n.mode r.values e))) (term_value j.between r.numbers j.own)
    (j.puts.value r.numbers ∙ other r.numbers (term_value j.between r.numbers)
    ∙ ap (λ o. truth (f o)) (ap all_there (values_kept mid j.between r.numbers ts j.puts.grows h.known) ∙ h.scalars r)))
    (λ r. there (all_there (map (term_value mid r.numbers) ts)) (λ xs is. there_length (map (term_value mid r.numbers) ts) xs is ∙ length_mapped (term_value mid r.numbers) ts)
    ∙ ap (λ o. is_some (f o)) (h.scalars r))

pub different_term : (n : Numbering) (cells : Env) (nodes mid new : List GroundNode) (p : Place) (e : ExprTree) (ts us : List ℕ) (t : ℕ)
    → AreScalarsOf n cells nodes mid e ts → ArePartial mid n.count (needed_in n.mode ts) us → IsJudged mid new (node.all_different ts) us t → IsTermOf n cells nodes new (all_different p e) t
unfolding node_value ground.term_values_of
different_term n cells nodes mid new p e ts us t =
    one_list n cells nodes mid new e (all_different p e) ts us t (node.all_different ts) (option_map are_different) (λ r. evaluate-all_different n.mode r.values p e) (λ numbers value. refl) (λ o long. list_there are_different o)

pub every_term : (n : Numbering) (cells : Env) (nodes mid new : List GroundNode) (p : Place) (e : ExprTree) (ts us : List ℕ) (t : ℕ)
    → AreScalarsOf n cells nodes mid e ts → ArePartial mid n.count (needed_in n.mode ts) us → IsJudged mid new (node.all_of ts) us t → IsTermOf n cells nodes new (folded p FoldOp.And e) t
unfolding node_value ground.term_values_of folded_value
every_term n cells nodes mid new p e ts us t =
    one_list n cells nodes mid new e (folded p FoldOp.And e) ts us t (node.all_of ts) (option_map all_one) (λ r. evaluate-folded n.mode r.values p FoldOp.And e) (λ numbers value. refl) (λ o long. list_there all_one o)

pub some_term : (n : Numbering) (cells : Env) (nodes mid new : List GroundNode) (p : Place) (e : ExprTree) (ts us : List ℕ) (t : ℕ)
    → AreScalarsOf n cells nodes mid e ts → ArePartial mid n.count (needed_in n.mode ts) us → IsJudged mid new (node.any_of ts) us t → IsTermOf n cells nodes new (folded p FoldOp.Or e) t
unfolding node_value ground.term_values_of folded_value
some_term n cells nodes mid new p e ts us t =
    one_list n cells nodes mid new e (folded p FoldOp.Or e) ts us t (node.any_of ts) (option_map any_one) (λ r. evaluate-folded n.mode r.values p FoldOp.Or e) (λ numbers value. refl) (λ o long. list_there any_one o)

-- ---- numbers of a list of scalars

-- what a function gives of the numbers of some terms
abbrev pub folded_of : (List ℤ → Option ℤ) → List GroundNode → List ℕ → List ℤ → Option ℤ
folded_of f nodes ts numbers = option_and_then f (all_there (map (term_value nodes numbers) ts))

extreme_is : (n : Numbering) (cells : Env) (nodes mid new : List GroundNode) (p : Place) (op : FoldOp) (e : ExprTree) (ts : List ℕ) (t : ℕ) (f : List ℤ → Option ℤ)
    → ((values : Env) → evaluate n.mode values (folded p op e) ≡ number_value (option_and_then f (scalars_in (evaluate n.mode values e))))
    → AreScalarsOf n cells nodes mid e ts → HasNumber mid new (folded_of f mid ts) t → IsTermOf n cells nodes new (folded p op e) t
extreme_is n cells nodes mid new p op e ts t f is h own = record {
  grows = grows_on nodes mid new h.grows own.grows;
  known = own.known;
  value = λ r. is r.values ∙ ap (λ o. option_map single (option_and_then f o)) (sym (h.scalars r)) ∙ ap (option_map single) (sym (own.value r.numbers));
}

pub least_is : (n : Numbering) (cells : Env) (nodes mid new : List GroundNode) (p : Place) (e : ExprTree) (ts : List ℕ) (t : ℕ) → AreScalarsOf n cells nodes mid e ts
    → HasNumber mid new (folded_of least_of mid ts) t → IsTermOf n cells nodes new (folded p FoldOp.Min e) t
unfolding folded_value
least_is n cells nodes mid new p e ts t =
    extreme_is n cells nodes mid new p FoldOp.Min e ts t least_of (λ values. evaluate-folded n.mode values p FoldOp.Min e)

pub greatest_is : (n : Numbering) (cells : Env) (nodes mid new : List GroundNode) (p : Place) (e : ExprTree) (ts : List ℕ) (t : ℕ) → AreScalarsOf n cells nodes mid e ts
    → HasNumber mid new (folded_of greatest_of mid ts) t → IsTermOf n cells nodes new (folded p FoldOp.Max e) t
unfolding folded_value
greatest_is n cells nodes mid new p e ts t =
    extreme_is n cells nodes mid new p FoldOp.Max e ts t greatest_of (λ values. evaluate-folded n.mode values p FoldOp.Max e)

pub least_put : (old new : List GroundNode) (ts : List ℕ) (t : ℕ) → All (λ u. u < length old) ts → Puts old new (node.least ts) t → HasNumber old new (folded_of least_of old ts) t
unfolding node_value ground.term_values_of
least_put old new ts t known put = record {
  grows = put.grows;
  known = put.known;
  value = λ numbers. put.value numbers ∙ ap (λ os. option_and_then least_of (all_there os)) (values_kept old new numbers ts put.grows known);
}

pub greatest_put : (old new : List GroundNode) (ts : List ℕ) (t : ℕ) → All (λ u. u < length old) ts → Puts old new (node.greatest ts) t → HasNumber old new (folded_of greatest_of old ts) t
unfolding node_value ground.term_values_of
greatest_put old new ts t known put = record {
  grows = put.grows;
  known = put.known;
  value = λ numbers. put.value numbers ∙ ap (λ os. option_and_then greatest_of (all_there os)) (values_kept old new numbers ts put.grows known);
}

-- of no term there is no number
pub none_least : (old new : List GroundNode) (ts : List ℕ) (t : ℕ) → ts ≡ [] → Puts old new node.undefined t → HasNumber old new (folded_of least_of old ts) t
unfolding node_value all_there least_of
none_least old new ts t none put = record {
  grows = put.grows;
  known = put.known;
  value = λ numbers. put.value numbers ∙ sym (ap (λ us. folded_of least_of old us numbers) none);
}

pub none_greatest : (old new : List GroundNode) (ts : List ℕ) (t : ℕ) → ts ≡ [] → Puts old new node.undefined t → HasNumber old new (folded_of greatest_of old ts) t
unfolding node_value all_there greatest_of
none_greatest old new ts t none put = record {
  grows = put.grows;
  known = put.known;
  value = λ numbers. put.value numbers ∙ sym (ap (λ us. folded_of greatest_of old us numbers) none);
}
