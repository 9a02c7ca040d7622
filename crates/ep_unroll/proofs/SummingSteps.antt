-- Sums that are gathered, scalar by scalar.
use Rattle.ep_unroll.proofs.Words.{◌≡◌, ℕ, ◌+◌, ◌<◌, ◌≤◌, ℤ, pos, ◌+ℤ◌, List, [], ◌∷◌, ◌++◌, length, get_or, take, Some, None, refl, sym, ap, subst, ◌∙◌, arith, Option, map, option_map, All, ints, map-append, take_all, take_more, All-push, sum_of, all_there, weighted_sum, Place, GroundNode, node_value, term_value, weighed, evaluate-folded, Env, folded_value, number_in, scalars_in, ExprTree, folded, single, FoldOp, AddsParts, Grows, Puts, AreTerms, IsTermOf, Means, worth, HasNumber, HaveTerms, Numbering, AddsNumber, plus, total_worth, Unrolled}
use Rattle.ep_ground.specs.Nodes as node
use Rattle.ep_unroll.proofs.FlatSteps.{flat_numbers, number_at}
use Rattle.ep_unroll.proofs.FormSteps.{none_known}
use Rattle.ep_unroll.proofs.FormValues.{grows_long, grows_on}
use Rattle.ep_unroll.proofs.GrownParts.{have_at, terms_kept, worth_kept}
use Rattle.ep_unroll.proofs.MatrixSteps.{joined, there_cut, values_kept}
use Rattle.ep_unroll.proofs.MeaningSteps.{grows_none}
use Rattle.ep_unroll.proofs.SumValues.{ones_same, weighed_sum}

-- ---- sums of lists

sum_behind : (xs : List ℤ) (y : ℤ) → sum_of (xs ++ y ∷ []) ≡ sum_of xs +ℤ y
unfolding sum_of
sum_behind [] y = swapped y
  where
    swapped : (n : ℤ) → n +ℤ pos 0 ≡ pos 0 +ℤ n
    swapped n = omega (arith, ints)
sum_behind (x ∷ xs) y = ap (λ s. x +ℤ s) (sum_behind xs y) ∙ grouped x (sum_of xs) y
  where
    grouped : (a b c : ℤ) → a +ℤ (b +ℤ c) ≡ (a +ℤ b) +ℤ c
    grouped a b c = omega (arith, ints)

added_at : (c : ℤ) (a : Option (List ℤ)) (o : Option ℤ) → option_map (λ xs. c +ℤ sum_of xs) (joined a (all_there (o ∷ []))) ≡ plus (option_map (λ xs. c +ℤ sum_of xs) a) o
unfolding all_there joined plus
added_at c None o = refl
added_at c (Some xs) None = refl
added_at c (Some xs) (Some y) = ap Some (ap (λ s. c +ℤ s) (sum_behind xs y) ∙ grouped c (sum_of xs) y)
  where
    grouped : (a b d : ℤ) → a +ℤ (b +ℤ d) ≡ (a +ℤ b) +ℤ d
    grouped a b d = omega (arith, ints)

-- one number behind others
added_behind : (c : ℤ) (os : List (Option ℤ)) (o : Option ℤ) → option_map (λ xs. c +ℤ sum_of xs) (all_there (os ++ o ∷ [])) ≡ plus (option_map (λ xs. c +ℤ sum_of xs) (all_there os)) o
added_behind c os o = ap (option_map (λ xs. c +ℤ sum_of xs)) (there_cut os (o ∷ [])) ∙ added_at c (all_there os) o

from_nothing : (o : Option (List ℤ)) → option_map (λ xs. pos 0 +ℤ sum_of xs) o ≡ option_map sum_of o
from_nothing None = refl
from_nothing (Some xs) = ap Some (zero_and (sum_of xs))
  where
    zero_and : (s : ℤ) → pos 0 +ℤ s ≡ s
    zero_and s = omega (arith, ints)

sum_next : (os : List (Option ℤ)) (o : Option ℤ) → plus (option_map sum_of (all_there os)) o ≡ option_map sum_of (all_there (os ++ o ∷ []))
sum_next os o =
    ap (λ a. plus a o) (sym (from_nothing (all_there os))) ∙ sym (added_behind (pos 0) os o) ∙ from_nothing (all_there (os ++ o ∷ []))

-- ---- one number more

-- to the number
pub number_added : (old : List GroundNode) (ts : List ℕ) (constant number sum : ℤ) → sum ≡ constant +ℤ number → AddsNumber old old ts ts constant sum (λ numbers. Some number)
unfolding total_worth plus
number_added old ts constant number sum is = record {
  grows = grows_none old old refl;
  known = λ h. h;
  values = λ known numbers. go (all_there (map (term_value old numbers) ts));
}
  where
    moved : (a b c : ℤ) → (a +ℤ b) +ℤ c ≡ (a +ℤ c) +ℤ b
    moved a b c = omega (arith, ints)

    go : (o : Option (List ℤ)) → option_map (λ xs. sum +ℤ sum_of xs) o ≡ plus (option_map (λ xs. constant +ℤ sum_of xs) o) (Some number)
    go None = refl
    go (Some xs) = ap Some (ap (λ s. s +ℤ sum_of xs) is ∙ moved constant number (sum_of xs))

-- as a term
pub term_added : (old new : List GroundNode) (before after : List ℕ) (constant : ℤ) (t : ℕ) (number : List ℤ → Option ℤ) → HasNumber old new number t → after ≡ before ++ t ∷ []
    → AddsNumber old new before after constant constant number
unfolding total_worth
term_added old new before after constant t number h pushed = record {
  grows = h.grows;
  known = λ k. subst (All (λ u. u < length new)) (sym pushed) (All-push (λ u. u < length new) before t (λ i d less. grows_long old new _ h.grows (k i d less)) h.known);
  values = λ k numbers.
      ap (λ ts. option_map (λ xs. constant +ℤ sum_of xs) (all_there (map (term_value new numbers) ts))) pushed
      ∙ ap (λ os. option_map (λ xs. constant +ℤ sum_of xs) (all_there os))
      (map-append (term_value new numbers) before (t ∷ [])
      ∙ ap (λ os. os ++ term_value new numbers t ∷ []) (values_kept old new numbers before h.grows k) ∙ ap (λ o. map (term_value old numbers) before ++ o ∷ []) (h.value numbers))
      ∙ added_behind constant (map (term_value old numbers) before) (number numbers);
}

-- the number so far as a term, and another number in its place
pub number_put : (old new : List GroundNode) (before after : List ℕ) (constant number c n : ℤ) (t : ℕ) → c ≡ constant → n ≡ number → Puts old new (node.constant c) t → after ≡ before ++ t ∷ []
    → AddsNumber old new before after constant n (λ numbers. Some number)
unfolding total_worth node_value plus
number_put old new before after constant number c n t same is put pushed = record {
  grows = put.grows;
  known = λ k. subst (All (λ u. u < length new)) (sym pushed) (All-push (λ u. u < length new) before t (λ i d less. grows_long old new _ put.grows (k i d less)) put.known);
  values = λ k numbers.
      ap (λ ts. option_map (λ xs. n +ℤ sum_of xs) (all_there (map (term_value new numbers) ts))) pushed
      ∙ ap (λ os. option_map (λ xs. n +ℤ sum_of xs) (all_there os))
      (map-append (term_value new numbers) before (t ∷ [])
      ∙ ap (λ os. os ++ term_value new numbers t ∷ []) (values_kept old new numbers before put.grows k)
      ∙ ap (λ o. map (term_value old numbers) before ++ o ∷ []) (put.value numbers ∙ ap Some same))
      ∙ added_behind n (map (term_value old numbers) before) (Some constant)
      ∙ swap (all_there (map (term_value old numbers) before));
}
  where
    swapped : (a b s : ℤ) → (a +ℤ s) +ℤ b ≡ (b +ℤ s) +ℤ a
    swapped a b s = omega (arith, ints)

    swap : (o : Option (List ℤ)) → plus (option_map (λ xs. n +ℤ sum_of xs) o) (Some constant) ≡ plus (option_map (λ xs. constant +ℤ sum_of xs) o) (Some number)
    swap None = refl
    swap (Some xs) = ap Some (swapped n constant (sum_of xs) ∙ ap (λ m. (constant +ℤ sum_of xs) +ℤ m) is)

pub undefined_added : (old new : List GroundNode) (before after : List ℕ) (constant c : ℤ) (o : Option ℤ) (t : ℕ) → c ≡ constant → o ≡ None → Puts old new node.undefined t → after ≡ before ++ t ∷ []
    → AddsNumber old new before after constant c (λ numbers. o)
unfolding node_value
undefined_added old new before after constant c o t same none put pushed =
    subst (λ d. AddsNumber old new before after constant d (λ numbers. o)) (sym same)
    (term_added old new before after constant t (λ numbers. o) (record { grows = put.grows; known = put.known; value = λ numbers. put.value numbers ∙ sym none }) pushed)

pub added_same : (old new : List GroundNode) (before after : List ℕ) (c d e f : ℤ) (number other : List ℤ → Option ℤ) → c ≡ e → d ≡ f → ((numbers : List ℤ) → number numbers ≡ other numbers)
    → AddsNumber old new before after c d number → AddsNumber old new before after e f other
added_same old new before after c d e f number other one two same h =
    subst (λ x. AddsNumber old new before after x f other) one
    (subst (λ x. AddsNumber old new before after c x other) two
    (record { grows = h.grows; known = h.known; values = λ k numbers. h.values k numbers ∙ ap (plus (total_worth old numbers c before)) (same numbers) }))

-- ---- scalars one after another

-- the sum of the scalars before a place
pub record TotalSoFar (old mid : List GroundNode) (all : List Unrolled) (k : ℕ) (ts : List ℕ) (constant : ℤ) : Type 0 where
  pub grows : Grows old mid
  pub known : All (λ t. t < length mid) ts
  pub values : (numbers : List ℤ) → total_worth mid numbers constant ts ≡ option_map sum_of (all_there (map (number_at old numbers) (take k all)))

pub total_begins : (old : List GroundNode) (all : List Unrolled) (ts : List ℕ) (c : ℤ) → ts ≡ [] → c ≡ pos 0 → TotalSoFar old old all 0 ts c
unfolding total_worth all_there sum_of
total_begins old all ts c none is = record {
  grows = grows_none old old refl;
  known = subst (All (λ t. t < length old)) (sym none) (none_known (length old));
  values = λ numbers. ap (λ us. option_map (λ xs. c +ℤ sum_of xs) (all_there (map (term_value old numbers) us))) none ∙ ap (λ d. Some (d +ℤ pos 0)) is;
}

pub total_more : (old mid new : List GroundNode) (all : List Unrolled) (k : ℕ) (x d : Unrolled) (ts us : List ℕ) (c e f : ℤ) → HaveTerms (length old) all → k < length all → x ≡ get_or all k d → e ≡ c
    → TotalSoFar old mid all k ts c → (AreTerms (length mid) x → AddsNumber mid new ts us e f (λ numbers. number_at mid numbers x)) → TotalSoFar old new all (k + 1) us f
total_more old mid new all k x d ts us c e f have less is same so one =
    let own : AreTerms (length old) x = subst (AreTerms (length old)) (sym is) (have_at (length old) all k d have less) in
    let adds : AddsNumber mid new ts us e f (λ numbers. number_at mid numbers x) = one (terms_kept old mid x so.grows own) in
    record {
      grows = grows_on old mid new so.grows adds.grows;
      known = adds.known so.known;
      values = λ numbers.
          adds.values so.known numbers
          ∙ ap (λ a. plus (total_worth mid numbers a ts) (number_at mid numbers x)) same
          ∙ ap (λ a. plus a (number_at mid numbers x)) (so.values numbers)
          ∙ ap (λ v. plus (option_map sum_of (all_there (map (number_at old numbers) (take k all)))) (number_in v)) (worth_kept old mid numbers x so.grows own)
          ∙ sum_next (map (number_at old numbers) (take k all)) (number_at old numbers x)
          ∙ ap (λ os. option_map sum_of (all_there os))
          (sym (map-append (number_at old numbers) (take k all) (x ∷ [])) ∙ ap (map (number_at old numbers)) (ap (λ y. take k all ++ y ∷ []) is ∙ sym (take_more all k d less)));
    }

-- ---- the node of a sum

sum_node : (numbers : List ℤ) (value : ℕ → Option ℤ) (c : ℤ) (ts : List ℕ)
    → node_value numbers value (node.sum c (map {B = ℤ × ℕ} (λ t. (pos 1, t)) ts)) ≡ option_map (λ xs. c +ℤ sum_of xs) (all_there (map value ts))
unfolding node_value
sum_node numbers value c ts =
    two (weighed value (map {B = ℤ × ℕ} (λ t. (pos 1, t)) ts))
    ∙ ap (option_map (λ s. c +ℤ s)) (weighed_sum value (map {B = ℤ × ℕ} (λ t. (pos 1, t)) ts) ∙ ap (λ os. option_map sum_of (all_there os)) (ones_same value ts))
    ∙ one (all_there (map value ts))
  where
    two : (o : Option (List (ℤ × ℤ))) → option_map (λ ps. c +ℤ weighted_sum ps) o ≡ option_map (λ s. c +ℤ s) (option_map weighted_sum o)
    two None = refl
    two (Some ps) = refl

    one : (o : Option (List ℤ)) → option_map (λ s. c +ℤ s) (option_map sum_of o) ≡ option_map (λ xs. c +ℤ sum_of xs) o
    one None = refl
    one (Some xs) = refl

terms_again : (ts : List ℕ) → map {A = ℤ × ℕ} (λ p. p.1) (map {B = ℤ × ℕ} (λ t. (pos 1, t)) ts) ≡ ts
terms_again [] = refl
terms_again (t ∷ ts) = ap (λ xs. t ∷ xs) (terms_again ts)

pub total_parts : (mid : List GroundNode) (ts us : List ℕ) (ps : List (ℤ × ℕ)) → ps ≡ map {B = ℤ × ℕ} (λ t. (pos 1, t)) us → us ≡ ts → All (λ t. t < length mid) ts
    → All (λ t. t < length mid) (map {A = ℤ × ℕ} (λ p. p.1) ps)
total_parts mid ts us ps is same known =
    subst (All (λ t. t < length mid)) (sym (ap (map {A = ℤ × ℕ} (λ p. p.1)) is ∙ terms_again us ∙ same)) known

pub total_ends : (old mid new : List GroundNode) (all : List Unrolled) (k : ℕ) (ts us : List ℕ) (ps : List (ℤ × ℕ)) (c d : ℤ) (t : ℕ) → length all ≤ k → TotalSoFar old mid all k ts c
    → ps ≡ map {B = ℤ × ℕ} (λ u. (pos 1, u)) us → us ≡ ts → d ≡ c → Puts mid new (node.sum d ps) t
    → HasNumber old new (λ numbers. option_map sum_of (all_there (map (number_at old numbers) all))) t
unfolding total_worth
total_ends old mid new all k ts us ps c d t least so is same equal put = record {
  grows = grows_on old mid new so.grows put.grows;
  known = put.known;
  value = λ numbers.
      put.value numbers
      ∙ ap (λ e. node_value numbers (term_value new numbers) (node.sum e ps)) equal
      ∙ ap (λ qs. node_value numbers (term_value new numbers) (node.sum c qs)) (is ∙ ap (map {B = ℤ × ℕ} (λ u. (pos 1, u))) same)
      ∙ sum_node numbers (term_value new numbers) c ts
      ∙ ap (λ os. option_map (λ xs. c +ℤ sum_of xs) (all_there os)) (values_kept mid new numbers ts put.grows so.known)
      ∙ so.values numbers
      ∙ ap (λ xs. option_map sum_of (all_there (map (number_at old numbers) xs))) (take_all k all least);
}

-- ---- all scalars of a matrix

pub sum_is : (n : Numbering) (cells : Env) (nodes mid new : List GroundNode) (p : Place) (e : ExprTree) (x : Unrolled) (xs : List Unrolled) (t : ℕ) → Means n cells nodes mid e x
    → AddsParts [] xs (x ∷ []) (λ ns numbers. scalars_in (worth ns numbers x))
    → HasNumber mid new (λ numbers. option_map sum_of (all_there (map (number_at mid numbers) xs))) t → IsTermOf n cells nodes new (folded p FoldOp.Sum e) t
unfolding folded_value
sum_is n cells nodes mid new p e x xs t h flat own = record {
  grows = grows_on nodes mid new h.grows own.grows;
  known = own.known;
  value = λ r.
      let os : List (Option ℤ) = flat.own mid r.numbers in
      let same : map (number_at mid r.numbers) xs ≡ os = flat_numbers mid r.numbers xs x _ flat in
      evaluate-folded n.mode r.values p FoldOp.Sum e
      ∙ ap (λ o. option_map single (option_map sum_of o)) (sym (flat.values mid r.numbers ∙ ap scalars_in (h.value r)))
      ∙ ap (λ l. option_map single (option_map sum_of (all_there l))) (sym same)
      ∙ ap (option_map single) (sym (own.value r.numbers));
}
