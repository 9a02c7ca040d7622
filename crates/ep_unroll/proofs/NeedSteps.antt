-- What has to have a value so that a matrix has one.
use Rattle.ep_unroll.proofs.Words.{◌≡◌, ℕ, zero, suc, ◌+◌, ◌<◌, ◌≤◌, ℤ, pos, true, List, [], ◌∷◌, ◌++◌, length, drop, get_or, Some, None, refl, sym, ap, subst, ◌∙◌, arith, rules, append_assoc, IsSome, Option, is_some, map, option_and_then, option_map, All, append-nil, at_drop_all, at_drop_more, map-append, All-push, slice_get-get_or, all_there, seen_held, Held, GroundNode, node_value, term_value, number_in, scalars_in, cell_count, scalars_of, AddsParts, Grows, Puts, AreTerms, worth, AreNeeded, ArePartial, ArePartialScalars, HasNumber, HaveTerms, cells_value, cells_from, Unrolled}
use Rattle.ep_ground.specs.Nodes as node
use Rattle.ep_unroll.proofs.FormSteps.{none_known}
use Rattle.ep_unroll.proofs.FlatSteps.{flat_numbers, number_at}
use Rattle.ep_unroll.proofs.FormValues.{grows_long, grows_on}
use Rattle.ep_unroll.proofs.GrownParts.{have_at, terms_kept, worth_kept}
use Rattle.ep_unroll.proofs.MatrixSteps.{cells_scalars, values_kept}
use Rattle.ep_unroll.proofs.MeaningSteps.{grows_none}

some_mapped : {A B : Type 0} (f : A → B) (o : Option A) → is_some (option_map f o) ≡ is_some o
some_mapped f None = refl
some_mapped f (Some x) = refl

pub some_there : {A : Type 0} (o : Option A) → IsSome o → (x : A) × (o ≡ Some x)
some_there None h = absurd (search rules)
some_there (Some x) h = (x, refl)

-- a number that is there may be left out
without_one : (us vs : List (Option ℤ)) (x : ℤ) → is_some (all_there (us ++ Some x ∷ vs)) ≡ is_some (all_there (us ++ vs))
unfolding all_there
without_one [] vs x = some_mapped (λ ns. x ∷ ns) (all_there vs)
without_one (None ∷ us) vs x = refl
without_one (Some y ∷ us) vs x =
    some_mapped (λ ns. y ∷ ns) (all_there (us ++ Some x ∷ vs)) ∙ without_one us vs x ∙ sym (some_mapped (λ ns. y ∷ ns) (all_there (us ++ vs)))

-- ---- the terms that may lack a value

-- those of some terms so far, of which those behind a place are left
pub record PartialSoFar (nodes : List GroundNode) (count : ℕ) (ts : List ℕ) (k : ℕ) (us : List ℕ) : Type 0 where
  pub known : All (λ t. t < length nodes) us
  pub values : (numbers : List ℤ) → count ≤ length numbers
      → is_some (all_there (map (term_value nodes numbers) us ++ map (term_value nodes numbers) (drop k ts))) ≡ is_some (all_there (map (term_value nodes numbers) ts))

pub partial_begin : (nodes : List GroundNode) (count : ℕ) (ts us : List ℕ) → us ≡ [] → PartialSoFar nodes count ts 0 us
partial_begin nodes count ts us none = record {
  known = subst (All (λ t. t < length nodes)) (sym none) (none_known (length nodes));
  values = λ numbers few. ap (λ l. is_some (all_there (map (term_value nodes numbers) l ++ map (term_value nodes numbers) ts))) none;
}

pub partial_more : (nodes : List GroundNode) (count : ℕ) (ts : List ℕ) (k t d : ℕ) (us vs : List ℕ) → All (λ x. x < length nodes) ts → k < length ts → t ≡ get_or ts k d
    → PartialSoFar nodes count ts k us → vs ≡ us ++ t ∷ [] → PartialSoFar nodes count ts (k + 1) vs
partial_more nodes count ts k t d us vs all less same so pushed = record {
  known = subst (All (λ x. x < length nodes)) (sym pushed) (All-push (λ x. x < length nodes) us t so.known (subst (λ x. x < length nodes) (sym same) (all k d less)));
  values = λ numbers few.
      let f : ℕ → Option ℤ = term_value nodes numbers in
      let rest : List (Option ℤ) = map f (drop (k + 1) ts) in
      ap (λ l. is_some (all_there (map f l ++ rest))) pushed
      ∙ ap (λ l. is_some (all_there (l ++ rest))) (map-append f us (t ∷ []))
      ∙ ap (λ l. is_some (all_there l)) (append_assoc (map f us) (f t ∷ []) rest ∙ ap (λ x. map f us ++ f x ∷ rest) same ∙ ap (λ l. map f us ++ l) (sym (at_drop_more (map f) ts k d less)))
      ∙ so.values numbers few;
}

pub partial_same : (nodes : List GroundNode) (count : ℕ) (ts : List ℕ) (k t d : ℕ) (us : List ℕ) → k < length ts → t ≡ get_or ts k d
    → ((numbers : List ℤ) → count ≤ length numbers → IsSome (term_value nodes numbers t)) → PartialSoFar nodes count ts k us → PartialSoFar nodes count ts (k + 1) us
partial_same nodes count ts k t d us less same total so = record {
  known = so.known;
  values = λ numbers few.
      let f : ℕ → Option ℤ = term_value nodes numbers in
      let rest : List (Option ℤ) = map f (drop (k + 1) ts) in
      let x = some_there (f t) (total numbers few) in
      sym (ap (λ l. is_some (all_there (map f us ++ l))) (at_drop_more (map f) ts k d less ∙ ap (λ y. f y ∷ rest) (sym same) ∙ ap (λ o. o ∷ rest) x.1)
      ∙ without_one (map f us) rest x.0)
      ∙ so.values numbers few;
}

pub partial_all : (nodes : List GroundNode) (count : ℕ) (ts : List ℕ) (k : ℕ) (us : List ℕ) → length ts ≤ k → PartialSoFar nodes count ts k us → ArePartial nodes count ts us
partial_all nodes count ts k us h so = record {
  known = so.known;
  values = λ numbers few.
      let f : ℕ → Option ℤ = term_value nodes numbers in
      sym (ap (λ l. is_some (all_there (map f us ++ l))) (at_drop_all (map f) ts k h) ∙ ap (λ l. is_some (all_there l)) (append-nil (map f us)))
      ∙ so.values numbers few;
}

-- ---- cells

from_some : (numbers : List ℤ) (k n : ℕ) → k + n ≤ length numbers → is_some (all_there (cells_from numbers k n)) ≡ true
unfolding cells_from all_there
from_some numbers k zero h = refl
from_some numbers k (suc n) h =
    ap (λ o. is_some (option_and_then (λ x. option_map (λ xs. x ∷ xs) (all_there (cells_from numbers (suc k) n))) o)) (slice_get-get_or numbers k (pos 0) (omega (arith, h)))
    ∙ some_mapped (λ xs. get_or numbers k (pos 0) ∷ xs) (all_there (cells_from numbers (suc k) n)) ∙ from_some numbers (suc k) n (omega (arith, h))

pub cells_needed : (nodes : List GroundNode) (count first : ℕ) (domains : List (List ℤ)) (us : List ℕ) → first + cell_count domains ≤ count → us ≡ []
    → AreNeeded nodes nodes count (λ numbers. cells_value numbers domains first) us
unfolding all_there
cells_needed nodes count first domains us h none = record {
  grows = grows_none nodes nodes refl;
  known = subst (All (λ t. t < length nodes)) (sym none) (none_known (length nodes));
  values = λ numbers few.
      ap (λ l. is_some (all_there (map (term_value nodes numbers) l))) none
      ∙ sym (sym (ap is_some (cells_scalars numbers domains first) ∙ some_mapped scalars_of (cells_value numbers domains first)) ∙ from_some numbers first (cell_count domains) (omega (arith, h, few)));
}

-- ---- what was evaluated

pub seen_needed : (nodes : List GroundNode) (count : ℕ) (seen : Option Held) (held : Held) (us : List ℕ) → seen ≡ Some held → us ≡ [] → AreNeeded nodes nodes count (λ numbers. seen_held seen) us
unfolding all_there
seen_needed nodes count seen held us is none = record {
  grows = grows_none nodes nodes refl;
  known = subst (All (λ t. t < length nodes)) (sym none) (none_known (length nodes));
  values = λ numbers few. ap (λ l. is_some (all_there (map (term_value nodes numbers) l))) none ∙ ap (λ o. is_some (seen_held o)) (sym is);
}

pub none_needed : (old new : List GroundNode) (count : ℕ) (seen : Option Held) (us before : List ℕ) (t : ℕ) → seen ≡ None → before ≡ [] → us ≡ before ++ t ∷ [] → Puts old new node.undefined t
    → AreNeeded old new count (λ numbers. seen_held seen) us
unfolding all_there node_value
none_needed old new count seen us before t is empty pushed put = record {
  grows = put.grows;
  known = subst (All (λ x. x < length new)) (sym alone) only;
  values = λ numbers few.
      ap (λ l. is_some (all_there (map (term_value new numbers) l))) alone ∙ ap (λ o. is_some (all_there (o ∷ []))) (put.value numbers)
      ∙ ap (λ o. is_some (seen_held o)) (sym is);
}
  where
    alone : us ≡ t ∷ []
    alone = pushed ∙ ap (λ l. l ++ t ∷ []) empty

    only : All (λ x. x < length new) (t ∷ [])
    only zero d less = put.known
    only (suc k) d less = absurd (omega (arith, less))

-- ---- the scalars of a matrix

-- those of some scalars so far, of which those behind a place are left
pub record ScalarsNeeded (old mid : List GroundNode) (count : ℕ) (all : List Unrolled) (k : ℕ) (us : List ℕ) : Type 0 where
  pub grows : Grows old mid
  pub known : All (λ t. t < length mid) us
  pub values : (numbers : List ℤ) → count ≤ length numbers
      → is_some (all_there (map (term_value mid numbers) us ++ map (number_at old numbers) (drop k all))) ≡ is_some (all_there (map (number_at old numbers) all))

pub needed_begin : (old : List GroundNode) (count : ℕ) (all : List Unrolled) (us : List ℕ) → us ≡ [] → ScalarsNeeded old old count all 0 us
needed_begin old count all us none = record {
  grows = grows_none old old refl;
  known = subst (All (λ t. t < length old)) (sym none) (none_known (length old));
  values = λ numbers few. ap (λ l. is_some (all_there (map (term_value old numbers) l ++ map (number_at old numbers) all))) none;
}

some_of : (o : Option ℤ) → is_some o ≡ true → (x : ℤ) × (o ≡ Some x)
some_of None h = absurd cc
some_of (Some x) h = (x, refl)

-- a scalar that has a value is passed
pub needed_same : (old mid new : List GroundNode) (count : ℕ) (all : List Unrolled) (k : ℕ) (x d : Unrolled) (us : List ℕ) → k < length all → x ≡ get_or all k d → Grows mid new
    → ((numbers : List ℤ) → count ≤ length numbers → is_some (number_at old numbers x) ≡ true) → ScalarsNeeded old mid count all k us → ScalarsNeeded old new count all (k + 1) us
needed_same old mid new count all k x d us less is g total so = record {
  grows = grows_on old mid new so.grows g;
  known = λ i e low. grows_long mid new _ g (so.known i e low);
  values = λ numbers few.
      let f : Unrolled → Option ℤ = number_at old numbers in
      let rest : List (Option ℤ) = map f (drop (k + 1) all) in
      let one = some_of (f x) (total numbers few) in
      ap (λ l. is_some (all_there (l ++ rest))) (values_kept mid new numbers us g so.known)
      ∙ sym (ap (λ l. is_some (all_there (map (term_value mid numbers) us ++ l))) (at_drop_more (map f) all k d less ∙ ap (λ y. f y ∷ rest) (sym is) ∙ ap (λ o. o ∷ rest) one.1)
      ∙ without_one (map (term_value mid numbers) us) rest one.0)
      ∙ so.values numbers few;
}

-- another one is put
pub needed_more : (old mid new : List GroundNode) (count : ℕ) (all : List Unrolled) (k : ℕ) (x d : Unrolled) (t : ℕ) (us vs : List ℕ) → k < length all → x ≡ get_or all k d
    → HasNumber mid new (λ numbers. number_at old numbers x) t → vs ≡ us ++ t ∷ [] → ScalarsNeeded old mid count all k us → ScalarsNeeded old new count all (k + 1) vs
needed_more old mid new count all k x d t us vs less is own pushed so = record {
  grows = grows_on old mid new so.grows own.grows;
  known = subst (All (λ i. i < length new)) (sym pushed) (All-push (λ i. i < length new) us t (λ i e low. grows_long mid new _ own.grows (so.known i e low)) own.known);
  values = λ numbers few.
      let f : Unrolled → Option ℤ = number_at old numbers in
      let rest : List (Option ℤ) = map f (drop (k + 1) all) in
      let g : ℕ → Option ℤ = term_value new numbers in
      ap (λ l. is_some (all_there (map g l ++ rest))) pushed
      ∙ ap (λ l. is_some (all_there (l ++ rest))) (map-append g us (t ∷ []))
      ∙ ap (λ l. is_some (all_there l))
      (append_assoc (map g us) (g t ∷ []) rest
      ∙ ap (λ l. l ++ g t ∷ rest) (values_kept mid new numbers us own.grows so.known)
      ∙ ap (λ o. map (term_value mid numbers) us ++ o ∷ rest) (own.value numbers ∙ ap f is)
      ∙ ap (λ l. map (term_value mid numbers) us ++ l) (sym (at_drop_more (map f) all k d less)))
      ∙ so.values numbers few;
}

pub needed_all : (old mid : List GroundNode) (count : ℕ) (all : List Unrolled) (k : ℕ) (us : List ℕ) → length all ≤ k → ScalarsNeeded old mid count all k us → ArePartialScalars old mid count all us
needed_all old mid count all k us h so = record {
  grows = so.grows;
  known = so.known;
  values = λ numbers few.
      let front : List (Option ℤ) = map (term_value mid numbers) us in
      sym (ap (λ l. is_some (all_there (front ++ l))) (at_drop_all (map (number_at old numbers)) all k h) ∙ ap (λ l. is_some (all_there l)) (append-nil front))
      ∙ so.values numbers few;
}

-- what a scalar's term says among more nodes
pub number_among : (old mid new : List GroundNode) (x : Unrolled) (t : ℕ) → Grows old mid → AreTerms (length old) x → (AreTerms (length mid) x → HasNumber mid new (λ numbers. number_at mid numbers x) t)
    → HasNumber mid new (λ numbers. number_at old numbers x) t
number_among old mid new x t g known h =
    let own = h (terms_kept old mid x g known) in
    record { grows = own.grows; known = own.known; value = λ numbers. own.value numbers ∙ ap number_in (worth_kept old mid numbers x g known) }

pub part_terms : (old : List GroundNode) (xs : List Unrolled) (k : ℕ) (x d : Unrolled) → HaveTerms (length old) xs → k < length xs → x ≡ get_or xs k d → AreTerms (length old) x
part_terms old xs k x d have less is = subst (AreTerms (length old)) (sym is) (have_at (length old) xs k d have less)

-- a scalar whose term has a value has one
pub total_number : (old mid new : List GroundNode) (x : Unrolled) (t : ℕ) → HasNumber mid new (λ numbers. number_at old numbers x) t → (numbers : List ℤ) → IsSome (term_value new numbers t)
    → is_some (number_at old numbers x) ≡ true
total_number old mid new x t own numbers h = let p = some_there (term_value new numbers t) h in ap is_some (sym (own.value numbers) ∙ p.1)

pub scalars_needed : (old new : List GroundNode) (count : ℕ) (x : Unrolled) (xs : List Unrolled) (us : List ℕ) → AddsParts [] xs (x ∷ []) (λ ns numbers. scalars_in (worth ns numbers x))
    → ArePartialScalars old new count xs us → AreNeeded old new count (λ numbers. worth old numbers x) us
scalars_needed old new count x xs us flat partial = record {
  grows = partial.grows;
  known = partial.known;
  values = λ numbers few.
      partial.values numbers few
      ∙ ap (λ l. is_some (all_there l)) (flat_numbers old numbers xs x _ flat)
      ∙ ap is_some (flat.values old numbers) ∙ some_mapped scalars_of (worth old numbers x);
}
