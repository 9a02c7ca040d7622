-- Reads of what was unrolled: the terms that choose.
use Rattle.ep_unroll.proofs.Words.{◌≡◌, ℕ, suc, ◌<◌, ℤ, pos, Bool, true, false, ◌&&◌, List, [], ◌∷◌, length, Some, None, refl, sym, ap, subst, ◌∙◌, arith, IsSome, Option, map, option_and_then, option_map, unwrap_or, All, all_one, is_one, of_bool, same_numbers, on_both, all_there, first_or_zero, picked, safe_picked, GroundNode, node_value, term_value, Grows, Puts, CanBeSafe, IsAlone, IsChosen, IsFound, IsTruth, IsWhole, found_among, numbers_of_terms, only_where, look_up}
use Rattle.ep_ground.specs.Nodes as node
use Rattle.ep_ground.specs.Terms as ground
use Rattle.ep_ground.specs.Terms.{truth}
use Rattle.ep_unroll.proofs.FormValues.{grown_value, grows_on}
use Rattle.ep_unroll.proofs.MatrixSteps.{values_kept}
use Rattle.ep_unroll.proofs.MeaningSteps.{grows_none}
use Rattle.ep_unroll.proofs.NeedSteps.{some_there}
use Rattle.ep_unroll.proofs.PickSteps.{picked_found}

-- ---- what is found

pick_found : (keys : List (List ℤ)) (xs js : Option (List ℤ)) → on_both xs js (λ ys is. picked ys keys is) ≡ found_among keys xs js
unfolding on_both found_among
pick_found keys None js = refl
pick_found keys (Some ys) None = refl
pick_found keys (Some ys) (Some is) = picked_found ys keys is

pub found_picks : (old new : List GroundNode) (keys : List (List ℤ)) (ts us : List ℕ) (t : ℕ) → All (λ x. x < length old) ts → All (λ x. x < length old) us → Puts old new (node.pick ts keys us) t
    → IsFound old new keys ts us t
unfolding node_value ground.term_values_of
found_picks old new keys ts us t known indices put = record {
  grows = put.grows;
  known = put.known;
  value = λ numbers.
      put.value numbers ∙ pick_found keys (numbers_of_terms new numbers ts) (numbers_of_terms new numbers us)
      ∙ ap (λ l. found_among keys (all_there l) (numbers_of_terms new numbers us)) (values_kept old new numbers ts put.grows known)
      ∙ ap (λ l. found_among keys (numbers_of_terms old numbers ts) (all_there l)) (values_kept old new numbers us put.grows indices);
}

nothing_found : (keys : List (List ℤ)) → look_up keys [] [] ≡ None
unfolding look_up
nothing_found [] = refl
nothing_found (k ∷ ks) = refl

pub found_nowhere : (old new : List GroundNode) (keys : List (List ℤ)) (ts : List ℕ) (t : ℕ) → ts ≡ [] → Puts old new node.undefined t → IsFound old new keys ts [] t
unfolding node_value found_among all_there
found_nowhere old new keys ts t none put = record {
  grows = put.grows;
  known = put.known;
  value = λ numbers. put.value numbers ∙ sym (ap (λ l. found_among keys (numbers_of_terms old numbers l) (Some [])) none ∙ nothing_found keys);
}

alone_found : (later : List (List ℤ)) (o : Option ℤ) → o ≡ found_among ([] ∷ later) (all_there (o ∷ [])) (Some [])
unfolding found_among all_there look_up same_numbers
alone_found later None = refl
alone_found later (Some x) = refl

pub found_alone : (old : List GroundNode) (keys : List (List ℤ)) (ts : List ℕ) (t : ℕ) → All (λ x. x < length old) ts → IsAlone keys ts t → IsFound old old keys ts [] t
unfolding all_there
found_alone old keys ts t known alone = record {
  grows = grows_none old old refl;
  known = (subst (All (λ x. x < length old)) alone.term known) 0 t (omega arith);
  value = λ numbers.
      alone_found alone.later (term_value old numbers t) ∙ ap (λ ks. found_among ks (all_there (term_value old numbers t ∷ [])) (Some [])) (sym alone.key)
      ∙ ap (λ l. found_among keys (numbers_of_terms old numbers l) (Some [])) (sym alone.term);
}

-- ---- where others have numbers too

pub whole_alone : (old : List GroundNode) (others : List ℕ) (a : ℕ) → a < length old → others ≡ [] → IsWhole old old others a a
unfolding only_where all_there
whole_alone old others a known none = record {
  grows = grows_none old old refl;
  known = known;
  value = λ numbers. ap (λ l. only_where (numbers_of_terms old numbers l) (term_value old numbers a)) (sym none);
}

whole_where : (x : Option ℤ) (o : Option (List ℤ)) → on_both x o (λ y ys. Some y) ≡ only_where o x
unfolding on_both only_where
whole_where None None = refl
whole_where None (Some ys) = refl
whole_where (Some x) None = refl
whole_where (Some x) (Some ys) = refl

pub whole_put : (old new : List GroundNode) (others : List ℕ) (a t : ℕ) → a < length old → All (λ x. x < length old) others → Puts old new (node.whole a others) t → IsWhole old new others a t
unfolding node_value ground.term_values_of
whole_put old new others a t known rest put = record {
  grows = put.grows;
  known = put.known;
  value = λ numbers.
      put.value numbers ∙ whole_where (term_value new numbers a) (numbers_of_terms new numbers others)
      ∙ ap (λ l. only_where (all_there l) (term_value new numbers a)) (values_kept old new numbers others put.grows rest)
      ∙ ap (only_where (numbers_of_terms old numbers others)) (grown_value old new numbers a put.grows known);
}

pub chosen_is : (old mid new : List GroundNode) (keys : List (List ℤ)) (ts us others : List ℕ) (a t : ℕ) → All (λ x. x < length old) others → IsFound old mid keys ts us a → IsWhole mid new others a t
    → IsChosen old new keys ts us others t
chosen_is old mid new keys ts us others a t rest found whole = record {
  grows = grows_on old mid new found.grows whole.grows;
  known = whole.known;
  value = λ numbers.
      whole.value numbers ∙ ap (only_where (numbers_of_terms mid numbers others)) (found.value numbers)
      ∙ ap (λ l. only_where (all_there l) (found_among keys (numbers_of_terms old numbers ts) (numbers_of_terms old numbers us))) (values_kept old mid numbers others found.grows rest);
}

-- ---- truth values

truth_alone : (o : Option ℤ) → truth (option_map all_one (all_there (o ∷ []))) ≡ truth (option_map is_one o)
unfolding truth all_there all_one
truth_alone None = refl
truth_alone (Some x) = by (is_one x)
  where
    by : (b : Bool) → Some (of_bool (b && true)) ≡ Some (of_bool b)
    by true = refl
    by false = refl

pub chosen_true : (old mid new : List GroundNode) (count : ℕ) (keys : List (List ℤ)) (ts us others : List ℕ) (a t : ℕ) → IsChosen old mid keys ts us others a → Puts mid new (node.all_of (a ∷ [])) t
    → IsTruth old new count keys ts us others t
unfolding node_value ground.term_values_of
chosen_true old mid new count keys ts us others a t chosen put = record {
  grows = grows_on old mid new chosen.grows put.grows;
  known = put.known;
  value = λ numbers few.
      put.value numbers ∙ truth_alone (term_value new numbers a) ∙ ap (λ o. truth (option_map is_one o)) (grown_value mid new numbers a put.grows chosen.known ∙ chosen.value numbers);
}

all_total : (f : ℕ → Option ℤ) (us : List ℕ) → All (λ t. IsSome (f t)) us → (js : List ℤ) × (all_there (map f us) ≡ Some js) × (length js ≡ length us)
unfolding all_there
all_total f [] h = ([], refl, refl)
all_total f (u ∷ us) h =
    let p = some_there (f u) (h 0 u (omega arith)) in
    let q = all_total f us (λ k d less. h (suc k) d (omega (arith, less))) in (
      p.0 ∷ q.0,
      ap (option_and_then (λ n. option_map (λ ns. n ∷ ns) (all_there (map f us)))) p.1 ∙ ap (option_map (λ ns. p.0 ∷ ns)) q.1,
      ap suc q.2,
    )

found_behind : (keys : List (List ℤ)) (xs ks : List ℤ) → 0 < length ks → look_up ([] ∷ keys) (pos 0 ∷ xs) ks ≡ look_up keys xs ks
unfolding look_up same_numbers
found_behind keys xs [] h = absurd (omega (arith, h))
found_behind keys xs (k ∷ ks) h = refl

truth_or_none : (o : Option ℤ) → truth (option_map is_one (Some (unwrap_or o (pos 0)))) ≡ truth (option_map is_one o)
unfolding truth is_one of_bool
truth_or_none None = refl
truth_or_none (Some x) = refl

safe_found : (keys : List (List ℤ)) (xs js : List ℤ) → 0 < length js → safe_picked (pos 0 ∷ xs) ([] ∷ keys) js ≡ unwrap_or (look_up keys xs js) (pos 0)
unfolding safe_picked first_or_zero
safe_found keys xs js some = ap (λ o. unwrap_or o (pos 0)) (picked_found (pos 0 ∷ xs) ([] ∷ keys) js ∙ found_behind keys xs js some)

safe_value : (numbers : List ℤ) (f : ℕ → Option ℤ) (none : ℕ) (ts us : List ℕ) (keys : List (List ℤ)) (xs js : List ℤ) → f none ≡ Some (pos 0) → all_there (map f ts) ≡ Some xs → all_there (map f us) ≡ Some js
    → 0 < length js → node_value numbers f (node.safe_pick (none ∷ ts) ([] ∷ keys) us) ≡ Some (unwrap_or (look_up keys xs js) (pos 0))
unfolding node_value ground.term_values_of on_both all_there
safe_value numbers f none ts us keys xs js starts is there some =
    ap (λ o. option_and_then (λ ys. option_and_then (λ ks. Some (safe_picked ys ([] ∷ keys) ks)) (all_there (map f us))) (all_there (o ∷ map f ts))) starts
    ∙ ap (λ o. option_and_then (λ ys. option_and_then (λ ks. Some (safe_picked ys ([] ∷ keys) ks)) (all_there (map f us))) (option_map (λ ns. pos 0 ∷ ns) o)) is
    ∙ ap (option_and_then (λ ks. Some (safe_picked (pos 0 ∷ xs) ([] ∷ keys) ks))) there
    ∙ ap Some (safe_found keys xs js some)

pub safe_true : (old mid have new : List GroundNode) (count : ℕ) (keys all : List (List ℤ)) (ts us all_ts : List ℕ) (none a t : ℕ)
    → CanBeSafe old count ts us [] → All (λ u. u < length old) ts → All (λ u. u < length old) us → Puts old mid (node.constant (pos 0)) none → all ≡ [] ∷ keys → all_ts ≡ none ∷ ts
    → Puts mid have (node.safe_pick all_ts all us) a → Puts have new (node.all_of (a ∷ [])) t → IsTruth old new count keys ts us [] t
unfolding node_value ground.term_values_of found_among only_where all_there
safe_true old mid have new count keys all ts us all_ts none a t safe terms indices starts is pushed put told = record {
  grows = grows_on old have new (grows_on old mid have starts.grows put.grows) told.grows;
  known = told.known;
  value = λ numbers few.
      let g : Grows old have = grows_on old mid have starts.grows put.grows in
      let f : (ℕ → Option ℤ) = term_value have numbers in
      let xs = all_total (term_value old numbers) ts (safe.terms numbers few) in
      let js = all_total (term_value old numbers) us (safe.indices numbers few) in
      let own : term_value have numbers a ≡ Some (unwrap_or (look_up keys xs.0 js.0) (pos 0)) =
      put.value numbers ∙ ap (λ ks. node_value numbers f (node.safe_pick all_ts ks us)) is ∙ ap (λ l. node_value numbers f (node.safe_pick l ([] ∷ keys) us)) pushed
      ∙ safe_value numbers f none ts us keys xs.0 js.0 (grown_value mid have numbers none put.grows starts.known ∙ starts.value numbers)
      (ap all_there (values_kept old have numbers ts g terms) ∙ xs.1) (ap all_there (values_kept old have numbers us g indices) ∙ js.1) (omega (arith, safe.some, js.2)) in
      told.value numbers ∙ truth_alone (term_value new numbers a)
      ∙ ap (λ o. truth (option_map is_one o)) (grown_value have new numbers a told.grows put.known ∙ own)
      ∙ truth_or_none (look_up keys xs.0 js.0)
      ∙ ap (λ o. truth (option_map is_one (option_and_then (λ ys. option_and_then (look_up keys ys) (Some js.0)) o))) (sym xs.1)
      ∙ ap (λ o. truth (option_map is_one (option_and_then (λ ys. option_and_then (look_up keys ys) o) (numbers_of_terms old numbers ts)))) (sym js.1);
}
