-- Places for the indices of a read, one after another, and reads that choose.
use Rattle.ep_unroll.proofs.Words.{◌≡◌, ℕ, zero, suc, ◌+◌, ◌<◌, ◌≤◌, ℤ, List, [], ◌∷◌, ◌++◌, length, drop, get_or, Some, None, refl, sym, ap, subst, ◌∙◌, arith, append_assoc, IfOk, Option, Result, Ok, Err, map, option_and_then, option_map, All, append-nil, at_drop_all, at_drop_more, map-append, All-append, All-push, map_both, on_both, all_there, Place, GroundNode, term_value, evaluate-read, Env, evaluate, index_list, number_in, read_result, type_in, ExprTree, read, Index, ValueTree, all_defined, any_index, at_index, read_value, single, expr_tree, indices_of, Expr, Mode, ValueType, one_index, Grows, AreTerms, IsNumberOf, Means, worth, AreKnown, AreSlotsOf, IsSlot, IsSlotOf, SlotMeans, SlotsMean, filled_in, open_terms, slot_index, Numbering, Reading, Slot, Every, At, Open, Unrolled}
use Rattle.ep_unroll.proofs.FormValues.{grown_value, grows_long, grows_on}
use Rattle.ep_unroll.proofs.FreeValues.{type_kept}
use Rattle.ep_unroll.proofs.MeaningSteps.{grows_none}
use Rattle.ep_unroll.proofs.PartSteps.{index_cut}
use Rattle.ep_unroll.proofs.TruthSteps.{length_mapped, there_length}

-- ---- indices as a list of places

pub indices_listed : (mode : Mode) (env : Env) (xs : List (Option Expr)) → index_list mode env (indices_of xs) ≡ all_defined (map (one_index mode env) xs)
unfolding indices_of index_list all_defined map_both
indices_listed mode env [] = refl
indices_listed mode env (x ∷ xs) =
    index_cut mode env x xs ∙ ap (map_both (λ i is. i ∷ is) (one_index mode env x)) (indices_listed mode env xs) ∙ by (one_index mode env x) (all_defined (map (one_index mode env) xs)) refl
  where
    by : (o : Option Index) (os : Option (List Index)) → os ≡ all_defined (map (one_index mode env) xs) → map_both (λ i is. i ∷ is) o os ≡ all_defined (o ∷ map (one_index mode env) xs)
    by None os h = refl
    by (Some i) os h = ap (option_map (λ is. i ∷ is)) h

slot_kept : (mid new : List GroundNode) (numbers : List ℤ) (s : Slot) → Grows mid new → IsSlot (length mid) s → slot_index new numbers s ≡ slot_index mid numbers s
unfolding slot_index IsSlot
slot_kept mid new numbers Every g h = refl
slot_kept mid new numbers (At i) g h = refl
slot_kept mid new numbers (Open t) g h = ap (option_map at_index) (grown_value mid new numbers t g h)

slot_grown : (mid new : List GroundNode) (s : Slot) → Grows mid new → IsSlot (length mid) s → IsSlot (length new) s
unfolding IsSlot
slot_grown mid new Every g h = tt
slot_grown mid new (At i) g h = tt
slot_grown mid new (Open t) g h = grows_long mid new t g h

pub slots_kept : (mid new : List GroundNode) (numbers : List ℤ) (ss : List Slot) → Grows mid new → All (IsSlot (length mid)) ss → map (slot_index new numbers) ss ≡ map (slot_index mid numbers) ss
slots_kept mid new numbers [] g known = refl
slots_kept mid new numbers (s ∷ ss) g known =
    ap (λ o. o ∷ map (slot_index new numbers) ss) (slot_kept mid new numbers s g (known 0 s (omega arith)))
    ∙ ap (λ os. slot_index mid numbers s ∷ os) (slots_kept mid new numbers ss g (λ k d less. known (suc k) d (omega (arith, less))))

-- places so far, of some indices of which those behind a place are left
pub record SlotsSoFar (n : Numbering) (env : Env) (old new : List GroundNode) (all : List (Option Expr)) (k : ℕ) (ss : List Slot) : Type 0 where
  pub grows : Grows old new
  pub known : All (IsSlot (length new)) ss
  pub values : (r : Reading n env) → map (slot_index new r.numbers) ss ++ map (one_index n.mode r.values) (drop k all) ≡ map (one_index n.mode r.values) all

pub slots_begin : (n : Numbering) (env : Env) (old : List GroundNode) (all : List (Option Expr)) (ss : List Slot) → ss ≡ [] → SlotsSoFar n env old old all 0 ss
slots_begin n env old all ss none = record {
  grows = grows_none old old refl;
  known = subst (All (IsSlot (length old))) (sym none) (λ k d less. absurd (no_less k less));
  values = λ r. ap (λ ts. map (slot_index old r.numbers) ts ++ map (one_index n.mode r.values) all) none;
}
  where
    no_less : (k : ℕ) → k < 0 → ⊥
    no_less k less = omega (arith, less)

pub slots_more : (n : Numbering) (env : Env) (old mid new : List GroundNode) (all : List (Option Expr)) (k : ℕ) (x d : Option Expr) (s : Slot) (ss more : List Slot) → k < length all → x ≡ get_or all k d
    → SlotsSoFar n env old mid all k ss → IsSlotOf n env mid new x s → more ≡ ss ++ s ∷ [] → SlotsSoFar n env old new all (k + 1) more
slots_more n env old mid new all k x d s ss more h same so one pushed = record {
  grows = grows_on old mid new so.grows one.grows;
  known = subst (All (IsSlot (length new))) (sym pushed)
      (All-push (IsSlot (length new)) ss s (λ j e less. slot_grown mid new _ one.grows (so.known j e less)) one.known);
  values = λ r.
      let f : (Option Expr → Option Index) = one_index n.mode r.values in
      let g : (Slot → Option Index) = slot_index new r.numbers in
      let rest : List (Option Index) = map f (drop (k + 1) all) in
      ap (λ ts. map g ts ++ rest) pushed
      ∙ ap (λ os. os ++ rest) (map-append g ss (s ∷ []) ∙ ap (λ os. os ++ g s ∷ []) (slots_kept mid new r.numbers ss one.grows so.known))
      ∙ append_assoc (map (slot_index mid r.numbers) ss) (g s ∷ []) rest
      ∙ ap (λ o. map (slot_index mid r.numbers) ss ++ o ∷ rest) (one.value r ∙ ap f same)
      ∙ ap (λ os. map (slot_index mid r.numbers) ss ++ os) (sym (at_drop_more (map f) all k d h))
      ∙ so.values r;
}

pub slots_all : (n : Numbering) (env : Env) (old new : List GroundNode) (all : List (Option Expr)) (k : ℕ) (ss : List Slot) → length all ≤ k → SlotsSoFar n env old new all k ss → AreSlotsOf n env old new all ss
slots_all n env old new all k ss h so = record {
  grows = so.grows;
  known = so.known;
  values = λ r.
      sym (append-nil (map (slot_index new r.numbers) ss))
      ∙ ap (λ os. map (slot_index new r.numbers) ss ++ os) (sym (at_drop_all (map (one_index n.mode r.values)) all k h))
      ∙ so.values r;
}

none_within : {A : Type 0} (xs ys : List (Option A)) → all_defined (xs ++ None ∷ ys) ≡ None
unfolding all_defined
none_within [] ys = refl
none_within (None ∷ xs) ys = refl
none_within (Some x ∷ xs) ys = ap (option_map (λ zs. x ∷ zs)) (none_within xs ys)

pub slots_none : (n : Numbering) (env : Env) (old new : List GroundNode) (all : List (Option Expr)) (k : ℕ) (x d : Option Expr) (ss : List Slot) → k < length all → x ≡ get_or all k d
    → SlotsSoFar n env old new all k ss → (r : Reading n env) → one_index n.mode r.values x ≡ None → all_defined (map (one_index n.mode r.values) all) ≡ None
slots_none n env old new all k x d ss h same so r none =
    let f : (Option Expr → Option Index) = one_index n.mode r.values in
    ap all_defined (sym (so.values r)
    ∙ ap (λ os. map (slot_index new r.numbers) ss ++ os) (at_drop_more (map f) all k d h)
    ∙ ap (λ o. map (slot_index new r.numbers) ss ++ o ∷ map f (drop (k + 1) all)) (ap f (sym same) ∙ none))
    ∙ none_within (map (slot_index new r.numbers) ss) (map f (drop (k + 1) all))

-- a place for each kind of index
pub open_slot : (n : Numbering) (env : Env) (old new : List GroundNode) (e : Expr) (index : Option Expr) (t : ℕ) → index ≡ Some e → IsNumberOf n env old new (expr_tree e) t → IsSlotOf n env old new index (Open t)
unfolding IsSlot slot_index one_index
open_slot n env old new e index t is h = record {
  grows = h.grows;
  known = h.known;
  value = λ r. ap (option_map at_index) (h.number r) ∙ ap (one_index n.mode r.values) (sym is);
}

pub every_slot : (n : Numbering) (env : Env) (old : List GroundNode) (index : Option Expr) → index ≡ None → IsSlotOf n env old old index Every
unfolding IsSlot slot_index one_index
every_slot n env old index is = record { grows = grows_none old old refl; known = tt; value = λ r. ap (one_index n.mode r.values) (sym is) }

pub at_slot : (n : Numbering) (env : Env) (old : List GroundNode) (e : Expr) (i : ℤ) → ((r : Reading n env) → number_in (evaluate n.mode r.values (expr_tree e)) ≡ Some i) → IsSlotOf n env old old (Some e) (At i)
unfolding IsSlot slot_index one_index
at_slot n env old e i h = record { grows = grows_none old old refl; known = tt; value = λ r. ap (option_map at_index) (sym (h r)) }

pub no_slot : (n : Numbering) (env : Env) (old : List GroundNode) (e : Expr) → ((r : Reading n env) → number_in (evaluate n.mode r.values (expr_tree e)) ≡ None) → SlotMeans n env old old (Some e) None
unfolding SlotMeans one_index
no_slot n env old e h = (grows_none old old refl, λ r. ap (option_map at_index) (h r))

pub slots_known : (n : Numbering) (env : Env) (old new : List GroundNode) (indices : List (Option Expr)) (found : Option (List Slot)) → SlotsMean n env old new indices found → AreKnown (length new) found
unfolding SlotsMean AreKnown
slots_known n env old new indices None h = tt
slots_known n env old new indices (Some ss) h = h.known

pub slots_grow : (n : Numbering) (env : Env) (old new : List GroundNode) (indices : List (Option Expr)) (found : Option (List Slot)) → SlotsMean n env old new indices found → Grows old new
unfolding SlotsMean
slots_grow n env old new indices None h = h.0
slots_grow n env old new indices (Some ss) h = h.grows

-- places behind fewer nodes
pub slots_from : (n : Numbering) (env : Env) (old mid new : List GroundNode) (indices : List (Option Expr)) (found : Option (List Slot)) → Grows old mid → SlotsMean n env mid new indices found → SlotsMean n env old new indices found
unfolding SlotsMean
slots_from n env old mid new indices None g h = (grows_on old mid new g h.0, h.1)
slots_from n env old mid new indices (Some ss) g h = record { grows = grows_on old mid new g h.grows; known = h.known; values = h.values }

-- ---- the numbers of places

slots_filled : (nodes : List GroundNode) (numbers : List ℤ) (ss : List Slot)
    → all_defined (map (slot_index nodes numbers) ss) ≡ option_map (filled_in ss) (all_there (map (term_value nodes numbers) (open_terms ss)))
unfolding all_defined slot_index filled_in open_terms all_there
slots_filled nodes numbers [] = refl
slots_filled nodes numbers (Every ∷ ss) =
    ap (option_map (λ is. any_index ∷ is)) (slots_filled nodes numbers ss) ∙ by (all_there (map (term_value nodes numbers) (open_terms ss)))
  where
    by : (o : Option (List ℤ)) → option_map (λ is. any_index ∷ is) (option_map (filled_in ss) o) ≡ option_map (λ js. any_index ∷ filled_in ss js) o
    by None = refl
    by (Some js) = refl
slots_filled nodes numbers (At i ∷ ss) =
    ap (option_map (λ is. at_index i ∷ is)) (slots_filled nodes numbers ss) ∙ by (all_there (map (term_value nodes numbers) (open_terms ss)))
  where
    by : (o : Option (List ℤ)) → option_map (λ is. at_index i ∷ is) (option_map (filled_in ss) o) ≡ option_map (λ js. at_index i ∷ filled_in ss js) o
    by None = refl
    by (Some js) = refl
slots_filled nodes numbers (Open t ∷ ss) = by (term_value nodes numbers t) (all_there (map (term_value nodes numbers) (open_terms ss))) (slots_filled nodes numbers ss)
  where
    by : (o : Option ℤ) (js : Option (List ℤ)) → all_defined (map (slot_index nodes numbers) ss) ≡ option_map (filled_in ss) js
        → all_defined (option_map at_index o ∷ map (slot_index nodes numbers) ss) ≡ option_map (filled_in (Open t ∷ ss)) (option_and_then (λ j. option_map (λ ks. j ∷ ks) js) o)
    by None js h = refl
    by (Some j) None h = ap (option_map (λ is. at_index j ∷ is)) h
    by (Some j) (Some js) h = ap (option_map (λ is. at_index j ∷ is)) h

pub all_some : (xs : List ℤ) → all_there (map Some xs) ≡ Some xs
unfolding all_there
all_some [] = refl
all_some (x ∷ xs) = ap (option_map (λ ns. x ∷ ns)) (all_some xs)

-- ---- the terms of places

pub opens_known : (count : ℕ) (ss : List Slot) → All (IsSlot count) ss → All (λ t. t < count) (open_terms ss)
unfolding IsSlot open_terms
opens_known count [] known = λ k d less. absurd (no_less k less)
  where
    no_less : (k : ℕ) → k < 0 → ⊥
    no_less k less = omega (arith, less)
opens_known count (Every ∷ ss) known = opens_known count ss (λ k d less. known (suc k) d (omega (arith, less)))
opens_known count (At i ∷ ss) known = opens_known count ss (λ k d less. known (suc k) d (omega (arith, less)))
opens_known count (Open t ∷ ss) known =
    All-append (λ u. u < count) (t ∷ []) (open_terms ss) (λ k d less. one k d less) (opens_known count ss (λ k d less. known (suc k) d (omega (arith, less))))
  where
    one : (k d : ℕ) → k < 1 → get_or (t ∷ []) k d < count
    one zero d less = known 0 (Open t) (omega arith)
    one (suc k) d less = absurd (omega (arith, less))

-- ---- what is read

-- what a read gives, by the numbers of its terms
pub read_is : (n : Numbering) (env : Env) (r : Reading n env) (nodes mid new : List GroundNode) (p : Place) (m e : ExprTree) (indices : List (Option Expr)) (ss : List Slot) (look : List ℤ → Option ℤ) (ty : ValueType)
    → AreSlotsOf n env nodes mid indices ss → Grows mid new → e ≡ read p m (indices_of indices) → ty ≡ type_in env e
    → ((js : List ℤ) → length js ≡ length (open_terms ss) → option_and_then (read_value (filled_in ss js)) (evaluate n.mode r.values m) ≡ option_map single (look js))
    → evaluate n.mode r.values e
    ≡ read_result n.mode ty (option_and_then (λ js. option_map single (look js)) (all_there (map (term_value new r.numbers) (open_terms ss))))
unfolding on_both
read_is n env r nodes mid new p m e indices ss look ty slots grows tree typed found =
    let value : Option ValueTree = evaluate n.mode r.values m in
    let opens : Option (List ℤ) = all_there (map (term_value new r.numbers) (open_terms ss)) in
    ap (evaluate n.mode r.values) tree ∙ evaluate-read n.mode r.values p m (indices_of indices)
    ∙ ap (λ t. read_result n.mode t (on_both (index_list n.mode r.values (indices_of indices)) value read_value))
    (ap (type_in r.values) (sym tree) ∙ sym (typed ∙ type_kept env r.values e r.reads.agree))
    ∙ ap (λ o. read_result n.mode ty (on_both o value read_value))
    (indices_listed n.mode r.values indices ∙ ap all_defined (sym (slots.values r) ∙ sym (slots_kept mid new r.numbers ss grows slots.known)) ∙ slots_filled new r.numbers ss)
    ∙ ap (read_result n.mode ty) (by opens refl)
  where
    by : (o : Option (List ℤ)) → all_there (map (term_value new r.numbers) (open_terms ss)) ≡ o
        → on_both (option_map (filled_in ss) o) (evaluate n.mode r.values m) read_value ≡ option_and_then (λ js. option_map single (look js)) o
    by None e' = refl
    by (Some js) e' = found js (there_length (map (term_value new r.numbers) (open_terms ss)) js e' ∙ length_mapped (term_value new r.numbers) (open_terms ss))

-- a read with an index that has no number
without_means : (n : Numbering) (env : Env) (nodes mid : List GroundNode) (p : Place) (m e : ExprTree) (indices : List (Option Expr)) (ty : ValueType) (x : Unrolled)
    → e ≡ read p m (indices_of indices) → ty ≡ type_in env e → Grows nodes mid → ((r : Reading n env) → all_defined (map (one_index n.mode r.values) indices) ≡ None)
    → ((numbers : List ℤ) → worth mid numbers x ≡ read_result n.mode ty None) → AreTerms (length mid) x → Means n env nodes mid e x
unfolding on_both
without_means n env nodes mid p m e indices ty x tree typed grows none is known = record {
  grows = grows;
  known = known;
  value = λ r.
      is r.numbers
      ∙ ap (λ t. read_result n.mode t None) (typed ∙ type_kept env r.values e r.reads.agree ∙ ap (type_in r.values) tree)
      ∙ ap (λ o. read_result n.mode (type_in r.values (read p m (indices_of indices))) (on_both o (evaluate n.mode r.values m) read_value))
      (sym (indices_listed n.mode r.values indices ∙ none r))
      ∙ sym (ap (evaluate n.mode r.values) tree ∙ evaluate-read n.mode r.values p m (indices_of indices));
}

pub without_done : {E : Type 0} (n : Numbering) (env : Env) (nodes mid : List GroundNode) (p : Place) (m e : ExprTree) (indices : List (Option Expr)) (ty : ValueType) (result : Result Unrolled E)
    → e ≡ read p m (indices_of indices) → ty ≡ type_in env e → Grows nodes mid → ((r : Reading n env) → all_defined (map (one_index n.mode r.values) indices) ≡ None)
    → ((numbers : List ℤ) → IfOk result (λ x. worth mid numbers x ≡ read_result n.mode ty None)) → IfOk result (AreTerms (length mid)) → IfOk result (Means n env nodes mid e)
without_done n env nodes mid p m e indices ty (Ok x) tree typed grows none is known = without_means n env nodes mid p m e indices ty x tree typed grows none is known
without_done n env nodes mid p m e indices ty (Err f) tree typed grows none is known = tt

-- ---- the terms of places, one after another

pub opens_more : (ss : List Slot) (k : ℕ) (s d : Slot) (t : ℕ) (ts more : List ℕ) → k < length ss → s ≡ get_or ss k d → s ≡ Open t → ts ++ open_terms (drop k ss) ≡ open_terms ss → more ≡ ts ++ t ∷ []
    → more ++ open_terms (drop (k + 1) ss) ≡ open_terms ss
unfolding open_terms
opens_more ss k s d t ts more h same is so pushed =
    ap (λ us. us ++ open_terms (drop (k + 1) ss)) pushed ∙ append_assoc ts (t ∷ []) (open_terms (drop (k + 1) ss))
    ∙ ap (λ us. ts ++ us) (sym (at_drop_more open_terms ss k d h ∙ ap (λ u. open_terms (u ∷ drop (k + 1) ss)) (sym same ∙ is))) ∙ so

pub opens_same : (ss : List Slot) (k : ℕ) (s d u : Slot) (ts more : List ℕ) → k < length ss → s ≡ get_or ss k d → s ≡ u → ((rest : List Slot) → open_terms (u ∷ rest) ≡ open_terms rest)
    → ts ++ open_terms (drop k ss) ≡ open_terms ss → more ≡ ts → more ++ open_terms (drop (k + 1) ss) ≡ open_terms ss
opens_same ss k s d u ts more h same is none so kept =
    ap (λ us. us ++ open_terms (drop (k + 1) ss)) kept
    ∙ ap (λ us. ts ++ us) (sym (at_drop_more open_terms ss k d h ∙ ap (λ x. open_terms (x ∷ drop (k + 1) ss)) (sym same ∙ is) ∙ none (drop (k + 1) ss))) ∙ so

pub none_at : (i : ℤ) (rest : List Slot) → open_terms (At i ∷ rest) ≡ open_terms rest
unfolding open_terms
none_at i rest = refl

pub none_every : (rest : List Slot) → open_terms (Every ∷ rest) ≡ open_terms rest
unfolding open_terms
none_every rest = refl

pub opens_all : (ss : List Slot) (k : ℕ) (ts : List ℕ) → length ss ≤ k → ts ++ open_terms (drop k ss) ≡ open_terms ss → ts ≡ open_terms ss
unfolding open_terms
opens_all ss k ts h so = sym (append-nil ts) ∙ ap (λ us. ts ++ us) (sym (at_drop_all open_terms ss k h)) ∙ so
