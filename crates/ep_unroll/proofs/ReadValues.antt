-- The value of a read, by the numbers among which it chooses.
use Rattle.ep_unroll.proofs.Words.{◌≡◌, ℕ, ◌≤◌, ℤ, true, false, List, [], ◌∷◌, length, map, Some, None, refl, sym, ap, subst, ◌∙◌, Option, is_some, option_and_then, option_map, is_one, of_bool, on_both, all_there, Place, GroundNode, Env, evaluate-read, evaluate, index_list, read_result, type_in, ExprTree, read, Index, ValueTree, all_defined, read_value, single, indices_of, Expr, Mode, ValueType, one_index, Grows, IsLeft, LeftMeans, AreTerms, Means, worth, AreNeeded, IsChosen, IsTruth, chosen_among, found_among, numbers_of_terms, only_where, AreEntries, AreSlotsOf, filled_in, look_up, open_terms, slot_index, Numbering, Reading, Slot, Unrolled, Number}
use Rattle.ep_ground.specs.Terms.{truth}
use Rattle.ep_unroll.proofs.FormValues.{grows_on}
use Rattle.ep_unroll.proofs.FreeValues.{type_kept}
use Rattle.ep_unroll.proofs.GrownParts.{terms_kept, worth_kept}
use Rattle.ep_unroll.proofs.MatrixSteps.{values_kept}
use Rattle.ep_unroll.proofs.SlotSteps.{all_some, indices_listed, read_is}
use Rattle.ep_unroll.proofs.TypedReadings.{truth_is}
use Rattle.ep_unroll.proofs.PartSteps.{is_worth}

some_true : {A : Type 0} (o : Option A) → is_some o ≡ true → (x : A) × (o ≡ Some x)
some_true None h = absurd cc
some_true (Some x) h = (x, refl)

some_false : {A : Type 0} (o : Option A) → is_some o ≡ false → o ≡ None
some_false None h = refl
some_false (Some x) h = absurd cc

-- What a read of a matrix chooses among: entries that have numbers where others have, and those have numbers where the
-- matrix has a value.
pub record Choice (n : Numbering) (env : Env) (nodes mid need have : List GroundNode) (m : ExprTree) (known : Unrolled) (ss : List Slot) (count : ℕ) (keys : List (List ℤ)) (ts others : List ℕ) : Type 0 where
  pub counted : n.count ≡ count
  pub meant : Means n env nodes mid m known
  pub needed : AreNeeded mid need count (λ numbers. worth mid numbers known) others
  pub entries : AreEntries need have ss (λ numbers. worth need numbers known) keys ts

pub choice_grows : (n : Numbering) (env : Env) (nodes mid need have : List GroundNode) (m : ExprTree) (known : Unrolled) (ss : List Slot) (count : ℕ) (keys : List (List ℤ)) (ts others : List ℕ)
    → Choice n env nodes mid need have m known ss count keys ts others → Grows mid have
choice_grows n env nodes mid need have m known ss count keys ts others h = grows_on mid need have h.needed.grows h.entries.grows

-- what indices read
read_found : (n : Numbering) (env : Env) (r : Reading n env) (nodes mid need have : List GroundNode) (m : ExprTree) (known : Unrolled) (ss : List Slot) (count : ℕ) (keys : List (List ℤ)) (ts others : List ℕ)
    → Choice n env nodes mid need have m known ss count keys ts others → (js : List ℤ) → length js ≡ length (open_terms ss)
    → option_and_then (read_value (filled_in ss js)) (evaluate n.mode r.values m)
    ≡ option_map single (only_where (numbers_of_terms have r.numbers others) (option_and_then (λ ys. look_up keys ys js) (numbers_of_terms have r.numbers ts)))
unfolding only_where
read_found n env r nodes mid need have m known ss count keys ts others h js few =
    ap (option_and_then (read_value (filled_in ss js))) (sym (h.meant.value r)) ∙ by (worth mid r.numbers known) refl
  where
    enough : count ≤ length r.numbers
    enough = subst (λ k. k ≤ length r.numbers) h.counted r.reads.long

    same : numbers_of_terms have r.numbers others ≡ numbers_of_terms need r.numbers others
    same = ap all_there (values_kept need have r.numbers others h.entries.grows h.needed.known)

    by : (o : Option ValueTree) → worth mid r.numbers known ≡ o
        → option_and_then (read_value (filled_in ss js)) o
        ≡ option_map single (only_where (numbers_of_terms have r.numbers others) (option_and_then (λ ys. look_up keys ys js) (numbers_of_terms have r.numbers ts)))
    by None is =
        let none : numbers_of_terms have r.numbers others ≡ None = same ∙ some_false (numbers_of_terms need r.numbers others) (h.needed.values r.numbers enough ∙ ap is_some is) in
        sym (ap (λ l. option_map single (only_where l (option_and_then (λ ys. look_up keys ys js) (numbers_of_terms have r.numbers ts)))) none)
    by (Some v) is =
        let q = h.entries.values r.numbers v (worth_kept mid need r.numbers known h.needed.grows h.meant.known ∙ is) in
        let found = q.2 in
        let zs = some_true (numbers_of_terms need r.numbers others) (h.needed.values r.numbers enough ∙ ap is_some is) in
        found.read js few
        ∙ sym (ap (λ l. option_map single (only_where l (option_and_then (λ ys. look_up keys ys js) (numbers_of_terms have r.numbers ts)))) (same ∙ zs.1)
        ∙ ap (λ l. option_map single (option_and_then (λ ys. look_up keys ys js) l)) (ap all_there q.1 ∙ all_some q.0))

moved : (keys : List (List ℤ)) (others xs opens : Option (List ℤ))
    → option_and_then (λ js. option_map single (only_where others (option_and_then (λ ys. look_up keys ys js) xs))) opens
    ≡ option_map single (only_where others (option_and_then (λ ys. option_and_then (look_up keys ys) opens) xs))
unfolding only_where
moved keys None xs None = refl
moved keys None xs (Some js) = refl
moved keys (Some zs) None None = refl
moved keys (Some zs) None (Some js) = refl
moved keys (Some zs) (Some ys) None = refl
moved keys (Some zs) (Some ys) (Some js) = refl

-- the value of a read, by what is chosen
chosen_value : (n : Numbering) (env : Env) (r : Reading n env) (nodes mid need have : List GroundNode) (p : Place) (m e : ExprTree) (indices : List (Option Expr)) (known : Unrolled) (ss : List Slot) (count : ℕ)
    (keys : List (List ℤ)) (ts us others : List ℕ) (ty : ValueType)
    → Choice n env nodes mid need have m known ss count keys ts others → AreSlotsOf n env nodes mid indices ss → us ≡ open_terms ss → e ≡ read p m (indices_of indices) → ty ≡ type_in env e
    → evaluate n.mode r.values e ≡ read_result n.mode ty (option_map single (chosen_among have r.numbers keys ts us others))
unfolding found_among
chosen_value n env r nodes mid need have p m e indices known ss count keys ts us others ty h slots opened tree typed =
    read_is n env r nodes mid have p m e indices ss (λ js. only_where (numbers_of_terms have r.numbers others) (option_and_then (λ ys. look_up keys ys js) (numbers_of_terms have r.numbers ts))) ty slots
    (choice_grows n env nodes mid need have m known ss count keys ts others h) tree typed (read_found n env r nodes mid need have m known ss count keys ts others h)
    ∙ ap (read_result n.mode ty)
    (moved keys (numbers_of_terms have r.numbers others) (numbers_of_terms have r.numbers ts) (numbers_of_terms have r.numbers (open_terms ss))
    ∙ ap (λ l. option_map single (chosen_among have r.numbers keys ts l others)) (sym opened))

-- a read of a number
pub chosen_means : (n : Numbering) (env : Env) (nodes mid need have new : List GroundNode) (p : Place) (m e : ExprTree) (indices : List (Option Expr)) (known : Unrolled) (ss : List Slot) (count : ℕ)
    (keys : List (List ℤ)) (ts us others : List ℕ) (ty : ValueType) (t : ℕ)
    → Choice n env nodes mid need have m known ss count keys ts others → AreSlotsOf n env nodes mid indices ss → us ≡ open_terms ss → IsChosen have new keys ts us others t
    → e ≡ read p m (indices_of indices) → ty ≡ type_in env e → ((o : Option ValueTree) → read_result n.mode ty o ≡ o) → Means n env nodes new e (Number t)
unfolding worth AreTerms
chosen_means n env nodes mid need have new p m e indices known ss count keys ts us others ty t h slots opened chosen tree typed plain = record {
  grows = grows_on nodes mid new h.meant.grows (grows_on mid have new (choice_grows n env nodes mid need have m known ss count keys ts others h) chosen.grows);
  known = chosen.known;
  value = λ r.
      ap (option_map single) (chosen.value r.numbers)
      ∙ sym (chosen_value n env r nodes mid need have p m e indices known ss count keys ts us others ty h slots opened tree typed ∙ plain (option_map single (chosen_among have r.numbers keys ts us others)));
}

bit_read : (value : Option ValueTree) (o : Option ℤ) → value ≡ read_result Mode.Relational ValueType.Bool (option_map single o) → ((x : ℤ) → value ≡ Some (single x) → of_bool (is_one x) ≡ x)
    → option_map single (truth (option_map is_one o)) ≡ value
unfolding read_result truth
bit_read value None is bit = sym is
bit_read value (Some x) is bit = ap (λ y. Some (single y)) (bit x is) ∙ sym is

-- a read of a truth value
pub truth_means : (n : Numbering) (env : Env) (nodes mid need have new : List GroundNode) (p : Place) (m e : ExprTree) (indices : List (Option Expr)) (known : Unrolled) (ss : List Slot) (count : ℕ)
    (keys : List (List ℤ)) (ts us others : List ℕ) (t : ℕ)
    → Choice n env nodes mid need have m known ss count keys ts others → AreSlotsOf n env nodes mid indices ss → us ≡ open_terms ss → IsTruth have new count keys ts us others t
    → e ≡ read p m (indices_of indices) → ValueType.Bool ≡ type_in env e → n.mode ≡ Mode.Relational → Means n env nodes new e (Number t)
unfolding worth AreTerms
truth_means n env nodes mid need have new p m e indices known ss count keys ts us others t h slots opened chosen tree typed mode = record {
  grows = grows_on nodes mid new h.meant.grows (grows_on mid have new (choice_grows n env nodes mid need have m known ss count keys ts others h) chosen.grows);
  known = chosen.known;
  value = λ r.
      ap (option_map single) (chosen.value r.numbers (subst (λ k. k ≤ length r.numbers) h.counted r.reads.long))
      ∙ bit_read (evaluate n.mode r.values e) (chosen_among have r.numbers keys ts us others)
      (chosen_value n env r nodes mid need have p m e indices known ss count keys ts us others ValueType.Bool h slots opened tree typed
      ∙ ap (λ k. read_result k ValueType.Bool (option_map single (chosen_among have r.numbers keys ts us others))) mode)
      (λ x is. truth_is n env r e x (sym (typed ∙ type_kept env r.values e r.reads.agree)) is);
}

-- what was unrolled, with more nodes behind
pub means_grown : (n : Numbering) (env : Env) (old mid new : List GroundNode) (e : ExprTree) (x : Unrolled) → Grows mid new → Means n env old mid e x → Means n env old new e x
means_grown n env old mid new e x g h = record {
  grows = grows_on old mid new h.grows g;
  known = terms_kept mid new x g h.known;
  value = λ r. worth_kept mid new r.numbers x g h.known ∙ h.value r;
}

-- ---- a read that leaves a matrix

pub all_defined_are : {A : Type 0} (xs : List A) → all_defined (map Some xs) ≡ Some xs
unfolding all_defined
all_defined_are [] = refl
all_defined_are (x ∷ xs) = ap (option_map (λ ys. x ∷ ys)) (all_defined_are xs)

-- what is left of what has a value, whatever numbers the cells have
pub left_means : (n : Numbering) (env : Env) (nodes mid new : List GroundNode) (m : ExprTree) (indices : List (Option Expr)) (known x : Unrolled) (ss : List Slot) (is : List Index) (count : ℕ) (others : List ℕ)
    → n.count ≡ count → Means n env nodes mid m known → AreSlotsOf n env nodes mid indices ss → AreNeeded mid new count (λ numbers. worth mid numbers known) others → others ≡ []
    → ((ns : List GroundNode) (numbers : List ℤ) → map (slot_index ns numbers) ss ≡ map Some is) → IsLeft (λ ns numbers. worth ns numbers known) is x → ((k : ℕ) → AreTerms k known → AreTerms k x)
    → LeftMeans n env nodes new m indices x
unfolding all_there
left_means n env nodes mid new m indices known x ss is count others counted meant slots needed none decided left has = record {
  grows = grows_on nodes mid new meant.grows needed.grows;
  known = has (length new) (terms_kept mid new known needed.grows meant.known);
  value = λ r.
      let enough : count ≤ length r.numbers = subst (λ k. k ≤ length r.numbers) counted r.reads.long in
      let v = some_true (worth mid r.numbers known) (sym (needed.values r.numbers enough) ∙ ap (λ l. is_some (numbers_of_terms new r.numbers l)) none) in
      is_worth new r.numbers x (read_value is v.0) (left new r.numbers v.0 (worth_kept mid new r.numbers known needed.grows meant.known ∙ v.1))
      ∙ sym
      (ap (option_and_then (λ js. option_and_then (read_value js) (evaluate n.mode r.values m))) (ap all_defined (sym (slots.values r) ∙ decided mid r.numbers) ∙ all_defined_are is)
      ∙ ap (option_and_then (read_value is)) (sym (meant.value r) ∙ v.1));
}

pub left_read : (n : Numbering) (env : Env) (nodes new : List GroundNode) (p : Place) (m e : ExprTree) (indices : List (Option Expr)) (ty : ValueType) (x : Unrolled) → LeftMeans n env nodes new m indices x
    → e ≡ read p m (indices_of indices) → ty ≡ type_in env e → ((o : Option ValueTree) → read_result n.mode ty o ≡ o) → Means n env nodes new e x
unfolding on_both
left_read n env nodes new p m e indices ty x left tree typed plain = record {
  grows = left.grows;
  known = left.known;
  value = λ r.
      let value : Option ValueTree = evaluate n.mode r.values m in
      let read : Option ValueTree = option_and_then (λ js. option_and_then (read_value js) value) (all_defined (map (one_index n.mode r.values) indices)) in
      left.value r
      ∙ sym
      (ap (evaluate n.mode r.values) tree ∙ evaluate-read n.mode r.values p m (indices_of indices)
      ∙ ap (λ t. read_result n.mode t (on_both (index_list n.mode r.values (indices_of indices)) value read_value))
      (ap (type_in r.values) (sym tree) ∙ sym (typed ∙ type_kept env r.values e r.reads.agree))
      ∙ ap (λ o. read_result n.mode ty (on_both o value read_value)) (indices_listed n.mode r.values indices)
      ∙ plain read);
}
