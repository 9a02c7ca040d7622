-- Matrices that have a value only where some terms have numbers.
use Rattle.ep_unroll.proofs.Words.{◌≡◌, ℕ, ◌+◌, ◌<◌, ℤ, true, false, List, [], ◌∷◌, ◌++◌, length, Some, None, refl, sym, ap, subst, ◌∙◌, append_assoc, ◌≤◌, Option, is_some, map, option_and_then, option_map, All, append-nil, map-append, all_there, values_from-map, GroundNode, node_value, term_value, Env, evaluate, cell_count, ExprTree, Index, ValueTree, all_defined, as_parts, matrix, read_value, single, value_tree, values_from, Expr, Value, Grows, Puts, IsLeft, LeftMeans, AreTerms, Means, worth, AreNeeded, HaveTerms, worths, IsWhole, numbers_of_terms, only_where, parts_worth, AreSlotsOf, slot_index, Numbering, cells_value, each_from, IsWholeOf, Slot, Unrolled, Number, Fixed, Matrix}
use Rattle.std.specs.declared.alloc.Global.{Global}
use Rattle.std.specs.declared.vec.Vec.{Vec}
use Rattle.ep_unroll.proofs.FormValues.{grows_long, grows_on}
use Rattle.ep_unroll.proofs.GrownParts.{have_both, have_one, matrix_terms, matrix_worth, terms_matrix, worth_kept}
use Rattle.ep_unroll.proofs.LeftSteps.{all_there_are, values_of_all}
use Rattle.ep_unroll.proofs.MatrixSteps.{values_kept}
use Rattle.ep_unroll.proofs.MeaningSteps.{grows_none}
use Rattle.ep_unroll.proofs.ReadValues.{all_defined_are}
use Rattle.ep_unroll.proofs.PartSteps.{is_worth}

-- ---- parts behind a first one

-- Parts of which the first ones were passed, where others are left.
pub record Behind (whole left : List GroundNode → List ℤ → List (Option ValueTree)) (has : ℕ → Type 0) (xs : List Unrolled) : Type 0 where
  pub worths : (nodes : List GroundNode) (numbers : List ℤ) → worths nodes numbers xs ++ left nodes numbers ≡ whole nodes numbers
  pub terms : (count : ℕ) → has count → HaveTerms count xs

pub behind_begin : (left : List GroundNode → List ℤ → List (Option ValueTree)) (has : ℕ → Type 0) (first : Unrolled) (xs : List Unrolled) → xs ≡ first ∷ []
    → ((count : ℕ) → has count → AreTerms count first) → Behind (λ nodes numbers. worth nodes numbers first ∷ left nodes numbers) left has xs
behind_begin left has first xs one first_has = record {
  worths = λ nodes numbers. ap (λ l. worths nodes numbers l ++ left nodes numbers) one;
  terms = λ count h. subst (HaveTerms count) (sym one) (have_one count first (first_has count h));
}

-- the same with none passed
pub behind_none : (whole left : List GroundNode → List ℤ → List (Option ValueTree)) (has : ℕ → Type 0) (xs : List Unrolled) → xs ≡ []
    → ((nodes : List GroundNode) (numbers : List ℤ) → left nodes numbers ≡ whole nodes numbers) → Behind whole left has xs
unfolding HaveTerms
behind_none whole left has xs none same = record {
  worths = λ nodes numbers. ap (λ l. worths nodes numbers l ++ left nodes numbers) none ∙ same nodes numbers;
  terms = λ count h. subst (HaveTerms count) (sym none) tt;
}

pub behind_more : (whole left later : List GroundNode → List ℤ → List (Option ValueTree)) (has : ℕ → Type 0) (x : Unrolled) (xs more : List Unrolled) → Behind whole left has xs → more ≡ xs ++ x ∷ []
    → ((nodes : List GroundNode) (numbers : List ℤ) → left nodes numbers ≡ worth nodes numbers x ∷ later nodes numbers) → ((count : ℕ) → has count → AreTerms count x)
    → Behind whole later has more
behind_more whole left later has x xs more so put cut one_has = record {
  worths = λ nodes numbers.
      ap (λ l. worths nodes numbers l ++ later nodes numbers) put
      ∙ ap (λ os. os ++ later nodes numbers) (map-append (worth nodes numbers) xs (x ∷ []))
      ∙ append_assoc (worths nodes numbers xs) (worth nodes numbers x ∷ []) (later nodes numbers)
      ∙ ap (λ os. worths nodes numbers xs ++ os) (sym (cut nodes numbers))
      ∙ so.worths nodes numbers;
  terms = λ count h. subst (HaveTerms count) (sym put) (have_both count xs (x ∷ []) (so.terms count h) (have_one count x (one_has count h)));
}

pub behind_all : (whole left : List GroundNode → List ℤ → List (Option ValueTree)) (has : ℕ → Type 0) (xs : List Unrolled) → Behind whole left has xs
    → ((nodes : List GroundNode) (numbers : List ℤ) → left nodes numbers ≡ []) → (nodes : List GroundNode) (numbers : List ℤ) → worths nodes numbers xs ≡ whole nodes numbers
behind_all whole left has xs so none nodes numbers =
    sym (append-nil (worths nodes numbers xs)) ∙ ap (λ os. worths nodes numbers xs ++ os) (sym (none nodes numbers)) ∙ so.worths nodes numbers

-- ---- what has a value only where others have

only_single : (o : Option (List ℤ)) (x : Option ℤ) → option_map single (only_where o x) ≡ option_and_then (λ js. option_map single x) o
unfolding only_where
only_single None x = refl
only_single (Some js) x = refl

-- a term's number
pub term_whole : (old new : List GroundNode) (others : List ℕ) (a t : ℕ) → IsWhole old new others a t → IsWholeOf old new others (λ numbers. worth old numbers (Number a)) (Number t)
unfolding worth AreTerms
term_whole old new others a t h = record {
  grows = h.grows;
  known = h.known;
  value = λ numbers. ap (option_map single) (h.value numbers) ∙ only_single (numbers_of_terms old numbers others) (term_value old numbers a);
}

-- the number of a node that was taken in
pub put_whole : (old mid new : List GroundNode) (others : List ℕ) (own : GroundNode) (seen : List ℤ → Option ValueTree) (a t : ℕ) → All (λ x. x < length old) others → Puts old mid own a → IsWhole mid new others a t
    → ((numbers : List ℤ) → option_map single (node_value numbers (term_value mid numbers) own) ≡ seen numbers) → IsWholeOf old new others seen (Number t)
unfolding worth AreTerms
put_whole old mid new others own seen a t known put whole is = record {
  grows = grows_on old mid new put.grows whole.grows;
  known = whole.known;
  value = λ numbers.
      ap (option_map single) (whole.value numbers) ∙ only_single (numbers_of_terms mid numbers others) (term_value mid numbers a)
      ∙ ap (λ l. option_and_then (λ js. option_map single (term_value mid numbers a)) (all_there l)) (values_kept old mid numbers others put.grows known)
      ∙ ap (λ x. option_and_then (λ js. x) (numbers_of_terms old numbers others)) (ap (option_map single) (put.value numbers) ∙ is numbers);
}

-- what has no value
pub nothing_whole : (old : List GroundNode) (others : List ℕ) → IsWholeOf old old others (λ numbers. None) (Fixed None)
unfolding worth AreTerms
nothing_whole old others = record { grows = grows_none old old refl; known = tt; value = λ numbers. go (numbers_of_terms old numbers others) None refl }
  where
    go : (o : Option (List ℤ)) (x : Option ValueTree) → x ≡ None → x ≡ option_and_then (λ js. x) o
    go None x e = e
    go (Some js) x e = refl

first_lost : (own : List ℤ) (o : Option (List ℤ)) (x : Option ValueTree) (rest : List (Option ValueTree))
    → option_map (λ vs. matrix own (as_parts vs)) (all_defined (option_and_then (λ js. x) o ∷ rest)) ≡ option_and_then (λ js. option_map (λ vs. matrix own (as_parts vs)) (all_defined (x ∷ rest))) o
unfolding all_defined
first_lost own None x rest = refl
first_lost own (Some js) x rest = refl

-- a matrix by its first part
pub matrix_whole : (old new : List GroundNode) (others : List ℕ) (own : List ℤ) (first whole : List ℤ → Option ValueTree) (rest : List ℤ → List (Option ValueTree)) (js : Vec ℤ Global) (ys : Vec Unrolled Global) (y : Unrolled)
    → IsWholeOf old new others first y → js.items ≡ own → ((numbers : List ℤ) → worths new numbers ys.items ≡ worth new numbers y ∷ rest numbers) → HaveTerms (length new) ys.items
    → ((numbers : List ℤ) → option_map (λ vs. matrix own (as_parts vs)) (all_defined (first numbers ∷ rest numbers)) ≡ whole numbers)
    → IsWholeOf old new others whole (Matrix js ys)
matrix_whole old new others own first whole rest js ys y h same parts known is = record {
  grows = h.grows;
  known = terms_matrix (length new) js ys known;
  value = λ numbers.
      matrix_worth new numbers js ys ∙ ap (λ l. parts_worth l new numbers ys.items) same
      ∙ ap (λ os. option_map (λ vs. matrix own (as_parts vs)) (all_defined os)) (parts numbers ∙ ap (λ o. o ∷ rest numbers) (h.value numbers))
      ∙ first_lost own (numbers_of_terms old numbers others) (first numbers) (rest numbers)
      ∙ ap (λ o. option_and_then (λ ks. o) (numbers_of_terms old numbers others)) (is numbers);
}

-- the same of another way to say the value
pub whole_same : (old new : List GroundNode) (others : List ℕ) (seen whole : List ℤ → Option ValueTree) (x : Unrolled) → ((numbers : List ℤ) → seen numbers ≡ whole numbers)
    → IsWholeOf old new others seen x → IsWholeOf old new others whole x
whole_same old new others seen whole x same h = record {
  grows = h.grows;
  known = h.known;
  value = λ numbers. h.value numbers ∙ ap (λ o. option_and_then (λ js. o) (numbers_of_terms old numbers others)) (same numbers);
}

-- ---- a read that leaves a matrix

no_truth : {B : Type 0} → false ≡ true → B
no_truth e = absurd cc

-- what is left of what may lack a value, where it has none without others
pub left_whole : (n : Numbering) (env : Env) (nodes old mid new : List GroundNode) (m : ExprTree) (indices : List (Option Expr)) (known left x : Unrolled) (ss : List Slot) (is : List Index) (count : ℕ) (others : List ℕ)
    → n.count ≡ count → Means n env nodes old m known → AreSlotsOf n env nodes old indices ss → AreNeeded old mid count (λ numbers. worth old numbers known) others
    → ((ns : List GroundNode) (numbers : List ℤ) → map (slot_index ns numbers) ss ≡ map Some is) → IsLeft (λ ns numbers. worth ns numbers known) is left
    → IsWholeOf mid new others (λ numbers. worth mid numbers left) x
    → LeftMeans n env nodes new m indices x
left_whole n env nodes old mid new m indices known left x ss is count others counted meant slots needed decided leaves whole = record {
  grows = grows_on nodes mid new (grows_on nodes old mid meant.grows needed.grows) whole.grows;
  known = whole.known;
  value = λ r.
      let enough : count ≤ length r.numbers = subst (λ k. k ≤ length r.numbers) counted r.reads.long in
      whole.value r.numbers
      ∙ go (numbers_of_terms mid r.numbers others) (worth old r.numbers known) (worth mid r.numbers left) (needed.values r.numbers enough)
      (λ v e. is_worth mid r.numbers left (read_value is v) (leaves mid r.numbers v (worth_kept old mid r.numbers known needed.grows meant.known ∙ e)))
      ∙ ap (option_and_then (read_value is)) (meant.value r)
      ∙ sym (ap (option_and_then (λ js. option_and_then (read_value js) (evaluate n.mode r.values m))) (ap all_defined (sym (slots.values r) ∙ decided old r.numbers) ∙ all_defined_are is));
}
  where
    go : (o : Option (List ℤ)) (v : Option ValueTree) (w : Option ValueTree) → is_some o ≡ is_some v → ((u : ValueTree) → v ≡ Some u → w ≡ read_value is u)
        → option_and_then (λ js. w) o ≡ option_and_then (read_value is) v
    go None None w same is_left = refl
    go None (Some u) w same is_left = no_truth same
    go (Some js) None w same is_left = no_truth (sym same)
    go (Some js) (Some u) w same is_left = is_left u refl

-- ---- the parts of a block of cells

pub cells_cut : (numbers : List ℤ) (inner : List (List ℤ)) (cell more each : ℕ) (x : ℤ) (left behind : List ℤ) (o : Option ValueTree) → left ≡ x ∷ behind → each ≡ cell_count inner → more ≡ cell + each
    → cells_value numbers inner cell ≡ o → each_from (cells_value numbers inner) (cell_count inner) cell left ≡ o ∷ each_from (cells_value numbers inner) (cell_count inner) more behind
unfolding each_from
cells_cut numbers inner cell more each x left behind o cut size next same =
    ap (each_from (cells_value numbers inner) (cell_count inner) cell) cut
    ∙ ap (λ y. y ∷ each_from (cells_value numbers inner) (cell_count inner) (cell + cell_count inner) behind) same
    ∙ ap (λ k. o ∷ each_from (cells_value numbers inner) (cell_count inner) k behind) (sym (next ∙ ap (λ k. cell + k) size))

pub cells_none : (numbers : List ℤ) (inner : List (List ℤ)) (cell : ℕ) (left : List ℤ) → left ≡ [] → each_from (cells_value numbers inner) (cell_count inner) cell left ≡ []
unfolding each_from
cells_none numbers inner cell left none = ap (each_from (cells_value numbers inner) (cell_count inner) cell) none

pub cells_parts : (numbers : List ℤ) (domains : List (List ℤ)) (own : List ℤ) (inner : List (List ℤ)) (k : ℕ) (i : ℤ) (later : List ℤ) → domains ≡ own ∷ inner → own ≡ i ∷ later
    → option_map (λ vs. matrix own (as_parts vs)) (all_defined (cells_value numbers inner k ∷ each_from (cells_value numbers inner) (cell_count inner) (k + cell_count inner) later)) ≡ cells_value numbers domains k
unfolding cells_value each_from
cells_parts numbers domains own inner k i later split cut =
    ap (λ l. option_map (λ vs. matrix own (as_parts vs)) (all_defined (each_from (cells_value numbers inner) (cell_count inner) k l))) (sym cut)
    ∙ ap (λ ds. cells_value numbers ds k) (sym split)

-- ---- the parts of a value

pub value_parts : (own : List ℤ) (v : Value) (later all : List Value) → all ≡ v ∷ later
    → option_map (λ vs. matrix own (as_parts vs)) (all_defined (Some (value_tree v) ∷ values_of_all later)) ≡ Some (matrix own (values_from all))
value_parts own v later all cut =
    ap (option_map (λ vs. matrix own (as_parts vs))) (all_there_are (v ∷ later)) ∙ ap (λ l. Some (matrix own l)) (sym (values_from-map (v ∷ later)))
    ∙ ap (λ l. Some (matrix own (values_from l))) (sym cut)

-- ---- the parts of what was unrolled

pub known_kept : (old new : List GroundNode) (ts : List ℕ) → Grows old new → All (λ t. t < length old) ts → All (λ t. t < length new) ts
known_kept old new ts g h k d less = grows_long old new _ g (h k d less)

pub later_terms : (count : ℕ) (x known : Unrolled) (js : Vec ℤ Global) (xs : Vec Unrolled Global) (later : List Unrolled) → AreTerms count known → known ≡ Matrix js xs → xs.items ≡ x ∷ later
    → AreTerms count x × HaveTerms count later
unfolding HaveTerms
later_terms count x known js xs later h is cut = subst (HaveTerms count) cut (matrix_terms count js xs (subst (AreTerms count) is h))

pub known_parts : (old : List GroundNode) (numbers : List ℤ) (x known : Unrolled) (js : Vec ℤ Global) (xs : Vec Unrolled Global) (later : List Unrolled) → known ≡ Matrix js xs → xs.items ≡ x ∷ later
    → option_map (λ vs. matrix js.items (as_parts vs)) (all_defined (worth old numbers x ∷ worths old numbers later)) ≡ worth old numbers known
known_parts old numbers x known js xs later is cut =
    ap (λ l. parts_worth js.items old numbers l) (sym cut) ∙ sym (matrix_worth old numbers js xs) ∙ ap (worth old numbers) (sym is)

-- cells as the parts of a matrix
pub cells_matrix : (own : List ℤ) (inner : List (List ℤ)) (first : ℕ) (left : List ℤ) (rest : List GroundNode → List ℤ → List (Option ValueTree)) (has : ℕ → Type 0) (is : Vec ℤ Global) (xs : Vec Unrolled Global)
    → left ≡ [] → own ≡ is.items ++ left → Behind (λ nodes numbers. each_from (cells_value numbers inner) (cell_count inner) first own) rest has xs.items
    → ((nodes : List GroundNode) (numbers : List ℤ) → rest nodes numbers ≡ []) → (nodes : List GroundNode) (numbers : List ℤ) → worth nodes numbers (Matrix is xs) ≡ cells_value numbers (own ∷ inner) first
unfolding cells_value
cells_matrix own inner first left rest has is xs none passed so ended nodes numbers =
    let whole : is.items ≡ own = sym (append-nil is.items) ∙ ap (λ l. is.items ++ l) (sym none) ∙ sym passed in
    matrix_worth nodes numbers is xs ∙ ap (λ l. parts_worth l nodes numbers xs.items) whole
    ∙ ap (λ os. option_map (λ vs. matrix own (as_parts vs)) (all_defined os))
    (behind_all (λ ns js. each_from (cells_value js inner) (cell_count inner) first own) rest has xs.items so ended nodes numbers)
