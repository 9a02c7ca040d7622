-- What indices leave of what was unrolled, one part after another.
use Rattle.ep_unroll.proofs.Words.{◌≡◌, ℕ, ℤ, false, List, [], ◌∷◌, ◌++◌, Some, None, refl, sym, ap, subst, ◌∙◌, append_assoc, slice_get, Option, is_some, map, option_and_then, option_map, append-nil, map-append, map_is, no_some, some_is, values_from-map, seen_held, Held, GroundNode, term_value, Index, ValueTree, all_defined, any_index, as_parts, at_index, listed_values, matrix, read_value, single, value_tree, values_from, Value, IsWorth, IsLeft, AreTerms, worth, HaveTerms, worths, part_with, parts_worth, cells_value, Unrolled, Cells, Fixed, Matrix, Matrix', Number}
use Rattle.std.specs.declared.alloc.Global.{Global}
use Rattle.std.specs.declared.vec.Vec.{Vec}
use Rattle.ep_unroll.proofs.EntrySteps.{defined_first, no_part, opened_parts, part_leads, part_misses}
use Rattle.ep_unroll.proofs.GrownParts.{have_both, have_one, matrix_worth, terms_matrix}
use Rattle.ep_unroll.proofs.PartSteps.{is_worth}

-- ---- a number, which has no part

pub number_left : (x : Unrolled) (t : ℕ) (i : Index) (is : List Index) → x ≡ Number t → IsLeft (λ nodes numbers. worth nodes numbers x) (i ∷ is) (Fixed None)
unfolding worth IsWorth
number_left x t i is same nodes numbers v e = no_part (term_value nodes numbers t) i is v (sym (ap (worth nodes numbers) same) ∙ e)

-- ---- no index

pub some_worth : (nodes : List GroundNode) (numbers : List ℤ) (x : Unrolled) (v : ValueTree) → worth nodes numbers x ≡ Some v → IsWorth nodes numbers x (Some v)
unfolding worth IsWorth
some_worth nodes numbers (Number t) v e = e
some_worth nodes numbers (Cells k domains) v e = (v, refl, e)
some_worth nodes numbers (Fixed seen) v e = e
some_worth nodes numbers (Matrix' indices size parts) v e = e

-- ---- the part with an index

pub left_part : (own : List ℤ) (xs : List Unrolled) (i : ℤ) (x y : Unrolled) (is : List Index) → part_with own xs i ≡ Some x → IsLeft (λ nodes numbers. worth nodes numbers x) is y
    → IsLeft (λ nodes numbers. parts_worth own nodes numbers xs) (at_index i ∷ is) y
unfolding read_value
left_part own xs i x y is some h nodes numbers v e =
    let p = opened_parts own nodes numbers xs v e in
    let q = part_leads nodes numbers own xs i x p.0 p.1 some in
    subst (IsWorth nodes numbers y) (sym (ap (option_and_then (read_value is)) q.2) ∙ ap (read_value (at_index i ∷ is)) p.2) (h nodes numbers q.0 q.1)

pub left_nowhere : (own : List ℤ) (xs : List Unrolled) (i : ℤ) (is : List Index) (o : List GroundNode → List ℤ → Option ValueTree) → part_with own xs i ≡ None
    → ((nodes : List GroundNode) (numbers : List ℤ) → o nodes numbers ≡ None)
    → (nodes : List GroundNode) (numbers : List ℤ) (v : ValueTree) → parts_worth own nodes numbers xs ≡ Some v → o nodes numbers ≡ read_value (at_index i ∷ is) v
unfolding read_value
left_nowhere own xs i is o none nothing nodes numbers v e =
    let p = opened_parts own nodes numbers xs v e in
    nothing nodes numbers ∙ sym (ap (option_and_then (read_value is)) (part_misses nodes numbers own xs i p.0 p.1 none)) ∙ ap (read_value (at_index i ∷ is)) p.2

-- ---- each part

pub listed_parts : (ws : List ValueTree) → listed_values (as_parts ws) ≡ ws
unfolding listed_values as_parts
listed_parts [] = refl
listed_parts (w ∷ ws) = ap (λ vs. w ∷ vs) (listed_parts ws)

-- a number has no parts
pub nothing_of_number : (nodes : List GroundNode) (numbers : List ℤ) (domains : List (List ℤ)) (first : ℕ) (v : ValueTree) (rest : List Index) (x : Option ValueTree)
    → domains ≡ [] → cells_value numbers domains first ≡ Some v → x ≡ None → x ≡ read_value (any_index ∷ rest) v
unfolding cells_value read_value
nothing_of_number nodes numbers domains first v rest x none e is =
    let p = map_is single (slice_get numbers first) v (ap (λ ds. cells_value numbers ds first) (sym none) ∙ e) in
    is ∙ ap (read_value (any_index ∷ rest)) p.2

-- What indices leave of the parts that were passed, where others are left.
pub record LeftSoFar (is : List Index) (all left ys : List Unrolled) : Type 0 where
  pub worths : (nodes : List GroundNode) (numbers : List ℤ) (ws : List ValueTree) → all_defined (worths nodes numbers all) ≡ Some ws
      → (us : List ValueTree) × (all_defined (worths nodes numbers left) ≡ Some us) × (worths nodes numbers ys ++ map (read_value is) us ≡ map (read_value is) ws)
  pub terms : (count : ℕ) → HaveTerms count all → HaveTerms count left × HaveTerms count ys

pub left_begin : (is : List Index) (all left ys : List Unrolled) → left ≡ all → ys ≡ [] → LeftSoFar is all left ys
unfolding HaveTerms
left_begin is all left ys same none = record {
  worths = λ nodes numbers ws e. (ws, ap (λ l. all_defined (worths nodes numbers l)) same ∙ e, ap (λ l. worths nodes numbers l ++ map (read_value is) ws) none);
  terms = λ count h. (subst (HaveTerms count) (sym same) h, subst (HaveTerms count) (sym none) tt);
}

pub left_more : (is : List Index) (all left behind ys more : List Unrolled) (x y : Unrolled) → LeftSoFar is all left ys → left ≡ x ∷ behind → more ≡ ys ++ y ∷ []
    → IsLeft (λ nodes numbers. worth nodes numbers x) is y → ((count : ℕ) → AreTerms count x → AreTerms count y) → LeftSoFar is all behind more
unfolding HaveTerms
left_more is all left behind ys more x y so cut put h has = record {
  worths = λ nodes numbers ws e.
      let p = so.worths nodes numbers ws e in
      let q = defined_first (worth nodes numbers x) (worths nodes numbers behind) p.0 (ap (λ l. all_defined (worths nodes numbers l)) (sym cut) ∙ p.1) in (
        q.1,
        q.3,
        ap (λ l. worths nodes numbers l ++ map (read_value is) q.1) put
            ∙ ap (λ os. os ++ map (read_value is) q.1) (map-append (worth nodes numbers) ys (y ∷ []))
            ∙ append_assoc (worths nodes numbers ys) (worth nodes numbers y ∷ []) (map (read_value is) q.1)
            ∙ ap (λ o. worths nodes numbers ys ++ o ∷ map (read_value is) q.1) (is_worth nodes numbers y (read_value is q.0) (h nodes numbers q.0 q.2))
            ∙ ap (λ us. worths nodes numbers ys ++ map (read_value is) us) q.4
            ∙ p.2,
      );
  terms = λ count known.
      let p = so.terms count known in
      let split = subst (HaveTerms count) cut p.0 in (split.1, subst (HaveTerms count) (sym put) (have_both count ys (y ∷ []) p.1 (have_one count y (has count split.0))));
}

pub left_done : (is : List Index) (own : List ℤ) (all left : List Unrolled) (js : Vec ℤ Global) (ys : Vec Unrolled Global) → LeftSoFar is all left ys.items → left ≡ [] → js.items ≡ own
    → IsLeft (λ nodes numbers. parts_worth own nodes numbers all) (any_index ∷ is) (Matrix js ys)
unfolding read_value all_defined IsWorth
left_done is own all left js ys so none same nodes numbers v e =
    let p = opened_parts own nodes numbers all v e in
    let q = so.worths nodes numbers p.0 p.1 in
    let ended : [] ≡ q.0 = some_is (ap (λ l. all_defined (worths nodes numbers l)) (sym none) ∙ q.1) in
    let whole : worths nodes numbers ys.items ≡ map (read_value is) p.0 =
    sym (append-nil (worths nodes numbers ys.items)) ∙ ap (λ us. worths nodes numbers ys.items ++ map (read_value is) us) ended ∙ q.2 in
    matrix_worth nodes numbers js ys ∙ ap (λ l. parts_worth l nodes numbers ys.items) same
    ∙ ap (λ os. option_map (λ vs. matrix own (as_parts vs)) (all_defined os)) (whole ∙ ap (map (read_value is)) (sym (listed_parts p.0)))
    ∙ ap (read_value (any_index ∷ is)) p.2

pub left_terms : (is : List Index) (all left : List Unrolled) (js : Vec ℤ Global) (ys : Vec Unrolled Global) → LeftSoFar is all left ys.items → (count : ℕ) → HaveTerms count all → AreTerms count (Matrix js ys)
left_terms is all left js ys so count known = terms_matrix count js ys ((so.terms count known).1)

-- ---- parts once more

-- Parts that were copied, where others are left.
pub record CopiedSoFar (all left ys : List Unrolled) : Type 0 where
  pub worths : (nodes : List GroundNode) (numbers : List ℤ) → worths nodes numbers ys ++ worths nodes numbers left ≡ worths nodes numbers all
  pub terms : (count : ℕ) → HaveTerms count all → HaveTerms count left × HaveTerms count ys

pub copied_begin : (all left ys : List Unrolled) → left ≡ all → ys ≡ [] → CopiedSoFar all left ys
unfolding HaveTerms
copied_begin all left ys same none = record {
  worths = λ nodes numbers. ap (λ l. worths nodes numbers l ++ worths nodes numbers left) none ∙ ap (worths nodes numbers) same;
  terms = λ count h. (subst (HaveTerms count) (sym same) h, subst (HaveTerms count) (sym none) tt);
}

pub copied_more : (all left behind ys more : List Unrolled) (x y : Unrolled) → CopiedSoFar all left ys → left ≡ x ∷ behind → more ≡ ys ++ y ∷ []
    → ((nodes : List GroundNode) (numbers : List ℤ) → worth nodes numbers y ≡ worth nodes numbers x) → ((count : ℕ) → AreTerms count x → AreTerms count y) → CopiedSoFar all behind more
unfolding HaveTerms
copied_more all left behind ys more x y so cut put same has = record {
  worths = λ nodes numbers.
      ap (λ l. worths nodes numbers l ++ worths nodes numbers behind) put
      ∙ ap (λ os. os ++ worths nodes numbers behind) (map-append (worth nodes numbers) ys (y ∷ []))
      ∙ append_assoc (worths nodes numbers ys) (worth nodes numbers y ∷ []) (worths nodes numbers behind)
      ∙ ap (λ o. worths nodes numbers ys ++ o ∷ worths nodes numbers behind) (same nodes numbers)
      ∙ ap (λ l. worths nodes numbers ys ++ worths nodes numbers l) (sym cut)
      ∙ so.worths nodes numbers;
  terms = λ count known.
      let p = so.terms count known in
      let split = subst (HaveTerms count) cut p.0 in (split.1, subst (HaveTerms count) (sym put) (have_both count ys (y ∷ []) p.1 (have_one count y (has count split.0))));
}

pub copied_done : (is : Vec ℤ Global) (xs : Vec Unrolled Global) (left : List Unrolled) (js : Vec ℤ Global) (ys : Vec Unrolled Global) → CopiedSoFar xs.items left ys.items → left ≡ [] → js.items ≡ is.items
    → (nodes : List GroundNode) (numbers : List ℤ) → worth nodes numbers (Matrix js ys) ≡ worth nodes numbers (Matrix is xs)
copied_done is xs left js ys so none same nodes numbers =
    matrix_worth nodes numbers js ys ∙ ap (λ l. parts_worth l nodes numbers ys.items) same
    ∙ ap (λ os. option_map (λ vs. matrix is.items (as_parts vs)) (all_defined os))
    (sym (append-nil (worths nodes numbers ys.items)) ∙ ap (λ l. worths nodes numbers ys.items ++ worths nodes numbers l) (sym none) ∙ so.worths nodes numbers)
    ∙ sym (matrix_worth nodes numbers is xs)

pub copied_terms : (is : Vec ℤ Global) (xs : Vec Unrolled Global) (left : List Unrolled) (js : Vec ℤ Global) (ys : Vec Unrolled Global) → CopiedSoFar xs.items left ys.items
    → (count : ℕ) → HaveTerms count xs.items → AreTerms count (Matrix js ys)
copied_terms is xs left js ys so count known = terms_matrix count js ys ((so.terms count known).1)

-- ---- the parts of a value

abbrev pub values_of_all : List Value → List (Option ValueTree)
values_of_all vs = map (λ v. Some (value_tree v)) vs

-- Parts of a value that were opened, where others are left.
pub record OpenedSoFar (all left : List Value) (ys : List Unrolled) : Type 0 where
  pub worths : (nodes : List GroundNode) (numbers : List ℤ) → worths nodes numbers ys ++ values_of_all left ≡ values_of_all all
  pub terms : (count : ℕ) → HaveTerms count ys

pub opened_begin : (all left : List Value) (ys : List Unrolled) → left ≡ all → ys ≡ [] → OpenedSoFar all left ys
unfolding HaveTerms
opened_begin all left ys same none = record {
  worths = λ nodes numbers. ap (λ l. worths nodes numbers l ++ values_of_all left) none ∙ ap values_of_all same;
  terms = λ count. subst (HaveTerms count) (sym none) tt;
}

pub opened_more : (all left behind : List Value) (ys more : List Unrolled) (x : Value) (y : Unrolled) → OpenedSoFar all left ys → left ≡ x ∷ behind → more ≡ ys ++ y ∷ []
    → ((nodes : List GroundNode) (numbers : List ℤ) → worth nodes numbers y ≡ Some (value_tree x)) → ((count : ℕ) → AreTerms count y) → OpenedSoFar all behind more
opened_more all left behind ys more x y so cut put is has = record {
  worths = λ nodes numbers.
      ap (λ l. worths nodes numbers l ++ values_of_all behind) put
      ∙ ap (λ os. os ++ values_of_all behind) (map-append (worth nodes numbers) ys (y ∷ []))
      ∙ append_assoc (worths nodes numbers ys) (worth nodes numbers y ∷ []) (values_of_all behind)
      ∙ ap (λ o. worths nodes numbers ys ++ o ∷ values_of_all behind) (is nodes numbers)
      ∙ ap (λ l. worths nodes numbers ys ++ values_of_all l) (sym cut)
      ∙ so.worths nodes numbers;
  terms = λ count. subst (HaveTerms count) (sym put) (have_both count ys (y ∷ []) (so.terms count) (have_one count y (has count)));
}

pub all_there_are : (vs : List Value) → all_defined (values_of_all vs) ≡ Some (map value_tree vs)
unfolding all_defined
all_there_are [] = refl
all_there_are (v ∷ vs) = ap (option_map (λ ws. value_tree v ∷ ws)) (all_there_are vs)

pub opened_done : (own : List ℤ) (all left : List Value) (js : Vec ℤ Global) (ys : Vec Unrolled Global) → OpenedSoFar all left ys.items → left ≡ [] → js.items ≡ own
    → (nodes : List GroundNode) (numbers : List ℤ) → worth nodes numbers (Matrix js ys) ≡ Some (matrix own (values_from all))
opened_done own all left js ys so none same nodes numbers =
    matrix_worth nodes numbers js ys ∙ ap (λ l. parts_worth l nodes numbers ys.items) same
    ∙ ap (λ os. option_map (λ vs. matrix own (as_parts vs)) (all_defined os))
    (sym (append-nil (worths nodes numbers ys.items)) ∙ ap (λ l. worths nodes numbers ys.items ++ values_of_all l) (sym none) ∙ so.worths nodes numbers)
    ∙ ap (option_map (λ vs. matrix own (as_parts vs))) (all_there_are all) ∙ ap (λ l. Some (matrix own l)) (sym (values_from-map all))

pub opened_terms : (all left : List Value) (js : Vec ℤ Global) (ys : Vec Unrolled Global) → OpenedSoFar all left ys.items → (count : ℕ) → AreTerms count (Matrix js ys)
opened_terms all left js ys so count = terms_matrix count js ys (so.terms count)

-- what has no value has none that indices could leave something of
pub nothing_seen : {P : Type 0} (seen : Option Held) (v : ValueTree) → is_some seen ≡ false → seen_held seen ≡ Some v → P
nothing_seen None v none e = no_some e
nothing_seen (Some held) v none e = absurd cc
