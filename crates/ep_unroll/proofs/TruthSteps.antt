-- Truth values in both modes: by what a node says, and by the parts that have to have values.
use Rattle.ep_unroll.proofs.Words.{◌≡◌, ℕ, suc, ◌+◌, ◌<◌, ◌≤◌, Bool, true, false, ◌&&◌, ℤ, pos, List, [], ◌∷◌, ◌++◌, length, drop, get_or, Some, None, refl, sym, ap, subst, ◌∙◌, arith, Option, is_some, map, option_and_then, option_map, if◌then◌else◌, ◌==◌, All, list_all, list_any, Decides-eqb, at_drop_all, at_drop_more, compare_holds, counts_hold, is_row_of, of_bool, same_numbers, times_in, map_both, all_there, CompareOp, GroundNode, node_value, term_value, number_in, truth_in, undefined_truth, single, Mode, Puts, ArePartial, HasNumber, only_where, needed_in}
use Rattle.ep_ground.specs.Nodes as node
use Rattle.ep_ground.specs.Terms.{truth}

-- ---- what a truth value needs

pub no_less : (k : ℕ) → k < 0 → ⊥
no_less k less = omega (arith, less)

pub none_needed : (nodes : List GroundNode) (count : ℕ) (mode : Mode) (ts us : List ℕ) → mode ≡ Mode.Relational → us ≡ [] → ArePartial nodes count (needed_in mode ts) us
unfolding needed_in
none_needed nodes count mode ts us is none = record {
  known = subst (All (λ t. t < length nodes)) (sym none) (λ k d less. absurd (no_less k less));
  values = λ numbers long.
      ap (λ l. is_some (all_there (map (term_value nodes numbers) l))) none
      ∙ ap (λ m. is_some (all_there (map (term_value nodes numbers) (needed_in m ts)))) (sym is);
}

pub all_needed : (nodes : List GroundNode) (count : ℕ) (mode : Mode) (ts us : List ℕ) → mode ≡ Mode.Strict → ArePartial nodes count ts us → ArePartial nodes count (needed_in mode ts) us
unfolding needed_in
all_needed nodes count mode ts us is h = record {
  known = h.known;
  values = λ numbers long. h.values numbers long ∙ ap (λ m. is_some (all_there (map (term_value nodes numbers) (needed_in m ts)))) (sym is);
}

-- the same by a list that is equal
pub those_needed : (nodes : List GroundNode) (count : ℕ) (mode : Mode) (ts ts' us : List ℕ) → mode ≡ Mode.Strict → ts' ≡ ts → ArePartial nodes count ts' us → ArePartial nodes count (needed_in mode ts) us
those_needed nodes count mode ts ts' us is same h = all_needed nodes count mode ts us is (subst (λ l. ArePartial nodes count l us) same h)

-- ---- what a node says

-- A number says a truth value, or 0 where there is none in the relational mode. In the strict mode it may be any then.
unfoldable pub IsToldBy : Mode → Option Bool → Option ℤ → Type 0
IsToldBy Mode.Relational None o = o ≡ Some (pos 0)
IsToldBy Mode.Relational (Some b) o = o ≡ Some (of_bool b)
IsToldBy Mode.Strict None o = Unit {0}
IsToldBy Mode.Strict (Some b) o = o ≡ Some (of_bool b)

pub told_both : (mode : Mode) (f : Option Bool) (o : Option ℤ) → o ≡ truth f → IsToldBy mode f o
unfolding IsToldBy truth
told_both Mode.Relational None o e = e
told_both Mode.Relational (Some b) o e = e
told_both Mode.Strict None o e = tt
told_both Mode.Strict (Some b) o e = e

pub told_value : (mode : Mode) (value : ℕ → Option ℤ) (ts : List ℕ) (f : Option Bool) (o : Option ℤ) (others : Option (List ℤ))
    → is_some others ≡ is_some (all_there (map value (needed_in mode ts))) → IsToldBy mode f o → is_some (all_there (map value ts)) ≡ is_some f
    → truth_in mode f ≡ option_map single (only_where others o)
unfolding needed_in IsToldBy truth_in undefined_truth only_where all_there
told_value Mode.Relational value ts None o None e told h = absurd (let x : false ≡ true = e in cc)
told_value Mode.Relational value ts None o (Some ys) e told h = sym (ap (option_map single) told)
told_value Mode.Relational value ts (Some b) o None e told h = absurd (let x : false ≡ true = e in cc)
told_value Mode.Relational value ts (Some b) o (Some ys) e told h = sym (ap (option_map single) told)
told_value Mode.Strict value ts None o None e told h = refl
told_value Mode.Strict value ts None o (Some ys) e told h = absurd (let x : true ≡ false = e ∙ h in cc)
told_value Mode.Strict value ts (Some b) o None e told h = absurd (let x : false ≡ true = e ∙ h in cc)
told_value Mode.Strict value ts (Some b) o (Some ys) e told h = sym (ap (option_map single) told)

-- ---- parts that have values where a truth value is there

pub one_there : {B : Type 0} (k : ℤ → B) (o : Option ℤ) → is_some (all_there (o ∷ [])) ≡ is_some (option_map k o)
unfolding all_there
one_there k None = refl
one_there k (Some x) = refl

pub two_there : {B : Type 0} (k : ℤ → ℤ → B) (o o' : Option ℤ) → is_some (all_there (o ∷ o' ∷ [])) ≡ is_some (map_both k o o')
unfolding all_there map_both
two_there k None o' = refl
two_there k (Some x) None = refl
two_there k (Some x) (Some y) = refl

pub list_there : {A B : Type 0} (k : A → B) (o : Option A) → is_some o ≡ is_some (option_map k o)
list_there k None = refl
list_there k (Some x) = refl

pub lists_there : {B : Type 0} (k : List ℤ → List ℤ → Option B) (xs ys : List (Option ℤ)) → ((ws bs : List ℤ) → all_there xs ≡ Some ws → all_there ys ≡ Some bs → is_some (k ws bs) ≡ true)
    → is_some (all_there (xs ++ ys)) ≡ is_some (option_and_then (λ ws. option_and_then (k ws) (all_there ys)) (all_there xs))
unfolding all_there
lists_there k [] ys h = by (all_there ys) refl
  where
    by : (o : Option (List ℤ)) → all_there ys ≡ o → is_some o ≡ is_some (option_and_then (k []) o)
    by None e = refl
    by (Some bs) e = sym (h [] bs refl e)
lists_there k (None ∷ xs) ys h = refl
lists_there k (Some x ∷ xs) ys h =
    grown (all_there (xs ++ ys)) ∙ lists_there (λ ws bs. k (x ∷ ws) bs) xs ys (λ ws bs e e'. h (x ∷ ws) bs (ap (option_map (λ ns. x ∷ ns)) e) e') ∙ moved (all_there xs) (all_there ys)
  where
    grown : (o : Option (List ℤ)) → is_some (option_map (λ ns. x ∷ ns) o) ≡ is_some o
    grown None = refl
    grown (Some ws) = refl

    moved : (o o' : Option (List ℤ)) → is_some (option_and_then (λ ws. option_and_then (k (x ∷ ws)) o') o) ≡ is_some (option_and_then (λ ws. option_and_then (k ws) o') (option_map (λ ns. x ∷ ns) o))
    moved None o' = refl
    moved (Some ws) o' = refl

-- ---- a truth value without its parts

pub no_truth_put : (old new : List GroundNode) (mode : Mode) (t : ℕ) → mode ≡ Mode.Relational → Puts old new (node.constant (pos 0)) t → HasNumber old new (λ numbers. number_in (undefined_truth mode)) t
unfolding node_value number_in undefined_truth
no_truth_put old new mode t is put = record {
  grows = put.grows;
  known = put.known;
  value = λ numbers. put.value numbers ∙ ap (λ m. number_in (undefined_truth m)) (sym is);
}

pub no_value_put : (old new : List GroundNode) (mode : Mode) (t : ℕ) → mode ≡ Mode.Strict → Puts old new node.undefined t → HasNumber old new (λ numbers. number_in (undefined_truth mode)) t
unfolding node_value number_in undefined_truth
no_value_put old new mode t is put = record {
  grows = put.grows;
  known = put.known;
  value = λ numbers. put.value numbers ∙ ap (λ m. number_in (undefined_truth m)) (sym is);
}

-- what has no truth value
pub untold : (mode : Mode) → truth_in mode None ≡ option_map single (number_in (undefined_truth mode))
unfolding truth_in undefined_truth number_in
untold Mode.Relational = refl
untold Mode.Strict = refl

-- ---- how long lists are

pub there_length : (os : List (Option ℤ)) (js : List ℤ) → all_there os ≡ Some js → length js ≡ length os
unfolding all_there
there_length [] js e = ap length (some_is (sym e))
  where
    some_is : {A : Type 0} {x y : A} → Some x ≡ Some y → x ≡ y
    some_is h = cc
there_length (None ∷ os) js e = absurd cc
there_length (Some x ∷ os) js e = by (all_there os) refl e (λ ks same. there_length os ks same)
  where
    some_is : {A : Type 0} {x y : A} → Some x ≡ Some y → x ≡ y
    some_is h = cc

    by : (o : Option (List ℤ)) → all_there os ≡ o → option_map (λ ns. x ∷ ns) o ≡ Some js → ((ks : List ℤ) → all_there os ≡ Some ks → length ks ≡ length os) → length js ≡ suc (length os)
    by None same h below = absurd cc
    by (Some ks) same h below = ap length (some_is (sym h)) ∙ ap suc (below ks same)

pub length_mapped : {A B : Type 0} (f : A → B) (xs : List A) → length (map f xs) ≡ length xs
length_mapped f [] = refl
length_mapped f (x ∷ xs) = ap suc (length_mapped f xs)

pub counts_told : (op : CompareOp) (xs ns cs : List ℤ) → length ns ≡ length cs → is_some (counts_hold op xs ns cs) ≡ true
unfolding counts_hold
counts_told op xs [] [] e = refl
counts_told op xs [] (c ∷ cs) e = absurd (differ e)
  where
    differ : 0 ≡ suc (length cs) → ⊥
    differ h = omega (arith, h)
counts_told op xs (n ∷ ns) [] e = absurd (differ e)
  where
    differ : suc (length ns) ≡ 0 → ⊥
    differ h = omega (arith, h)
counts_told op xs (n ∷ ns) (c ∷ cs) e = sym (list_there (λ others. compare_holds op (times_in xs n) c && others) (counts_hold op xs ns cs)) ∙ counts_told op xs ns cs (omega (arith, e))

pub counts_untold : (op : CompareOp) (xs ns cs : List ℤ) → (length ns ≡ length cs → ⊥) → counts_hold op xs ns cs ≡ None
unfolding counts_hold
counts_untold op xs [] [] d = absurd (d refl)
counts_untold op xs [] (c ∷ cs) d = refl
counts_untold op xs (n ∷ ns) [] d = refl
counts_untold op xs (n ∷ ns) (c ∷ cs) d = ap (option_map (λ others. compare_holds op (times_in xs n) c && others)) (counts_untold op xs ns cs (λ e. d (ap suc e)))

pub row_told : (rows : List (List ℤ)) (xs : List ℤ) (k : ℕ) → length xs ≡ k → list_all (λ row. length row == k) rows ≡ true → is_some (is_row_of rows xs) ≡ true
unfolding is_row_of
row_told rows xs k same all =
    ap (λ (b : Bool). is_some (if b then Some (list_any (λ row. same_numbers row xs) rows) else None)) (ap (λ j. list_all (λ row. length row == j) rows) same ∙ all)

pub row_untold : (rows : List (List ℤ)) (xs : List ℤ) (k : ℕ) → length xs ≡ k → list_all (λ row. length row == k) rows ≡ false → is_row_of rows xs ≡ None
unfolding is_row_of
row_untold rows xs k same all =
    ap (λ (b : Bool). if b then Some (list_any (λ row. same_numbers row xs) rows) else None) (ap (λ j. list_all (λ row. length row == j) rows) same ∙ all)

pub unequal : (a b : ℕ) → (a ≡ b → ⊥) → (a == b) ≡ false
unequal a b h = by (a == b) refl
  where
    by : (c : Bool) → (a == b) ≡ c → (a == b) ≡ false
    by true e = absurd (h ((Decides-eqb a b).0 e))
    by false e = e

-- rows that are passed are as long as is asked
pub rows_next : (rows : List (List ℤ)) (n k : ℕ) (row d : List ℤ) → k < length rows → row ≡ get_or rows k d → (length row == n) ≡ true
    → list_all (λ r. length r == n) rows ≡ list_all (λ r. length r == n) (drop k rows)
    → list_all (λ r. length r == n) rows ≡ list_all (λ r. length r == n) (drop (k + 1) rows)
rows_next rows n k row d less same long so =
    so ∙ at_drop_more (list_all (λ r. length r == n)) rows k d less
    ∙ ap (λ b. b && list_all (λ r. length r == n) (drop (k + 1) rows)) (ap (λ r. length r == n) (sym same) ∙ long)

pub rows_short : (rows : List (List ℤ)) (n k : ℕ) (row d : List ℤ) → k < length rows → row ≡ get_or rows k d → (length row == n) ≡ false
    → list_all (λ r. length r == n) rows ≡ list_all (λ r. length r == n) (drop k rows)
    → false ≡ list_all (λ r. length r == n) rows
rows_short rows n k row d less same short so =
    sym (so ∙ at_drop_more (list_all (λ r. length r == n)) rows k d less
    ∙ ap (λ b. b && list_all (λ r. length r == n) (drop (k + 1) rows)) (ap (λ r. length r == n) (sym same) ∙ short))

pub rows_all : (rows : List (List ℤ)) (n k : ℕ) → length rows ≤ k → list_all (λ r. length r == n) rows ≡ list_all (λ r. length r == n) (drop k rows)
    → true ≡ list_all (λ r. length r == n) rows
rows_all rows n k less so = sym (so ∙ at_drop_all (list_all (λ r. length r == n)) rows k less)
