-- Parts of blocks of cells.
use Rattle.ep_unroll.proofs.Words.{◌≡◌, ℕ, suc, ◌+◌, ◌<◌, ◌≤◌, Bool, true, false, ℤ, List, [], ◌∷◌, ◌++◌, length, drop, get_or, Some, None, refl, sym, ap, subst, ◌∙◌, arith, append_assoc, slice_get, Ok, Err, Option, Result, IfOk, map, option_and_then, option_map, if◌then◌else◌, int_eq, append-nil, at_drop_all, at_drop_more, map-append, map_is, no_some, some_is, map_both, on_both, Name, Place, GroundNode, evaluate-named, evaluate-read, Bound, Env, has_cells, value_bound, evaluate, index_list, number_in, read_result, type_in, cell_count, ExprTree, Indices, named, read, Index, ValueTree, all_defined, any_index, as_parts, at_index, index_in, indices_in, listed_values, matrix, part_at, read_value, single, expr_tree, indices_of, Expr, Mode, Scalar, ValueType, read_found, IsWorth, StandFor, block_under, one_index, AreTerms, Means, worth, Numbering, Reading, ReadsName, cells_value, each_from, Unrolled, Number, Cells, Fixed, Matrix'}
use Rattle.ep_unroll.proofs.FreeValues.{type_kept}
use Rattle.ep_unroll.specs.Blocks.{cell_of}

pub no_block : (first : ℕ) (domains : List (List ℤ)) (i : ℤ) → domains ≡ [] → None ≡ block_under first domains i
unfolding block_under
no_block first domains i none = ap (λ ds. block_under first ds i) (sym none)

pub block_is : (first each : ℕ) (domains : List (List ℤ)) (own : List ℤ) (inner : List (List ℤ)) (i : ℤ) (cell : Option ℕ) → domains ≡ own ∷ inner → each ≡ cell_count inner → cell ≡ cell_of first each own i
    → option_map (λ k. (k, inner)) cell ≡ block_under first domains i
unfolding block_under
block_is first each domains own inner i cell cut is h =
    ap (option_map (λ k. (k, inner))) (h ∙ ap (λ e. cell_of first e own i) is) ∙ ap (λ ds. block_under first ds i) (sym cut)

-- a block's part, by the values of the cells
unfoldable pub Leads : List ℤ → Option (ℕ × List (List ℤ)) → Option ValueTree → Type 0
Leads numbers None o = o ≡ None
Leads numbers (Some b) o = (w : ValueTree) × (o ≡ Some w) × (cells_value numbers b.1 b.0 ≡ Some w)

part_leads : (numbers : List ℤ) (inner : List (List ℤ)) (each : ℕ) (own : List ℤ) (first : ℕ) (i : ℤ) (ws : List ValueTree)
    → all_defined (each_from (cells_value numbers inner) each first own) ≡ Some ws
    → Leads numbers (option_map (λ k. (k, inner)) (cell_of first each own i)) (part_at own (as_parts ws) i)
unfolding Leads cell_of part_at each_from all_defined as_parts
part_leads numbers inner each [] first i ws e = refl
part_leads numbers inner each (j ∷ js) first i ws e =
    go (cells_value numbers inner first) refl e (λ us h. part_leads numbers inner each js (first + each) i us h)
  where
    choose : (b : Bool) (v : ValueTree) (us : List ValueTree) → cells_value numbers inner first ≡ Some v
        → Leads numbers (option_map (λ k. (k, inner)) (cell_of (first + each) each js i)) (part_at js (as_parts us) i)
        → Leads numbers (option_map (λ k. (k, inner)) (if b then Some first else cell_of (first + each) each js i)) (if b then Some v else part_at js (as_parts us) i)
    choose true v us is h = (v, refl, is)
    choose false v us is h = h

    go : (o : Option ValueTree) → cells_value numbers inner first ≡ o → all_defined (o ∷ each_from (cells_value numbers inner) each (first + each) js) ≡ Some ws
        → ((us : List ValueTree) → all_defined (each_from (cells_value numbers inner) each (first + each) js) ≡ Some us
        → Leads numbers (option_map (λ k. (k, inner)) (cell_of (first + each) each js i)) (part_at js (as_parts us) i))
        → Leads numbers (option_map (λ k. (k, inner)) (if int_eq i j then Some first else cell_of (first + each) each js i)) (part_at (j ∷ js) (as_parts ws) i)
    go None is h below = no_some h
    go (Some v) is h below =
        let p : _ = map_is (λ ys. v ∷ ys) (all_defined (each_from (cells_value numbers inner) each (first + each) js)) ws h in
        subst (λ us. Leads numbers (option_map (λ k. (k, inner)) (if int_eq i j then Some first else cell_of (first + each) each js i)) (part_at (j ∷ js) (as_parts us) i)) p.2
        (choose (int_eq i j) v p.0 is (below p.0 p.1))

-- what a read with a first index gives of cells
pub block_leads : (numbers : List ℤ) (first : ℕ) (domains : List (List ℤ)) (i : ℤ) (v : ValueTree) (is : List Index) → cells_value numbers domains first ≡ Some v
    → (o : Option ValueTree) × (read_value (at_index i ∷ is) v ≡ option_and_then (read_value is) o) × Leads numbers (block_under first domains i) o
unfolding cells_value block_under read_value Leads
block_leads numbers first [] i v is e =
    let p : _ = map_is single (slice_get numbers first) v e in
    (None, ap (read_value (at_index i ∷ is)) (sym p.2), refl)
block_leads numbers first (own ∷ inner) i v is e =
    let p : _ = map_is (λ vs. matrix own (as_parts vs)) (all_defined (each_from (cells_value numbers inner) (cell_count inner) first own)) v e in
    (part_at own (as_parts p.0) i, ap (read_value (at_index i ∷ is)) (sym p.2), part_leads numbers inner (cell_count inner) own first i p.0 p.1)

-- no part has the index
pub nothing_left : (nodes : List GroundNode) (numbers : List ℤ) (first : ℕ) (domains : List (List ℤ)) (i : ℤ) (v : ValueTree) (is : List Index) (x : Unrolled)
    → cells_value numbers domains first ≡ Some v → None ≡ block_under first domains i → x ≡ Fixed None
    → IsWorth nodes numbers x (read_value (at_index i ∷ is) v)
unfolding IsWorth Leads
nothing_left nodes numbers first domains i v is x e none same =
    let p : _ = block_leads numbers first domains i v is e in
    let h : Leads numbers None p.0 = subst (λ b. Leads numbers b p.0) (sym none) p.2 in
    subst (λ y. IsWorth nodes numbers y (read_value (at_index i ∷ is) v)) (sym same) (sym (p.1 ∙ ap (option_and_then (read_value is)) h))

-- a part has the index
pub inner_left : (nodes : List GroundNode) (numbers : List ℤ) (first : ℕ) (domains : List (List ℤ)) (i : ℤ) (v : ValueTree) (is : List Index) (x : Unrolled) (k : ℕ) (inner : List (List ℤ))
    → cells_value numbers domains first ≡ Some v → Some (k, inner) ≡ block_under first domains i
    → ((w : ValueTree) → cells_value numbers inner k ≡ Some w → IsWorth nodes numbers x (read_value is w))
    → IsWorth nodes numbers x (read_value (at_index i ∷ is) v)
unfolding Leads
inner_left nodes numbers first domains i v is x k inner e some below =
    let p : _ = block_leads numbers first domains i v is e in
    let h : Leads numbers (Some (k, inner)) p.0 = subst (λ b. Leads numbers b p.0) (sym some) p.2 in
    subst (IsWorth nodes numbers x) (sym (p.1 ∙ ap (option_and_then (read_value is)) h.1)) (below h.0 h.2)

-- cells are what no index leaves of them
pub all_left : (nodes : List GroundNode) (numbers : List ℤ) (x : Unrolled) (first : ℕ) (domains : List (List ℤ)) (is : List Index) (v : ValueTree)
    → is ≡ [] → ((o : Option ValueTree) (w : ValueTree) → o ≡ Some w → cells_value numbers domains first ≡ Some w → IsWorth nodes numbers x o)
    → cells_value numbers domains first ≡ Some v → IsWorth nodes numbers x (read_value is v)
unfolding read_value
all_left nodes numbers x first domains is v none cells e = cells (read_value is v) v (ap (λ js. read_value js v) none) e

-- ---- indices

pub no_number : (mode : Mode) (env : Env) (e : Expr) (index : Option Expr) → index ≡ Some e → number_in (evaluate mode env (expr_tree e)) ≡ None → one_index mode env index ≡ None
unfolding one_index
no_number mode env e index is none = ap (one_index mode env) is ∙ ap (option_map at_index) none

pub some_index : (mode : Mode) (env : Env) (e : Expr) (index : Option Expr) (i : ℤ) → index ≡ Some e → number_in (evaluate mode env (expr_tree e)) ≡ Some i → one_index mode env index ≡ Some (index_in (Some i))
unfolding one_index index_in
some_index mode env e index i is some = ap (one_index mode env) is ∙ ap (option_map at_index) some

pub every_index : (mode : Mode) (env : Env) (index : Option Expr) → index ≡ None → one_index mode env index ≡ Some (index_in None)
unfolding one_index index_in
every_index mode env index none = ap (one_index mode env) none

pub index_cut : (mode : Mode) (env : Env) (x : Option Expr) (xs : List (Option Expr))
    → index_list mode env (indices_of (x ∷ xs)) ≡ map_both (λ i is. i ∷ is) (one_index mode env x) (index_list mode env (indices_of xs))
unfolding indices_of index_list one_index map_both
index_cut mode env None xs = refl
index_cut mode env (Some e) xs = go (number_in (evaluate mode env (expr_tree e)))
  where
    go : (o : Option ℤ) → map_both (λ i is. at_index i ∷ is) o (index_list mode env (indices_of xs)) ≡ map_both (λ i is. i ∷ is) (option_map at_index o) (index_list mode env (indices_of xs))
    go None = refl
    go (Some i) = refl

-- indices so far, of which those behind a place are left
abbrev pub IndicesSoFar : Mode → Env → List (Option Expr) → ℕ → List (Option ℤ) → Type 0
IndicesSoFar mode env all k done =
    index_list mode env (indices_of all) ≡ option_map (λ is. indices_in done ++ is) (index_list mode env (indices_of (drop k all)))

same_option : {A : Type 0} (o : Option A) → o ≡ option_map (λ x. x) o
same_option None = refl
same_option (Some x) = refl

pub indices_begin : (mode : Mode) (env : Env) (all : List (Option Expr)) (done : List (Option ℤ)) → done ≡ [] → IndicesSoFar mode env all 0 done
indices_begin mode env all done none =
    same_option (index_list mode env (indices_of all)) ∙ ap (λ ds. option_map (λ is. indices_in ds ++ is) (index_list mode env (indices_of all))) (sym none)

pub indices_more : (mode : Mode) (env : Env) (all : List (Option Expr)) (k : ℕ) (x d : Option Expr) (one : Option ℤ) (done more : List (Option ℤ)) → k < length all → x ≡ get_or all k d
    → IndicesSoFar mode env all k done → one_index mode env x ≡ Some (index_in one) → more ≡ done ++ one ∷ [] → IndicesSoFar mode env all (k + 1) more
unfolding map_both
indices_more mode env all k x d one done more h same so is pushed =
    let rest : Option (List Index) = index_list mode env (indices_of (drop (k + 1) all)) in
    so ∙ ap (option_map (λ is. indices_in done ++ is))
    (at_drop_more (λ ys. index_list mode env (indices_of ys)) all k d h
    ∙ ap (λ y. index_list mode env (indices_of (y ∷ drop (k + 1) all))) (sym same)
    ∙ index_cut mode env x (drop (k + 1) all)
    ∙ ap (λ o. map_both (λ i is. i ∷ is) o rest) is)
    ∙ joined rest
    ∙ ap (λ ds. option_map (λ is. indices_in ds ++ is) rest) (sym pushed)
  where
    joined : (o : Option (List Index)) → option_map (λ is. indices_in done ++ is) (option_map (λ is. index_in one ∷ is) o) ≡ option_map (λ is. indices_in (done ++ one ∷ []) ++ is) o
    joined None = refl
    joined (Some is) = ap Some (sym (ap (λ l. l ++ is) (map-append index_in done (one ∷ [])) ∙ append_assoc (indices_in done) (index_in one ∷ []) is))

pub indices_none : (mode : Mode) (env : Env) (all : List (Option Expr)) (k : ℕ) (x d : Option Expr) (done : List (Option ℤ)) → k < length all → x ≡ get_or all k d
    → IndicesSoFar mode env all k done → one_index mode env x ≡ None → index_list mode env (indices_of all) ≡ None
unfolding map_both
indices_none mode env all k x d done h same so is =
    so ∙ ap (option_map (λ is. indices_in done ++ is))
    (at_drop_more (λ ys. index_list mode env (indices_of ys)) all k d h
    ∙ ap (λ y. index_list mode env (indices_of (y ∷ drop (k + 1) all))) (sym same)
    ∙ index_cut mode env x (drop (k + 1) all)
    ∙ ap (λ o. map_both (λ i is. i ∷ is) o (index_list mode env (indices_of (drop (k + 1) all)))) is)

pub indices_all : (mode : Mode) (env : Env) (all : List (Option Expr)) (k : ℕ) (done : List (Option ℤ)) → length all ≤ k → IndicesSoFar mode env all k done
    → index_list mode env (indices_of all) ≡ Some (indices_in done)
unfolding indices_of index_list
indices_all mode env all k done h so =
    so ∙ ap (option_map (λ is. indices_in done ++ is)) (at_drop_all (λ ys. index_list mode env (indices_of ys)) all k h)
    ∙ ap Some (append-nil (indices_in done))

-- ---- names

some_number : (k m : ℕ) → Some k ≡ Some m → k ≡ m
some_number k m h = some_is h

stands_by : (o : Option ℕ) (numbers : List ℤ) (one other : Option Bound) (first : ℕ) (s : Scalar) (indices : List (List ℤ)) (values : List ℤ) → o ≡ Some first → one ≡ Some (has_cells s indices values)
    → ReadsName o numbers one other → (v : ValueTree) × (cells_value numbers indices first ≡ Some v) × (value_bound other ≡ Some v)
unfolding ReadsName value_bound
stands_by o numbers one other first s indices values begins stands h =
    let r : ReadsName o numbers (Some (has_cells s indices values)) other = subst (λ b. ReadsName o numbers b other) stands h in
    let same : r.0 ≡ first = some_is (sym r.2 ∙ begins) in
    (r.1, ap (cells_value numbers indices) (sym same) ∙ r.4, ap value_bound r.3)

pub stands_for : (n : Numbering) (env : Env) (name : Name) (first : ℕ) (s : Scalar) (indices : List (List ℤ)) (values : List ℤ) (domains : List (List ℤ))
    → n.first name ≡ Some first → env name ≡ Some (has_cells s indices values) → domains ≡ indices → StandFor n env name first domains
stands_for n env name first s indices values domains begins stands same = record {
  value = λ r. subst (λ ds. (v : ValueTree) × (cells_value r.numbers ds first ≡ Some v) × (value_bound (r.values name) ≡ Some v)) (sym same)
      (stands_by (n.first name) r.numbers (env name) (r.values name) first s indices values begins stands (r.reads.names name));
}

pub stands_means : (n : Numbering) (env : Env) (nodes : List GroundNode) (p : Place) (name : Name) (first : ℕ) (domains : List (List ℤ)) (x : Unrolled) → StandFor n env name first domains
    → ((numbers : List ℤ) → worth nodes numbers x ≡ cells_value numbers domains first) → AreTerms (length nodes) x → Means n env nodes nodes (named p name) x
stands_means n env nodes p name first domains x h is known = record {
  grows = record { more = []; whole = sym (append-nil nodes) };
  known = known;
  value = λ r. let s = h.value r in is r.numbers ∙ s.1 ∙ sym s.2 ∙ sym (evaluate-named n.mode r.values p name);
}

-- ---- reads

pub read_means : (n : Numbering) (env : Env) (nodes : List GroundNode) (p q : Place) (name : Name) (indices : Indices) (e : ExprTree) (first : ℕ) (domains : List (List ℤ)) (is : Option (List Index)) (ty : ValueType) (x : Unrolled)
    → StandFor n env name first domains → e ≡ read p (named q name) indices → ty ≡ type_in env e
    → ((r : Reading n env) → index_list n.mode r.values indices ≡ is)
    → ((numbers : List ℤ) (v : ValueTree) → cells_value numbers domains first ≡ Some v → worth nodes numbers x ≡ read_result n.mode ty (option_and_then (λ js. read_value js v) is))
    → AreTerms (length nodes) x → Means n env nodes nodes e x
unfolding on_both
read_means n env nodes p q name indices e first domains is ty x h tree typed told is_worth known = record {
  grows = record { more = []; whole = sym (append-nil nodes) };
  known = known;
  value = λ r.
      let s = h.value r in
      is_worth r.numbers s.0 s.1
      ∙ ap (λ t. read_result n.mode t (option_and_then (λ js. read_value js s.0) is)) (typed ∙ type_kept env r.values e r.reads.agree ∙ ap (type_in r.values) tree)
      ∙ ap (read_result n.mode (type_in r.values (read p (named q name) indices)))
      (sym (ap (λ o. on_both o (evaluate n.mode r.values (named q name)) read_value) (told r)
      ∙ ap (λ o. on_both is o read_value) (evaluate-named n.mode r.values q name ∙ s.2) ∙ both_there is s.0))
      ∙ sym (ap (evaluate n.mode r.values) tree ∙ evaluate-read n.mode r.values p (named q name) indices);
}
  where
    both_there : (o : Option (List Index)) (v : ValueTree) → on_both o (Some v) read_value ≡ option_and_then (λ js. read_value js v) o
    both_there None v = refl
    both_there (Some js) v = refl

-- ---- what was unrolled

pub is_worth : (nodes : List GroundNode) (numbers : List ℤ) (x : Unrolled) (o : Option ValueTree) → IsWorth nodes numbers x o → worth nodes numbers x ≡ o
unfolding IsWorth worth
is_worth nodes numbers (Number t) o h = h
is_worth nodes numbers (Cells k domains) o h = h.2 ∙ sym h.1
is_worth nodes numbers (Fixed seen) o h = h
is_worth nodes numbers (Matrix' indices size parts) o h = h

pub plain_int : (mode : Mode) (o : Option ValueTree) → read_result mode ValueType.Int o ≡ o
unfolding read_result
plain_int Mode.Relational None = refl
plain_int Mode.Relational (Some v) = refl
plain_int Mode.Strict o = refl

pub plain_matrix : (mode : Mode) (k : ℕ) (s : Scalar) (o : Option ValueTree) → read_result mode (ValueType.Matrix k s) o ≡ o
unfolding read_result
plain_matrix Mode.Relational k s None = refl
plain_matrix Mode.Relational k s (Some v) = refl
plain_matrix Mode.Strict k s o = refl

pub plain_empty : (mode : Mode) (o : Option ValueTree) → read_result mode ValueType.Empty o ≡ o
unfolding read_result
plain_empty Mode.Relational None = refl
plain_empty Mode.Relational (Some v) = refl
plain_empty Mode.Strict o = refl

some_read : (mode : Mode) (ty : ValueType) (v : ValueTree) → read_result mode ty (Some v) ≡ Some v
some_read mode ty v = sym (read_found mode ty v)

pub cells_finish : (mode : Mode) (numbers : List ℤ) (o : Option ValueTree) (first : ℕ) (domains : List (List ℤ)) (ty : ValueType) → (v : ValueTree) × (o ≡ Some v) × (cells_value numbers domains first ≡ Some v)
    → cells_value numbers domains first ≡ read_result mode ty o
cells_finish mode numbers o first domains ty h = h.2 ∙ sym (ap (read_result mode ty) h.1 ∙ some_read mode ty h.0)

-- a read, once it is done
pub read_done : {E : Type 0} (n : Numbering) (env : Env) (nodes : List GroundNode) (p q : Place) (name : Name) (indices : Indices) (e : ExprTree) (first : ℕ) (domains : List (List ℤ)) (is : Option (List Index)) (ty : ValueType) (result : Result Unrolled E)
    → StandFor n env name first domains → e ≡ read p (named q name) indices → ty ≡ type_in env e
    → ((r : Reading n env) → index_list n.mode r.values indices ≡ is)
    → ((numbers : List ℤ) (v : ValueTree) → cells_value numbers domains first ≡ Some v → IfOk result (λ x. worth nodes numbers x ≡ read_result n.mode ty (option_and_then (λ js. read_value js v) is)))
    → IfOk result (AreTerms (length nodes)) → IfOk result (Means n env nodes nodes e)
read_done n env nodes p q name indices e first domains is ty (Ok x) h tree typed told is_worth known = read_means n env nodes p q name indices e first domains is ty x h tree typed told is_worth known
read_done n env nodes p q name indices e first domains is ty (Err m) h tree typed told is_worth known = tt

-- ---- `..` alone

parts_kept : (f : ℕ → Option ValueTree) (step : ℕ) (is : List Index) → ((j : ℕ) (w : ValueTree) → f j ≡ Some w → read_value is w ≡ Some w)
    → (own : List ℤ) (j : ℕ) (ws : List ValueTree) → all_defined (each_from f step j own) ≡ Some ws → all_defined (map (read_value is) (listed_values (as_parts ws))) ≡ Some ws
unfolding each_from all_defined as_parts listed_values
parts_kept f step is kept [] j ws e =
    subst (λ us. all_defined (map (read_value is) (listed_values (as_parts us))) ≡ Some us) (some_is e) refl
parts_kept f step is kept (i ∷ own) j ws e = go (f j) refl e (λ us h. parts_kept f step is kept own (j + step) us h)
  where
    go : (o : Option ValueTree) → f j ≡ o → all_defined (o ∷ each_from f step (j + step) own) ≡ Some ws
        → ((us : List ValueTree) → all_defined (each_from f step (j + step) own) ≡ Some us → all_defined (map (read_value is) (listed_values (as_parts us))) ≡ Some us)
        → all_defined (map (read_value is) (listed_values (as_parts ws))) ≡ Some ws
    go None same h below = no_some h
    go (Some v) same h below =
        let p : _ = map_is (λ ys. v ∷ ys) (all_defined (each_from f step (j + step) own)) ws h in
        subst (λ us. all_defined (map (read_value is) (listed_values (as_parts us))) ≡ Some us) p.2
        (ap (λ o. all_defined (o ∷ map (read_value is) (listed_values (as_parts p.0)))) (kept j v same) ∙ ap (option_map (λ ys. v ∷ ys)) (below p.0 p.1))

every_kept : (numbers : List ℤ) (xs : List (Option ℤ)) (domains : List (List ℤ)) (k : ℕ) (v : ValueTree) → length xs ≤ length domains → cells_value numbers domains k ≡ Some v
    → read_value (map (λ x. any_index) xs) v ≡ Some v
unfolding read_value cells_value
every_kept numbers [] domains k v few e = refl
every_kept numbers (x ∷ xs) [] k v few e = absurd (omega (arith, few))
every_kept numbers (x ∷ xs) (own ∷ inner) k v few e =
    let p : _ = map_is (λ vs. matrix own (as_parts vs)) (all_defined (each_from (cells_value numbers inner) (cell_count inner) k own)) v e in
    subst (λ u. read_value (any_index ∷ map (λ y. any_index) xs) u ≡ Some u) p.2
    (ap (option_map (λ vs. matrix own (as_parts vs)))
    (parts_kept (cells_value numbers inner) (cell_count inner) (map (λ y. any_index) xs) (λ j w h. every_kept numbers xs inner j w (omega (arith, few)) h) own k p.0 p.1))

pub every_left : (numbers : List ℤ) (rest : List (Option ℤ)) (domains : List (List ℤ)) (first : ℕ) (v : ValueTree) → indices_in rest ≡ map (λ x. any_index) rest → suc (length rest) ≤ length domains
    → cells_value numbers domains first ≡ Some v → read_value (any_index ∷ indices_in rest) v ≡ Some v
every_left numbers rest domains first v every few e =
    ap (λ is. read_value (any_index ∷ is) v) every ∙ every_kept numbers (None ∷ rest) domains first v few e
