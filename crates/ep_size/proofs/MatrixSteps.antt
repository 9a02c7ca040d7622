-- Forms over matrices by what is known of their parts: what each is, and what it weighs.
use Rattle.ep_size.proofs.Words.{◌≡◌, ℕ, suc, ◌+◌, ◌*◌, true, List, [], ◌∷◌, ◌++◌, length, refl, sym, ap, subst, ◌∙◌, Ok, Err, rules, vec_len, int_lt, map, pos, ℤ, Option, Some, None, append-nil, length-map, farthest_end, only, width, MOST_NUMBER, LexOp, Place, extent-all_different, extent-at_least, extent-at_most, extent-folded, extent-gcc, extent-in_set, extent-lex, extent-table, Env, a_node, counting_weight, decided_weight, farthest_of, farthest_reach, first_products, folded_weight, number_reach, reaches_at, widths, decisions_in, extent, fixed_span, folded_span, holds_decision, reaches, span_of, truth_span, ExprTree, all_different, at_least, at_most, folded, gcc, in_set, lex, table, value_tree-matrix, value_tree-number, Grid, Grids, as_parts, filled, listed_values, map_grid, map_grids, matrix, no_values, rows_of, scalars_of, single, value_and, value_tree, values_from, capped, FoldOp, Mode, TellsValue, fixed_grid, grid_of, grids_from, Added, Finished, Finishes, IsNumberNode, is_far_node, GivesFold, IsFoldNode, RefusesFold, fold_reaches, is_far_fold, SizeError, Limit, Memory, Widens, Widths}
use Rattle.std.specs.declared.alloc.Global.{Global}
use Rattle.std.specs.declared.vec.Vec.{Vec}
use Rattle.ep_tree.specs.Reach as defined
use Rattle.ep_tree.specs.Reach.{Extent}
use Rattle.ep_tree.specs.declared.values.Value.{Value, Number as NumberValue, Matrix as ValueMatrix}
use Rattle.ep_size.proofs.FormSteps.{measured_decided, number_node, one_number, own_weight, two_number}
use Rattle.ep_size.specs.Extents as own
use Rattle.ep_size.specs.declared.extents.Extent as declared
use Rattle.ep_size.specs.declared.extents.Extent.TheVariants.{Number}
use Rattle.ep_size.specs.declared.extents.Span.{Span}

-- ---- folds

-- a fold alone reaches as far as it does
fold_far : (mode : Mode) (env : Env) (e : ExprTree) (op : FoldOp) (spans : List defined.Span) → IsFoldNode mode env e op spans
    → is_far_node mode env e ≡ is_far_fold op spans
unfolding farthest_reach
fold_far mode env e op spans h =
    ap (λ is. int_lt MOST_NUMBER (farthest_of (map farthest_end is))) (append-nil (reaches_at mode (a_node env e)) ∙ h.reaches)

pub fold_finished : (mode : Mode) (env : Env) (e : ExprTree) (op : FoldOp) (spans : List defined.Span) (a b : ℕ) (s : Span) → IsFoldNode mode env e op spans
    → GivesFold (Ok s) op spans → Added a b (folded_weight op spans) → Finished mode env e a b (Number s)
unfolding grid_of TellsValue
fold_finished mode env e op spans a b s h g added = record {
  near = fold_far mode env e op spans h ∙ g.1;
  known = record { extent = h.value ∙ ap single (sym g.0); value = h.holds };
  added = subst (λ n. Added a b n) (sym h.weight) added;
}

pub fold_refused : (mode : Mode) (env : Env) (e : ExprTree) (op : FoldOp) (spans : List defined.Span) (a b : ℕ) (error : SizeError)
    → IsFoldNode mode env e op spans → RefusesFold error op spans → Finishes mode env e a b (Err error)
fold_refused mode env e op spans a b (Limit l) h g = (g.0, fold_far mode env e op spans h ∙ g.1)
fold_refused mode env e op spans a b Memory h g = tt

-- what a fold reaches
reaches_folded : (mode : Mode) (env : Env) (p : Place) (op : FoldOp) (m : ExprTree)
    → extent mode env (folded p op m) ≡ single (folded_span op (scalars_of (extent mode env m)))
    → reaches_at mode (a_node env (folded p op m)) ≡ fold_reaches op (scalars_of (extent mode env m))
unfolding reaches_at number_reach fold_reaches
reaches_folded mode env p FoldOp.Sum m h = ap number_reach h
reaches_folded mode env p FoldOp.Product m h = ap (λ x. number_reach x ++ first_products (only (pos 1)) (reaches (scalars_of (extent mode env m)))) h
reaches_folded mode env p FoldOp.And m h = ap number_reach h
reaches_folded mode env p FoldOp.Or m h = ap number_reach h
reaches_folded mode env p FoldOp.Min m h = ap number_reach h
reaches_folded mode env p FoldOp.Max m h = ap number_reach h

folded_own : (mode : Mode) (env : Env) (p : Place) (op : FoldOp) (m : ExprTree) → holds_decision (decisions_in env) (folded p op m) ≡ true
    → IsFoldNode mode env (folded p op m) op (scalars_of (extent mode env m))
unfolding decided_weight
folded_own mode env p op m holds =
    let value = extent-folded mode env p op m ∙ measured_decided mode env (folded p op m) (single (folded_span op (scalars_of (extent mode env m)))) holds in
    record {
      reaches = reaches_folded mode env p op m value;
      value = value;
      holds = holds;
      weight = own_weight mode env (folded p op m) (folded_weight op (scalars_of (extent mode env m))) holds refl;
    }

-- a matrix folded into a number, by what is known of the matrix
pub folded_node : (mode : Mode) (env : Env) (p : Place) (op : FoldOp) (m : ExprTree) (x : Extent)
    → holds_decision (decisions_in env) (folded p op m) ≡ true → extent mode env m ≡ x → IsFoldNode mode env (folded p op m) op (scalars_of x)
folded_node mode env p op m x holds known = subst (λ y. IsFoldNode mode env (folded p op m) op (scalars_of y)) known (folded_own mode env p op m holds)

-- ---- truth values

pub all_different_number : (mode : Mode) (env : Env) (p : Place) (m : ExprTree) (x : Extent)
    → holds_decision (decisions_in env) (all_different p m) ≡ true → extent mode env m ≡ x
    → IsNumberNode mode env (all_different p m) (length (scalars_of x) * widths (scalars_of x)) truth_span
unfolding reaches_at decided_weight
all_different_number mode env p m x holds known =
    one_number mode env m x (all_different p) (λ y. length (scalars_of y) * widths (scalars_of y)) (λ _. truth_span) holds known refl (extent-all_different mode env p m) refl

pub lex_number : (mode : Mode) (env : Env) (p : Place) (op : LexOp) (e f : ExprTree) (x y : Extent)
    → holds_decision (decisions_in env) (lex p op e f) ≡ true → extent mode env e ≡ x → extent mode env f ≡ y
    → IsNumberNode mode env (lex p op e f) (widths (scalars_of x) + widths (scalars_of y)) truth_span
unfolding reaches_at decided_weight
lex_number mode env p op e f x y holds known told =
    two_number mode env e f x y (lex p op) (λ a b. widths (scalars_of a) + widths (scalars_of b)) (λ a b. truth_span) holds known told refl (extent-lex mode env p op e f) refl

pub in_set_number : (mode : Mode) (env : Env) (p : Place) (e m : ExprTree) (x y : Extent)
    → holds_decision (decisions_in env) (in_set p e m) ≡ true → extent mode env e ≡ x → extent mode env m ≡ y
    → IsNumberNode mode env (in_set p e m) (length (scalars_of y) * width (span_of x).reach + widths (scalars_of y)) truth_span
unfolding reaches_at decided_weight
in_set_number mode env p e m x y holds known told =
    two_number mode env e m x y (in_set p) (λ a b. length (scalars_of b) * width (span_of a).reach + widths (scalars_of b)) (λ a b. truth_span) holds
    known told refl (extent-in_set mode env p e m) refl

pub table_number : (mode : Mode) (env : Env) (p : Place) (row rows : ExprTree) (x y : Extent)
    → holds_decision (decisions_in env) (table p row rows) ≡ true → extent mode env row ≡ x → extent mode env rows ≡ y
    → IsNumberNode mode env (table p row rows) (length (rows_of y) * length (scalars_of x) + widths (scalars_of x)) truth_span
unfolding reaches_at decided_weight
table_number mode env p row rows x y holds known told =
    two_number mode env row rows x y (table p) (λ a b. length (rows_of b) * length (scalars_of a) + widths (scalars_of a)) (λ a b. truth_span) holds
    known told refl (extent-table mode env p row rows) refl

-- a node with three parts that counts
three_number : (mode : Mode) (env : Env) (e f g : ExprTree) (x y z : Extent) (tree : ExprTree) (w : Extent → Extent → Extent → ℕ)
    → extent mode env e ≡ x → extent mode env f ≡ y → extent mode env g ≡ z
    → IsNumberNode mode env tree (w (extent mode env e) (extent mode env f) (extent mode env g)) truth_span → IsNumberNode mode env tree (w x y z) truth_span
three_number mode env e f g x y z tree w known told last own =
    subst (λ a. IsNumberNode mode env tree (w a y z) truth_span) known
    (subst (λ b. IsNumberNode mode env tree (w (extent mode env e) b z) truth_span) told
    (subst (λ d. IsNumberNode mode env tree (w (extent mode env e) (extent mode env f) d) truth_span) last own))

pub gcc_number : (mode : Mode) (env : Env) (p : Place) (m values counts : ExprTree) (x y z : Extent)
    → holds_decision (decisions_in env) (gcc p m values counts) ≡ true → extent mode env m ≡ x → extent mode env values ≡ y → extent mode env counts ≡ z
    → IsNumberNode mode env (gcc p m values counts) (counting_weight (scalars_of x) (scalars_of y) (scalars_of z)) truth_span
unfolding reaches_at decided_weight
gcc_number mode env p m values counts x y z holds known told last =
    three_number mode env m values counts x y z (gcc p m values counts) (λ a b d. counting_weight (scalars_of a) (scalars_of b) (scalars_of d)) known told last
    (number_node mode env (gcc p m values counts) _ truth_span holds refl (extent-gcc mode env p m values counts) refl)

pub at_least_number : (mode : Mode) (env : Env) (p : Place) (m counts values : ExprTree) (x y z : Extent)
    → holds_decision (decisions_in env) (at_least p m counts values) ≡ true → extent mode env m ≡ x → extent mode env counts ≡ y → extent mode env values ≡ z
    → IsNumberNode mode env (at_least p m counts values) (counting_weight (scalars_of x) (scalars_of z) (scalars_of y)) truth_span
unfolding reaches_at decided_weight
at_least_number mode env p m counts values x y z holds known told last =
    three_number mode env m counts values x y z (at_least p m counts values) (λ a b d. counting_weight (scalars_of a) (scalars_of d) (scalars_of b)) known told last
    (number_node mode env (at_least p m counts values) _ truth_span holds refl (extent-at_least mode env p m counts values) refl)

pub at_most_number : (mode : Mode) (env : Env) (p : Place) (m counts values : ExprTree) (x y z : Extent)
    → holds_decision (decisions_in env) (at_most p m counts values) ≡ true → extent mode env m ≡ x → extent mode env counts ≡ y → extent mode env values ≡ z
    → IsNumberNode mode env (at_most p m counts values) (counting_weight (scalars_of x) (scalars_of z) (scalars_of y)) truth_span
unfolding reaches_at decided_weight
at_most_number mode env p m counts values x y z holds known told last =
    three_number mode env m counts values x y z (at_most p m counts values) (λ a b d. counting_weight (scalars_of a) (scalars_of d) (scalars_of b)) known told last
    (number_node mode env (at_most p m counts values) _ truth_span holds refl (extent-at_most mode env p m counts values) refl)

-- ---- scalars as a list of what is known

-- what is counted of them is counted of the matrix
pub counted_of : (w : Widths) (xs items : List Span) (zs : List defined.Span) → Widens w (map own.plain_span xs) → xs ≡ items → map own.plain_span items ≡ zs
    → Widens w zs
counted_of w xs items zs h same scalars = subst (λ ys. Widens w ys) (ap (map own.plain_span) same ∙ scalars) h

-- ---- rows

listed_count : {A : Type 0} (xs : List (Grid A)) → length (listed_values (as_parts xs)) ≡ length xs
unfolding listed_values as_parts
listed_count [] = refl
listed_count (x ∷ xs) = ap suc (listed_count xs)

mapped_count : {A B : Type 0} (f : A → B) (vs : Grids A) → length (listed_values (map_grids f vs)) ≡ length (listed_values vs)
unfolding listed_values map_grids
mapped_count f no_values = refl
mapped_count f (value_and v vs) = ap suc (mapped_count f vs)

values_count : (vs : List Value) → length (listed_values (values_from vs)) ≡ length vs
unfolding listed_values values_from
values_count [] = refl
values_count (v ∷ vs) = ap suc (values_count vs)

grids_count : (xs : List declared.Extent) → length (listed_values (grids_from xs)) ≡ length xs
unfolding listed_values grids_from
grids_count [] = refl
grids_count (x ∷ xs) = ap suc (grids_count xs)

matrix_rows : {A : Type 0} (indices : List ℤ) (parts : Grids A) → length (rows_of (matrix indices parts)) ≡ length (listed_values parts)
unfolding rows_of
matrix_rows indices parts = length-map (listed_values parts) scalars_of

single_rows : {A : Type 0} (x : A) → length (rows_of (single x)) ≡ 0
unfolding rows_of
single_rows x = refl

-- the rows of a value
pub number_rows : (v : Value) (n : ℤ) → v ≡ NumberValue n → 0 ≡ capped (length (rows_of (fixed_grid (value_tree v))))
unfolding map_grid
number_rows v n is =
    let tree : value_tree v ≡ single n = ap value_tree is ∙ value_tree-number n in
    ap capped (sym (ap (λ t. length (rows_of (fixed_grid t))) tree ∙ single_rows (fixed_span (Some n))))

pub value_matrix_rows : (v : Value) (indices : Vec ℤ Global) (parts : Vec Value Global) (n : ℕ) → v ≡ ValueMatrix indices parts → n ≡ capped (length parts.items)
    → n ≡ capped (length (rows_of (fixed_grid (value_tree v))))
unfolding map_grid
value_matrix_rows v indices parts n is told =
    let tree : value_tree v ≡ matrix indices.items (values_from parts.items) = ap value_tree is ∙ value_tree-matrix indices parts in
    told
    ∙ ap capped
    (sym
    (ap (λ t. length (rows_of (fixed_grid t))) tree ∙ matrix_rows indices.items (map_grids (λ m. fixed_span (Some m)) (values_from parts.items))
    ∙ mapped_count (λ m. fixed_span (Some m)) (values_from parts.items) ∙ values_count parts.items))

-- the rows of cells
pub cells_none : (s : defined.Span) (indices : List (List ℤ)) → indices ≡ [] → 0 ≡ capped (length (rows_of (filled s indices)))
unfolding filled
cells_none s indices is = ap capped (sym (ap (λ i. length (rows_of (filled s i))) is ∙ single_rows s))

pub cells_some : (s : defined.Span) (indices inner : List (List ℤ)) (first : List ℤ) (n : ℕ) → indices ≡ first ∷ inner → n ≡ capped (length first)
    → n ≡ capped (length (rows_of (filled s indices)))
unfolding filled
cells_some s indices inner first n is told =
    told
    ∙ ap capped
    (sym
    (ap (λ i. length (rows_of (filled s i))) is ∙ matrix_rows first (as_parts (map (λ i. filled s inner) first))
    ∙ listed_count (map (λ i. filled s inner) first) ∙ length-map first (λ i. filled s inner)))

-- the rows of what is known
pub known_none : (s : defined.Span) (g : Extent) → g ≡ single s → 0 ≡ capped (length (rows_of g))
known_none s g is = ap capped (sym (ap (λ x. length (rows_of x)) is ∙ single_rows s))

pub parts_rows : (g : Extent) (indices : List ℤ) (parts : List declared.Extent) (n : ℕ) → g ≡ matrix indices (grids_from parts) → n ≡ capped (length parts)
    → n ≡ capped (length (rows_of g))
parts_rows g indices parts n is told =
    told ∙ ap capped (sym (ap (λ x. length (rows_of x)) is ∙ matrix_rows indices (grids_from parts) ∙ grids_count parts))

-- how many elements a vector of values or of parts has
pub values_len : (v : Vec Value Global) → vec_len v ≡ length v.items
values_len v = search rules

pub parts_len : (v : Vec declared.Extent Global) → vec_len v ≡ length v.items
parts_len v = search rules
