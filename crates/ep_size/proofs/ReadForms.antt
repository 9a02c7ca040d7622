-- Reads: what a node is that gives a scalar, and its indices one after another.
use Rattle.ep_size.proofs.Words.{◌≡◌, ℕ, ◌+◌, ◌<◌, ◌≤◌, Bool, true, List, [], ◌∷◌, ◌++◌, length, map, take, drop, get_or, refl, sym, ap, subst, ◌∙◌, Option, Some, None, not, ◌&&◌, flat_map, list_any, append_assoc, append-nil, map-append, Place, extent-read, Env, evaluate, number_in, type_in, decided_weight, met, met_end, met_indices, reaches_at, read_weight, MeasuredIndex, extent, decisions_in, holds_decision, is_decided_index, is_decision_name, measured, measured_index, measured_list, parts_left, read_extent, read_span, reads_cell, span_of, ExprTree, Indices, read, of_scalar, scalars_of, single, end_of, expr_tree, indices_of, Expr, Mode, Scalar, IsNumberNode, measured_of, Going, Told, Indexed, Every, Totals}
use Rattle.ep_tree.specs.Reach.{Extent, Span}
use Rattle.ep_size.proofs.FormSteps.{measured_decided, number_node}
use Rattle.ep_size.proofs.MeterSteps.{going_begins, going_ends, going_more}
use Rattle.ep_size.specs.Indices.{index_of}

-- the scalars that indices leave of a matrix
abbrev pub left_of : List MeasuredIndex → Extent → List Span
left_of ms x = flat_map scalars_of (parts_left ms x)

scalar_extent : (s : Scalar) (b : Bool) (ms : List MeasuredIndex) (x : Extent) → read_extent (of_scalar s) b ms x ≡ single (read_span b s (left_of ms x))
unfolding read_extent of_scalar
scalar_extent Scalar.Bool b ms x = refl
scalar_extent Scalar.Int b ms x = refl

-- a read that gives a scalar
pub read_number : (mode : Mode) (env : Env) (p : Place) (m : ExprTree) (is : Indices) (ms : List MeasuredIndex) (b : Bool) (s : Scalar)
    → holds_decision (decisions_in env) (read p m is) ≡ true → ms ≡ measured_list mode env is → of_scalar s ≡ type_in env (read p m is)
    → b ≡ (is_decision_name env m && not (list_any is_decided_index ms))
    → IsNumberNode mode env (read p m is) (read_weight ms (read_span b s (left_of ms (extent mode env m))) (left_of ms (extent mode env m)))
    (read_span b s (left_of ms (extent mode env m)))
unfolding reaches_at decided_weight reads_cell span_of
read_number mode env p m is ms b s holds told typed cell =
    let e : ExprTree = read p m is in
    let x : Extent = extent mode env m in
    let own : Span = read_span b s (left_of ms x) in
    let shape : extent mode env e ≡ measured mode env e (single own) =
    extent-read mode env p m is ∙ ap (λ l. measured mode env e (read_extent (type_in env e) (reads_cell env m l) l x)) (sym told)
    ∙ ap (λ t. measured mode env e (read_extent t (reads_cell env m ms) ms x)) (sym typed)
    ∙ ap (λ c. measured mode env e (read_extent (of_scalar s) c ms x)) (sym cell)
    ∙ ap (measured mode env e) (scalar_extent s b ms x) in
    number_node mode env e (read_weight ms own (left_of ms x)) own holds refl shape
    (ap (λ l. read_weight l (span_of (extent mode env e)) (left_of l x)) (sym told)
    ∙ ap (λ y. read_weight ms (span_of y) (left_of ms x)) (shape ∙ measured_decided mode env e (single own) holds))

-- ---- indices one after another

-- some of the indices are measured, and these are left
abbrev pub IndicesSoFar : Mode → Env → Totals → Totals → List (Option Expr) → List (Option Expr) → List Indexed → Type 0
IndicesSoFar mode env start now all left values =
    Going mode start now (met_indices mode env (indices_of all)) (met_indices mode env (indices_of left))
    (map measured_of values ++ measured_list mode env (indices_of left) ≡ measured_list mode env (indices_of all))

pub indices_begin : (mode : Mode) (env : Env) (start : Totals) (all : List (Option Expr)) (values : List Indexed) → values ≡ [] → IndicesSoFar mode env start start all all values
indices_begin mode env start all values none = going_begins mode start _ _ refl (ap (λ l. map measured_of l ++ measured_list mode env (indices_of all)) none)

met_first : (mode : Mode) (env : Env) (x : Option Expr) (xs : List (Option Expr)) → met_indices mode env (indices_of (x ∷ xs)) ≡ met_end mode env (end_of x) ++ met_indices mode env (indices_of xs)
unfolding met_indices met_end indices_of end_of
met_first mode env None xs = refl
met_first mode env (Some e) xs = refl

told_first : (mode : Mode) (env : Env) (x : Option Expr) (xs : List (Option Expr)) → measured_list mode env (indices_of (x ∷ xs)) ≡ index_of mode env (end_of x) ∷ measured_list mode env (indices_of xs)
unfolding measured_list indices_of end_of index_of
told_first mode env None xs = refl
told_first mode env (Some e) xs = refl

pub indices_more : (mode : Mode) (env : Env) (start now after : Totals) (all left : List (Option Expr)) (x : Option Expr) (rest : List (Option Expr)) (values more : List Indexed) (v : Indexed)
    → IndicesSoFar mode env start now all left values → left ≡ x ∷ rest → Told mode now after (met_end mode env (end_of x)) (measured_of v ≡ index_of mode env (end_of x)) → more ≡ values ++ v ∷ []
    → IndicesSoFar mode env start after all rest more
indices_more mode env start now after all left x rest values more v g cut told pushed =
    let behind : List MeasuredIndex = measured_list mode env (indices_of rest) in
    going_more mode start now after _ _ (met_end mode env (end_of x)) _ g (ap (λ l. met_indices mode env (indices_of l)) cut ∙ met_first mode env x rest) told
    (λ so_far known.
    ap (λ l. map measured_of l ++ behind) pushed ∙ ap (λ l. l ++ behind) (map-append measured_of values (v ∷ [])) ∙ append_assoc (map measured_of values) (measured_of v ∷ []) behind
    ∙ ap (λ i. map measured_of values ++ (i ∷ behind)) known ∙ ap (λ l. map measured_of values ++ l) (sym (ap (λ l. measured_list mode env (indices_of l)) cut ∙ told_first mode env x rest))
    ∙ so_far)

none_met : (mode : Mode) (env : Env) → met_indices mode env (indices_of []) ≡ []
unfolding met_indices indices_of
none_met mode env = refl

none_told : (mode : Mode) (env : Env) → measured_list mode env (indices_of []) ≡ []
unfolding measured_list indices_of
none_told mode env = refl

pub indices_end : (mode : Mode) (env : Env) (start now : Totals) (all left : List (Option Expr)) (values : List Indexed) → IndicesSoFar mode env start now all left values → left ≡ []
    → Told mode start now (met_indices mode env (indices_of all)) (map measured_of values ≡ measured_list mode env (indices_of all))
indices_end mode env start now all left values g none =
    going_ends mode start now _ _ g (ap (λ l. met_indices mode env (indices_of l)) none ∙ none_met mode env)
    (λ so_far. sym (append-nil (map measured_of values)) ∙ ap (λ l. map measured_of values ++ l) (sym (ap (λ l. measured_list mode env (indices_of l)) none ∙ none_told mode env)) ∙ so_far)

-- ---- one index

pub met_stated : (mode : Mode) (env : Env) (index : Option Expr) (e : Expr) → index ≡ Some e → met mode env (expr_tree e) ≡ met_end mode env (end_of index)
unfolding met_end end_of
met_stated mode env index e is = sym (ap (λ i. met_end mode env (end_of i)) is)

pub met_every : (mode : Mode) (env : Env) (index : Option Expr) → index ≡ None → [] ≡ met_end mode env (end_of index)
unfolding met_end end_of
met_every mode env index is = sym (ap (λ i. met_end mode env (end_of i)) is)

pub value_stated : (mode : Mode) (env : Env) (index : Option Expr) (e : Expr) → index ≡ Some e
    → measured_index (holds_decision (decisions_in env) (expr_tree e)) (span_of (extent mode env (expr_tree e))) (number_in (evaluate mode env (expr_tree e)))
    ≡ index_of mode env (end_of index)
unfolding index_of end_of
value_stated mode env index e is = sym (ap (λ i. index_of mode env (end_of i)) is)

pub value_every : (mode : Mode) (env : Env) (index : Option Expr) → index ≡ None → measured_of Every ≡ index_of mode env (end_of index)
unfolding index_of end_of measured_of
value_every mode env index is = sym (ap (λ i. index_of mode env (end_of i)) is)
