-- The types of forms by those of their parts.
use Rattle.ep_eval.proofs.Words.{◌≡◌, ℕ, suc, ◌+◌, ◌-◌, ◌<◌, ◌≤◌, Bool, true, false, ◌&&◌, ℤ, List, [], ◌∷◌, length, Option, Some, None, option_map, refl, sym, ap, ◌∙◌, arith, nat_le, list_all, and-true, and-false, some_is, map_both, CompareOp, LexOp, Place, judge-absolute, judge-all_different, judge-all_of, judge-any_of, judge-at_least, judge-at_most, judge-binary, judge-chain, judge-compare, judge-factorial, judge-flatten, judge-folded, judge-gcc, judge-group, judge-in_set, judge-lex, judge-minus, judge-negation, judge-number, judge-read, judge-table, judge-to_int, judge-truth, shape_type, ExprTree, ExprTrees, Terms, absolute, all_different, all_of, any_of, at_least, at_most, binary, chain, compare, factorial, flatten, folded, gcc, group, in_set, lex, minus, negation, number, read, table, to_int, truth, Context, Judged, all_typed, are_lists, binary_type, folded_type, from_all, from_many, from_one, from_three, from_two, gives, is_integer, is_matrix, judge, judge_all, judge_indices, judge_terms, left_type, mistyped, of_scalar, read_type, scalar_of, slice_count, type_from, typed, untyped, expr_tree, expr_trees, indices_of, kind_tree, terms_of, BinaryOp, Expr, FoldOp, Kind, Scalar, ValueType, all_pass, flattened, fold_part, fold_type, join_part, join_type, passes, read_of, type_at, type_if, Wanted}

-- ---- rules

pub given_by : (t : ValueType) (b : Bool) → type_from (gives t b) ≡ type_if t (Some b)
unfolding gives type_from type_if
given_by t true = refl
given_by t false = refl

by_one : (j : Judged) (t : ValueType) (w : Wanted) → type_from (from_one j (λ s. gives t (passes w s))) ≡ type_if t (option_map (passes w) (type_from j))
unfolding from_one type_from type_if
by_one (typed s) t w = given_by t (passes w s)
by_one mistyped t w = refl
by_one untyped t w = refl

-- whether two parts have types that are wanted
abbrev pub both_pass : Wanted → Wanted → Option ValueType → Option ValueType → Option Bool
both_pass v w s u = map_both (λ a b. a && b) (option_map (passes v) s) (option_map (passes w) u)

pub by_two : (i j : Judged) (t : ValueType) (v w : Wanted) → type_from (from_two i j (λ s u. gives t (passes v s && passes w u))) ≡ type_if t (both_pass v w (type_from i) (type_from j))
unfolding from_two from_one type_from type_if map_both
by_two (typed s) (typed u) t v w = given_by t (passes v s && passes w u)
by_two (typed s) mistyped t v w = refl
by_two (typed s) untyped t v w = refl
by_two mistyped j t v w = refl
by_two untyped j t v w = refl

by_three : (i j k : Judged) (t : ValueType) (v w x : Wanted) → type_from (from_three i j k (λ s u r. gives t (passes v s && (passes w u && passes x r))))
    ≡ type_if t (map_both (λ a b. a && b) (option_map (passes v) (type_from i)) (both_pass w x (type_from j) (type_from k)))
unfolding from_three from_two from_one type_from type_if map_both
by_three (typed s) (typed u) (typed r) t v w x = given_by t (passes v s && (passes w u && passes x r))
by_three (typed s) (typed u) mistyped t v w x = refl
by_three (typed s) (typed u) untyped t v w x = refl
by_three (typed s) mistyped k t v w x = refl
by_three (typed s) untyped k t v w x = refl
by_three mistyped j k t v w x = refl
by_three untyped j k t v w x = refl

of_all : (o : Option (List ValueType)) (t : ValueType) (w : Wanted) → type_from (from_all o (λ ts. gives t (list_all (passes w) ts))) ≡ type_if t (option_map (list_all (passes w)) o)
unfolding from_all type_from type_if
of_all None t w = refl
of_all (Some ts) t w = given_by t (list_all (passes w) ts)

pub by_many : (js : List Judged) (t : ValueType) (w : Wanted) → type_from (from_many js (λ ts. gives t (list_all (passes w) ts))) ≡ type_if t (all_pass w js)
unfolding from_many
by_many js t w = of_all (all_typed js) t w

-- ---- forms

pub at-number : (c : Context) (p : Place) (n : _) → Some ValueType.Int ≡ type_at c (number p n)
unfolding type_from
at-number c p n = sym (ap type_from (judge-number c p n))

pub at-truth : (c : Context) (p : Place) (b : _) → Some ValueType.Bool ≡ type_at c (truth p b)
unfolding type_from
at-truth c p b = sym (ap type_from (judge-truth c p b))

pub same_type : (j : Judged) → type_from (from_one j (λ t. typed t)) ≡ type_from j
unfolding from_one type_from
same_type (typed t) = refl
same_type mistyped = refl
same_type untyped = refl

pub at-group : (c : Context) (p : Place) (e : ExprTree) → type_at c (group p e) ≡ type_at c e
at-group c p e = ap type_from (judge-group c p e) ∙ same_type (judge c e)

pub at-negation : (c : Context) (p : Place) (e : ExprTree) → type_at c (negation p e) ≡ type_if ValueType.Bool (option_map (passes Wanted.Boolean) (type_at c e))
unfolding passes
at-negation c p e = ap type_from (judge-negation c p e) ∙ by_one (judge c e) ValueType.Bool Wanted.Boolean

pub at-minus : (c : Context) (p : Place) (e : ExprTree) → type_at c (minus p e) ≡ type_if ValueType.Int (option_map (passes Wanted.Integer) (type_at c e))
unfolding passes
at-minus c p e = ap type_from (judge-minus c p e) ∙ by_one (judge c e) ValueType.Int Wanted.Integer

pub at-absolute : (c : Context) (p : Place) (e : ExprTree) → type_at c (absolute p e) ≡ type_if ValueType.Int (option_map (passes Wanted.Integer) (type_at c e))
unfolding passes
at-absolute c p e = ap type_from (judge-absolute c p e) ∙ by_one (judge c e) ValueType.Int Wanted.Integer

pub at-to_int : (c : Context) (p : Place) (e : ExprTree) → type_at c (to_int p e) ≡ type_if ValueType.Int (option_map (passes Wanted.Boolean) (type_at c e))
unfolding passes
at-to_int c p e = ap type_from (judge-to_int c p e) ∙ by_one (judge c e) ValueType.Int Wanted.Boolean

pub at-factorial : (c : Context) (p : Place) (e : ExprTree) → type_at c (factorial p e) ≡ type_if ValueType.Int (option_map (passes Wanted.Integer) (type_at c e))
unfolding passes
at-factorial c p e = ap type_from (judge-factorial c p e) ∙ by_one (judge c e) ValueType.Int Wanted.Integer

pub at-all_different : (c : Context) (p : Place) (e : ExprTree) → type_at c (all_different p e) ≡ type_if ValueType.Bool (option_map (passes Wanted.Matrix) (type_at c e))
unfolding passes
at-all_different c p e = ap type_from (judge-all_different c p e) ∙ by_one (judge c e) ValueType.Bool Wanted.Matrix

folds_by : (op : FoldOp) (t : ValueType) → folded_type op t ≡ gives (fold_type op) (passes (fold_part op) t)
unfolding folded_type fold_type fold_part passes
folds_by FoldOp.And t = refl
folds_by FoldOp.Or t = refl
folds_by FoldOp.Sum t = refl
folds_by FoldOp.Product t = refl
folds_by FoldOp.Min t = refl
folds_by FoldOp.Max t = refl

fold_is : (op : FoldOp) (j : Judged) → type_from (from_one j (folded_type op)) ≡ type_if (fold_type op) (option_map (passes (fold_part op)) (type_from j))
unfolding from_one type_from type_if
fold_is op (typed t) = ap type_from (folds_by op t) ∙ given_by (fold_type op) (passes (fold_part op) t)
fold_is op mistyped = refl
fold_is op untyped = refl

pub at-folded : (c : Context) (op : FoldOp) (p : Place) (e : ExprTree) → type_at c (folded p op e) ≡ type_if (fold_type op) (option_map (passes (fold_part op)) (type_at c e))
at-folded c op p e = ap type_from (judge-folded c p op e) ∙ fold_is op (judge c e)

flat_is : (j : Judged) → type_from (from_one j (λ t. gives (ValueType.Matrix 1 (scalar_of t)) (is_matrix t))) ≡ flattened (type_from j)
unfolding from_one type_from flattened
flat_is (typed t) = given_by (ValueType.Matrix 1 (scalar_of t)) (is_matrix t)
flat_is mistyped = refl
flat_is untyped = refl

pub at-flatten : (c : Context) (p : Place) (e : ExprTree) → type_at c (flatten p e) ≡ flattened (type_at c e)
at-flatten c p e = ap type_from (judge-flatten c p e) ∙ flat_is (judge c e)

joins_by : (op : BinaryOp) (s t : ValueType) → binary_type op s t ≡ gives (join_type op) (passes (join_part op) s && passes (join_part op) t)
unfolding binary_type join_type join_part passes
joins_by BinaryOp.Implies s t = refl
joins_by BinaryOp.Iff s t = refl
joins_by BinaryOp.Mul s t = refl
joins_by BinaryOp.Div s t = refl
joins_by BinaryOp.Mod s t = refl
joins_by BinaryOp.Pow s t = refl
joins_by BinaryOp.Min s t = refl
joins_by BinaryOp.Max s t = refl

join_is : (op : BinaryOp) (i j : Judged) → type_from (from_two i j (binary_type op)) ≡ type_if (join_type op) (both_pass (join_part op) (join_part op) (type_from i) (type_from j))
unfolding from_two from_one type_from type_if map_both
join_is op (typed s) (typed t) = ap type_from (joins_by op s t) ∙ given_by (join_type op) (passes (join_part op) s && passes (join_part op) t)
join_is op (typed s) mistyped = refl
join_is op (typed s) untyped = refl
join_is op mistyped j = refl
join_is op untyped j = refl

pub at-binary : (c : Context) (op : BinaryOp) (p : Place) (e f : ExprTree) → type_at c (binary p op e f) ≡ type_if (join_type op) (both_pass (join_part op) (join_part op) (type_at c e) (type_at c f))
at-binary c op p e f = ap type_from (judge-binary c p op e f) ∙ join_is op (judge c e) (judge c f)

pub at-compare : (c : Context) (op : CompareOp) (p : Place) (e f : ExprTree) → type_at c (compare p op e f) ≡ type_if ValueType.Bool (both_pass Wanted.Integer Wanted.Integer (type_at c e) (type_at c f))
unfolding passes
at-compare c op p e f = ap type_from (judge-compare c p op e f) ∙ by_two (judge c e) (judge c f) ValueType.Bool Wanted.Integer Wanted.Integer

pub at-lex : (c : Context) (op : LexOp) (p : Place) (e f : ExprTree) → type_at c (lex p op e f) ≡ type_if ValueType.Bool (both_pass Wanted.List Wanted.List (type_at c e) (type_at c f))
unfolding passes are_lists
at-lex c op p e f = ap type_from (judge-lex c p op e f) ∙ by_two (judge c e) (judge c f) ValueType.Bool Wanted.List Wanted.List

pub at-in_set : (c : Context) (p : Place) (e f : ExprTree) → type_at c (in_set p e f) ≡ type_if ValueType.Bool (both_pass Wanted.Integer Wanted.Matrix (type_at c e) (type_at c f))
unfolding passes
at-in_set c p e f = ap type_from (judge-in_set c p e f) ∙ by_two (judge c e) (judge c f) ValueType.Bool Wanted.Integer Wanted.Matrix

pub at-table : (c : Context) (p : Place) (e f : ExprTree) → type_at c (table p e f) ≡ type_if ValueType.Bool (both_pass Wanted.List Wanted.Rows (type_at c e) (type_at c f))
unfolding passes
at-table c p e f = ap type_from (judge-table c p e f) ∙ by_two (judge c e) (judge c f) ValueType.Bool Wanted.List Wanted.Rows

-- whether three parts are a matrix and two lists
abbrev pub counts_pass : Option ValueType → Option ValueType → Option ValueType → Option Bool
counts_pass s t u = map_both (λ a b. a && b) (option_map (passes Wanted.Matrix) s) (both_pass Wanted.List Wanted.List t u)

pub at-gcc : (c : Context) (p : Place) (e f g : ExprTree) → type_at c (gcc p e f g) ≡ type_if ValueType.Bool (counts_pass (type_at c e) (type_at c f) (type_at c g))
unfolding passes are_lists
at-gcc c p e f g = ap type_from (judge-gcc c p e f g) ∙ by_three (judge c e) (judge c f) (judge c g) ValueType.Bool Wanted.Matrix Wanted.List Wanted.List

pub at-at_least : (c : Context) (p : Place) (e f g : ExprTree) → type_at c (at_least p e f g) ≡ type_if ValueType.Bool (counts_pass (type_at c e) (type_at c f) (type_at c g))
unfolding passes are_lists
at-at_least c p e f g = ap type_from (judge-at_least c p e f g) ∙ by_three (judge c e) (judge c f) (judge c g) ValueType.Bool Wanted.Matrix Wanted.List Wanted.List

pub at-at_most : (c : Context) (p : Place) (e f g : ExprTree) → type_at c (at_most p e f g) ≡ type_if ValueType.Bool (counts_pass (type_at c e) (type_at c f) (type_at c g))
unfolding passes are_lists
at-at_most c p e f g = ap type_from (judge-at_most c p e f g) ∙ by_three (judge c e) (judge c f) (judge c g) ValueType.Bool Wanted.Matrix Wanted.List Wanted.List

pub at-chain : (c : Context) (p : Place) (terms : Terms) → type_at c (chain p terms) ≡ type_if ValueType.Int (all_pass Wanted.Integer (judge_terms c terms))
unfolding passes
at-chain c p terms = ap type_from (judge-chain c p terms) ∙ by_many (judge_terms c terms) ValueType.Int Wanted.Integer

pub at-all_of : (c : Context) (p : Place) (es : ExprTrees) → type_at c (all_of p es) ≡ type_if ValueType.Bool (all_pass Wanted.Boolean (judge_all c es))
unfolding passes
at-all_of c p es = ap type_from (judge-all_of c p es) ∙ by_many (judge_all c es) ValueType.Bool Wanted.Boolean

pub at-any_of : (c : Context) (p : Place) (es : ExprTrees) → type_at c (any_of p es) ≡ type_if ValueType.Bool (all_pass Wanted.Boolean (judge_all c es))
unfolding passes
at-any_of c p es = ap type_from (judge-any_of c p es) ∙ by_many (judge_all c es) ValueType.Bool Wanted.Boolean

-- ---- lists of parts

-- one part before others
pub typed_more : (j : Judged) (js : List Judged) (w : Wanted) → all_pass w (j ∷ js) ≡ map_both (λ a b. a && b) (option_map (passes w) (type_from j)) (all_pass w js)
unfolding all_typed type_from map_both
typed_more (typed t) js w = by t w (all_typed js)
  where
    by : (t : ValueType) (w : Wanted) (o : Option (List ValueType)) → option_map (list_all (passes w)) (option_map (λ ts. t ∷ ts) o) ≡ map_both (λ a b. a && b) (Some (passes w t)) (option_map (list_all (passes w)) o)
    by t w None = refl
    by t w (Some ts) = refl
typed_more mistyped js w = refl
typed_more untyped js w = refl

pub first_all : (o : Option Bool) → o ≡ map_both (λ a b. a && b) (Some true) o
unfolding map_both
first_all None = refl
first_all (Some b) = refl

pub last_all : (o : Option Bool) → map_both (λ a b. a && b) o (Some true) ≡ o
unfolding map_both
last_all None = refl
last_all (Some true) = refl
last_all (Some false) = refl

pub regrouped : (a b c : Option Bool) → map_both (λ x y. x && y) a (map_both (λ x y. x && y) b c) ≡ map_both (λ x y. x && y) (map_both (λ x y. x && y) a b) c
unfolding map_both
regrouped None b c = refl
regrouped (Some x) None c = refl
regrouped (Some x) (Some y) None = refl
regrouped (Some true) (Some y) (Some z) = refl
regrouped (Some false) (Some y) (Some z) = refl

-- one part further: the whole is told by what is told so far, and then by the others
pub pass_more : (whole holds one more rest others : Option Bool) → whole ≡ map_both (λ a b. a && b) holds rest → rest ≡ map_both (λ a b. a && b) one others
    → more ≡ map_both (λ a b. a && b) holds one → whole ≡ map_both (λ a b. a && b) more others
pass_more whole holds one more rest others was cut is =
    was ∙ ap (map_both (λ a b. a && b) holds) cut ∙ regrouped holds one others ∙ ap (λ o. map_both (λ a b. a && b) o others) (sym is)

pub pass_ends : (whole holds rest : Option Bool) → whole ≡ map_both (λ a b. a && b) holds rest → rest ≡ Some true → holds ≡ whole
pass_ends whole holds rest was none = sym (was ∙ ap (map_both (λ a b. a && b) holds) none ∙ last_all holds)

pub parts_one : (c : Context) (part : Expr) (rest : List Expr)
    → all_pass Wanted.Boolean (judge_all c (expr_trees (part ∷ rest))) ≡ map_both (λ a b. a && b) (option_map (passes Wanted.Boolean) (type_at c (expr_tree part))) (all_pass Wanted.Boolean (judge_all c (expr_trees rest)))
unfolding judge_all expr_trees
parts_one c part rest = typed_more (judge c (expr_tree part)) (judge_all c (expr_trees rest)) Wanted.Boolean

pub parts_none : (c : Context) (left : List Expr) → left ≡ [] → all_pass Wanted.Boolean (judge_all c (expr_trees left)) ≡ Some true
unfolding judge_all expr_trees all_typed
parts_none c left none = ap (λ l. all_pass Wanted.Boolean (judge_all c (expr_trees l))) none

pub terms_one : (c : Context) (term : Bool × Expr) (rest : List (Bool × Expr))
    → all_pass Wanted.Integer (judge_terms c (terms_of (term ∷ rest))) ≡ map_both (λ a b. a && b) (option_map (passes Wanted.Integer) (type_at c (expr_tree term.1))) (all_pass Wanted.Integer (judge_terms c (terms_of rest)))
unfolding judge_terms terms_of
terms_one c term rest = typed_more (judge c (expr_tree term.1)) (judge_terms c (terms_of rest)) Wanted.Integer

pub terms_none : (c : Context) (left : List (Bool × Expr)) → left ≡ [] → all_pass Wanted.Integer (judge_terms c (terms_of left)) ≡ Some true
unfolding judge_terms terms_of all_typed
terms_none c left none = ap (λ l. all_pass Wanted.Integer (judge_terms c (terms_of l))) none

pub alone_is : (o : Option Bool) → o ≡ map_both (λ a b. a && b) o (Some true)
alone_is o = sym (last_all o)

pub index_stated : (c : Context) (index : Option Expr) (e : Expr) → index ≡ Some e
    → option_map (passes Wanted.Integer) (type_at c (expr_tree e)) ≡ all_pass Wanted.Integer (judge_indices c (indices_of (index ∷ [])))
unfolding judge_indices indices_of all_typed
index_stated c index e is =
    alone_is (option_map (passes Wanted.Integer) (type_at c (expr_tree e))) ∙ sym (typed_more (judge c (expr_tree e)) [] Wanted.Integer)
    ∙ sym (ap (λ i. all_pass Wanted.Integer (judge_indices c (indices_of (i ∷ [])))) is)

pub index_every : (c : Context) (index : Option Expr) → index ≡ None → Some true ≡ all_pass Wanted.Integer (judge_indices c (indices_of (index ∷ [])))
unfolding judge_indices indices_of all_typed
index_every c index is = sym (ap (λ i. all_pass Wanted.Integer (judge_indices c (indices_of (i ∷ [])))) is)

pub indices_one : (c : Context) (index : Option Expr) (rest : List (Option Expr))
    → all_pass Wanted.Integer (judge_indices c (indices_of (index ∷ rest))) ≡ map_both (λ a b. a && b) (all_pass Wanted.Integer (judge_indices c (indices_of (index ∷ [])))) (all_pass Wanted.Integer (judge_indices c (indices_of rest)))
unfolding judge_indices indices_of all_typed
indices_one c None rest = first_all (all_pass Wanted.Integer (judge_indices c (indices_of rest)))
indices_one c (Some e) rest =
    typed_more (judge c (expr_tree e)) (judge_indices c (indices_of rest)) Wanted.Integer
    ∙ ap (λ o. map_both (λ a b. a && b) o (all_pass Wanted.Integer (judge_indices c (indices_of rest))))
    (alone_is (option_map (passes Wanted.Integer) (type_at c (expr_tree e))) ∙ sym (typed_more (judge c (expr_tree e)) [] Wanted.Integer))

pub indices_none : (c : Context) (left : List (Option Expr)) → left ≡ [] → all_pass Wanted.Integer (judge_indices c (indices_of left)) ≡ Some true
unfolding judge_indices indices_of all_typed
indices_none c left none = ap (λ l. all_pass Wanted.Integer (judge_indices c (indices_of l))) none

-- ---- counts of indices

stated_count : (c : Context) (is : List (Option Expr)) → length (judge_indices c (indices_of is)) + slice_count (indices_of is) ≡ length is
unfolding judge_indices indices_of slice_count
stated_count c [] = refl
stated_count c (None ∷ is) = let e = stated_count c is in omega (arith, e)
stated_count c (Some x ∷ is) = let e = stated_count c is in omega (arith, e)

-- ---- reads

longer : (t : ValueType) (js : List Judged) (ts : List ValueType) (o : Option (List ValueType)) → ((us : List ValueType) → o ≡ Some us → length us ≡ length js)
    → option_map (λ us. t ∷ us) o ≡ Some ts → length ts ≡ suc (length js)
longer t js ts None more h = absurd cc
longer t js ts (Some us) more h =
    let own : length (t ∷ us) ≡ length ts = ap length (some_is h) in
    let inner : length us ≡ length js = more us refl in
    omega (arith, own, inner)

pub typed_length : (js : List Judged) (ts : List ValueType) → all_typed js ≡ Some ts → length ts ≡ length js
unfolding all_typed
typed_length [] ts h = sym (ap length (some_is h))
typed_length (typed t ∷ js) ts h = longer t js ts (all_typed js) (λ us e. typed_length js us e) h
typed_length (mistyped ∷ js) ts h = absurd cc
typed_length (untyped ∷ js) ts h = absurd cc

pub read_none : (t : ValueType) (stated slices : ℕ) → None ≡ read_of (Some t) None stated slices
unfolding read_of
read_none ValueType.Bool stated slices = refl
read_none ValueType.Int stated slices = refl
read_none (ValueType.Matrix k s) stated slices = refl
read_none ValueType.Empty stated slices = refl

read_some : (t : ValueType) (ts : List ValueType) (stated slices : ℕ) → length ts ≡ stated
    → type_from (read_type t ts slices) ≡ read_of (Some t) (Some (list_all (passes Wanted.Integer) ts)) stated slices
unfolding read_type read_of type_from passes
read_some ValueType.Bool ts stated slices h = refl
read_some ValueType.Int ts stated slices h = refl
read_some (ValueType.Matrix k s) ts stated slices h =
    given_by (left_type (k - length ts) s) (list_all is_integer ts && nat_le (length ts + slices) k)
    ∙ ap (λ n. type_if (left_type (k - n) s) (Some (list_all is_integer ts && nat_le (n + slices) k))) h
read_some ValueType.Empty ts stated slices h = refl

read_by_indices : (t : ValueType) (o : Option (List ValueType)) (stated slices : ℕ) → ((ts : List ValueType) → o ≡ Some ts → length ts ≡ stated)
    → type_from (from_all o (λ ts. read_type t ts slices)) ≡ read_of (Some t) (option_map (list_all (passes Wanted.Integer)) o) stated slices
unfolding from_all type_from
read_by_indices t None stated slices many = read_none t stated slices
read_by_indices t (Some ts) stated slices many = read_some t ts stated slices (many ts refl)

read_by_matrix : (j : Judged) (js : List Judged) (slices : ℕ)
    → type_from (from_one j (λ t. from_many js (λ ts. read_type t ts slices))) ≡ read_of (type_from j) (all_pass Wanted.Integer js) (length js) slices
unfolding from_one from_many type_from read_of
read_by_matrix (typed t) js slices = read_by_indices t (all_typed js) (length js) slices (typed_length js)
read_by_matrix mistyped js slices = refl
read_by_matrix untyped js slices = refl

pub at-read : (c : Context) (p : Place) (m : ExprTree) (is : List (Option Expr))
    → type_at c (read p m (indices_of is)) ≡ read_of (type_at c m) (all_pass Wanted.Integer (judge_indices c (indices_of is))) (length is - slice_count (indices_of is)) (slice_count (indices_of is))
at-read c p m is =
    ap type_from (judge-read c p m (indices_of is)) ∙ read_by_matrix (judge c m) (judge_indices c (indices_of is)) (slice_count (indices_of is))
    ∙ ap (λ n. read_of (type_at c m) (all_pass Wanted.Integer (judge_indices c (indices_of is))) n (slice_count (indices_of is)))
    (let e = stated_count c is in omega (arith, e))

-- ---- arms

-- a form of one part
pub one_form : (c : Context) (p : Place) (k : Kind) (shape : Place → ExprTree → ExprTree) (part target : Expr) (t : ValueType) (w : Wanted) (holds : Option Bool) (ty : Option ValueType)
    → ((q : Place) → kind_tree q k ≡ shape q (expr_tree part)) → target ≡ part
    → ((q : Place) (e : ExprTree) → type_at c (shape q e) ≡ type_if t (option_map (passes w) (type_at c e)))
    → holds ≡ option_map (passes w) (type_at c (expr_tree target)) → ty ≡ type_if t holds → ty ≡ type_at c (kind_tree p k)
one_form c p k shape part target t w holds ty is same rule told given =
    given ∙ ap (type_if t) told ∙ sym (rule p (expr_tree target)) ∙ ap (λ x. type_at c (shape p (expr_tree x))) same ∙ sym (ap (type_at c) (is p))

-- a form of two parts
pub two_form : (c : Context) (p : Place) (k : Kind) (shape : Place → ExprTree → ExprTree → ExprTree) (part other target second : Expr) (t : ValueType) (v w : Wanted) (one two all : Option Bool) (ty : Option ValueType)
    → ((q : Place) → kind_tree q k ≡ shape q (expr_tree part) (expr_tree other)) → target ≡ part → second ≡ other
    → ((q : Place) (e f : ExprTree) → type_at c (shape q e f) ≡ type_if t (both_pass v w (type_at c e) (type_at c f)))
    → one ≡ option_map (passes v) (type_at c (expr_tree target)) → two ≡ option_map (passes w) (type_at c (expr_tree second))
    → all ≡ map_both (λ a b. a && b) one two → ty ≡ type_if t all → ty ≡ type_at c (kind_tree p k)
two_form c p k shape part other target second t v w one two all ty is same again rule told more both given =
    given
    ∙ ap (type_if t)
    (both ∙ ap (λ o. map_both (λ a b. a && b) o two) told ∙ ap (map_both (λ a b. a && b) (option_map (passes v) (type_at c (expr_tree target)))) more)
    ∙ sym (rule p (expr_tree target) (expr_tree second))
    ∙ ap (λ x. type_at c (shape p (expr_tree x) (expr_tree second))) same ∙ ap (λ x. type_at c (shape p (expr_tree part) (expr_tree x))) again
    ∙ sym (ap (type_at c) (is p))

-- a form that counts the values of a list in a matrix
pub count_form : (c : Context) (p : Place) (k : Kind) (shape : Place → ExprTree → ExprTree → ExprTree → ExprTree) (a b d x y z : Expr) (one two three inner all : Option Bool) (ty : Option ValueType)
    → ((q : Place) → kind_tree q k ≡ shape q (expr_tree a) (expr_tree b) (expr_tree d)) → x ≡ a → y ≡ b → z ≡ d
    → ((q : Place) (e f g : ExprTree) → type_at c (shape q e f g) ≡ type_if ValueType.Bool (counts_pass (type_at c e) (type_at c f) (type_at c g)))
    → one ≡ option_map (passes Wanted.Matrix) (type_at c (expr_tree x)) → two ≡ option_map (passes Wanted.List) (type_at c (expr_tree y))
    → three ≡ option_map (passes Wanted.List) (type_at c (expr_tree z))
    → inner ≡ map_both (λ a b. a && b) two three → all ≡ map_both (λ a b. a && b) one inner → ty ≡ type_if ValueType.Bool all → ty ≡ type_at c (kind_tree p k)
count_form c p k shape a b d x y z one two three inner all ty is first second third rule told more last within whole given =
    given
    ∙ ap (type_if ValueType.Bool)
    (whole ∙ ap (λ o. map_both (λ a b. a && b) o inner) told
    ∙ ap (map_both (λ a b. a && b) (option_map (passes Wanted.Matrix) (type_at c (expr_tree x))))
    (within ∙ ap (λ o. map_both (λ a b. a && b) o three) more ∙ ap (map_both (λ a b. a && b) (option_map (passes Wanted.List) (type_at c (expr_tree y)))) last))
    ∙ sym (rule p (expr_tree x) (expr_tree y) (expr_tree z))
    ∙ ap (λ w. type_at c (shape p (expr_tree w) (expr_tree y) (expr_tree z))) first ∙ ap (λ w. type_at c (shape p (expr_tree a) (expr_tree w) (expr_tree z))) second
    ∙ ap (λ w. type_at c (shape p (expr_tree a) (expr_tree b) (expr_tree w))) third ∙ sym (ap (type_at c) (is p))

-- ---- what is left of a matrix

within_count : (n m : ℕ) → n ≤ m → nat_le n m ≡ true
within_count n m h = grind arith

beyond : (n m : ℕ) → m < n → nat_le n m ≡ false
beyond n m h = grind arith

pub reads_beyond : (k : ℕ) (s : Scalar) (b : Bool) (stated slices : ℕ) → k < stated + slices → None ≡ read_of (Some (ValueType.Matrix k s)) (Some b) stated slices
unfolding read_of type_if
reads_beyond k s b stated slices h = sym (ap (λ x. type_if (left_type (k - stated) s) (Some x)) (ap (λ x. b && x) (beyond (stated + slices) k h) ∙ and-false b))

pub reads_within : (k : ℕ) (s : Scalar) (b : Bool) (stated slices : ℕ) → stated + slices ≤ k
    → type_if (left_type (k - stated) s) (Some b) ≡ read_of (Some (ValueType.Matrix k s)) (Some b) stated slices
unfolding read_of
reads_within k s b stated slices h = sym (ap (λ x. type_if (left_type (k - stated) s) (Some x)) (ap (λ x. b && x) (within_count (stated + slices) k h) ∙ and-true b))

-- ---- what names stand for

pub shape_scalar : (s : Scalar) (is : List (List ℤ)) → length is ≡ 0 → of_scalar s ≡ shape_type s is
unfolding shape_type
shape_scalar s [] h = refl
shape_scalar s (i ∷ is) h = absurd (omega (arith, h))

pub shape_matrix : (s : Scalar) (is : List (List ℤ)) → (length is ≡ 0 → ⊥) → ValueType.Matrix (length is) s ≡ shape_type s is
unfolding shape_type
shape_matrix s [] h = absurd (h refl)
shape_matrix s (i ∷ is) h = refl
