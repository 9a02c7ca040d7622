-- The types of domains and of lists in brackets by those of their parts.
use Rattle.ep_eval.proofs.Words.{◌≡◌, ℕ, zero, suc, ◌+◌, Bool, true, false, ◌&&◌, ◌==◌, if◌then◌else◌, List, [], ◌∷◌, ◌++◌, length, Option, Some, None, option_map, refl, sym, ap, ◌∙◌, append_assoc, append-nil, arith, list_all, Box, ne_eqb, map_both, Place, judge-in_domain, judge-literal, judge_domain-group_domain, judge_domain-matrix_domain, judge_domain-ranges, judge_domain-set_domain, index_of, with_range-one, with_range-span, DomainTree, ExprTree, ExprTrees, IndexDomain, Ranges, group_domain, in_domain, literal, matrix_domain, no_ranges, ranges, set_domain, Context, Judged, all_typed, both_scalars, can_index, from_all, from_many, from_one, from_two, gives, has_dimensions, indexed_type, is_boolean, is_integer, is_matrix, is_matrix_of_bool, judge, judge_all, judge_domain, judge_domains, judge_end, judge_index, judge_indices, judge_ranges, list_of_matrices, list_type, matrix_type, mistyped, of_scalar, scalar_of, stated_dimensions, type_from, typed, untyped, domain_tree, domains_of, end_of, expr_tree, expr_trees, held_end, indices_of, kind_tree, ranges_of, with_range, Domain, Expr, One, One', Range, Span, Span', SetOp, Scalar, ValueType, all_pass, domain_type_at, list_of, matrix_over, passes, set_of_both, type_at, type_if, index_at, alone, Wanted}
use Rattle.std.specs.declared.alloc.Global.{Global}
use Rattle.ep_eval.proofs.JudgingForms.{alone_is, both_pass, by_many, by_two, first_all, given_by, regrouped, same_type, typed_length, typed_more}

-- ---- forms

pub at-in_domain : (c : Context) (p : Place) (e : ExprTree) (d : DomainTree)
    → type_at c (in_domain p e d) ≡ type_if ValueType.Bool (both_pass Wanted.Integer Wanted.Integer (type_at c e) (domain_type_at c d))
unfolding passes
at-in_domain c p e d = ap type_from (judge-in_domain c p e d) ∙ by_two (judge c e) (judge_domain c d) ValueType.Bool Wanted.Integer Wanted.Integer

pub at-group_domain : (c : Context) (p : Place) (d : DomainTree) → domain_type_at c (group_domain p d) ≡ domain_type_at c d
at-group_domain c p d = ap type_from (judge_domain-group_domain c p d) ∙ same_type (judge_domain c d)

pub at-ranges : (c : Context) (p : Place) (rs : Ranges) → domain_type_at c (ranges p rs) ≡ type_if ValueType.Int (all_pass Wanted.Integer (judge_ranges c rs))
unfolding passes
at-ranges c p rs = ap type_from (judge_domain-ranges c p rs) ∙ by_many (judge_ranges c rs) ValueType.Int Wanted.Integer

set_by : (i j : Judged) → type_from (from_two i j (λ s t. gives (of_scalar (both_scalars (scalar_of s) (scalar_of t))) (is_integer s && is_integer t))) ≡ set_of_both (type_from i) (type_from j)
unfolding from_two from_one type_from set_of_both
set_by (typed s) (typed t) = given_by (of_scalar (both_scalars (scalar_of s) (scalar_of t))) (is_integer s && is_integer t)
set_by (typed s) mistyped = refl
set_by (typed s) untyped = refl
set_by mistyped j = refl
set_by untyped j = refl

pub at-set_domain : (c : Context) (p : Place) (op : SetOp) (d e : DomainTree) → domain_type_at c (set_domain p op d e) ≡ set_of_both (domain_type_at c d) (domain_type_at c e)
at-set_domain c p op d e = ap type_from (judge_domain-set_domain c p op d e) ∙ set_by (judge_domain c d) (judge_domain c e)

swapped : (m n : ℕ) → m + n ≡ n + m
swapped m n = omega arith

pub matrix_none : (t : ValueType) (n : ℕ) → None ≡ matrix_over (Some t) None n
unfolding matrix_over
matrix_none ValueType.Bool n = refl
matrix_none ValueType.Int n = refl
matrix_none (ValueType.Matrix k s) n = refl
matrix_none ValueType.Empty n = refl

matrix_some : (t : ValueType) (ts : List ValueType) → type_from (matrix_type ts t) ≡ matrix_over (Some t) (Some (list_all (passes Wanted.Integer) ts)) (length ts)
unfolding matrix_type matrix_over can_index passes scalar_of gives type_from
matrix_some ValueType.Bool [] = refl
matrix_some ValueType.Int [] = refl
matrix_some (ValueType.Matrix k s) [] = refl
matrix_some ValueType.Empty [] = refl
matrix_some ValueType.Bool (u ∷ us) = given_by (ValueType.Matrix (length (u ∷ us)) Scalar.Bool) (list_all is_integer (u ∷ us))
matrix_some ValueType.Int (u ∷ us) = given_by (ValueType.Matrix (length (u ∷ us)) Scalar.Int) (list_all is_integer (u ∷ us))
matrix_some (ValueType.Matrix k s) (u ∷ us) =
    given_by (ValueType.Matrix (length (u ∷ us) + k) s) (list_all is_integer (u ∷ us))
    ∙ ap (λ n. type_if (ValueType.Matrix n s) (Some (list_all is_integer (u ∷ us)))) (swapped (length (u ∷ us)) k)
matrix_some ValueType.Empty (u ∷ us) = given_by (ValueType.Matrix (length (u ∷ us)) Scalar.Bool) (list_all is_integer (u ∷ us))

matrix_by_indices : (t : ValueType) (o : Option (List ValueType)) (n : ℕ) → ((ts : List ValueType) → o ≡ Some ts → length ts ≡ n)
    → type_from (from_all o (λ ts. matrix_type ts t)) ≡ matrix_over (Some t) (option_map (list_all (passes Wanted.Integer)) o) n
unfolding from_all type_from
matrix_by_indices t None n many = matrix_none t n
matrix_by_indices t (Some ts) n many = matrix_some t ts ∙ ap (matrix_over (Some t) (Some (list_all (passes Wanted.Integer) ts))) (many ts refl)

matrix_by : (j : Judged) (js : List Judged) → type_from (from_one j (λ t. from_many js (λ ts. matrix_type ts t))) ≡ matrix_over (type_from j) (all_pass Wanted.Integer js) (length js)
unfolding from_one from_many type_from matrix_over
matrix_by (typed t) js = matrix_by_indices t (all_typed js) (length js) (typed_length js)
matrix_by mistyped js = refl
matrix_by untyped js = refl

as_many : (c : Context) (ds : List Domain) → length (judge_domains c (domains_of ds)) ≡ length ds
unfolding judge_domains domains_of
as_many c [] = refl
as_many c (d ∷ ds) = ap suc (as_many c ds)

pub at-matrix_domain : (c : Context) (p : Place) (ds : List Domain) (d : DomainTree)
    → domain_type_at c (matrix_domain p (domains_of ds) d) ≡ matrix_over (domain_type_at c d) (all_pass Wanted.Integer (judge_domains c (domains_of ds))) (length ds)
at-matrix_domain c p ds d =
    ap type_from (judge_domain-matrix_domain c p (domains_of ds) d) ∙ matrix_by (judge_domain c d) (judge_domains c (domains_of ds))
    ∙ ap (matrix_over (domain_type_at c d) (all_pass Wanted.Integer (judge_domains c (domains_of ds)))) (as_many c ds)

pub matrix_of_none : (t : ValueType) (b : Bool) (n : ℕ) → n ≡ 0 → None ≡ matrix_over (Some t) (Some b) n
unfolding matrix_over
matrix_of_none t b (suc n) h = absurd (omega (arith, h))
matrix_of_none ValueType.Bool b zero h = refl
matrix_of_none ValueType.Int b zero h = refl
matrix_of_none (ValueType.Matrix k s) b zero h = refl
matrix_of_none ValueType.Empty b zero h = refl

pub matrix_of_some : (t : ValueType) (k : ℕ) (s : Scalar) (b : Bool) (n : ℕ) → (n ≡ 0 → ⊥)
    → ((scalar : Bool) (more : ℕ) → type_if (ValueType.Matrix (k + suc more) s) (Some scalar) ≡ matrix_over (Some t) (Some scalar) (suc more))
    → type_if (ValueType.Matrix (k + n) s) (Some b) ≡ matrix_over (Some t) (Some b) n
matrix_of_some t k s b zero h rule = absurd (h refl)
matrix_of_some t k s b (suc more) h rule = rule b more

list_by : (o : Option (List ValueType)) (ds : List ValueType)
    → type_from (from_all o (λ ts. indexed_type ds (list_type ts))) ≡ list_of o (Some (list_all (passes Wanted.Integer) ds))
unfolding from_all type_from list_of indexed_type passes
list_by None ds = refl
list_by (Some ts) ds = by (list_all is_integer ds)
  where
    by : (b : Bool) → type_from (if b then list_type ts else mistyped) ≡ list_of (Some ts) (Some b)
    by true = refl
    by false = refl

list_without : (o : Option (List ValueType)) → None ≡ list_of o None
unfolding list_of
list_without None = refl
list_without (Some ts) = refl

literal_by : (o : Option (List ValueType)) (js : List Judged)
    → type_from (from_all o (λ ds. from_many js (λ ts. indexed_type ds (list_type ts)))) ≡ list_of (all_typed js) (option_map (list_all (passes Wanted.Integer)) o)
unfolding from_all from_many type_from
literal_by None js = list_without (all_typed js)
literal_by (Some ds) js = list_by (all_typed js) ds

pub at-literal : (c : Context) (p : Place) (parts : ExprTrees) (d : IndexDomain) → type_at c (literal p parts d) ≡ list_of (all_typed (judge_all c parts)) (all_pass Wanted.Integer (judge_index c d))
unfolding from_many
at-literal c p parts d = ap type_from (judge-literal c p parts d) ∙ literal_by (all_typed (judge_index c d)) (judge_all c parts)

pub index_is : (d : Option (Box Domain Global)) → index_of d ≡ index_at d
unfolding index_of index_at
index_is None = refl
index_is (Some d) = refl

-- ---- lists of domains and ranges

pub domains_one : (c : Context) (d : Domain) (rest : List Domain)
    → all_pass Wanted.Integer (judge_domains c (domains_of (d ∷ rest)))
    ≡ map_both (λ a b. a && b) (option_map (passes Wanted.Integer) (domain_type_at c (domain_tree d))) (all_pass Wanted.Integer (judge_domains c (domains_of rest)))
unfolding judge_domains domains_of
domains_one c d rest = typed_more (judge_domain c (domain_tree d)) (judge_domains c (domains_of rest)) Wanted.Integer

pub domains_none : (c : Context) (left : List Domain) → left ≡ [] → all_pass Wanted.Integer (judge_domains c (domains_of left)) ≡ Some true
unfolding judge_domains domains_of all_typed
domains_none c left none = ap (λ l. all_pass Wanted.Integer (judge_domains c (domains_of l))) none

pub index_scalar-some : (c : Context) (o : Option (Box Domain Global)) (d : Box Domain Global) → o ≡ Some d
    → option_map (passes Wanted.Integer) (domain_type_at c (domain_tree d.value)) ≡ all_pass Wanted.Integer (judge_index c (index_at o))
unfolding judge_index index_at all_typed
index_scalar-some c o d is =
    alone_is (option_map (passes Wanted.Integer) (domain_type_at c (domain_tree d.value))) ∙ sym (typed_more (judge_domain c (domain_tree d.value)) [] Wanted.Integer)
    ∙ sym (ap (λ x. all_pass Wanted.Integer (judge_index c (index_at x))) is)

pub index_scalar-none : (c : Context) (o : Option (Box Domain Global)) → o ≡ None → Some true ≡ all_pass Wanted.Integer (judge_index c (index_at o))
unfolding judge_index index_at all_typed
index_scalar-none c o is = sym (ap (λ x. all_pass Wanted.Integer (judge_index c (index_at x))) is)

none_passes : (w : Wanted) → all_pass w [] ≡ Some true
unfolding all_typed
none_passes w = refl

pub pass_append : (w : Wanted) (is js : List Judged) → all_pass w (is ++ js) ≡ map_both (λ a b. a && b) (all_pass w is) (all_pass w js)
pass_append w [] js = first_all (all_pass w js) ∙ ap (λ o. map_both (λ a b. a && b) o (all_pass w js)) (sym (none_passes w))
pass_append w (i ∷ is) js =
    typed_more i (is ++ js) w ∙ ap (map_both (λ a b. a && b) (option_map (passes w) (type_from i))) (pass_append w is js)
    ∙ regrouped (option_map (passes w) (type_from i)) (all_pass w is) (all_pass w js)
    ∙ ap (λ o. map_both (λ a b. a && b) o (all_pass w js)) (sym (typed_more i is w))

pass_cut : (w : Wanted) (is js : List Judged) → all_pass w (is ++ js) ≡ map_both (λ a b. a && b) (all_pass w (is ++ [])) (all_pass w js)
pass_cut w is js = pass_append w is js ∙ ap (λ l. map_both (λ a b. a && b) (all_pass w l) (all_pass w js)) (sym (append-nil is))

range_first : (c : Context) (r : Range) (rest : Ranges)
    → all_pass Wanted.Integer (judge_ranges c (with_range r rest)) ≡ map_both (λ a b. a && b) (all_pass Wanted.Integer (judge_ranges c (alone r))) (all_pass Wanted.Integer (judge_ranges c rest))
unfolding judge_ranges with_range
range_first c (One' place kind) rest = pass_append Wanted.Integer (judge c (kind_tree place kind) ∷ []) (judge_ranges c rest)
range_first c (Span' low high) rest = pass_cut Wanted.Integer (judge_end c (held_end low) ++ judge_end c (held_end high)) (judge_ranges c rest)

pub ranges_one : (c : Context) (r : Range) (rest : List Range)
    → all_pass Wanted.Integer (judge_ranges c (ranges_of (r ∷ rest))) ≡ map_both (λ a b. a && b) (all_pass Wanted.Integer (judge_ranges c (alone r))) (all_pass Wanted.Integer (judge_ranges c (ranges_of rest)))
unfolding ranges_of
ranges_one c r rest = range_first c r (ranges_of rest)

pub ranges_none : (c : Context) (left : List Range) → left ≡ [] → all_pass Wanted.Integer (judge_ranges c (ranges_of left)) ≡ Some true
unfolding judge_ranges ranges_of all_typed
ranges_none c left none = ap (λ l. all_pass Wanted.Integer (judge_ranges c (ranges_of l))) none

pub range_one : (c : Context) (r : Range) (e : Expr) → r ≡ One e → option_map (passes Wanted.Integer) (type_at c (expr_tree e)) ≡ all_pass Wanted.Integer (judge_ranges c (alone r))
unfolding judge_ranges all_typed
range_one c r e is =
    alone_is (option_map (passes Wanted.Integer) (type_at c (expr_tree e))) ∙ sym (typed_more (judge c (expr_tree e)) [] Wanted.Integer)
    ∙ sym (ap (λ rs. all_pass Wanted.Integer (judge_ranges c rs)) (with_range-one e no_ranges)) ∙ sym (ap (λ x. all_pass Wanted.Integer (judge_ranges c (alone x))) is)

end_is : (c : Context) (end : Option Expr) → all_pass Wanted.Integer (judge_indices c (indices_of (end ∷ []))) ≡ all_pass Wanted.Integer (judge_end c (end_of end))
unfolding judge_indices indices_of judge_end end_of
end_is c None = refl
end_is c (Some e) = refl

pub range_span : (c : Context) (r : Range) (a b : Option Expr) → r ≡ Span a b
    → map_both (λ x y. x && y) (all_pass Wanted.Integer (judge_indices c (indices_of (a ∷ [])))) (all_pass Wanted.Integer (judge_indices c (indices_of (b ∷ []))))
    ≡ all_pass Wanted.Integer (judge_ranges c (alone r))
unfolding judge_ranges
range_span c r a b is =
    ap (λ o. map_both (λ x y. x && y) o (all_pass Wanted.Integer (judge_indices c (indices_of (b ∷ []))))) (end_is c a)
    ∙ ap (map_both (λ x y. x && y) (all_pass Wanted.Integer (judge_end c (end_of a)))) (end_is c b)
    ∙ sym (pass_append Wanted.Integer (judge_end c (end_of a)) (judge_end c (end_of b)))
    ∙ ap (all_pass Wanted.Integer) (sym (append-nil (judge_end c (end_of a) ++ judge_end c (end_of b))))
    ∙ sym (ap (λ rs. all_pass Wanted.Integer (judge_ranges c rs)) (with_range-span a b no_ranges)) ∙ sym (ap (λ x. all_pass Wanted.Integer (judge_ranges c (alone x))) is)

-- ---- the types of some parts

-- the types of some parts before those of others
abbrev pub joined_types : Option (List ValueType) → Option (List ValueType) → Option (List ValueType)
joined_types types left = map_both ◌++◌ types left

pub types_begin : (o : Option (List ValueType)) → o ≡ joined_types (Some []) o
unfolding map_both
types_begin None = refl
types_begin (Some ts) = refl

put_behind : (ts : List ValueType) (t : ValueType) (o : Option (List ValueType)) → map_both ◌++◌ (Some ts) (option_map (λ us. t ∷ us) o) ≡ map_both ◌++◌ (Some (ts ++ t ∷ [])) o
unfolding map_both
put_behind ts t None = refl
put_behind ts t (Some us) = ap Some (sym (append_assoc ts (t ∷ []) us))

one_behind : (types : Option (List ValueType)) (j : Judged) (others : List Judged)
    → joined_types types (all_typed (j ∷ others)) ≡ joined_types (map_both (λ all one. all ++ one ∷ []) types (type_from j)) (all_typed others)
unfolding map_both all_typed type_from
one_behind None j others = refl
one_behind (Some ts) (typed t) others = put_behind ts t (all_typed others)
one_behind (Some ts) mistyped others = refl
one_behind (Some ts) untyped others = refl

all_cons : (c : Context) (part : Expr) (rest : List Expr) → judge_all c (expr_trees (part ∷ rest)) ≡ judge c (expr_tree part) ∷ judge_all c (expr_trees rest)
unfolding judge_all expr_trees
all_cons c part rest = refl

pub types_more : (c : Context) (whole types more : Option (List ValueType)) (left : List Expr) (part : Expr) (rest : List Expr) (ty : Option ValueType)
    → whole ≡ joined_types types (all_typed (judge_all c (expr_trees left))) → left ≡ part ∷ rest → ty ≡ type_at c (expr_tree part)
    → more ≡ map_both (λ all one. all ++ one ∷ []) types ty → whole ≡ joined_types more (all_typed (judge_all c (expr_trees rest)))
types_more c whole types more left part rest ty was cut told is =
    was ∙ ap (λ l. joined_types types (all_typed (judge_all c (expr_trees l)))) cut ∙ ap (λ js. joined_types types (all_typed js)) (all_cons c part rest)
    ∙ one_behind types (judge c (expr_tree part)) (judge_all c (expr_trees rest))
    ∙ ap (λ o. joined_types (map_both (λ all one. all ++ one ∷ []) types o) (all_typed (judge_all c (expr_trees rest)))) (sym told)
    ∙ ap (λ o. joined_types o (all_typed (judge_all c (expr_trees rest)))) (sym is)

types_none : (types : Option (List ValueType)) → joined_types types (Some []) ≡ types
unfolding map_both
types_none None = refl
types_none (Some ts) = ap Some (append-nil ts)

pub types_end : (c : Context) (whole types : Option (List ValueType)) (left : List Expr) → whole ≡ joined_types types (all_typed (judge_all c (expr_trees left))) → left ≡ [] → types ≡ whole
unfolding judge_all expr_trees all_typed
types_end c whole types left was none = sym (was ∙ ap (λ l. joined_types types (all_typed (judge_all c (expr_trees l)))) none ∙ types_none types)

-- ---- lists

pub list_empty : (ts : List ValueType) → (length ts == 0) ≡ true → Some ValueType.Empty ≡ type_from (list_type ts)
unfolding list_type type_from
list_empty [] h = refl
list_empty (t ∷ ts) h = let e : true ≡ false = sym h ∙ ne_eqb (length (t ∷ ts)) 0 (λ e. omega (arith, e)) in absurd cc

pub list_numbers : (ts : List ValueType) → (length ts == 0) ≡ false → list_all is_integer ts ≡ true
    → Some (ValueType.Matrix 1 (if list_all is_boolean ts then Scalar.Bool else Scalar.Int)) ≡ type_from (list_type ts)
unfolding list_type type_from
list_numbers [] h e = absurd cc
list_numbers (t ∷ ts) h e = rw e refl

pub list_mixed : (ts : List ValueType) → (length ts == 0) ≡ false → list_all is_integer ts ≡ false → list_all is_matrix ts ≡ false → None ≡ type_from (list_type ts)
unfolding list_type type_from
list_mixed [] h e m = absurd cc
list_mixed (t ∷ ts) h e m = rw e (rw m refl)

pub list_matrices : (ts : List ValueType) → (length ts == 0) ≡ false → list_all is_integer ts ≡ false → list_all is_matrix ts ≡ true
    → list_type ts ≡ list_of_matrices ts (stated_dimensions ts)
unfolding list_type
list_matrices [] h e m = absurd cc
list_matrices (t ∷ ts) h e m = rw e (rw m refl)

-- the type of a list of matrices of which one says how many dimensions it has
pub matrices_told : (ts : List ValueType) (stated : Option ℕ) (dims more : ℕ) (of : Scalar) (all same : Bool) (t : Option ValueType) → stated ≡ Some dims → more ≡ dims + 1
    → all ≡ list_all is_matrix_of_bool ts → of ≡ (if all then Scalar.Bool else Scalar.Int) → same ≡ list_all (has_dimensions dims) ts
    → t ≡ type_if (ValueType.Matrix more of) (Some same) → t ≡ type_from (list_of_matrices ts stated)
unfolding list_of_matrices
matrices_told ts stated dims more of all same t is one_more bools scalar dimensions told =
    told ∙ ap (λ m. type_if (ValueType.Matrix m of) (Some same)) one_more
    ∙ ap (λ x. type_if (ValueType.Matrix (dims + 1) x) (Some same)) (scalar ∙ ap (λ y. if y then Scalar.Bool else Scalar.Int) bools)
    ∙ ap (λ x. type_if (ValueType.Matrix (dims + 1) (if list_all is_matrix_of_bool ts then Scalar.Bool else Scalar.Int)) (Some x)) dimensions
    ∙ sym (given_by (ValueType.Matrix (dims + 1) (if list_all is_matrix_of_bool ts then Scalar.Bool else Scalar.Int)) (list_all (has_dimensions dims) ts))
    ∙ sym (ap (λ o. type_from (list_of_matrices ts o)) is)
