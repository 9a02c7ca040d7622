-- The value of an expression is of its type, in an environment of typed names.
use Rattle.std.specs.Prelude.{◌≡◌, ℕ, zero, suc, ◌+◌, ◌-◌, ◌≤◌, Bool, true, false, cond, not, ◌&&◌, List, [], ◌∷◌, ◌++◌, map, length, ℤ, if◌then◌else◌, nat_le, ◌==◌, int_lt, Some, None, bytes_eq, filter, flat_map, Option, option_map, refl}
use Rattle.std.proofs.Common.{ap, arith, subst, sym, ◌∙◌}
use Rattle.std.specs.List.{list_all}
use Rattle.std.specs.Ordering.{int_eq}
use Rattle.ep_base.proofs.Small.{map_is, no_some, some_is}
use Rattle.ep_base.specs.Numbers.{has_number, of_bool}
use Rattle.ep_base.specs.Options.{on_both}
use Rattle.ep_base.specs.declared.names.Name.{Name}
use Rattle.ep_tree.proofs.TypedParts.{AllOf, EachOf, and_left, and_right, boolean_is, both_is, dims_as_int, map_both_is, each_is, from_many_is, from_one_is, gives_is, integer_is, list_is, list_value_is, many_give, matrix_scalars, mistyped_is, number_is, one_gives, read_is, stated, three_give, truth_is, truths_differ, two_give, typed_is, untyped_is}
use Rattle.ep_tree.specs.Domains.{put_in, set_values, truth_values, united}
use Rattle.ep_tree.specs.Environments.{Bound, Env, context_of, domain_bound, has_cells, has_domain, has_value, meaning_in, scalar_in, shape_type, value_bound, with_number}
use Rattle.ep_tree.specs.Evaluation.{all_joined, are_told, binary_value, domain_values, domains_defined, evaluate, folded_value, holding, index_list, index_values, joins_truths, matrix_value, number_in, over_names, quantified_value, reached, read_result, scalars_in, standing_for, type_in, values_of}
use Rattle.ep_tree.specs.Names.{put}
use Rattle.ep_tree.specs.Trees.{DomainTree, ExprTree, ExprTrees, Generators, Indices, absolute, all_different, all_of, any_of, at_least, at_most, binary, bool, chain, compare, comprehension, every_and, factorial, flatten, folded, gcc, generator_and, group, group_domain, in_domain, in_set, index_and, int, lex, literal, matrix_domain, minus, named, named_domain, negation, no_generators, no_indices, no_trees, number, quantified, ranges, read, set_domain, table, to_int, tree_and, truth}
use Rattle.ep_tree.specs.TypedValues.{IsOf, IsOfDims, IsTypedBound, IsTypedEnv, is_number_of}
use Rattle.ep_tree.specs.Types.{Context, Judged, a_value, all_typed, are_lists, binary_type, both_scalars, comprehension_type, folded_type, from_all, from_many, from_one, from_two, gives, has_dimensions, indexed_type, inside, inside_all, is_boolean, is_integer, is_matrix, is_matrix_of_bool, judge, judge_all, judge_domain, judge_generators, judge_index, judge_indices, judge_ranges, judge_terms, left_type, list_type, mistyped, named_domain_type, named_type, of_scalar, quantified_name, quantified_type, read_type, reading_contexts, scalar_of, slice_count, type_from, typed, untyped}
use Rattle.ep_tree.specs.Values.{Index, ValueTree, all_defined, any_index, as_parts, at_index, list_value, matrix, read_value, scalars_of, single, with_indices}
use Rattle.ep_tree.specs.declared.syntax.BinaryOp.{BinaryOp}
use Rattle.ep_tree.specs.declared.syntax.FoldOp.{FoldOp}
use Rattle.ep_tree.specs.declared.syntax.QuantOp.{QuantOp}
use Rattle.ep_tree.specs.declared.syntax.SetOp.{SetOp}
use Rattle.ep_tree.specs.declared.values.Mode.{Mode}
use Rattle.ep_tree.specs.declared.values.Scalar.{Scalar}
use Rattle.ep_tree.specs.declared.values.ValueType.{ValueType}

-- ---- environments

pub context_put : (env : Env) (name : Name) (b : Bound) → context_of (put name b env) ≡ put name (meaning_in b) (context_of env)
unfolding context_of
context_put env name b = λ i other. at other i
  where
    at : (other : Name) → option_map meaning_in (put name b env other) ≡ put name (meaning_in b) (context_of env) other
    at other =
        elim (bytes_eq other name) as (λ c. option_map meaning_in (if c then Some b else env other) ≡ (if c then Some (meaning_in b) else option_map meaning_in (env other)))
        [ true ↦ refl | false ↦ refl ]

pub put_typed : (env : Env) (name : Name) (b : Bound) → IsTypedEnv env → IsTypedBound (Some b) → IsTypedEnv (put name b env)
put_typed env name b typed_env typed_bound other =
    elim (bytes_eq other name) as (λ c. IsTypedBound (if c then Some b else env other)) [ true ↦ typed_bound | false ↦ typed_env other ]

number_typed : (s : Scalar) (n : ℤ) → is_number_of s n ≡ true → IsTypedBound (Some (has_value (of_scalar s) (single n)))
unfolding IsTypedBound of_scalar is_number_of
number_typed Scalar.Bool n h = h
number_typed Scalar.Int n h = refl

-- ---- the numbers of domains

all_int : (ns : List ℤ) → list_all (is_number_of Scalar.Int) ns ≡ true
unfolding is_number_of
all_int [] = refl
all_int (n ∷ ns) = all_int ns

and_both : (a b : Bool) → a ≡ true → b ≡ true → (a && b) ≡ true
and_both true b p q = q
and_both false b p q = truths_differ p

all_put_in : (f : ℤ → Bool) (x : ℤ) (ys : List ℤ) → f x ≡ true → list_all f ys ≡ true → list_all f (put_in x ys) ≡ true
unfolding put_in
all_put_in f x [] p q = and_both (f x) true p refl
all_put_in f x (y ∷ ys) p q = go (int_lt x y) (int_eq x y) (all_put_in f x ys p (and_right (f y) (list_all f ys) q))
  where
    go : (a b : Bool) → list_all f (put_in x ys) ≡ true → list_all f (if a then x ∷ y ∷ ys else (if b then y ∷ ys else y ∷ put_in x ys)) ≡ true
    go true b ih = and_both (f x) (list_all f (y ∷ ys)) p q
    go false true ih = q
    go false false ih = and_both (f y) (list_all f (put_in x ys)) (and_left (f y) (list_all f ys) q) ih

all_united : (f : ℤ → Bool) (xs ys : List ℤ) → list_all f xs ≡ true → list_all f ys ≡ true → list_all f (united xs ys) ≡ true
unfolding united
all_united f [] ys p q = q
all_united f (x ∷ xs) ys p q = all_put_in f x (united xs ys) (and_left (f x) (list_all f xs) p) (all_united f xs ys (and_right (f x) (list_all f xs) p) q)

all_filter : (f g : ℤ → Bool) (xs : List ℤ) → list_all f xs ≡ true → list_all f (filter g xs) ≡ true
all_filter f g [] p = refl
all_filter f g (x ∷ xs) p = go (g x) (all_filter f g xs (and_right (f x) (list_all f xs) p))
  where
    go : (b : Bool) → list_all f (filter g xs) ≡ true → list_all f (cond b (x ∷ filter g xs) (filter g xs)) ≡ true
    go true ih = and_both (f x) (list_all f (filter g xs)) (and_left (f x) (list_all f xs) p) ih
    go false ih = ih

set_typed : (op : SetOp) (a b : Scalar) (xs ys : List ℤ) → list_all (is_number_of a) xs ≡ true → list_all (is_number_of b) ys ≡ true
    → list_all (is_number_of (both_scalars a b)) (set_values op xs ys) ≡ true
unfolding both_scalars set_values
set_typed SetOp.Union Scalar.Bool Scalar.Bool xs ys p q = all_united (is_number_of Scalar.Bool) xs ys p q
set_typed SetOp.Intersect Scalar.Bool Scalar.Bool xs ys p q = all_filter (is_number_of Scalar.Bool) (has_number ys) xs p
set_typed SetOp.Minus Scalar.Bool Scalar.Bool xs ys p q = all_filter (is_number_of Scalar.Bool) (λ x. not (has_number ys x)) xs p
set_typed op Scalar.Bool Scalar.Int xs ys p q = all_int (set_values op xs ys)
set_typed op Scalar.Int b xs ys p q = all_int (set_values op xs ys)

scalar_again : (s : Scalar) → scalar_of (of_scalar s) ≡ s
unfolding scalar_of of_scalar
scalar_again Scalar.Bool = refl
scalar_again Scalar.Int = refl

named_domain_typed : (bound : Option Bound) (t : ValueType) (values : List ℤ) → IsTypedBound bound
    → named_domain_type (option_map meaning_in bound) ≡ typed t → domain_bound bound ≡ Some values
    → list_all (is_number_of (scalar_of t)) values ≡ true
unfolding IsTypedBound named_domain_type meaning_in domain_bound shape_type
named_domain_typed None t values k h e = no_some e
named_domain_typed (Some (has_value s v)) t values k h e = no_some e
named_domain_typed (Some (has_cells s is vs)) t values k h e = no_some e
named_domain_typed (Some (has_domain s [] vs)) t values k h e =
    subst (λ u. list_all (is_number_of (scalar_of u)) values ≡ true) (typed_is h)
    (subst (λ ns. list_all (is_number_of (scalar_of (of_scalar s))) ns ≡ true) (some_is e)
    (subst (λ r. list_all (is_number_of r) vs ≡ true) (sym (scalar_again s)) k))
named_domain_typed (Some (has_domain s (i ∷ is) vs)) t values k h e = no_some e

-- The numbers of a domain are of its scalar.
pub domain_typed : (mode : Mode) (env : Env) → IsTypedEnv env → (d : DomainTree) (t : ValueType) → judge_domain (context_of env) d ≡ typed t
    → (values : List ℤ) → domain_values mode env d ≡ Some values → list_all (is_number_of (scalar_of t)) values ≡ true
unfolding judge_domain domain_values scalar_of is_number_of context_of from_two
domain_typed mode env k (bool p) t h values e =
    subst (λ u. list_all (is_number_of (scalar_of u)) values ≡ true) (typed_is h)
    (subst (λ ns. list_all (is_number_of (scalar_of ValueType.Bool)) ns ≡ true) (some_is e) bits)
  where
    bits : list_all (is_number_of (scalar_of ValueType.Bool)) truth_values ≡ true
    bits = refl
domain_typed mode env k (int p) t h values e = no_some e
domain_typed mode env k (ranges p rs) t h values e =
    subst (λ u. list_all (is_number_of (scalar_of u)) values ≡ true) (many_give (judge_ranges (context_of env) rs) ValueType.Int t (list_all is_integer) h) (all_int values)
domain_typed mode env k (named_domain p name) t h values e = named_domain_typed (env name) t values (k name) h e
domain_typed mode env k (group_domain p d) t h values e =
    let q : _ = from_one_is (judge_domain (context_of env) d) (λ u. typed u) t h in
    domain_typed mode env k d t (q.1 ∙ q.2) values e
domain_typed mode env k (set_domain p op c d) t h values e =
    let q : (s : ValueType) × (judge_domain (context_of env) c ≡ typed s)
    × (from_one (judge_domain (context_of env) d) (λ u. gives (of_scalar (both_scalars (scalar_of s) (scalar_of u))) (is_integer s && is_integer u)) ≡ typed t) =
    from_one_is (judge_domain (context_of env) c)
    (λ s. from_one (judge_domain (context_of env) d) (λ u. gives (of_scalar (both_scalars (scalar_of s) (scalar_of u))) (is_integer s && is_integer u))) t h in
    let r : _ = from_one_is (judge_domain (context_of env) d) (λ u. gives (of_scalar (both_scalars (scalar_of q.0) (scalar_of u))) (is_integer q.0 && is_integer u)) t q.2 in
    let g : _ = gives_is (of_scalar (both_scalars (scalar_of q.0) (scalar_of r.0))) (is_integer q.0 && is_integer r.0) t r.2 in
    let b : _ = map_both_is (set_values op) (domain_values mode env c) (domain_values mode env d) values e in
    subst (λ u. list_all (is_number_of (scalar_of u)) values ≡ true) g.0
    (subst (λ a. list_all (is_number_of a) values ≡ true) (sym (scalar_again (both_scalars (scalar_of q.0) (scalar_of r.0))))
    (subst (λ ns. list_all (is_number_of (both_scalars (scalar_of q.0) (scalar_of r.0))) ns ≡ true) b.4
    (set_typed op (scalar_of q.0) (scalar_of r.0) b.0 b.1
    (domain_typed mode env k c q.0 q.1 b.0 b.2) (domain_typed mode env k d r.0 r.1 b.1 b.3))))
domain_typed mode env k (matrix_domain p ds d) t h values e = no_some e

-- ---- types of lists of nodes

all_typed_first : (j : Judged) (js : List Judged) (ts : List ValueType) → all_typed (j ∷ js) ≡ Some ts
    → (t : ValueType) × (us : List ValueType) × (j ≡ typed t) × (all_typed js ≡ Some us) × (t ∷ us ≡ ts)
unfolding all_typed
all_typed_first (typed t) js ts e = let p : _ = map_is (λ us. t ∷ us) (all_typed js) ts e in (t, p.0, refl, p.1, p.2)
all_typed_first mistyped js ts e = no_some e
all_typed_first untyped js ts e = no_some e

typed_more : (j : Judged) (t : ValueType) (js : List Judged) (us : List ValueType) → j ≡ typed t → all_typed js ≡ Some us → all_typed (j ∷ js) ≡ Some (t ∷ us)
unfolding all_typed
typed_more (typed s) t js us p q = ap (option_map (λ ws. s ∷ ws)) q ∙ ap (λ x. Some (x ∷ us)) (typed_is p)
typed_more mistyped t js us p q = mistyped_is p
typed_more untyped t js us p q = untyped_is p

all_typed_append : (is js : List Judged) (ts : List ValueType) → all_typed (is ++ js) ≡ Some ts
    → (us : List ValueType) × (ws : List ValueType) × (all_typed is ≡ Some us) × (all_typed js ≡ Some ws) × (us ++ ws ≡ ts)
unfolding all_typed
all_typed_append [] js ts e = ([], ts, refl, e, refl)
all_typed_append (i ∷ is) js ts e =
    let p : _ = all_typed_first i (is ++ js) ts e in
    let q : _ = all_typed_append is js p.1 p.3 in
    (p.0 ∷ q.0, q.1, typed_more i p.0 is q.0 p.2 q.2, q.3, ap (λ us. p.0 ∷ us) q.4 ∙ p.4)

integers_append : (us ws : List ValueType) → list_all is_integer (us ++ ws) ≡ true → (list_all is_integer us ≡ true) × (list_all is_integer ws ≡ true)
integers_append [] ws h = (refl, h)
integers_append (u ∷ us) ws h =
    let p : _ = integers_append us ws (and_right (is_integer u) (list_all is_integer (us ++ ws)) h) in
    (and_both (is_integer u) (list_all is_integer us) (and_left (is_integer u) (list_all is_integer (us ++ ws)) h) p.0, p.1)

-- ---- the names of quantifiers and generators

-- the scalar of a domain in an environment is that of its type
scalar_in_is : (env : Env) (d : DomainTree) (t : ValueType) → judge_domain (context_of env) d ≡ typed t → scalar_in env d ≡ scalar_of t
unfolding scalar_in type_from
scalar_in_is env d t h = rw h refl

-- the type of a quantified name is that of a number of the domain's scalar
quantified_is : (t : ValueType) → is_integer t ≡ true → a_value (Some (of_scalar (scalar_of t))) false ≡ quantified_name (typed t)
unfolding is_integer of_scalar scalar_of quantified_name is_boolean
quantified_is ValueType.Bool h = refl
quantified_is ValueType.Int h = refl
quantified_is (ValueType.Matrix k s) h = truths_differ h
quantified_is ValueType.Empty h = truths_differ h

-- parts that may be undefined, each of a type where it is defined
abbrev pub EachPart : ValueType → List (Option ValueTree) → Type 0
EachPart t [] = Unit {0}
EachPart t (o ∷ os) = ((v : ValueTree) → o ≡ Some v → IsOf t v) × EachPart t os

each_append : (t : ValueType) (os ps : List (Option ValueTree)) → EachPart t os → EachPart t ps → EachPart t (os ++ ps)
each_append t [] ps h k = k
each_append t (o ∷ os) ps h k = (h.0, each_append t os ps h.1 k)

each_defined : (t : ValueType) (os : List (Option ValueTree)) (vs : List ValueTree) → EachPart t os → all_defined os ≡ Some vs → EachOf t vs
unfolding all_defined
each_defined t [] vs h e = subst (λ ws. EachOf t ws) (some_is e) tt
each_defined t (None ∷ os) vs h e = no_some e
each_defined t (Some o ∷ os) vs h e =
    let p : _ = map_is (λ ws. o ∷ ws) (all_defined os) vs e in
    subst (λ ws. EachOf t ws) p.2 (h.0 o refl, each_defined t os p.0 h.1 p.1)

-- environments of typed names, each with this context
abbrev pub EachEnv : Context → List Env → Type 0
EachEnv c [] = Unit {0}
EachEnv c (inner ∷ envs) = (IsTypedEnv inner × (context_of inner ≡ c)) × EachEnv c envs

envs_append : (c : Context) (is js : List Env) → EachEnv c is → EachEnv c js → EachEnv c (is ++ js)
envs_append c [] js h k = k
envs_append c (i ∷ is) js h k = (h.0, envs_append c is js h.1 k)

-- fewer of them
envs_filter : (c : Context) (p : Env → Bool) (is : List Env) → EachEnv c is → EachEnv c (filter p is)
envs_filter c p [] h = tt
envs_filter c p (i ∷ is) h = go (p i) (envs_filter c p is h.1)
  where
    go : (b : Bool) → EachEnv c (filter p is) → EachEnv c (cond b (i ∷ filter p is) (filter p is))
    go true k = (h.0, k)
    go false k = k

-- what an expression of a type gives in each of them
parts_are : (t : ValueType) (c : Context) (f : Env → Option ValueTree) (envs : List Env)
    → ((inner : Env) → IsTypedEnv inner → context_of inner ≡ c → (v : ValueTree) → f inner ≡ Some v → IsOf t v)
    → EachEnv c envs → EachPart t (map f envs)
parts_are t c f [] each h = tt
parts_are t c f (inner ∷ envs) each h = (each inner h.0.0 h.0.1, parts_are t c f envs each h.1)

-- the context of a name that is bound to a number of its domain
bound_context : (env : Env) (name : Name) (d : DomainTree) (t : ValueType) (n : ℤ) → judge_domain (context_of env) d ≡ typed t → is_integer t ≡ true
    → context_of (with_number name (scalar_in env d) n env) ≡ put name (quantified_name (judge_domain (context_of env) d)) (context_of env)
unfolding with_number meaning_in
bound_context env name d t n h c =
    context_put env name (has_value (of_scalar (scalar_in env d)) (single n))
    ∙ ap (λ m. put name m (context_of env)) (ap (λ s. a_value (Some (of_scalar s)) false) (scalar_in_is env d t h) ∙ quantified_is t c ∙ ap quantified_name (sym h))

-- the environments under one name and what follows, where those under each of its numbers have a context
over_step : (c : Context) (s : Scalar) (bound : ℤ → Env) (next : Env → List Env)
    → ((n : ℤ) → is_number_of s n ≡ true → EachEnv c (next (bound n)))
    → (ns : List ℤ) → list_all (is_number_of s) ns ≡ true → EachEnv c (flat_map (λ xs. xs) (map next (map bound ns)))
over_step c s bound next each [] h = tt
over_step c s bound next each (n ∷ ns) h =
    envs_append c (next (bound n)) (flat_map (λ xs. xs) (map next (map bound ns)))
    (each n (and_left (is_number_of s n) (list_all (is_number_of s) ns) h))
    (over_step c s bound next each ns (and_right (is_number_of s n) (list_all (is_number_of s) ns) h))

-- a name that is bound to a number of its domain is of its type
number_bound : (env : Env) (name : Name) (d : DomainTree) (u : ValueType) (n : ℤ) → IsTypedEnv env → judge_domain (context_of env) d ≡ typed u
    → is_number_of (scalar_of u) n ≡ true → IsTypedEnv (with_number name (scalar_in env d) n env)
unfolding with_number
number_bound env name d u n k j h =
    put_typed env name (has_value (of_scalar (scalar_in env d)) (single n)) k
    (number_typed (scalar_in env d) n (ap (λ s. is_number_of s n) (scalar_in_is env d u j) ∙ h))

-- the environments under some names over one domain
over_typed : (mode : Mode) (c : Context) (d : DomainTree) (next : Env → List Env) (names : List Name) (env : Env) → IsTypedEnv env
    → (ds : List ValueType) → all_typed (map (λ x. judge_domain x d) (reading_contexts names (λ x. judge_domain x d) (context_of env))) ≡ Some ds → list_all is_integer ds ≡ true
    → ((inner : Env) → IsTypedEnv inner → context_of inner ≡ inside names (λ x. judge_domain x d) (context_of env) → EachEnv c (next inner))
    → EachEnv c (over_names (standing_for d (λ x. domain_values mode x d)) all_joined next names env)
unfolding reading_contexts inside over_names standing_for all_joined
over_typed mode c d next [] env k ds h is_int each = each env k refl
over_typed mode c d next (name ∷ names) env k ds h all_int_types each =
    go (λ n l ts js is inner_each. over_typed mode c d next names (bound n) l ts js is inner_each) (domain_values mode env d) refl
  where
    step : Env → List Env
    step inner = over_names (standing_for d (λ x. domain_values mode x d)) all_joined next names inner

    bound : ℤ → Env
    bound n = with_number name (scalar_in env d) n env

    outer : Context
    outer = put name (quantified_name (judge_domain (context_of env) d)) (context_of env)

    readings : Context → List Judged
    readings y = map (λ x. judge_domain x d) (reading_contexts names (λ x. judge_domain x d) y)

    Rest : Type 0
    Rest =
        (n : ℤ) → IsTypedEnv (bound n) → (ts : List ValueType) → all_typed (readings (context_of (bound n))) ≡ Some ts → list_all is_integer ts ≡ true
        → ((inner : Env) → IsTypedEnv inner → context_of inner ≡ inside names (λ x. judge_domain x d) (context_of (bound n)) → EachEnv c (next inner))
        → EachEnv c (step (bound n))

    under : Rest → (n : ℤ) (t : ValueType) (ts : List ValueType) → judge_domain (context_of env) d ≡ typed t → all_typed (readings outer) ≡ Some ts
        → is_integer t ≡ true → list_all is_integer ts ≡ true → is_number_of (scalar_of t) n ≡ true → EachEnv c (step (bound n))
    under rest n t ts j js i is h =
        let same : context_of (bound n) ≡ outer = bound_context env name d t n j i in
        rest n (number_bound env name d t n k j h) ts
        (subst (λ x. all_typed (readings x) ≡ Some ts) (sym same) js) is
        (λ inner l r. each inner l (r ∙ ap (inside names (λ x. judge_domain x d)) same))

    go : Rest → (o : Option (List ℤ)) → domain_values mode env d ≡ o → EachEnv c (all_joined (option_map (map step) (option_map (map bound) o)))
    go rest None e = tt
    go rest (Some ns) e =
        let first : _ = all_typed_first (judge_domain (context_of env) d) (readings outer) ds h in
        let are_int : list_all is_integer (first.0 ∷ first.1) ≡ true = subst (λ us. list_all is_integer us ≡ true) (sym first.4) all_int_types in
        over_step c (scalar_of first.0) bound step
        (λ n in_scalar. under rest n first.0 first.1 first.2 first.3 (and_left (is_integer first.0) (list_all is_integer first.1) are_int) (and_right (is_integer first.0) (list_all is_integer first.1) are_int) in_scalar)
        ns (domain_typed mode env k d first.0 first.2 ns e)

-- the environments that generators reach
reached_typed : (mode : Mode) (gens : Generators) (env : Env) → IsTypedEnv env
    → (ds : List ValueType) → all_typed (judge_generators (context_of env) gens) ≡ Some ds → list_all is_integer ds ≡ true
    → EachEnv (inside_all gens (context_of env)) (reached mode env gens)
unfolding judge_generators inside_all reached
reached_typed mode no_generators env k ds h c = ((k, refl), tt)
reached_typed mode (generator_and names d gens) env k ds h c =
    let outer : Context = inside names (λ x. judge_domain x d) (context_of env) in
    let q : _ = all_typed_append (map (λ x. judge_domain x d) (reading_contexts names (λ x. judge_domain x d) (context_of env))) (judge_generators outer gens) ds h in
    let ints : _ = integers_append q.0 q.1 (subst (λ us. list_all is_integer us ≡ true) (sym q.4) c) in
    over_typed mode (inside_all gens outer) d (λ x. reached mode x gens) names env k q.0 q.2 ints.0
    (λ inner l r.
    subst (λ x. EachEnv (inside_all gens x) (reached mode inner gens)) r
    (reached_typed mode gens inner l q.1 (subst (λ x. all_typed (judge_generators x gens) ≡ Some q.1) (sym r) q.3) ints.1))

-- a value that is there only under a condition
if_is : {A : Type 0} (b : Bool) (o : Option A) (v : A) → (if b then o else None) ≡ Some v → o ≡ Some v
if_is true o v e = e
if_is false o v e = no_some e

-- ---- the forms whose value is a matrix

pub with_indices_is : (is : List ℤ) (vs : List ValueTree) (v : ValueTree) → with_indices is vs ≡ Some v → (length is ≡ length vs) × (matrix is (as_parts vs) ≡ v)
unfolding with_indices
with_indices_is is vs v e = go (length is == length vs) refl e
  where
    go : (b : Bool) → (length is == length vs) ≡ b → (if b then Some (matrix is (as_parts vs)) else None) ≡ Some v → (length is ≡ length vs) × (matrix is (as_parts vs) ≡ v)
    go true q e = (grind arith, some_is e)
    go false q e = no_some e

matrix_value_is : (indices : ℕ → Option (List ℤ)) (os : List (Option ValueTree)) (v : ValueTree) → matrix_value indices os ≡ Some v
    → (is : List ℤ) × (vs : List ValueTree) × (all_defined os ≡ Some vs) × (length is ≡ length vs) × (matrix is (as_parts vs) ≡ v)
unfolding matrix_value
matrix_value_is indices os v e =
    let p : _ = both_is (indices (length os)) (all_defined os) with_indices v e in
    let q : _ = with_indices_is p.0 p.1 v p.4 in
    (p.0, p.1, p.3, q.0, q.1)

indexed_is : (ds : List ValueType) (j : Judged) (t : ValueType) → indexed_type ds j ≡ typed t → (list_all is_integer ds ≡ true) × (j ≡ typed t)
unfolding indexed_type
indexed_is ds j t h = go (list_all is_integer ds) refl h
  where
    go : (b : Bool) → list_all is_integer ds ≡ b → (if b then j else mistyped) ≡ typed t → (list_all is_integer ds ≡ true) × (j ≡ typed t)
    go true q h = (q, h)
    go false q h = mistyped_is h

-- a read's value is its parts' value, or 0 for a Boolean
read_result_is : (mode : Mode) (t : ValueType) (o : Option ValueTree) (v : ValueTree) → read_result mode t o ≡ Some v
    → ((w : ValueTree) → o ≡ Some w → IsOf t w) → IsOf t v
unfolding read_result is_number_of
read_result_is Mode.Relational ValueType.Bool None v e each = subst (λ w. IsOf ValueType.Bool w) (some_is e) refl
read_result_is Mode.Relational ValueType.Bool (Some w) v e each = subst (λ x. IsOf ValueType.Bool x) (some_is e) (each w refl)
read_result_is Mode.Relational ValueType.Int o v e each = each v e
read_result_is Mode.Relational (ValueType.Matrix k s) o v e each = each v e
read_result_is Mode.Relational ValueType.Empty o v e each = each v e
read_result_is Mode.Strict t o v e each = each v e

-- ---- single forms

truth_typed : (b : Bool) → IsOf ValueType.Bool (single (of_bool b))
unfolding of_bool is_number_of
truth_typed true = refl
truth_typed false = refl

named_typed : (bound : Option Bound) (t : ValueType) (v : ValueTree) → IsTypedBound bound → named_type (option_map meaning_in bound) ≡ typed t
    → value_bound bound ≡ Some v → IsOf t v
unfolding IsTypedBound named_type meaning_in value_bound
named_typed None t v k h e = no_some e
named_typed (Some (has_value s w)) t v k h e = subst (λ u. IsOf u v) (typed_is h) (subst (λ x. IsOf s x) (some_is e) k)
named_typed (Some (has_cells s is vs)) t v k h e = no_some e
named_typed (Some (has_domain s is vs)) t v k h e = no_some e

binary_typed : (mode : Mode) (op : BinaryOp) (a b : Option ℤ) (s u t : ValueType) (v : ValueTree) → binary_type op s u ≡ typed t
    → binary_value mode op a b ≡ Some v → IsOf t v
unfolding binary_type binary_value joins_truths
binary_typed mode BinaryOp.Mul a b s u t v h e = subst (λ x. IsOf x v) (gives_is ValueType.Int (is_integer s && is_integer u) t h).0 (number_is _ v e)
binary_typed mode BinaryOp.Div a b s u t v h e = subst (λ x. IsOf x v) (gives_is ValueType.Int (is_integer s && is_integer u) t h).0 (number_is _ v e)
binary_typed mode BinaryOp.Mod a b s u t v h e = subst (λ x. IsOf x v) (gives_is ValueType.Int (is_integer s && is_integer u) t h).0 (number_is _ v e)
binary_typed mode BinaryOp.Pow a b s u t v h e = subst (λ x. IsOf x v) (gives_is ValueType.Int (is_integer s && is_integer u) t h).0 (number_is _ v e)
binary_typed mode BinaryOp.Min a b s u t v h e = subst (λ x. IsOf x v) (gives_is ValueType.Int (is_integer s && is_integer u) t h).0 (number_is _ v e)
binary_typed mode BinaryOp.Max a b s u t v h e = subst (λ x. IsOf x v) (gives_is ValueType.Int (is_integer s && is_integer u) t h).0 (number_is _ v e)
binary_typed mode BinaryOp.Implies a b s u t v h e = subst (λ x. IsOf x v) (gives_is ValueType.Bool (is_boolean s && is_boolean u) t h).0 (truth_is mode _ v e)
binary_typed mode BinaryOp.Iff a b s u t v h e = subst (λ x. IsOf x v) (gives_is ValueType.Bool (is_boolean s && is_boolean u) t h).0 (truth_is mode _ v e)

folded_typed : (mode : Mode) (op : FoldOp) (xs : Option (List ℤ)) (s t : ValueType) (v : ValueTree) → folded_type op s ≡ typed t
    → folded_value mode op xs ≡ Some v → IsOf t v
unfolding folded_type folded_value
folded_typed mode FoldOp.Sum xs s t v h e = subst (λ x. IsOf x v) (gives_is ValueType.Int (is_matrix s) t h).0 (number_is _ v e)
folded_typed mode FoldOp.Product xs s t v h e = subst (λ x. IsOf x v) (gives_is ValueType.Int (is_matrix s) t h).0 (number_is _ v e)
folded_typed mode FoldOp.And xs s t v h e = subst (λ x. IsOf x v) (gives_is ValueType.Bool (is_matrix_of_bool s) t h).0 (truth_is mode _ v e)
folded_typed mode FoldOp.Or xs s t v h e = subst (λ x. IsOf x v) (gives_is ValueType.Bool (is_matrix_of_bool s) t h).0 (truth_is mode _ v e)
folded_typed mode FoldOp.Min xs s t v h e = subst (λ x. IsOf x v) (gives_is ValueType.Int (is_matrix s) t h).0 (number_is _ v e)
folded_typed mode FoldOp.Max xs s t v h e = subst (λ x. IsOf x v) (gives_is ValueType.Int (is_matrix s) t h).0 (number_is _ v e)

quantified_typed : (mode : Mode) (op : QuantOp) (xs : Option (List (Option ValueTree))) (ds : List ValueType) (s t : ValueType) (v : ValueTree)
    → quantified_type op ds s ≡ typed t → quantified_value mode op xs ≡ Some v → IsOf t v
unfolding quantified_type quantified_value
quantified_typed mode QuantOp.ForAll xs ds s t v h e = subst (λ x. IsOf x v) (gives_is ValueType.Bool (list_all is_integer ds && is_boolean s) t h).0 (truth_is mode _ v e)
quantified_typed mode QuantOp.Exists xs ds s t v h e = subst (λ x. IsOf x v) (gives_is ValueType.Bool (list_all is_integer ds && is_boolean s) t h).0 (truth_is mode _ v e)
quantified_typed mode QuantOp.Sum xs ds s t v h e = subst (λ x. IsOf x v) (gives_is ValueType.Int (list_all is_integer ds && is_integer s) t h).0 (number_is _ v e)

-- the body alone, where a quantifier has no name
body_typed : (op : QuantOp) (s t : ValueType) (v : ValueTree) → quantified_type op [] s ≡ typed t → IsOf s v → IsOf t v
unfolding quantified_type
body_typed QuantOp.ForAll s t v h k = let g : _ = gives_is ValueType.Bool (true && is_boolean s) t h in subst (λ x. IsOf x v) g.0 (boolean_is s v g.1 k)
body_typed QuantOp.Exists s t v h k = let g : _ = gives_is ValueType.Bool (true && is_boolean s) t h in subst (λ x. IsOf x v) g.0 (boolean_is s v g.1 k)
body_typed QuantOp.Sum s t v h k = let g : _ = gives_is ValueType.Int (true && is_integer s) t h in subst (λ x. IsOf x v) g.0 (integer_is s v g.1 k)

-- the indices of a read
indices_are : (mode : Mode) (env : Env) (indices : Indices) (is : List Index) (ts : List ValueType) → index_list mode env indices ≡ Some is
    → all_typed (judge_indices (context_of env) indices) ≡ Some ts → (stated is ≡ length ts) × (length is ≡ length ts + slice_count indices)
unfolding index_list judge_indices slice_count stated all_typed
indices_are mode env no_indices is ts e h =
    subst (λ js. (stated js ≡ length ts) × (length js ≡ length ts + 0)) (some_is e)
    (subst (λ us. (0 ≡ length us) × (0 ≡ length us + 0)) (some_is h) (refl, omega arith))
indices_are mode env (every_and indices) is ts e h =
    let p : _ = map_is (λ js. any_index ∷ js) (index_list mode env indices) is e in
    let q : _ = indices_are mode env indices p.0 ts p.1 h in
    subst (λ js. (stated js ≡ length ts) × (length js ≡ length ts + suc (slice_count indices))) p.2 (q.0, omega (arith, q.1))
indices_are mode env (index_and first indices) is ts e h =
    let p : _ = map_both_is (λ i js. at_index i ∷ js) (number_in (evaluate mode env first)) (index_list mode env indices) is e in
    let f : _ = all_typed_first (judge (context_of env) first) (judge_indices (context_of env) indices) ts h in
    let q : _ = indices_are mode env indices p.1 f.1 p.3 f.3 in
    subst (λ js. (stated js ≡ length ts) × (length js ≡ length ts + slice_count indices)) p.4
    (subst (λ us. (suc (stated p.1) ≡ length us) × (suc (length p.1) ≡ length us + slice_count indices)) f.4
    (ap suc q.0, omega (arith, q.1)))

left_is : (n : ℕ) (s : Scalar) (v : ValueTree) → IsOfDims s n v → IsOf (left_type n s) v
unfolding left_type of_scalar
left_is zero Scalar.Bool v h = h
left_is zero Scalar.Int v h = h
left_is (suc n) s v h = h

-- what a read gives is of the type that is left
read_typed : (s : ValueType) (ts : List ValueType) (slices : ℕ) (t : ValueType) (is : List Index) (m w : ValueTree) → read_type s ts slices ≡ typed t
    → stated is ≡ length ts → length is ≡ length ts + slices → IsOf s m → read_value is m ≡ Some w → IsOf t w
unfolding read_type
read_typed ValueType.Bool ts slices t is m w h a b k e = mistyped_is h
read_typed ValueType.Int ts slices t is m w h a b k e = mistyped_is h
read_typed ValueType.Empty ts slices t is m w h a b k e = mistyped_is h
read_typed (ValueType.Matrix zero s) ts slices t is m w h a b k e = absurd k
read_typed (ValueType.Matrix (suc n) s) ts slices t is m w h a b k e =
    let g : _ = gives_is (left_type (suc n - length ts) s) (list_all is_integer ts && nat_le (length ts + slices) (suc n)) t h in
    let within : nat_le (length ts + slices) (suc n) ≡ true = and_right (list_all is_integer ts) (nat_le (length ts + slices) (suc n)) g.1 in
    let fits : length ts + slices ≤ suc n = grind arith in
    subst (λ u. IsOf u w) g.0
    (left_is (suc n - length ts) s w
    (subst (λ x. IsOfDims s (suc n - x) w) a (read_is s is (suc n) m w (omega (arith, b, fits)) k e)))

type_in_is : (env : Env) (e : ExprTree) (t : ValueType) → judge (context_of env) e ≡ typed t → type_in env e ≡ t
unfolding type_in type_from
type_in_is env e t h = rw h refl

defined_first : (o : Option ValueTree) (os : List (Option ValueTree)) (vs : List ValueTree) → all_defined (o ∷ os) ≡ Some vs
    → (v : ValueTree) × (ws : List ValueTree) × (o ≡ Some v) × (all_defined os ≡ Some ws) × (v ∷ ws ≡ vs)
unfolding all_defined
defined_first None os vs e = no_some e
defined_first (Some v) os vs e = let p : _ = map_is (λ ws. v ∷ ws) (all_defined os) vs e in (v, p.0, refl, p.1, p.2)

-- those of the environments in which conditions hold
holding_typed : (c : Context) (conditions : Env → List (Option ValueTree)) (envs : List Env) → EachEnv c envs → EachEnv c (holding conditions envs)
unfolding holding
holding_typed c conditions envs h = envs_filter c _ envs h

-- a comprehension's type comes from that of its expression
comprehension_is : (index : List ValueType) (domains conditions : List Judged) (part : Judged) (t : ValueType)
    → from_many domains (λ ds. from_many conditions (λ cs. from_one part (comprehension_type index ds cs))) ≡ typed t
    → (ds : List ValueType) × (s : ValueType) × (all_typed domains ≡ Some ds) × (list_all is_integer ds ≡ true) × (part ≡ typed s) × (list_type (s ∷ []) ≡ typed t)
unfolding comprehension_type
comprehension_is index domains conditions part t h =
    let p : _ = from_many_is domains (λ ds. from_many conditions (λ cs. from_one part (comprehension_type index ds cs))) t h in
    let q : _ = from_many_is conditions (λ cs. from_one part (comprehension_type index p.0 cs)) t p.2 in
    let r : _ = from_one_is part (comprehension_type index p.0 q.0) t q.2 in
    go p.0 r.0 p.1 r.1 (list_all is_boolean q.0) r.2
  where
    go : (ds : List ValueType) (s : ValueType) → all_typed domains ≡ Some ds → part ≡ typed s → (b : Bool)
        → (if b then indexed_type (index ++ ds) (list_type (s ∷ [])) else mistyped) ≡ typed t
        → (ds : List ValueType) × (s : ValueType) × (all_typed domains ≡ Some ds) × (list_all is_integer ds ≡ true) × (part ≡ typed s) × (list_type (s ∷ []) ≡ typed t)
    go ds s a j true h = let i : _ = indexed_is (index ++ ds) (list_type (s ∷ [])) t h in (ds, s, a, (integers_append index ds i.0).1, j, i.1)
    go ds s a j false h = mistyped_is h

two_is : (i j : Judged) (rule : ValueType → ValueType → Judged) (t : ValueType) → from_two i j rule ≡ typed t
    → (s : ValueType) × (u : ValueType) × (rule s u ≡ typed t)
unfolding from_two
two_is i j rule t h =
    let p : (s : ValueType) × (i ≡ typed s) × (from_one j (λ u. rule s u) ≡ typed t) = from_one_is i (λ s. from_one j (λ u. rule s u)) t h in
    let q : _ = from_one_is j (λ u. rule p.0 u) t p.2 in
    (p.0, q.0, q.2)

no_values_are : (vs : List ValueTree) → all_defined [] ≡ Some vs → AllOf [] vs
unfolding all_defined
no_values_are vs e = subst (λ ws. AllOf [] ws) (some_is e) tt

-- ---- all forms

mutual
  unfolding evaluate judge from_many from_all all_typed reading_contexts over_names inside context_of is_number_of

  -- The value of an expression is of its type.
  pub value_typed : (mode : Mode) (env : Env) → IsTypedEnv env → (e : ExprTree) (t : ValueType) → judge (context_of env) e ≡ typed t
      → (v : ValueTree) → evaluate mode env e ≡ Some v → IsOf t v
  value_typed mode env k (number p n) t h v e = subst (λ u. IsOf u v) (typed_is h) (subst (λ w. IsOf ValueType.Int w) (some_is e) refl)
  value_typed mode env k (truth p b) t h v e = subst (λ u. IsOf u v) (typed_is h) (subst (λ w. IsOf ValueType.Bool w) (some_is e) (truth_typed b))
  value_typed mode env k (named p name) t h v e = named_typed (env name) t v (k name) h e
  value_typed mode env k (group p a) t h v e =
      let q : _ = from_one_is (judge (context_of env) a) (λ u. typed u) t h in value_typed mode env k a t (q.1 ∙ q.2) v e
  value_typed mode env k (negation p a) t h v e =
      subst (λ u. IsOf u v) (one_gives (judge (context_of env) a) ValueType.Bool t is_boolean h) (truth_is mode _ v e)
  value_typed mode env k (minus p a) t h v e =
      subst (λ u. IsOf u v) (one_gives (judge (context_of env) a) ValueType.Int t is_integer h) (number_is _ v e)
  value_typed mode env k (absolute p a) t h v e =
      subst (λ u. IsOf u v) (one_gives (judge (context_of env) a) ValueType.Int t is_integer h) (number_is _ v e)
  value_typed mode env k (to_int p a) t h v e =
      let q : _ = from_one_is (judge (context_of env) a) (λ u. gives ValueType.Int (is_boolean u)) t h in
      let g : _ = gives_is ValueType.Int (is_boolean q.0) t q.2 in
      subst (λ u. IsOf u v) g.0 (dims_as_int 0 v (boolean_is q.0 v g.1 (value_typed mode env k a q.0 q.1 v e)))
  value_typed mode env k (factorial p a) t h v e =
      subst (λ u. IsOf u v) (one_gives (judge (context_of env) a) ValueType.Int t is_integer h) (number_is _ v e)
  value_typed mode env k (flatten p m) t h v e =
      let q : _ = from_one_is (judge (context_of env) m) (λ u. gives (ValueType.Matrix 1 (scalar_of u)) (is_matrix u)) t h in
      let g : _ = gives_is (ValueType.Matrix 1 (scalar_of q.0)) (is_matrix q.0) t q.2 in
      let r : _ = map_is list_value (scalars_in (evaluate mode env m)) v e in
      let w : _ = map_is scalars_of (evaluate mode env m) r.0 r.1 in
      subst (λ u. IsOf u v) g.0
      (subst (λ x. IsOfDims (scalar_of q.0) 1 x) r.2
      (list_value_is (scalar_of q.0) r.0
      (subst (λ ns. list_all (is_number_of (scalar_of q.0)) ns ≡ true) w.2
      (matrix_scalars q.0 w.0 g.1 (value_typed mode env k m q.0 q.1 w.0 w.1)))))
  value_typed mode env k (chain p terms) t h v e =
      subst (λ u. IsOf u v) (many_give (judge_terms (context_of env) terms) ValueType.Int t (list_all is_integer) h) (number_is _ v e)
  value_typed mode env k (binary p op a b) t h v e =
      let q : _ = two_is (judge (context_of env) a) (judge (context_of env) b) (binary_type op) t h in
      binary_typed mode op (number_in (evaluate mode env a)) (number_in (evaluate mode env b)) q.0 q.1 t v q.2 e
  value_typed mode env k (compare p op a b) t h v e =
      subst (λ u. IsOf u v) (two_give (judge (context_of env) a) (judge (context_of env) b) ValueType.Bool t (λ s u. is_integer s && is_integer u) h) (truth_is mode _ v e)
  value_typed mode env k (lex p op a b) t h v e =
      subst (λ u. IsOf u v) (two_give (judge (context_of env) a) (judge (context_of env) b) ValueType.Bool t are_lists h) (truth_is mode _ v e)
  value_typed mode env k (in_domain p a d) t h v e =
      subst (λ u. IsOf u v) (two_give (judge (context_of env) a) (judge_domain (context_of env) d) ValueType.Bool t (λ s u. is_integer s && is_integer u) h) (truth_is mode _ v e)
  value_typed mode env k (in_set p a m) t h v e =
      subst (λ u. IsOf u v) (two_give (judge (context_of env) a) (judge (context_of env) m) ValueType.Bool t (λ s u. is_integer s && is_matrix u) h) (truth_is mode _ v e)
  value_typed mode env k (all_of p parts) t h v e =
      subst (λ u. IsOf u v) (many_give (judge_all (context_of env) parts) ValueType.Bool t (list_all is_boolean) h) (truth_is mode _ v e)
  value_typed mode env k (any_of p parts) t h v e =
      subst (λ u. IsOf u v) (many_give (judge_all (context_of env) parts) ValueType.Bool t (list_all is_boolean) h) (truth_is mode _ v e)
  value_typed mode env k (quantified p op [] d a) t h v e =
      let q : _ = from_one_is (judge (context_of env) a) (quantified_type op []) t h in
      body_typed op q.0 t v q.2 (value_typed mode env k a q.0 q.1 v e)
  value_typed mode env k (quantified p op (name ∷ names) d a) t h v e =
      let body : Judged = judge (inside (name ∷ names) (λ c. judge_domain c d) (context_of env)) a in
      let q : _ = from_many_is (map (λ c. judge_domain c d) (reading_contexts (name ∷ names) (λ c. judge_domain c d) (context_of env))) (λ ds. from_one body (quantified_type op ds)) t h in
      let r : _ = from_one_is body (quantified_type op q.0) t q.2 in
      quantified_typed mode op _ q.0 r.0 t v r.2 e
  value_typed mode env k (literal p parts d) t h v e =
      let q : _ = from_many_is (judge_index (context_of env) d) (λ ds. from_many (judge_all (context_of env) parts) (λ ts. indexed_type ds (list_type ts))) t h in
      let r : _ = from_many_is (judge_all (context_of env) parts) (λ ts. indexed_type q.0 (list_type ts)) t q.2 in
      let l : _ = indexed_is q.0 (list_type r.0) t r.2 in
      let m : _ = matrix_value_is (index_values mode env d) (values_of mode env parts) v e in
      subst (λ w. IsOf t w) m.4 (list_is r.0 m.1 m.0 t (values_typed mode env k parts r.0 r.1 m.1 m.2) m.3 l.1)
  value_typed mode env k (comprehension p a gens conditions d) t h v e =
      let domains : List Judged = judge_generators (context_of env) gens in
      let truths : List Judged = judge_all (inside_all gens (context_of env)) conditions in
      let part : Judged = judge (inside_all gens (context_of env)) a in
      let q : _ = from_many_is (judge_index (context_of env) d) (λ index. from_many domains (λ ds. from_many truths (λ cs. from_one part (comprehension_type index ds cs)))) t h in
      let c : _ = comprehension_is q.0 domains truths part t q.2 in
      let told : Bool = domains_defined mode env gens && are_told (λ inner. values_of mode inner conditions) (reached mode env gens) in
      let envs : List Env = holding (λ inner. values_of mode inner conditions) (reached mode env gens) in
      let os : List (Option ValueTree) = map (λ inner. evaluate mode inner a) envs in
      let m : _ = matrix_value_is (index_values mode env d) os v (if_is told (matrix_value (index_values mode env d) os) v e) in
      subst (λ w. IsOf t w) m.4
      (each_is c.1 m.1 m.0 t
      (each_defined c.1 os m.1
      (parts_are c.1 (inside_all gens (context_of env)) (λ inner. evaluate mode inner a) envs
      (λ inner l r w x. value_typed mode inner l a c.1 (subst (λ y. judge y a ≡ typed c.1) (sym r) c.4) w x)
      (holding_typed (inside_all gens (context_of env)) (λ inner. values_of mode inner conditions) (reached mode env gens)
      (reached_typed mode gens env k c.0 c.2 c.3)))
      m.2)
      m.3 c.5)
  value_typed mode env k (read p m indices) t h v e =
      let q : _ = from_one_is (judge (context_of env) m) (λ u. from_many (judge_indices (context_of env) indices) (λ ts. read_type u ts (slice_count indices))) t h in
      let r : _ = from_many_is (judge_indices (context_of env) indices) (λ ts. read_type q.0 ts (slice_count indices)) t q.2 in
      read_result_is mode t (on_both (index_list mode env indices) (evaluate mode env m) read_value) v
      (subst (λ u. read_result mode u (on_both (index_list mode env indices) (evaluate mode env m) read_value) ≡ Some v) (type_in_is env (read p m indices) t h) e)
      (λ w f.
      let b : _ = both_is (index_list mode env indices) (evaluate mode env m) read_value w f in
      let i : _ = indices_are mode env indices b.0 r.0 b.2 r.1 in
      read_typed q.0 r.0 (slice_count indices) t b.0 b.1 w r.2 i.0 i.1 (value_typed mode env k m q.0 q.1 b.1 b.3) b.4)
  value_typed mode env k (folded p op m) t h v e =
      let q : _ = from_one_is (judge (context_of env) m) (folded_type op) t h in
      folded_typed mode op (scalars_in (evaluate mode env m)) q.0 t v q.2 e
  value_typed mode env k (all_different p m) t h v e =
      subst (λ u. IsOf u v) (one_gives (judge (context_of env) m) ValueType.Bool t is_matrix h) (truth_is mode _ v e)
  value_typed mode env k (gcc p m values counts) t h v e =
      subst (λ u. IsOf u v) (three_give (judge (context_of env) m) (judge (context_of env) values) (judge (context_of env) counts) ValueType.Bool t (λ s u w. is_matrix s && are_lists u w) h) (truth_is mode _ v e)
  value_typed mode env k (at_least p m counts values) t h v e =
      subst (λ u. IsOf u v) (three_give (judge (context_of env) m) (judge (context_of env) counts) (judge (context_of env) values) ValueType.Bool t (λ s u w. is_matrix s && are_lists u w) h) (truth_is mode _ v e)
  value_typed mode env k (at_most p m counts values) t h v e =
      subst (λ u. IsOf u v) (three_give (judge (context_of env) m) (judge (context_of env) counts) (judge (context_of env) values) ValueType.Bool t (λ s u w. is_matrix s && are_lists u w) h) (truth_is mode _ v e)
  value_typed mode env k (table p row rows) t h v e =
      subst (λ u. IsOf u v) (two_give (judge (context_of env) row) (judge (context_of env) rows) ValueType.Bool t (λ s u. has_dimensions 1 s && has_dimensions 2 u) h) (truth_is mode _ v e)

  -- The values of some expressions are of their types.
  pub values_typed : (mode : Mode) (env : Env) → IsTypedEnv env → (es : ExprTrees) (ts : List ValueType) → all_typed (judge_all (context_of env) es) ≡ Some ts
      → (vs : List ValueTree) → all_defined (values_of mode env es) ≡ Some vs → AllOf ts vs
  values_typed mode env k no_trees ts h vs e = subst (λ us. AllOf us vs) (some_is h) (no_values_are vs e)
  values_typed mode env k (tree_and a es) ts h vs e =
      let q : _ = all_typed_first (judge (context_of env) a) (judge_all (context_of env) es) ts h in
      let r : _ = defined_first (evaluate mode env a) (values_of mode env es) vs e in
      subst (λ us. AllOf us vs) q.4
      (subst (λ ws. AllOf (q.0 ∷ q.1) ws) r.4
      (value_typed mode env k a q.0 q.2 r.0 r.2, values_typed mode env k es q.1 q.3 r.1 r.3))
