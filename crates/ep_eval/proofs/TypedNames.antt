-- The names of quantifiers and generators where expressions are typed, and the types of the forms that have them.
use Rattle.ep_eval.proofs.Words.{◌≡◌, ◌≢◌, ℕ, ◌+◌, ◌<◌, length, drop, get_or, Bool, true, false, ◌&&◌, if◌then◌else◌, List, [], ◌∷◌, ◌++◌, Option, Some, None, option_map, refl, sym, ap, subst, ◌∙◌, and-false, bytes_eq, unwrap_or, list_all, Box, map_both, Name, Place, kind_tree-comprehension, kind_tree-quantified, judge-comprehension, judge-quantified, Bound, has_cells, has_domain, has_value, meaning_in, put, DomainTree, ExprTree, ExprTrees, Generators, IndexDomain, comprehension, quantified, Context, Judged, a_value, all_typed, comprehension_type, from_all, from_many, from_one, gives, indexed_type, inside, inside_all, is_boolean, is_integer, judge, judge_all, judge_domain, judge_generators, judge_index, list_type, mistyped, named_domain_type, of_scalar, quantified_name, reading_contexts, type_from, typed, untyped, domain_tree, expr_tree, expr_trees, generators_of, kind_tree, Domain, Expr, Generator, Comprehension, Kind, Quant, QuantOp, Scalar, ValueType, next_is, only_domain, all_pass, domain_type_at, list_of, name_scalar, passes, quantified_part, type_of_quantifier, type_at, type_if, index_at, AreNamesTyped, inside_names, readings, typed_meaning, with_typed, Wanted, TypedName}
use Rattle.std.specs.declared.alloc.Global.{Global}
use Rattle.std.specs.declared.vec.Vec.{Vec}
use Rattle.ep_tree.specs.Types as types
use Rattle.ep_tree.specs.Types.{Meaning}
use Rattle.ep_eval.proofs.DomainTypes.{index_is, pass_append}
use Rattle.ep_eval.proofs.JudgingForms.{first_all, given_by, typed_more}

-- ---- what a name stands for behind typed names

-- what a name stands for behind marked names, by what it stands for without them
unfoldable pub shown : List TypedName → Name → Option Meaning → Option Meaning
shown [] name m = m
shown (own ∷ marked) name m = shown marked name (if bytes_eq name own.name then Some (typed_meaning own) else m)

pub shown_within : (marked : List TypedName) (c : Context) (name : Name) → with_typed marked c name ≡ shown marked name (c name)
unfolding with_typed shown
shown_within [] c name = refl
shown_within (own ∷ marked) c name = shown_within marked (put own.name (typed_meaning own) c) name

pub shown_next : (marked : List TypedName) (i : ℕ) (own : TypedName) (name : Name) (m : Option Meaning) → i < length marked → own ≡ get_or marked i own
    → shown (drop i marked) name m ≡ shown (drop (i + 1) marked) name (if bytes_eq name own.name then Some (typed_meaning own) else m)
unfolding shown
shown_next marked i own name m within is = ap (λ l. shown l name m) (next_is marked i own within is)

pub shown_all : (marked : List TypedName) (name : Name) (m : Option Meaning) → marked ≡ [] → shown marked name m ≡ m
unfolding shown
shown_all marked name m none = ap (λ l. shown l name m) none

-- a domain's name is typed by the domain alone
pub only_domain-type : (b : Option Bound) → type_from (named_domain_type (option_map meaning_in (only_domain b))) ≡ type_from (named_domain_type (option_map meaning_in b))
unfolding type_from named_domain_type meaning_in only_domain
only_domain-type None = refl
only_domain-type (Some (has_value t v)) = refl
only_domain-type (Some (has_cells s is vs)) = refl
only_domain-type (Some (has_domain s is vs)) = refl

pub typed_behind : (marked : List TypedName) (own : TypedName) (c : Context) → with_typed (marked ++ own ∷ []) c ≡ put own.name (typed_meaning own) (with_typed marked c)
unfolding with_typed
typed_behind [] own c = refl
typed_behind (first ∷ marked) own c = typed_behind marked own (put first.name (typed_meaning first) c)

-- ---- readings of a domain

scalar_typed : (j : Judged) (s : Scalar) → name_scalar (type_from j) ≡ Some s → j ≡ typed (of_scalar s)
unfolding name_scalar type_from of_scalar
scalar_typed (typed ValueType.Bool) s h = ap (λ o. typed (of_scalar (unwrap_or o Scalar.Int))) h
scalar_typed (typed ValueType.Int) s h = ap (λ o. typed (of_scalar (unwrap_or o Scalar.Int))) h
scalar_typed (typed (ValueType.Matrix dims of)) s h = absurd cc
scalar_typed (typed ValueType.Empty) s h = absurd cc
scalar_typed mistyped s h = absurd cc
scalar_typed untyped s h = absurd cc

name_of_typed : (s : Scalar) → quantified_name (typed (of_scalar s)) ≡ a_value (Some (of_scalar s)) false
unfolding quantified_name is_boolean of_scalar
name_of_typed Scalar.Bool = refl
name_of_typed Scalar.Int = refl

scalar_passes : (s : Scalar) → option_map (passes Wanted.Integer) (type_from (typed (of_scalar s))) ≡ Some true
unfolding passes is_integer of_scalar type_from
scalar_passes Scalar.Bool = refl
scalar_passes Scalar.Int = refl

passing_first : (j : Judged) (js : List Judged) (s : Scalar) → j ≡ typed (of_scalar s) → all_pass Wanted.Integer (j ∷ js) ≡ all_pass Wanted.Integer js
passing_first j js s is =
    typed_more j js Wanted.Integer
    ∙ ap (λ o. map_both (λ a b. a && b) o (all_pass Wanted.Integer js)) (ap (λ x. option_map (passes Wanted.Integer) (type_from x)) is ∙ scalar_passes s)
    ∙ sym (first_all (all_pass Wanted.Integer js))

failing_both : (t : Option ValueType) (o : Option Bool) → name_scalar t ≡ None → map_both (λ a b. a && b) (option_map (passes Wanted.Integer) t) o ≢ Some true
unfolding name_scalar passes is_integer map_both
failing_both None o h = λ e. absurd cc
failing_both (Some ValueType.Bool) o h = absurd cc
failing_both (Some ValueType.Int) o h = absurd cc
failing_both (Some (ValueType.Matrix dims of)) None h = λ e. absurd cc
failing_both (Some (ValueType.Matrix dims of)) (Some b) h = λ e. absurd cc
failing_both (Some ValueType.Empty) None h = λ e. absurd cc
failing_both (Some ValueType.Empty) (Some b) h = λ e. absurd cc

failing_first : (j : Judged) (js : List Judged) → name_scalar (type_from j) ≡ None → all_pass Wanted.Integer (j ∷ js) ≢ Some true
failing_first j js h = λ e. failing_both (type_from j) (all_pass Wanted.Integer js) h (sym (typed_more j js Wanted.Integer) ∙ e)

-- a name, as what it stands for
abbrev pub put_scalar : Name → Scalar → Context → Context
put_scalar name s c = put name (a_value (Some (of_scalar s)) false) c

readings_first : (c : Context) (name : Name) (rest : List Name) (d : DomainTree)
    → readings c (name ∷ rest) d ≡ judge_domain c d ∷ readings (put name (quantified_name (judge_domain c d)) c) rest d
unfolding reading_contexts
readings_first c name rest d = refl

inside_first : (c : Context) (name : Name) (rest : List Name) (d : DomainTree)
    → inside_names c (name ∷ rest) d ≡ inside_names (put name (quantified_name (judge_domain c d)) c) rest d
unfolding inside
inside_first c name rest d = refl

named_by : (c : Context) (d : DomainTree) (s : Scalar) → name_scalar (domain_type_at c d) ≡ Some s → quantified_name (judge_domain c d) ≡ a_value (Some (of_scalar s)) false
named_by c d s h = ap quantified_name (scalar_typed (judge_domain c d) s h) ∙ name_of_typed s

-- one name further: what the whole says is what the names that are left say
pub names_pass : (whole : Option Bool) (c inner : Context) (left : List Name) (name : Name) (rest : List Name) (d : DomainTree) (s : Scalar)
    → whole ≡ all_pass Wanted.Integer (readings c left d) → left ≡ name ∷ rest → name_scalar (domain_type_at c d) ≡ Some s → inner ≡ put_scalar name s c
    → whole ≡ all_pass Wanted.Integer (readings inner rest d)
names_pass whole c inner left name rest d s was cut scalar is =
    was ∙ ap (λ l. all_pass Wanted.Integer (readings c l d)) cut ∙ ap (all_pass Wanted.Integer) (readings_first c name rest d)
    ∙ passing_first (judge_domain c d) (readings (put name (quantified_name (judge_domain c d)) c) rest d) s (scalar_typed (judge_domain c d) s scalar)
    ∙ ap (λ m. all_pass Wanted.Integer (readings (put name m c) rest d)) (named_by c d s scalar)
    ∙ ap (λ k. all_pass Wanted.Integer (readings k rest d)) (sym is)

pub names_inside : (whole c inner : Context) (left : List Name) (name : Name) (rest : List Name) (d : DomainTree) (s : Scalar)
    → whole ≡ inside_names c left d → left ≡ name ∷ rest → name_scalar (domain_type_at c d) ≡ Some s → inner ≡ put_scalar name s c
    → whole ≡ inside_names inner rest d
names_inside whole c inner left name rest d s was cut scalar is =
    was ∙ ap (λ l. inside_names c l d) cut ∙ inside_first c name rest d
    ∙ ap (λ m. inside_names (put name m c) rest d) (named_by c d s scalar)
    ∙ ap (λ k. inside_names k rest d) (sym is)

pub names_fail : (whole : Option Bool) (c : Context) (left : List Name) (name : Name) (rest : List Name) (d : DomainTree)
    → whole ≡ all_pass Wanted.Integer (readings c left d) → left ≡ name ∷ rest → name_scalar (domain_type_at c d) ≡ None → whole ≢ Some true
names_fail whole c left name rest d was cut none =
    λ e. failing_first (judge_domain c d) (readings (put name (quantified_name (judge_domain c d)) c) rest d) none
    (ap (all_pass Wanted.Integer) (sym (readings_first c name rest d)) ∙ ap (λ l. all_pass Wanted.Integer (readings c l d)) (sym cut) ∙ sym was ∙ e)

pub names_passed : (whole : Option Bool) (c : Context) (left : List Name) (d : DomainTree) → whole ≡ all_pass Wanted.Integer (readings c left d) → left ≡ [] → whole ≡ Some true
unfolding reading_contexts all_typed
names_passed whole c left d was none = was ∙ ap (λ l. all_pass Wanted.Integer (readings c l d)) none

pub names_ended : (whole c : Context) (left : List Name) (d : DomainTree) → whole ≡ inside_names c left d → left ≡ [] → whole ≡ c
unfolding inside
names_ended whole c left d was none = was ∙ ap (λ l. inside_names c l d) none

-- ---- generators

generators_first : (c : Context) (g : Generator) (rest : List Generator)
    → judge_generators c (generators_of (g ∷ rest)) ≡ readings c g.names.items (domain_tree g.domain) ++ judge_generators (inside_names c g.names.items (domain_tree g.domain)) (generators_of rest)
unfolding judge_generators generators_of
generators_first c g rest = refl

inside_generator : (c : Context) (g : Generator) (rest : List Generator)
    → inside_all (generators_of (g ∷ rest)) c ≡ inside_all (generators_of rest) (inside_names c g.names.items (domain_tree g.domain))
unfolding inside_all generators_of
inside_generator c g rest = refl

left_passes : (a b : Option Bool) → map_both (λ x y. x && y) a b ≡ Some true → a ≡ Some true
unfolding map_both
left_passes None b h = h
left_passes (Some x) None h = absurd cc
left_passes (Some true) (Some y) h = refl
left_passes (Some false) (Some y) h = h

typed_passes : (marked : List TypedName) (outer inner : Context) (passed : Option Bool) → AreNamesTyped (Some marked) outer passed inner → passed ≡ Some true
unfolding AreNamesTyped
typed_passes marked outer inner passed h = h.0

typed_inside : (marked : List TypedName) (outer inner : Context) (passed : Option Bool) → AreNamesTyped (Some marked) outer passed inner → inner ≡ with_typed marked outer
unfolding AreNamesTyped
typed_inside marked outer inner passed h = h.1

none_passes : (outer inner : Context) (passed : Option Bool) → AreNamesTyped None outer passed inner → passed ≢ Some true
unfolding AreNamesTyped
none_passes outer inner passed h = h

-- what is read is what the names of a generator say
abbrev pub Read : Option (List TypedName) → Context → Context → Generator → Type 0
Read marked outer c g = AreNamesTyped marked outer (all_pass Wanted.Integer (readings c g.names.items (domain_tree g.domain))) (inside_names c g.names.items (domain_tree g.domain))

pub read_as : (o other : Option (Vec TypedName Global)) (outer : Context) (lent marked : List TypedName) (ns : List Name) (g : Generator) → lent ≡ marked → ns ≡ g.names.items → o ≡ other
    → AreNamesTyped (option_map (λ v. v.items) o) outer (all_pass Wanted.Integer (readings (with_typed lent outer) ns (domain_tree g.domain))) (inside_names (with_typed lent outer) ns (domain_tree g.domain))
    → Read (option_map (λ v. v.items) other) outer (with_typed marked outer) g
read_as o other outer lent marked ns g same_typed same_names is told =
    let d = domain_tree g.domain in
    subst (λ x. Read (option_map (λ v. v.items) x) outer (with_typed marked outer) g) is
    (subst (λ l. AreNamesTyped (option_map (λ v. v.items) o) outer (all_pass Wanted.Integer (readings (with_typed marked outer) l d)) (inside_names (with_typed marked outer) l d)) same_names
    (subst (λ l. AreNamesTyped (option_map (λ v. v.items) o) outer (all_pass Wanted.Integer (readings (with_typed l outer) ns d)) (inside_names (with_typed l outer) ns d)) same_typed told))

pub generators_pass : (whole : Option Bool) (outer c : Context) (left : List Generator) (g : Generator) (rest : List Generator) (marked : List TypedName)
    → whole ≡ all_pass Wanted.Integer (judge_generators c (generators_of left)) → left ≡ g ∷ rest → Read (Some marked) outer c g
    → whole ≡ all_pass Wanted.Integer (judge_generators (with_typed marked outer) (generators_of rest))
generators_pass whole outer c left g rest marked was cut told =
    let names = g.names.items in
    let d = domain_tree g.domain in
    let others = judge_generators (inside_names c names d) (generators_of rest) in
    was ∙ ap (λ l. all_pass Wanted.Integer (judge_generators c (generators_of l))) cut ∙ ap (all_pass Wanted.Integer) (generators_first c g rest)
    ∙ pass_append Wanted.Integer (readings c names d) others
    ∙ ap (λ o. map_both (λ a b. a && b) o (all_pass Wanted.Integer others)) (typed_passes marked outer (inside_names c names d) _ told)
    ∙ sym (first_all (all_pass Wanted.Integer others))
    ∙ ap (λ k. all_pass Wanted.Integer (judge_generators k (generators_of rest))) (typed_inside marked outer (inside_names c names d) _ told)

pub generators_inside : (whole outer c : Context) (left : List Generator) (g : Generator) (rest : List Generator) (marked : List TypedName)
    → whole ≡ inside_all (generators_of left) c → left ≡ g ∷ rest → Read (Some marked) outer c g
    → whole ≡ inside_all (generators_of rest) (with_typed marked outer)
generators_inside whole outer c left g rest marked was cut told =
    was ∙ ap (λ l. inside_all (generators_of l) c) cut ∙ inside_generator c g rest
    ∙ ap (inside_all (generators_of rest)) (typed_inside marked outer (inside_names c g.names.items (domain_tree g.domain)) _ told)

pub generators_fail : (whole : Option Bool) (outer c : Context) (left : List Generator) (g : Generator) (rest : List Generator)
    → whole ≡ all_pass Wanted.Integer (judge_generators c (generators_of left)) → left ≡ g ∷ rest → Read None outer c g → whole ≢ Some true
generators_fail whole outer c left g rest was cut told =
    let names = g.names.items in
    let d = domain_tree g.domain in
    let others = judge_generators (inside_names c names d) (generators_of rest) in
    λ e. none_passes outer (inside_names c names d) _ told
    (left_passes (all_pass Wanted.Integer (readings c names d)) (all_pass Wanted.Integer others)
    (sym (pass_append Wanted.Integer (readings c names d) others) ∙ ap (all_pass Wanted.Integer) (sym (generators_first c g rest))
    ∙ ap (λ l. all_pass Wanted.Integer (judge_generators c (generators_of l))) (sym cut) ∙ sym was ∙ e))

pub generators_passed : (whole : Option Bool) (c : Context) (left : List Generator) → whole ≡ all_pass Wanted.Integer (judge_generators c (generators_of left)) → left ≡ [] → whole ≡ Some true
unfolding judge_generators generators_of all_typed
generators_passed whole c left was none = was ∙ ap (λ l. all_pass Wanted.Integer (judge_generators c (generators_of l))) none

pub generators_ended : (whole c : Context) (left : List Generator) → whole ≡ inside_all (generators_of left) c → left ≡ [] → whole ≡ c
unfolding inside_all generators_of
generators_ended whole c left was none = was ∙ ap (λ l. inside_all (generators_of l) c) none

-- ---- quantifiers

is_scalar : (o : Option Bool) → o ≡ Some true → unwrap_or o false ≡ true
is_scalar o h = ap (λ x. unwrap_or x false) h

quants_by : (op : QuantOp) (ds : List ValueType) (t : ValueType) → list_all (passes Wanted.Integer) ds ≡ true
    → types.quantified_type op ds t ≡ gives (type_of_quantifier op) (passes (quantified_part op) t)
unfolding types.quantified_type type_of_quantifier quantified_part passes
quants_by QuantOp.ForAll ds t e = ap (λ b. gives ValueType.Bool (b && is_boolean t)) e
quants_by QuantOp.Exists ds t e = ap (λ b. gives ValueType.Bool (b && is_boolean t)) e
quants_by QuantOp.Sum ds t e = ap (λ b. gives ValueType.Int (b && is_integer t)) e

quant_some : (o : Option (List ValueType)) (j : Judged) (op : QuantOp) → option_map (list_all (passes Wanted.Integer)) o ≡ Some true
    → type_from (from_all o (λ ds. from_one j (types.quantified_type op ds))) ≡ type_if (type_of_quantifier op) (option_map (passes (quantified_part op)) (type_from j))
unfolding from_all from_one type_from type_if
quant_some None j op h = absurd cc
quant_some (Some ds) (typed t) op h =
    ap type_from (quants_by op ds t (is_scalar (Some (list_all (passes Wanted.Integer) ds)) h)) ∙ given_by (type_of_quantifier op) (passes (quantified_part op) t)
quant_some (Some ds) mistyped op h = refl
quant_some (Some ds) untyped op h = refl

quants_none : (op : QuantOp) (ds : List ValueType) (t : ValueType) → list_all (passes Wanted.Integer) ds ≡ false → types.quantified_type op ds t ≡ mistyped
unfolding types.quantified_type passes gives
quants_none QuantOp.ForAll ds t e = ap (λ b. gives ValueType.Bool (b && is_boolean t)) e
quants_none QuantOp.Exists ds t e = ap (λ b. gives ValueType.Bool (b && is_boolean t)) e
quants_none QuantOp.Sum ds t e = ap (λ b. gives ValueType.Int (b && is_integer t)) e

isnt_scalar : (b : Bool) → Some b ≢ Some true → b ≡ false
isnt_scalar true h = absurd (h refl)
isnt_scalar false h = refl

quant_none : (o : Option (List ValueType)) (j : Judged) (op : QuantOp) → option_map (list_all (passes Wanted.Integer)) o ≢ Some true
    → None ≡ type_from (from_all o (λ ds. from_one j (types.quantified_type op ds)))
unfolding from_all from_one type_from
quant_none None j op h = refl
quant_none (Some ds) (typed t) op h = sym (ap type_from (quants_none op ds t (isnt_scalar (list_all (passes Wanted.Integer) ds) h)))
quant_none (Some ds) mistyped op h = refl
quant_none (Some ds) untyped op h = refl

pub at-quantified : (c inner : Context) (p : Place) (op : QuantOp) (names : List Name) (d : DomainTree) (e : ExprTree)
    → all_pass Wanted.Integer (readings c names d) ≡ Some true → inside_names c names d ≡ inner
    → type_at c (quantified p op names d e) ≡ type_if (type_of_quantifier op) (option_map (passes (quantified_part op)) (type_at inner e))
unfolding from_many
at-quantified c inner p op names d e scalar is =
    ap type_from (judge-quantified c p op names d e) ∙ quant_some (all_typed (readings c names d)) (judge (inside_names c names d) e) op scalar
    ∙ ap (λ k. type_if (type_of_quantifier op) (option_map (passes (quantified_part op)) (type_at k e))) is

pub at-quantified-none : (c : Context) (p : Place) (op : QuantOp) (names : List Name) (d : DomainTree) (e : ExprTree)
    → all_pass Wanted.Integer (readings c names d) ≢ Some true → None ≡ type_at c (quantified p op names d e)
unfolding from_many
at-quantified-none c p op names d e scalar =
    quant_none (all_typed (readings c names d)) (judge (inside_names c names d) e) op scalar ∙ sym (ap type_from (judge-quantified c p op names d e))

-- ---- comprehensions

-- the type of a comprehension, by that of its expression, and whether its domains are scalar and its conditions Boolean
abbrev pub listed : Option ValueType → Option Bool → Option ValueType
listed t holds = list_of (map_both (λ all one. all ++ one ∷ []) (Some []) t) holds

with_scalars : (is gs : List ValueType) → list_all (passes Wanted.Integer) gs ≡ true → list_all (passes Wanted.Integer) (is ++ gs) ≡ list_all (passes Wanted.Integer) is
with_scalars [] gs e = e
with_scalars (i ∷ is) gs e = ap (λ b. passes Wanted.Integer i && b) (with_scalars is gs e)

without_scalars : (is gs : List ValueType) → list_all (passes Wanted.Integer) gs ≡ false → list_all (passes Wanted.Integer) (is ++ gs) ≡ false
without_scalars [] gs e = e
without_scalars (i ∷ is) gs e = ap (λ b. passes Wanted.Integer i && b) (without_scalars is gs e) ∙ and-false (passes Wanted.Integer i)

unlisted : (t : Option ValueType) → None ≡ listed t None
unfolding list_of map_both
unlisted None = refl
unlisted (Some u) = refl

no_list : (o : Option Bool) → None ≡ listed None o
unfolding list_of map_both
no_list o = refl

chosen_list : (u : ValueType) (a b : Bool) → type_from (if b then (if a then list_type (u ∷ []) else mistyped) else mistyped) ≡ listed (Some u) (Some (a && b))
unfolding list_of map_both type_from
chosen_list u true true = refl
chosen_list u true false = refl
chosen_list u false true = refl
chosen_list u false false = refl

lists_by : (is gs ts : List ValueType) (u : ValueType) (a b : Bool) → list_all (passes Wanted.Integer) (is ++ gs) ≡ a → list_all (passes Wanted.Boolean) ts ≡ b
    → type_from (comprehension_type is gs ts u) ≡ listed (Some u) (Some (a && b))
unfolding comprehension_type indexed_type passes
lists_by is gs ts u a b h k =
    ap (λ x. type_from (if list_all is_boolean ts then (if x then list_type (u ∷ []) else mistyped) else mistyped)) h
    ∙ ap (λ y. type_from (if y then (if a then list_type (u ∷ []) else mistyped) else mistyped)) k
    ∙ chosen_list u a b

lists_some : (i g t : Option (List ValueType)) (j : Judged) → option_map (list_all (passes Wanted.Integer)) g ≡ Some true
    → type_from (from_all i (λ is. from_all g (λ gs. from_all t (λ ts. from_one j (comprehension_type is gs ts)))))
    ≡ listed (type_from j) (map_both (λ a b. a && b) (option_map (list_all (passes Wanted.Integer)) i) (option_map (list_all (passes Wanted.Boolean)) t))
unfolding from_all from_one type_from map_both
lists_some None g t j h = unlisted (type_from j)
lists_some (Some is) None t j h = absurd cc
lists_some (Some is) (Some gs) None j h = unlisted (type_from j)
lists_some (Some is) (Some gs) (Some ts) (typed u) h =
    lists_by is gs ts u (list_all (passes Wanted.Integer) is) (list_all (passes Wanted.Boolean) ts)
    (with_scalars is gs (is_scalar (Some (list_all (passes Wanted.Integer) gs)) h)) refl
lists_some (Some is) (Some gs) (Some ts) mistyped h = no_list (Some (list_all (passes Wanted.Integer) is && list_all (passes Wanted.Boolean) ts))
lists_some (Some is) (Some gs) (Some ts) untyped h = no_list (Some (list_all (passes Wanted.Integer) is && list_all (passes Wanted.Boolean) ts))

listless : (u : ValueType) (b : Bool) → None ≡ listed (Some u) (Some (false && b))
unfolding list_of map_both
listless u b = refl

lists_none : (i g t : Option (List ValueType)) (j : Judged) → option_map (list_all (passes Wanted.Integer)) g ≢ Some true
    → None ≡ type_from (from_all i (λ is. from_all g (λ gs. from_all t (λ ts. from_one j (comprehension_type is gs ts)))))
unfolding from_all from_one type_from
lists_none None g t j h = refl
lists_none (Some is) None t j h = refl
lists_none (Some is) (Some gs) None j h = refl
lists_none (Some is) (Some gs) (Some ts) (typed u) h =
    listless u (list_all (passes Wanted.Boolean) ts)
    ∙ sym (lists_by is gs ts u false (list_all (passes Wanted.Boolean) ts) (without_scalars is gs (isnt_scalar (list_all (passes Wanted.Integer) gs) h)) refl)
lists_none (Some is) (Some gs) (Some ts) mistyped h = refl
lists_none (Some is) (Some gs) (Some ts) untyped h = refl

pub at-comprehension : (c inner : Context) (p : Place) (e : ExprTree) (gens : Generators) (conditions : ExprTrees) (d : IndexDomain)
    → all_pass Wanted.Integer (judge_generators c gens) ≡ Some true → inside_all gens c ≡ inner
    → type_at c (comprehension p e gens conditions d)
    ≡ listed (type_at inner e) (map_both (λ a b. a && b) (all_pass Wanted.Integer (judge_index c d)) (all_pass Wanted.Boolean (judge_all inner conditions)))
unfolding from_many
at-comprehension c inner p e gens conditions d scalar is =
    ap type_from (judge-comprehension c p e gens conditions d)
    ∙ lists_some (all_typed (judge_index c d)) (all_typed (judge_generators c gens)) (all_typed (judge_all (inside_all gens c) conditions)) (judge (inside_all gens c) e) scalar
    ∙ ap (λ k. listed (type_at k e) (map_both (λ a b. a && b) (all_pass Wanted.Integer (judge_index c d)) (all_pass Wanted.Boolean (judge_all k conditions)))) is

pub at-comprehension-none : (c : Context) (p : Place) (e : ExprTree) (gens : Generators) (conditions : ExprTrees) (d : IndexDomain)
    → all_pass Wanted.Integer (judge_generators c gens) ≢ Some true → None ≡ type_at c (comprehension p e gens conditions d)
unfolding from_many
at-comprehension-none c p e gens conditions d scalar =
    lists_none (all_typed (judge_index c d)) (all_typed (judge_generators c gens)) (all_typed (judge_all (inside_all gens c) conditions)) (judge (inside_all gens c) e) scalar
    ∙ sym (ap type_from (judge-comprehension c p e gens conditions d))

-- ---- the arms of quantifiers and comprehensions

pub quantifier_told : (c outer : Context) (p : Place) (kind : Kind) (op : QuantOp) (names : Vec Name Global) (domain : Box Domain Global) (body : Box Expr Global)
    (marked lent : List TypedName) (ns : List Name) (d : Domain) (e : Expr) (part : Wanted) (ty : ValueType) (holds : Option Bool) (t : Option ValueType)
    → kind ≡ Quant op names domain body → ns ≡ names.items → d ≡ domain.value → e ≡ body.value
    → AreNamesTyped (Some marked) outer (all_pass Wanted.Integer (readings c ns (domain_tree d))) (inside_names c ns (domain_tree d))
    → part ≡ quantified_part op → ty ≡ type_of_quantifier op → lent ≡ marked → holds ≡ option_map (passes part) (type_at (with_typed lent outer) (expr_tree e)) → t ≡ type_if ty holds
    → t ≡ type_at c (kind_tree p kind)
quantifier_told c outer p kind op names domain body marked lent ns d e part ty holds t is same_names same_domain same_body told wanted type same_typed has given =
    let inner = with_typed marked outer in
    given ∙ ap (λ x. type_if x holds) type ∙ ap (type_if (type_of_quantifier op)) (has ∙ ap (λ ts. option_map (passes part) (type_at (with_typed ts outer) (expr_tree e))) same_typed)
    ∙ ap (λ x. type_if (type_of_quantifier op) (option_map (passes x) (type_at inner (expr_tree e)))) wanted
    ∙ sym (at-quantified c inner p op ns (domain_tree d) (expr_tree e) (typed_passes marked outer (inside_names c ns (domain_tree d)) _ told) (typed_inside marked outer (inside_names c ns (domain_tree d)) _ told))
    ∙ ap (λ x. type_at c (quantified p op x (domain_tree d) (expr_tree e))) same_names
    ∙ ap (λ x. type_at c (quantified p op names.items (domain_tree x) (expr_tree e))) same_domain
    ∙ ap (λ x. type_at c (quantified p op names.items (domain_tree domain.value) (expr_tree x))) same_body
    ∙ sym (ap (λ x. type_at c (kind_tree p x)) is ∙ ap (type_at c) (kind_tree-quantified p op names domain body))

pub quantifier_none : (c outer : Context) (p : Place) (kind : Kind) (op : QuantOp) (names : Vec Name Global) (domain : Box Domain Global) (body : Box Expr Global)
    (ns : List Name) (d : Domain)
    → kind ≡ Quant op names domain body → ns ≡ names.items → d ≡ domain.value
    → AreNamesTyped None outer (all_pass Wanted.Integer (readings c ns (domain_tree d))) (inside_names c ns (domain_tree d))
    → None ≡ type_at c (kind_tree p kind)
quantifier_none c outer p kind op names domain body ns d is same_names same_domain told =
    at-quantified-none c p op ns (domain_tree d) (expr_tree body.value) (none_passes outer (inside_names c ns (domain_tree d)) _ told)
    ∙ ap (λ x. type_at c (quantified p op x (domain_tree d) (expr_tree body.value))) same_names
    ∙ ap (λ x. type_at c (quantified p op names.items (domain_tree x) (expr_tree body.value))) same_domain
    ∙ sym (ap (λ x. type_at c (kind_tree p x)) is ∙ ap (type_at c) (kind_tree-quantified p op names domain body))

comprehension_is : (c : Context) (p : Place) (kind : Kind) (body : Box Expr Global) (gens : Vec Generator Global) (conditions : Vec Expr Global) (domain : Option (Box Domain Global))
    → kind ≡ Comprehension body gens conditions domain
    → type_at c (kind_tree p kind) ≡ type_at c (comprehension p (expr_tree body.value) (generators_of gens.items) (expr_trees conditions.items) (index_at domain))
comprehension_is c p kind body gens conditions domain is =
    ap (λ x. type_at c (kind_tree p x)) is
    ∙ ap (type_at c) (kind_tree-comprehension p body gens conditions domain ∙ ap (comprehension p (expr_tree body.value) (generators_of gens.items) (expr_trees conditions.items)) (index_is domain))

pub comprehension_told : (c outer : Context) (p : Place) (kind : Kind) (body : Box Expr Global) (gens : Vec Generator Global) (conditions : Vec Expr Global) (domain : Option (Box Domain Global))
    (marked lent : List TypedName) (gs : List Generator) (cs : List Expr) (e : Expr) (index truths holds : Option Bool) (ty : Option ValueType) (ts : Option (List ValueType)) (t : Option ValueType)
    → kind ≡ Comprehension body gens conditions domain → gs ≡ gens.items → cs ≡ conditions.items → e ≡ body.value
    → AreNamesTyped (Some marked) outer (all_pass Wanted.Integer (judge_generators c (generators_of gs))) (inside_all (generators_of gs) c)
    → index ≡ all_pass Wanted.Integer (judge_index c (index_at domain)) → lent ≡ marked → truths ≡ all_pass Wanted.Boolean (judge_all (with_typed lent outer) (expr_trees cs))
    → ty ≡ type_at (with_typed lent outer) (expr_tree e) → ts ≡ map_both (λ all one. all ++ one ∷ []) (Some []) ty → holds ≡ map_both (λ a b. a && b) index truths
    → t ≡ list_of ts holds → t ≡ type_at c (kind_tree p kind)
comprehension_told c outer p kind body gens conditions domain marked lent gs cs e index truths holds ty ts t is same_gens same_conditions same_body told by_index same_typed by_truths by_body one_type both given =
    let inner = with_typed marked outer in
    given ∙ ap (λ o. list_of o holds) (one_type ∙ ap (map_both (λ all one. all ++ one ∷ []) (Some [])) (by_body ∙ ap (λ ts. type_at (with_typed ts outer) (expr_tree e)) same_typed))
    ∙ ap (listed (type_at inner (expr_tree e))) (both ∙ ap (λ o. map_both (λ a b. a && b) o truths) by_index ∙ ap (map_both (λ a b. a && b) (all_pass Wanted.Integer (judge_index c (index_at domain)))) (by_truths ∙ ap (λ ts. all_pass Wanted.Boolean (judge_all (with_typed ts outer) (expr_trees cs))) same_typed))
    ∙ sym (at-comprehension c inner p (expr_tree e) (generators_of gs) (expr_trees cs) (index_at domain) (typed_passes marked outer (inside_all (generators_of gs) c) _ told) (typed_inside marked outer (inside_all (generators_of gs) c) _ told))
    ∙ ap (λ x. type_at c (comprehension p (expr_tree e) (generators_of x) (expr_trees cs) (index_at domain))) same_gens
    ∙ ap (λ x. type_at c (comprehension p (expr_tree e) (generators_of gens.items) (expr_trees x) (index_at domain))) same_conditions
    ∙ ap (λ x. type_at c (comprehension p (expr_tree x) (generators_of gens.items) (expr_trees conditions.items) (index_at domain))) same_body
    ∙ sym (comprehension_is c p kind body gens conditions domain is)

pub comprehension_none : (c outer : Context) (p : Place) (kind : Kind) (body : Box Expr Global) (gens : Vec Generator Global) (conditions : Vec Expr Global) (domain : Option (Box Domain Global))
    (gs : List Generator) → kind ≡ Comprehension body gens conditions domain → gs ≡ gens.items
    → AreNamesTyped None outer (all_pass Wanted.Integer (judge_generators c (generators_of gs))) (inside_all (generators_of gs) c)
    → None ≡ type_at c (kind_tree p kind)
comprehension_none c outer p kind body gens conditions domain gs is same_gens told =
    at-comprehension-none c p (expr_tree body.value) (generators_of gs) (expr_trees conditions.items) (index_at domain) (none_passes outer (inside_all (generators_of gs) c) _ told)
    ∙ ap (λ x. type_at c (comprehension p (expr_tree body.value) (generators_of x) (expr_trees conditions.items) (index_at domain))) same_gens
    ∙ sym (comprehension_is c p kind body gens conditions domain is)
