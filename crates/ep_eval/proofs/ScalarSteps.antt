-- Which domains are those of Booleans, form by form.
use Rattle.ep_eval.proofs.Words.{◌≡◌, ◌≢◌, ◌+◌, ◌<◌, Bool, true, false, ◌&&◌, List, [], ◌∷◌, length, ℤ, Option, Some, None, option_map, refl, arith, Place, Bound, Env, context_of, domain_bound, has_cells, has_domain, has_value, meaning_in, scalar_in, shape_type, domain_values, DomainTree, Domains, Ranges, bool, group_domain, int, matrix_domain, named_domain, ranges, set_domain, Context, Judged, all_typed, both_scalars, can_index, from_all, from_many, from_one, from_two, gives, is_boolean, is_integer, judge_domain, judge_domains, judge_ranges, matrix_type, mistyped, named_domain_type, of_scalar, scalar_of, type_from, typed, untyped, Mode, Scalar, ValueType, unwrap_or, list_all, only_domain, is_of_booleans, scalar_if}

-- ---- names

pub matrix_named : (s : Scalar) (is : List (List ℤ)) (vs : List ℤ) → 0 < length is → false ≡ is_of_booleans (named_domain_type (Some (meaning_in (has_domain s is vs))))
unfolding is_of_booleans named_domain_type meaning_in shape_type is_boolean
matrix_named s [] vs h = absurd (omega (arith, h))
matrix_named s (i ∷ is) vs h = refl

pub bool_named : (s : Scalar) (is : List (List ℤ)) (vs : List ℤ) → s ≡ Scalar.Bool → length is ≡ 0 → true ≡ is_of_booleans (named_domain_type (Some (meaning_in (has_domain s is vs))))
unfolding is_of_booleans named_domain_type meaning_in shape_type is_boolean of_scalar
bool_named Scalar.Bool [] vs e h = refl
bool_named Scalar.Int [] vs e h = absurd cc
bool_named s (i ∷ is) vs e h = absurd (omega (arith, h))

pub int_named : (s : Scalar) (is : List (List ℤ)) (vs : List ℤ) → s ≡ Scalar.Int → length is ≡ 0 → false ≡ is_of_booleans (named_domain_type (Some (meaning_in (has_domain s is vs))))
unfolding is_of_booleans named_domain_type meaning_in shape_type is_boolean of_scalar
int_named Scalar.Int [] vs e h = refl
int_named Scalar.Bool [] vs e h = absurd cc
int_named s (i ∷ is) vs e h = absurd (omega (arith, h))

-- a name that stands for no domain is none of Booleans
pub only_domain-booleans : (b : Option Bound) → is_of_booleans (named_domain_type (option_map meaning_in (only_domain b))) ≡ is_of_booleans (named_domain_type (option_map meaning_in b))
unfolding is_of_booleans named_domain_type meaning_in only_domain
only_domain-booleans None = refl
only_domain-booleans (Some (has_value t v)) = refl
only_domain-booleans (Some (has_cells s is vs)) = refl
only_domain-booleans (Some (has_domain s is vs)) = refl

-- ---- forms

pub booleans-group : (j : Judged) → is_of_booleans j ≡ is_of_booleans (from_one j (λ t. typed t))
unfolding is_of_booleans from_one
booleans-group (typed t) = refl
booleans-group mistyped = refl
booleans-group untyped = refl

gives-int : (o : Option (List ValueType)) → false ≡ is_of_booleans (from_all o (λ ts. gives ValueType.Int (list_all is_integer ts)))
unfolding from_all is_of_booleans gives is_boolean
gives-int None = refl
gives-int (Some ts) = by (list_all is_integer ts)
  where
    by : (b : Bool) → false ≡ is_of_booleans (gives ValueType.Int b)
    by true = refl
    by false = refl

pub booleans-ranges : (c : Context) (p : Place) (rs : Ranges) → false ≡ is_of_booleans (judge_domain c (ranges p rs))
unfolding judge_domain from_many
booleans-ranges c p rs = gives-int (all_typed (judge_ranges c rs))

both_boolean : (t u : ValueType) → (is_boolean t && is_boolean u) ≡ is_of_booleans (gives (of_scalar (both_scalars (scalar_of t) (scalar_of u))) (is_integer t && is_integer u))
unfolding is_boolean is_of_booleans gives of_scalar both_scalars scalar_of is_integer
both_boolean ValueType.Bool ValueType.Bool = refl
both_boolean ValueType.Bool ValueType.Int = refl
both_boolean ValueType.Bool (ValueType.Matrix k s) = refl
both_boolean ValueType.Bool ValueType.Empty = refl
both_boolean ValueType.Int ValueType.Bool = refl
both_boolean ValueType.Int ValueType.Int = refl
both_boolean ValueType.Int (ValueType.Matrix k s) = refl
both_boolean ValueType.Int ValueType.Empty = refl
both_boolean (ValueType.Matrix k s) u = refl
both_boolean ValueType.Empty u = refl

pub booleans-both : (i j : Judged) → (is_of_booleans i && is_of_booleans j)
    ≡ is_of_booleans (from_two i j (λ t u. gives (of_scalar (both_scalars (scalar_of t) (scalar_of u))) (is_integer t && is_integer u)))
unfolding is_of_booleans from_two from_one
booleans-both mistyped j = refl
booleans-both untyped j = refl
booleans-both (typed t) (typed u) = both_boolean t u
booleans-both (typed t) mistyped = no (is_boolean t)
  where
    no : (b : Bool) → (b && false) ≡ false
    no true = refl
    no false = refl
booleans-both (typed t) untyped = no (is_boolean t)
  where
    no : (b : Bool) → (b && false) ≡ false
    no true = refl
    no false = refl

with_matrix : (ts : List ValueType) (t : ValueType) → false ≡ is_of_booleans (matrix_type ts t)
unfolding matrix_type gives is_boolean is_of_booleans
with_matrix ts (ValueType.Matrix k s) = by (can_index ts)
  where
    by : (b : Bool) → false ≡ is_of_booleans (gives (ValueType.Matrix (length ts + k) s) b)
    by true = refl
    by false = refl
with_matrix ts ValueType.Bool = by (can_index ts)
  where
    by : (b : Bool) → false ≡ is_of_booleans (gives (ValueType.Matrix (length ts) (scalar_of ValueType.Bool)) b)
    by true = refl
    by false = refl
with_matrix ts ValueType.Int = by (can_index ts)
  where
    by : (b : Bool) → false ≡ is_of_booleans (gives (ValueType.Matrix (length ts) (scalar_of ValueType.Int)) b)
    by true = refl
    by false = refl
with_matrix ts ValueType.Empty = by (can_index ts)
  where
    by : (b : Bool) → false ≡ is_of_booleans (gives (ValueType.Matrix (length ts) (scalar_of ValueType.Empty)) b)
    by true = refl
    by false = refl

pub booleans-matrix : (c : Context) (p : Place) (ds : Domains) (d : DomainTree) → false ≡ is_of_booleans (judge_domain c (matrix_domain p ds d))
unfolding judge_domain from_all from_one from_many is_of_booleans
booleans-matrix c p ds d = of_one (judge_domain c d)
  where
    of_many : (t : ValueType) (o : Option (List ValueType)) → false ≡ is_of_booleans (from_all o (λ ts. matrix_type ts t))
    of_many t None = refl
    of_many t (Some ts) = with_matrix ts t

    of_one : (j : Judged) → false ≡ is_of_booleans (from_one j (λ t. from_many (judge_domains c ds) (λ ts. matrix_type ts t)))
    of_one (typed t) = of_many t (all_typed (judge_domains c ds))
    of_one mistyped = refl
    of_one untyped = refl

-- ---- the scalar of a domain that has numbers

-- a domain is judged to be of integers, or of nothing
unfoldable IsOfIntegers : Judged → Type 0
IsOfIntegers (typed t) = is_integer t ≡ true
IsOfIntegers mistyped = Unit {0}
IsOfIntegers untyped = Unit {0}

integer_scalar : (j : Judged) → IsOfIntegers j → scalar_if (is_of_booleans j) ≡ unwrap_or (option_map scalar_of (type_from j)) Scalar.Int
unfolding IsOfIntegers type_from scalar_of is_of_booleans is_boolean is_integer
integer_scalar (typed ValueType.Bool) h = refl
integer_scalar (typed ValueType.Int) h = refl
integer_scalar (typed (ValueType.Matrix k s)) h = absurd cc
integer_scalar (typed ValueType.Empty) h = absurd cc
integer_scalar mistyped h = refl
integer_scalar untyped h = refl

scalar_integer : (s : Scalar) → is_integer (of_scalar s) ≡ true
unfolding is_integer of_scalar
scalar_integer Scalar.Bool = refl
scalar_integer Scalar.Int = refl

given_integers : (s : Scalar) (b : Bool) → IsOfIntegers (gives (of_scalar s) b)
unfolding IsOfIntegers gives
given_integers s true = scalar_integer s
given_integers s false = tt

int_integers : (o : Option (List ValueType)) → IsOfIntegers (from_all o (λ ts. gives ValueType.Int (list_all is_integer ts)))
unfolding from_all IsOfIntegers gives is_integer
int_integers None = tt
int_integers (Some ts) = by (list_all is_integer ts)
  where
    by : (b : Bool) → IsOfIntegers (gives ValueType.Int b)
    by true = refl
    by false = tt

named_integers : (b : Option Bound) → domain_bound b ≢ None → IsOfIntegers (named_domain_type (option_map meaning_in b))
unfolding domain_bound IsOfIntegers named_domain_type meaning_in shape_type
named_integers None h = absurd (h refl)
named_integers (Some (has_value t v)) h = absurd (h refl)
named_integers (Some (has_cells s is vs)) h = absurd (h refl)
named_integers (Some (has_domain s [] vs)) h = scalar_integer s
named_integers (Some (has_domain s (i ∷ is) vs)) h = absurd (h refl)

group_integers : (j : Judged) → IsOfIntegers j → IsOfIntegers (from_one j (λ t. typed t))
unfolding IsOfIntegers from_one
group_integers (typed t) h = h
group_integers mistyped h = tt
group_integers untyped h = tt

set_integers : (i j : Judged) → IsOfIntegers (from_two i j (λ t u. gives (of_scalar (both_scalars (scalar_of t) (scalar_of u))) (is_integer t && is_integer u)))
unfolding IsOfIntegers from_two from_one
set_integers mistyped j = tt
set_integers untyped j = tt
set_integers (typed t) mistyped = tt
set_integers (typed t) untyped = tt
set_integers (typed t) (typed u) = given_integers (both_scalars (scalar_of t) (scalar_of u)) (is_integer t && is_integer u)

bools : IsOfIntegers (typed ValueType.Bool)
unfolding IsOfIntegers is_integer
bools = refl

ints : IsOfIntegers (typed ValueType.Int)
unfolding IsOfIntegers is_integer
ints = refl

integers : (mode : Mode) (env : Env) (d : DomainTree) → domain_values mode env d ≢ None → IsOfIntegers (judge_domain (context_of env) d)
unfolding domain_values judge_domain context_of from_many
integers mode env (bool p) h = bools
integers mode env (int p) h = ints
integers mode env (ranges p rs) h = int_integers (all_typed (judge_ranges (context_of env) rs))
integers mode env (named_domain p name) h = named_integers (env name) h
integers mode env (group_domain p d) h = group_integers (judge_domain (context_of env) d) (integers mode env d h)
integers mode env (set_domain p op c d) h = set_integers (judge_domain (context_of env) c) (judge_domain (context_of env) d)
integers mode env (matrix_domain p ds d) h = absurd (h refl)

-- the scalar of a domain that has numbers
pub scalar_is : (mode : Mode) (env : Env) (d : DomainTree) → domain_values mode env d ≢ None → scalar_if (is_of_booleans (judge_domain (context_of env) d)) ≡ scalar_in env d
unfolding scalar_in
scalar_is mode env d h = integer_scalar (judge_domain (context_of env) d) (integers mode env d h)
