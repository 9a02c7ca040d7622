-- The names of a reading stand for values of their types.
use Rattle.ep_unroll.proofs.Words.{◌≡◌, Bool, true, false, ◌&&◌, ◌||◌, ℤ, pos, List, [], ◌∷◌, Some, None, refl, sym, ap, subst, ◌∙◌, Option, option_map, unwrap_or, list_all, int_eq, Decides-int_eq, is_one, of_bool, Name, and_other, domain_typed, put_typed, value_typed, Agree, AgreeOn, Bound, Env, context_of, has_cells, has_domain, has_value, scalar_in, with_number, domain_values, evaluate, type_in, DomainTree, ExprTree, IsTypedBound, IsTypedEnv, is_number_of, Judged, judge, judge_domain, mistyped, of_scalar, scalar_of, type_from, typed, untyped, single, Scalar, ValueType, Numbering, Reading}

and_left : (a b : Bool) → (a && b) ≡ true → a ≡ true
and_left true b h = refl
and_left false b h = absurd cc

-- ---- decision variables

-- where the values of decision variables are of their types, the names are that have cells
bound_back : (one other : Option Bound) → AgreeOn one other → IsTypedBound other → IsTypedBound one
unfolding IsTypedBound
bound_back None other h k = tt
bound_back (Some (has_value t v)) other h k = subst IsTypedBound (sym h) k
bound_back (Some (has_cells s is vs)) other h k = tt
bound_back (Some (has_domain s is vs)) other h k = subst IsTypedBound (sym h) k

cells_typed : (cells values : Env) → Agree cells values → IsTypedEnv values → IsTypedEnv cells
cells_typed cells values h k name = bound_back (cells name) (values name) (h name) (k name)

-- ---- the numbers of domains

all_int : (ns : List ℤ) → list_all (is_number_of Scalar.Int) ns ≡ true
unfolding is_number_of
all_int [] = refl
all_int (n ∷ ns) = all_int ns

scalar_judged : (env : Env) (d : DomainTree) (t : ValueType) → judge_domain (context_of env) d ≡ typed t → scalar_in env d ≡ scalar_of t
unfolding scalar_in type_from
scalar_judged env d t h = ap (λ j. unwrap_or (option_map scalar_of (type_from j)) Scalar.Int) h

scalar_untyped : (env : Env) (d : DomainTree) (j : Judged) → judge_domain (context_of env) d ≡ j → type_from j ≡ None → scalar_in env d ≡ Scalar.Int
unfolding scalar_in
scalar_untyped env d j h none = ap (λ k. unwrap_or (option_map scalar_of (type_from k)) Scalar.Int) h ∙ ap (λ o. unwrap_or (option_map scalar_of o) Scalar.Int) none

-- the numbers of a domain are of its scalar, in each reading
unfoldable pub AreOfScalar : Numbering → Env → DomainTree → List ℤ → Type 0
AreOfScalar n env d ns = Reading n env → list_all (is_number_of (scalar_in env d)) ns ≡ true

pub domain_numbers : (n : Numbering) (env : Env) (d : DomainTree) (ns left : List ℤ) → domain_values n.mode env d ≡ Some ns → left ≡ ns → AreOfScalar n env d left
unfolding AreOfScalar type_from
domain_numbers n env d ns left is same r = subst (λ l. list_all (is_number_of (scalar_in env d)) l ≡ true) (sym same) (by (judge_domain (context_of env) d) refl)
  where
    by : (j : Judged) → judge_domain (context_of env) d ≡ j → list_all (is_number_of (scalar_in env d)) ns ≡ true
    by (typed t) h =
        subst (λ s. list_all (is_number_of s) ns ≡ true) (sym (scalar_judged env d t h))
        (domain_typed n.mode env (cells_typed env r.values r.reads.agree r.reads.typed) d t h ns is)
    by mistyped h = subst (λ s. list_all (is_number_of s) ns ≡ true) (sym (scalar_untyped env d mistyped h refl)) (all_int ns)
    by untyped h = subst (λ s. list_all (is_number_of s) ns ≡ true) (sym (scalar_untyped env d untyped h refl)) (all_int ns)

pub number_next : (n : Numbering) (env : Env) (d : DomainTree) (left behind : List ℤ) (k : ℤ) (s : Scalar) → AreOfScalar n env d left → left ≡ k ∷ behind → s ≡ scalar_in env d
    → Reading n env → is_number_of s k ≡ true
unfolding AreOfScalar
number_next n env d left behind k s h cut scalar r =
    ap (λ t. is_number_of t k) scalar
    ∙ and_left (is_number_of (scalar_in env d) k) (list_all (is_number_of (scalar_in env d)) behind) (subst (λ l. list_all (is_number_of (scalar_in env d)) l ≡ true) cut (h r))

pub numbers_behind : (n : Numbering) (env : Env) (d : DomainTree) (left behind : List ℤ) (k : ℤ) → AreOfScalar n env d left → left ≡ k ∷ behind → AreOfScalar n env d behind
unfolding AreOfScalar
numbers_behind n env d left behind k h cut r =
    and_other (is_number_of (scalar_in env d) k) (list_all (is_number_of (scalar_in env d)) behind) (subst (λ l. list_all (is_number_of (scalar_in env d)) l ≡ true) cut (h r))

number_bound : (s : Scalar) (k : ℤ) → is_number_of s k ≡ true → IsTypedBound (Some (has_value (of_scalar s) (single k)))
unfolding IsTypedBound of_scalar
number_bound Scalar.Bool k h = h
number_bound Scalar.Int k h = h

pub number_typed : (env : Env) (name : Name) (s : Scalar) (k : ℤ) → IsTypedEnv env → is_number_of s k ≡ true → IsTypedEnv (with_number name s k env)
unfolding with_number
number_typed env name s k h is = put_typed env name (has_value (of_scalar s) (single k)) h (number_bound s k is)

-- ---- truth values

bool_judged : (j : Judged) → unwrap_or (type_from j) ValueType.Int ≡ ValueType.Bool → j ≡ typed ValueType.Bool
unfolding type_from
bool_judged (typed t) h = ap typed h
bool_judged mistyped h = absurd cc
bool_judged untyped h = absurd cc

bit_is : (x : ℤ) → is_number_of Scalar.Bool x ≡ true → of_bool (is_one x) ≡ x
unfolding is_number_of is_one of_bool
bit_is x h = by (int_eq x (pos 0)) refl (int_eq x (pos 1)) refl h
  where
    told : (b : Bool) → int_eq x (pos 1) ≡ b → of_bool (int_eq x (pos 1)) ≡ of_bool b
    told b is = ap of_bool is

    by : (a : Bool) → int_eq x (pos 0) ≡ a → (b : Bool) → int_eq x (pos 1) ≡ b → (a || b) ≡ true → of_bool (int_eq x (pos 1)) ≡ x
    by a none true one g = told true one ∙ sym ((Decides-int_eq x (pos 1)).0 one)
    by true none false one g = told false one ∙ sym ((Decides-int_eq x (pos 0)).0 none)
    by false none false one g = absurd cc

-- a truth value that is there is 0 or 1
pub truth_is : (n : Numbering) (env : Env) (r : Reading n env) (e : ExprTree) (x : ℤ) → type_in r.values e ≡ ValueType.Bool → evaluate n.mode r.values e ≡ Some (single x) → of_bool (is_one x) ≡ x
unfolding type_in
truth_is n env r e x ty is = bit_is x (value_typed n.mode r.values r.reads.typed e ValueType.Bool (bool_judged (judge (context_of r.values) e) ty) (single x) is)
