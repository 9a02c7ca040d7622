-- A domain that is bound is of its type, and passes numbers of its scalar alone.
use Rattle.std.specs.Prelude.{◌≡◌, ℕ, suc, ◌+◌, Bool, true, false, not, ◌&&◌, ◌||◌, List, [], ◌∷◌, ◌++◌, length, ℤ, pos, Some, None, Option, option_map, refl}
use Rattle.std.proofs.Common.{ap, arith, subst, sym, ◌∙◌}
use Rattle.std.specs.List.{list_all, list_any}
use Rattle.std.specs.Ordering.{int_eq}
use Rattle.ep_base.proofs.Small.{map_is, no_some, some_is}
use Rattle.ep_base.specs.Numbers.{has_number}
use Rattle.ep_tree.proofs.TypedEvaluation.{domain_typed}
use Rattle.ep_tree.proofs.TypedParts.{and_left, and_right, both_is, from_many_is, from_one_is, gives_is, many_give, truths_differ, typed_is, untyped_is}
use Rattle.ep_tree.specs.Binding.{Shape, element_values, elements_pass, index_domains, indices_bound, listed_domains, numbers_bound, shape_of}
use Rattle.ep_tree.specs.Domains.{set_has, truth_values}
use Rattle.ep_tree.specs.Environments.{Bound, Env, context_of, has_cells, has_domain, has_value, meaning_in, scalar_in, shape_type}
use Rattle.ep_tree.specs.Evaluation.{domain_values}
use Rattle.ep_tree.specs.Trees.{DomainTree, Domains, bool, domain_and, group_domain, int, matrix_domain, named_domain, no_domains, ranges, set_domain}
use Rattle.ep_tree.specs.TypedValues.{IsTypedBound, IsTypedEnv, is_number_of}
use Rattle.ep_tree.specs.Types.{Judged, all_typed, both_scalars, can_index, from_many, from_one, from_two, gives, is_integer, judge_domain, judge_domains, judge_ranges, matrix_type, mistyped, named_domain_type, of_scalar, scalar_of, type_from, typed, untyped}
use Rattle.ep_tree.specs.declared.syntax.SetOp.{SetOp}
use Rattle.ep_tree.specs.declared.values.Mode.{Mode}
use Rattle.ep_tree.specs.declared.values.Scalar.{Scalar}
use Rattle.ep_tree.specs.declared.values.ValueType.{ValueType}

-- ---- scalars and types

scalar_again : (s : Scalar) → scalar_of (of_scalar s) ≡ s
unfolding scalar_of of_scalar
scalar_again Scalar.Bool = refl
scalar_again Scalar.Int = refl

shape_scalar : (s : Scalar) (is : List (List ℤ)) → scalar_of (shape_type s is) ≡ s
unfolding scalar_of of_scalar shape_type
shape_scalar Scalar.Bool [] = refl
shape_scalar Scalar.Int [] = refl
shape_scalar s (i ∷ is) = refl

pub scalar_in_is : (env : Env) (d : DomainTree) (t : ValueType) → judge_domain (context_of env) d ≡ typed t → scalar_in env d ≡ scalar_of t
unfolding scalar_in type_from
scalar_in_is env d t h = rw h refl

-- a set operation has a type by those of its two domains
both_scalar : (i j : Judged) (t : ValueType)
    → from_two i j (λ s u. gives (of_scalar (both_scalars (scalar_of s) (scalar_of u))) (is_integer s && is_integer u)) ≡ typed t
    → (s : ValueType) × (u : ValueType) × (i ≡ typed s) × (j ≡ typed u) × (of_scalar (both_scalars (scalar_of s) (scalar_of u)) ≡ t)
unfolding from_two from_one gives
both_scalar (typed s) (typed u) t h = (s, u, refl, refl, (gives_is (of_scalar (both_scalars (scalar_of s) (scalar_of u))) (is_integer s && is_integer u) t h).0)
both_scalar (typed s) mistyped t h = untyped_is h
both_scalar (typed s) untyped t h = untyped_is h
both_scalar mistyped j t h = untyped_is h
both_scalar untyped j t h = untyped_is h

-- a matrix domain has a type by those of its element domain and of its index domains
matrix_parts : (j : Judged) (js : List Judged) (t : ValueType) → from_one j (λ u. from_many js (λ ts. matrix_type ts u)) ≡ typed t
    → (u : ValueType) × (ts : List ValueType) × (j ≡ typed u) × (all_typed js ≡ Some ts) × (matrix_type ts u ≡ typed t)
matrix_parts j js t h =
    let p : (u : ValueType) × (j ≡ typed u) × (from_many js (λ ts. matrix_type ts u) ≡ typed t) = from_one_is j (λ u. from_many js (λ ts. matrix_type ts u)) t h in
    let q : (ts : List ValueType) × (all_typed js ≡ Some ts) × (matrix_type ts p.0 ≡ typed t) = from_many_is js (λ ts. matrix_type ts p.0) t p.2 in
    (p.0, q.0, p.1, q.1, q.2)

-- the scalar of a matrix domain is that of its elements
matrix_scalar : (ts : List ValueType) (u t : ValueType) → matrix_type ts u ≡ typed t → scalar_of u ≡ scalar_of t
unfolding matrix_type scalar_of
matrix_scalar ts (ValueType.Matrix dims s) t h = ap scalar_of (gives_is (ValueType.Matrix (length ts + dims) s) (can_index ts) t h).0
matrix_scalar ts ValueType.Bool t h = ap scalar_of (gives_is (ValueType.Matrix (length ts) Scalar.Bool) (can_index ts) t h).0
matrix_scalar ts ValueType.Int t h = ap scalar_of (gives_is (ValueType.Matrix (length ts) Scalar.Int) (can_index ts) t h).0
matrix_scalar ts ValueType.Empty t h = ap scalar_of (gives_is (ValueType.Matrix (length ts) Scalar.Bool) (can_index ts) t h).0

-- ---- the type of index domains

-- as many index domains are listed as have types
listed_length : (mode : Mode) (env : Env) (ds : Domains) (ts : List ValueType) (own : List (List ℤ)) → all_typed (judge_domains (context_of env) ds) ≡ Some ts
    → listed_domains mode env ds ≡ Some own → length own ≡ length ts
unfolding listed_domains judge_domains all_typed
listed_length mode env no_domains ts own h e = subst (λ us. length own ≡ length us) (some_is h) (subst (λ xs. length xs ≡ 0) (some_is e) refl)
listed_length mode env (domain_and d ds) ts own h e =
    let p : _ = both_is (domain_values mode env d) (listed_domains mode env ds) (λ xs rest. Some (xs ∷ rest)) own e in
    go p.0 p.1 (some_is p.4) (judge_domain (context_of env) d) h (λ us k. listed_length mode env ds us p.1 k p.3)
  where
    go : (xs : List ℤ) (rest : List (List ℤ)) → xs ∷ rest ≡ own → (j : Judged) → all_typed (j ∷ judge_domains (context_of env) ds) ≡ Some ts
        → ((us : List ValueType) → all_typed (judge_domains (context_of env) ds) ≡ Some us → length rest ≡ length us) → length own ≡ length ts
    go xs rest q (typed t) h ih =
        let m : _ = map_is (λ us. t ∷ us) (all_typed (judge_domains (context_of env) ds)) ts h in
        subst (λ us. length own ≡ length us) m.2 (subst (λ ys. length ys ≡ suc (length m.0)) q (ap suc (ih m.0 m.1)))
    go xs rest q mistyped h ih = no_some h
    go xs rest q untyped h ih = no_some h

-- a shape that has no index domains is no matrix
no_matrix : {B : Type 0} (s r : Scalar) (k : ℕ) → of_scalar s ≡ ValueType.Matrix k r → B
unfolding of_scalar
no_matrix Scalar.Bool r k h = absurd cc
no_matrix Scalar.Int r k h = absurd cc

matrix_dims : {j k : ℕ} {r s : Scalar} → ValueType.Matrix j r ≡ ValueType.Matrix k s → j ≡ k
matrix_dims e = cc

appended : (xs ys : List (List ℤ)) → length (xs ++ ys) ≡ length xs + length ys
appended [] ys = omega arith
appended (x ∷ xs) ys = let e : length (xs ++ ys) ≡ length xs + length ys = appended xs ys in omega (arith, e)

no_inner : (s : Scalar) (x : List ℤ) (xs inner : List (List ℤ)) → shape_type s inner ≡ of_scalar s → shape_type s ((x ∷ xs) ++ inner) ≡ ValueType.Matrix (suc (length xs)) s
unfolding shape_type
no_inner s x xs [] h = ap (λ n. ValueType.Matrix (suc n) s) (let e : length xs + 0 ≡ length xs = omega arith in appended xs [] ∙ e)
no_inner s x xs (i ∷ inner) h = no_matrix s s (suc (length inner)) (sym h)

with_inner : (s : Scalar) (k : ℕ) (x : List ℤ) (xs inner : List (List ℤ)) → shape_type s inner ≡ ValueType.Matrix k s → shape_type s ((x ∷ xs) ++ inner) ≡ ValueType.Matrix (suc (length xs) + k) s
unfolding shape_type
with_inner s k x xs [] h = no_matrix s s k h
with_inner s k x xs (i ∷ inner) h =
    let e : length (xs ++ (i ∷ inner)) ≡ length xs + suc (length inner) = appended xs (i ∷ inner) in
    let d : suc (length inner) ≡ k = matrix_dims h in
    ap (λ n. ValueType.Matrix n s) (omega (arith, e, d))

no_empty : {B : Type 0} (is : List (List ℤ)) → shape_type Scalar.Bool is ≡ ValueType.Empty → B
unfolding shape_type of_scalar
no_empty [] h = absurd cc
no_empty (i ∷ is) h = absurd cc

-- own index domains before those of the elements
joined_shape : (own inner : List (List ℤ)) (ts : List ValueType) (u t : ValueType) → length own ≡ length ts → matrix_type ts u ≡ typed t
    → shape_type (scalar_of u) inner ≡ u → shape_type (scalar_of u) (own ++ inner) ≡ t
unfolding matrix_type scalar_of of_scalar can_index
joined_shape own inner [] (ValueType.Matrix dims s) t l h k = truths_differ (gives_is (ValueType.Matrix (0 + dims) s) false t h).1
joined_shape own inner [] ValueType.Bool t l h k = truths_differ (gives_is (ValueType.Matrix 0 Scalar.Bool) false t h).1
joined_shape own inner [] ValueType.Int t l h k = truths_differ (gives_is (ValueType.Matrix 0 Scalar.Int) false t h).1
joined_shape own inner [] ValueType.Empty t l h k = truths_differ (gives_is (ValueType.Matrix 0 Scalar.Bool) false t h).1
joined_shape [] inner (r ∷ ts) u t l h k = absurd (omega (arith, l))
joined_shape (x ∷ own) inner (r ∷ ts) (ValueType.Matrix dims s) t l h k =
    with_inner s dims x own inner k ∙ ap (λ n. ValueType.Matrix (n + dims) s) l ∙ (gives_is (ValueType.Matrix (length (r ∷ ts) + dims) s) (list_all is_integer (r ∷ ts)) t h).0
joined_shape (x ∷ own) inner (r ∷ ts) ValueType.Bool t l h k =
    no_inner Scalar.Bool x own inner k ∙ ap (λ n. ValueType.Matrix n Scalar.Bool) l ∙ (gives_is (ValueType.Matrix (length (r ∷ ts)) Scalar.Bool) (list_all is_integer (r ∷ ts)) t h).0
joined_shape (x ∷ own) inner (r ∷ ts) ValueType.Int t l h k =
    no_inner Scalar.Int x own inner k ∙ ap (λ n. ValueType.Matrix n Scalar.Int) l ∙ (gives_is (ValueType.Matrix (length (r ∷ ts)) Scalar.Int) (list_all is_integer (r ∷ ts)) t h).0
joined_shape (x ∷ own) inner (r ∷ ts) ValueType.Empty t l h k = no_empty inner k

matrix_shape : (own inner : List (List ℤ)) (ts : List ValueType) (u t : ValueType) → length own ≡ length ts → matrix_type ts u ≡ typed t
    → shape_type (scalar_of u) inner ≡ u → shape_type (scalar_of t) (own ++ inner) ≡ t
matrix_shape own inner ts u t l h k =
    subst (λ s. shape_type s (own ++ inner) ≡ t) (matrix_scalar ts u t h) (joined_shape own inner ts u t l h k)

named_shape : (bound : Option Bound) (t : ValueType) (is : List (List ℤ)) → named_domain_type (option_map meaning_in bound) ≡ typed t → indices_bound bound ≡ Some is
    → shape_type (scalar_of t) is ≡ t
unfolding named_domain_type meaning_in indices_bound
named_shape None t is h e = no_some e
named_shape (Some (has_value s v)) t is h e = no_some e
named_shape (Some (has_cells s js vs)) t is h e = no_some e
named_shape (Some (has_domain s js vs)) t is h e =
    subst (λ u. shape_type (scalar_of u) is ≡ u) (typed_is h)
    (subst (λ ks. shape_type (scalar_of (shape_type s js)) ks ≡ shape_type s js) (some_is e) (ap (λ r. shape_type r js) (shape_scalar s js)))

int_alone : shape_type (scalar_of ValueType.Int) [] ≡ ValueType.Int
unfolding shape_type scalar_of of_scalar
int_alone = refl

bool_alone : shape_type (scalar_of ValueType.Bool) [] ≡ ValueType.Bool
unfolding shape_type scalar_of of_scalar
bool_alone = refl

scalar_alone : (s : Scalar) → shape_type (scalar_of (of_scalar s)) [] ≡ of_scalar s
unfolding shape_type
scalar_alone s = ap of_scalar (scalar_again s)

-- The index domains of a domain with its scalar make its type.
pub indices_typed : (mode : Mode) (env : Env) (d : DomainTree) (t : ValueType) → judge_domain (context_of env) d ≡ typed t
    → (is : List (List ℤ)) → index_domains mode env d ≡ Some is → shape_type (scalar_of t) is ≡ t
unfolding judge_domain index_domains context_of
indices_typed mode env (bool p) t h is e =
    subst (λ u. shape_type (scalar_of u) is ≡ u) (typed_is h) (subst (λ ks. shape_type (scalar_of ValueType.Bool) ks ≡ ValueType.Bool) (some_is e) bool_alone)
indices_typed mode env (int p) t h is e =
    subst (λ u. shape_type (scalar_of u) is ≡ u) (typed_is h) (subst (λ ks. shape_type (scalar_of ValueType.Int) ks ≡ ValueType.Int) (some_is e) int_alone)
indices_typed mode env (ranges p rs) t h is e =
    subst (λ u. shape_type (scalar_of u) is ≡ u) (many_give (judge_ranges (context_of env) rs) ValueType.Int t (list_all is_integer) h)
    (subst (λ ks. shape_type (scalar_of ValueType.Int) ks ≡ ValueType.Int) (some_is e) int_alone)
indices_typed mode env (named_domain p name) t h is e = named_shape (env name) t is h e
indices_typed mode env (group_domain p d) t h is e =
    let q : _ = from_one_is (judge_domain (context_of env) d) (λ u. typed u) t h in
    indices_typed mode env d t (q.1 ∙ q.2) is e
indices_typed mode env (set_domain p op c d) t h is e =
    let q : _ = both_scalar (judge_domain (context_of env) c) (judge_domain (context_of env) d) t h in
    subst (λ u. shape_type (scalar_of u) is ≡ u) q.4 (subst (λ ks. shape_type (scalar_of (of_scalar (both_scalars (scalar_of q.0) (scalar_of q.1)))) ks ≡ of_scalar (both_scalars (scalar_of q.0) (scalar_of q.1))) (some_is e)
    (scalar_alone (both_scalars (scalar_of q.0) (scalar_of q.1))))
indices_typed mode env (matrix_domain p ds d) t h is e =
    let q : _ = matrix_parts (judge_domain (context_of env) d) (judge_domains (context_of env) ds) t h in
    let b : _ = both_is (listed_domains mode env ds) (index_domains mode env d) (λ own inner. Some (own ++ inner)) is e in
    subst (λ ks. shape_type (scalar_of t) ks ≡ t) (some_is b.4)
    (matrix_shape b.0 b.1 q.1 q.0 t (listed_length mode env ds q.1 b.0 q.3 b.2) q.4 (indices_typed mode env d q.0 q.2 b.1 b.3))

-- a shape by its parts
pub shape_parts : (mode : Mode) (env : Env) (d : DomainTree) (shape : Shape) → shape_of mode env d ≡ Some shape
    → (index_domains mode env d ≡ Some shape.indices) × (elements_pass mode env d ≡ Some shape.passes) × (scalar_in env d ≡ shape.scalar) × (element_values mode env d ≡ shape.values)
unfolding shape_of
shape_parts mode env d shape e =
    let p : _ = both_is (index_domains mode env d) (elements_pass mode env d) (λ indices passes. Some (record { scalar = scalar_in env d; indices = indices; passes = passes; values = element_values mode env d })) shape e in
    let same : _ = some_is p.4 in
    (p.2 ∙ ap (λ s. Some s.indices) same, p.3 ∙ ap (λ s. Some s.passes) same, ap (λ s. s.scalar) same, ap (λ s. s.values) same)

-- A domain that is bound is of its type.
pub shape_typed : (mode : Mode) (env : Env) (d : DomainTree) (t : ValueType) → judge_domain (context_of env) d ≡ typed t
    → (shape : Shape) → shape_of mode env d ≡ Some shape → shape_type shape.scalar shape.indices ≡ t
shape_typed mode env d t h shape e =
    let p : _ = shape_parts mode env d shape e in
    subst (λ s. shape_type s shape.indices ≡ t) (sym (scalar_in_is env d t h) ∙ p.2) (indices_typed mode env d t h shape.indices p.0)

-- ---- what passes

is_int : (n : ℤ) → is_number_of Scalar.Int n ≡ true
unfolding is_number_of
is_int n = refl

int_scalar : (n : ℤ) → is_number_of (scalar_of ValueType.Int) n ≡ true
unfolding scalar_of is_number_of
int_scalar n = refl

bool_scalar : (n : ℤ) → is_number_of Scalar.Bool n ≡ true → is_number_of (scalar_of ValueType.Bool) n ≡ true
unfolding scalar_of
bool_scalar n r = r

bit_is : (n : ℤ) → has_number truth_values n ≡ true → is_number_of Scalar.Bool n ≡ true
unfolding has_number is_number_of
bit_is n h = go (int_eq n (pos 0)) (int_eq n (pos 1)) h
  where
    go : (a b : Bool) → (a || (b || false)) ≡ true → (a || b) ≡ true
    go true b h = refl
    go false true h = refl
    go false false h = truths_differ h

-- a number of a list of numbers of a scalar is of the scalar
one_of : (s : Scalar) (n : ℤ) (ns : List ℤ) → list_all (is_number_of s) ns ≡ true → has_number ns n ≡ true → is_number_of s n ≡ true
unfolding has_number
one_of s n [] h e = truths_differ e
one_of s n (m ∷ ns) h e = go (int_eq n m) refl e (one_of s n ns (and_right (is_number_of s m) (list_all (is_number_of s) ns) h))
  where
    go : (b : Bool) → int_eq n m ≡ b → (b || list_any (λ y. int_eq n y) ns) ≡ true → (list_any (λ y. int_eq n y) ns ≡ true → is_number_of s n ≡ true) → is_number_of s n ≡ true
    go true q e ih = let same : m ≡ n = grind arith in subst (λ x. is_number_of s x ≡ true) same (and_left (is_number_of s m) (list_all (is_number_of s) ns) h)
    go false q e ih = ih e

named_passes : (bound : Option Bound) (t : ValueType) (passes : ℤ → Bool) → IsTypedBound bound → named_domain_type (option_map meaning_in bound) ≡ typed t
    → option_map has_number (numbers_bound bound) ≡ Some passes → (n : ℤ) → passes n ≡ true → is_number_of (scalar_of t) n ≡ true
unfolding IsTypedBound named_domain_type meaning_in numbers_bound
named_passes None t passes k h e n q = no_some e
named_passes (Some (has_value s v)) t passes k h e n q = no_some e
named_passes (Some (has_cells s is vs)) t passes k h e n q = no_some e
named_passes (Some (has_domain s is vs)) t passes k h e n q =
    subst (λ r. is_number_of r n ≡ true) (sym (shape_scalar s is) ∙ ap scalar_of (typed_is h))
    (one_of s n vs k (ap (λ f. f n) (some_is e) ∙ q))

set_passes : (op : SetOp) (a b : Scalar) (n : ℤ) (p q : Bool) → (p ≡ true → is_number_of a n ≡ true) → (q ≡ true → is_number_of b n ≡ true)
    → set_has op p q ≡ true → is_number_of (both_scalars a b) n ≡ true
unfolding both_scalars set_has
set_passes op Scalar.Int b n p q f g h = is_int n
set_passes op Scalar.Bool Scalar.Int n p q f g h = is_int n
set_passes SetOp.Union Scalar.Bool Scalar.Bool n true q f g h = f refl
set_passes SetOp.Union Scalar.Bool Scalar.Bool n false q f g h = g h
set_passes SetOp.Intersect Scalar.Bool Scalar.Bool n p q f g h = f (and_left p q h)
set_passes SetOp.Minus Scalar.Bool Scalar.Bool n p q f g h = f (and_left p (not q) h)

-- The numbers that a domain's elements may be are of its scalar.
pub elements_typed : (mode : Mode) (env : Env) → IsTypedEnv env → (d : DomainTree) (t : ValueType) → judge_domain (context_of env) d ≡ typed t
    → (passes : ℤ → Bool) → elements_pass mode env d ≡ Some passes → (n : ℤ) → passes n ≡ true → is_number_of (scalar_of t) n ≡ true
unfolding judge_domain elements_pass context_of
elements_typed mode env k (bool p) t h passes e n q =
    subst (λ u. is_number_of (scalar_of u) n ≡ true) (typed_is h) (bool_scalar n (bit_is n (ap (λ f. f n) (some_is e) ∙ q)))
elements_typed mode env k (int p) t h passes e n q = subst (λ u. is_number_of (scalar_of u) n ≡ true) (typed_is h) (int_scalar n)
elements_typed mode env k (ranges p rs) t h passes e n q =
    subst (λ u. is_number_of (scalar_of u) n ≡ true) (many_give (judge_ranges (context_of env) rs) ValueType.Int t (list_all is_integer) h) (int_scalar n)
elements_typed mode env k (named_domain p name) t h passes e n q = named_passes (env name) t passes (k name) h e n q
elements_typed mode env k (group_domain p d) t h passes e n q =
    let r : _ = from_one_is (judge_domain (context_of env) d) (λ u. typed u) t h in
    elements_typed mode env k d t (r.1 ∙ r.2) passes e n q
elements_typed mode env k (set_domain p op c d) t h passes e n q =
    let r : _ = both_scalar (judge_domain (context_of env) c) (judge_domain (context_of env) d) t h in
    let b : _ = both_is (elements_pass mode env c) (elements_pass mode env d) (λ one other. Some (λ x. set_has op (one x) (other x))) passes e in
    subst (λ s. is_number_of s n ≡ true) (sym (scalar_again (both_scalars (scalar_of r.0) (scalar_of r.1))) ∙ ap scalar_of r.4)
    (set_passes op (scalar_of r.0) (scalar_of r.1) n (b.0 n) (b.1 n)
    (elements_typed mode env k c r.0 r.2 b.0 b.2 n) (elements_typed mode env k d r.1 r.3 b.1 b.3 n)
    (ap (λ f. f n) (some_is b.4) ∙ q))
elements_typed mode env k (matrix_domain p ds d) t h passes e n q =
    let r : _ = matrix_parts (judge_domain (context_of env) d) (judge_domains (context_of env) ds) t h in
    subst (λ s. is_number_of s n ≡ true) (matrix_scalar r.1 r.0 t r.4) (elements_typed mode env k d r.0 r.2 passes e n q)

-- What passes a domain that is bound is of its scalar.
pub shape_passes : (mode : Mode) (env : Env) → IsTypedEnv env → (d : DomainTree) (t : ValueType) → judge_domain (context_of env) d ≡ typed t
    → (shape : Shape) → shape_of mode env d ≡ Some shape → (n : ℤ) → shape.passes n ≡ true → is_number_of shape.scalar n ≡ true
shape_passes mode env k d t h shape e n q =
    let p : _ = shape_parts mode env d shape e in
    subst (λ s. is_number_of s n ≡ true) (sym (scalar_in_is env d t h) ∙ p.2) (elements_typed mode env k d t h shape.passes p.1 n q)

-- ---- what is listed

named_lists : (bound : Option Bound) (t : ValueType) (values : List ℤ) → IsTypedBound bound → named_domain_type (option_map meaning_in bound) ≡ typed t
    → numbers_bound bound ≡ Some values → list_all (is_number_of (scalar_of t)) values ≡ true
unfolding IsTypedBound named_domain_type meaning_in numbers_bound
named_lists None t values k h e = no_some e
named_lists (Some (has_value s v)) t values k h e = no_some e
named_lists (Some (has_cells s is vs)) t values k h e = no_some e
named_lists (Some (has_domain s is vs)) t values k h e =
    subst (λ r. list_all (is_number_of r) values ≡ true) (sym (shape_scalar s is) ∙ ap scalar_of (typed_is h))
    (subst (λ ns. list_all (is_number_of s) ns ≡ true) (some_is e) k)

pub values_typed : (mode : Mode) (env : Env) → IsTypedEnv env → (d : DomainTree) (t : ValueType) → judge_domain (context_of env) d ≡ typed t
    → (values : List ℤ) → element_values mode env d ≡ Some values → list_all (is_number_of (scalar_of t)) values ≡ true
unfolding judge_domain element_values context_of
values_typed mode env k (bool p) t h values e = domain_typed mode env k (bool p) t h values e
values_typed mode env k (int p) t h values e = domain_typed mode env k (int p) t h values e
values_typed mode env k (ranges p rs) t h values e = domain_typed mode env k (ranges p rs) t h values e
values_typed mode env k (named_domain p name) t h values e = named_lists (env name) t values (k name) h e
values_typed mode env k (group_domain p d) t h values e =
    let r : _ = from_one_is (judge_domain (context_of env) d) (λ u. typed u) t h in
    values_typed mode env k d t (r.1 ∙ r.2) values e
values_typed mode env k (set_domain p op c d) t h values e = domain_typed mode env k (set_domain p op c d) t h values e
values_typed mode env k (matrix_domain p ds d) t h values e =
    let r : _ = matrix_parts (judge_domain (context_of env) d) (judge_domains (context_of env) ds) t h in
    subst (λ s. list_all (is_number_of s) values ≡ true) (matrix_scalar r.1 r.0 t r.4) (values_typed mode env k d r.0 r.2 values e)

-- The numbers that a domain lists, once it is bound, are of its scalar.
pub shape_lists : (mode : Mode) (env : Env) → IsTypedEnv env → (d : DomainTree) (t : ValueType) → judge_domain (context_of env) d ≡ typed t
    → (shape : Shape) → shape_of mode env d ≡ Some shape → (values : List ℤ) → shape.values ≡ Some values → list_all (is_number_of shape.scalar) values ≡ true
shape_lists mode env k d t h shape e values q =
    let p : _ = shape_parts mode env d shape e in
    subst (λ s. list_all (is_number_of s) values ≡ true) (sym (scalar_in_is env d t h) ∙ p.2) (values_typed mode env k d t h values (p.3 ∙ q))
