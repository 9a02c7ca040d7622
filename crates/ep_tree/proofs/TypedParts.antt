-- What typing and evaluation say of the parts of a node, and which parts a value of a type has.
use Rattle.std.specs.Prelude.{◌≡◌, ℕ, zero, suc, ◌+◌, ◌-◌, ◌≤◌, Bool, true, false, ◌&&◌, List, [], ◌∷◌, ◌++◌, map, length, ℤ, pos, ◌+ℤ◌, if◌then◌else◌, ◌==◌, Some, None, Option, option_map, refl}
use Rattle.std.proofs.Common.{ap, arith, subst, sym, ◌∙◌}
use Rattle.std.specs.List.{list_all}
use Rattle.std.specs.Ordering.{int_eq}
pub use Rattle.ep_base.proofs.Small.{map_is, no_some, some_is, then_is}
use Rattle.ep_base.specs.Numbers.{of_bool}
use Rattle.ep_base.specs.Options.{map_both, on_both}
use Rattle.ep_base.specs.Runs.{counting}
use Rattle.ep_tree.specs.Evaluation.{truth_in, undefined_truth}
use Rattle.ep_tree.specs.TypedValues.{AreOfDims, IsOf, IsOfDims, is_number_of}
use Rattle.ep_tree.specs.Types.{Judged, all_typed, from_all, from_many, from_one, from_three, from_two, gives, has_dimensions, is_bool_scalar, is_boolean, is_integer, is_matrix, is_matrix_of_bool, list_of_matrices, list_type, mistyped, scalar_of, stated_dimensions, typed, untyped}
use Rattle.ep_tree.specs.Values.{Index, ValueTree, ValueTrees, all_defined, any_index, as_parts, at_index, list_value, listed_values, matrix, no_values, part_at, read_value, scalars_of, scalars_of_all, single, value_and}
use Rattle.ep_tree.specs.declared.values.Mode.{Mode}
use Rattle.ep_tree.specs.declared.values.Scalar.{Scalar}
use Rattle.ep_tree.specs.declared.values.ValueType.{ValueType}

-- ---- what `Some`, `typed` and the answers without a value say

pub typed_is : {s t : ValueType} → typed s ≡ typed t → s ≡ t
typed_is e = cc

pub untyped_is : {B : Type 0} {t : ValueType} → untyped ≡ typed t → B
untyped_is e = absurd cc

pub mistyped_is : {B : Type 0} {t : ValueType} → mistyped ≡ typed t → B
mistyped_is e = absurd cc

pub truths_differ : {B : Type 0} → false ≡ true → B
truths_differ e = absurd cc

-- ---- nodes that have a type, by their parts

pub from_one_is : (j : Judged) (rule : ValueType → Judged) (t : ValueType) → from_one j rule ≡ typed t
    → (s : ValueType) × (j ≡ typed s) × (rule s ≡ typed t)
unfolding from_one
from_one_is (typed s) rule t h = (s, refl, h)
from_one_is mistyped rule t h = untyped_is h
from_one_is untyped rule t h = untyped_is h

pub gives_is : (r : ValueType) (c : Bool) (t : ValueType) → gives r c ≡ typed t → (r ≡ t) × (c ≡ true)
unfolding gives
gives_is r true t h = (typed_is h, refl)
gives_is r false t h = mistyped_is h

pub from_many_is :
    (js : List Judged) (rule : List ValueType → Judged) (t : ValueType) → from_many js rule ≡ typed t
    → (ts : List ValueType) × (all_typed js ≡ Some ts) × (rule ts ≡ typed t)
unfolding from_many from_all
from_many_is js rule t h = go (all_typed js) refl h
  where
    go : (o : Option (List ValueType)) → all_typed js ≡ o → from_all o rule ≡ typed t
        → (ts : List ValueType) × (all_typed js ≡ Some ts) × (rule ts ≡ typed t)
    go None p h = untyped_is h
    go (Some ts) p h = (ts, p, h)

-- one part: a node whose rule gives a type has that type
pub one_gives : (j : Judged) (r t : ValueType) (c : ValueType → Bool) → from_one j (λ s. gives r (c s)) ≡ typed t → r ≡ t
one_gives j r t c h = let p : _ = from_one_is j (λ s. gives r (c s)) t h in (gives_is r (c p.0) t p.2).0

pub two_give : (i j : Judged) (r t : ValueType) (c : ValueType → ValueType → Bool) → from_two i j (λ s u. gives r (c s u)) ≡ typed t → r ≡ t
unfolding from_two
two_give i j r t c h =
    let p : (s : ValueType) × (i ≡ typed s) × (from_one j (λ u. gives r (c s u)) ≡ typed t) = from_one_is i (λ s. from_one j (λ u. gives r (c s u))) t h in
    one_gives j r t (c p.0) p.2

pub three_give : (i j k : Judged) (r t : ValueType) (c : ValueType → ValueType → ValueType → Bool) → from_three i j k (λ s u w. gives r (c s u w)) ≡ typed t → r ≡ t
unfolding from_three
three_give i j k r t c h =
    let p : (s : ValueType) × (i ≡ typed s) × (from_two j k (λ u w. gives r (c s u w)) ≡ typed t) = from_one_is i (λ s. from_two j k (λ u w. gives r (c s u w))) t h in
    two_give j k r t (c p.0) p.2

pub many_give : (js : List Judged) (r t : ValueType) (c : List ValueType → Bool) → from_many js (λ ts. gives r (c ts)) ≡ typed t → r ≡ t
many_give js r t c h = let p : _ = from_many_is js (λ ts. gives r (c ts)) t h in (gives_is r (c p.0) t p.2).0

-- ---- values by the values of parts

pub both_is : {A B C : Type 0} (a : Option A) (b : Option B) (f : A → B → Option C) (v : C) → on_both a b f ≡ Some v
    → (x : A) × (y : B) × (a ≡ Some x) × (b ≡ Some y) × (f x y ≡ Some v)
unfolding on_both
both_is None b f v e = no_some e
both_is (Some x) None f v e = no_some e
both_is (Some x) (Some y) f v e = (x, y, refl, refl, e)

pub map_both_is : {A B C : Type 0} (f : A → B → C) (a : Option A) (b : Option B) (v : C) → map_both f a b ≡ Some v
    → (x : A) × (y : B) × (a ≡ Some x) × (b ≡ Some y) × (f x y ≡ v)
unfolding map_both
map_both_is f None b v e = no_some e
map_both_is f (Some x) None v e = no_some e
map_both_is f (Some x) (Some y) v e = (x, y, refl, refl, some_is e)

pub truth_is : (mode : Mode) (o : Option Bool) (v : ValueTree) → truth_in mode o ≡ Some v → IsOfDims Scalar.Bool 0 v
unfolding truth_in undefined_truth of_bool is_number_of
truth_is Mode.Relational None v e = subst (λ w. IsOfDims Scalar.Bool 0 w) (some_is e) refl
truth_is Mode.Strict None v e = no_some e
truth_is mode (Some true) v e = subst (λ w. IsOfDims Scalar.Bool 0 w) (some_is e) refl
truth_is mode (Some false) v e = subst (λ w. IsOfDims Scalar.Bool 0 w) (some_is e) refl

pub number_is : (o : Option ℤ) (v : ValueTree) → option_map single o ≡ Some v → IsOfDims Scalar.Int 0 v
unfolding is_number_of
number_is None v e = no_some e
number_is (Some n) v e = subst (λ w. IsOfDims Scalar.Int 0 w) (some_is e) refl

-- a Boolean is an integer, and a matrix of Booleans one of integers
mutual
  unfolding is_number_of

  pub dims_as_int : (k : ℕ) (v : ValueTree) → IsOfDims Scalar.Bool k v → IsOfDims Scalar.Int k v
  dims_as_int zero (single n) h = refl
  dims_as_int zero (matrix is ps) h = absurd h
  dims_as_int (suc k) (single n) h = absurd h
  dims_as_int (suc k) (matrix is ps) h = (h.0, parts_as_int k ps h.1)

  pub parts_as_int : (k : ℕ) (vs : ValueTrees) → AreOfDims Scalar.Bool k vs → AreOfDims Scalar.Int k vs
  parts_as_int k no_values h = tt
  parts_as_int k (value_and v vs) h = (dims_as_int k v h.0, parts_as_int k vs h.1)

-- a Boolean or integer value is an integer
pub integer_is : (s : ValueType) (v : ValueTree) → is_integer s ≡ true → IsOf s v → IsOfDims Scalar.Int 0 v
unfolding is_integer
integer_is ValueType.Bool v c h = dims_as_int 0 v h
integer_is ValueType.Int v c h = h
integer_is (ValueType.Matrix k s) v c h = truths_differ c
integer_is ValueType.Empty v c h = truths_differ c

pub boolean_is : (s : ValueType) (v : ValueTree) → is_boolean s ≡ true → IsOf s v → IsOfDims Scalar.Bool 0 v
unfolding is_boolean
boolean_is ValueType.Bool v c h = h
boolean_is ValueType.Int v c h = truths_differ c
boolean_is (ValueType.Matrix k s) v c h = truths_differ c
boolean_is ValueType.Empty v c h = truths_differ c

-- ---- lists of numbers and of values

and_both : (a b : Bool) → a ≡ true → b ≡ true → (a && b) ≡ true
and_both true b p q = q
and_both false b p q = truths_differ p

pub and_left : (a b : Bool) → (a && b) ≡ true → a ≡ true
and_left true b p = refl
and_left false b p = truths_differ p

pub and_right : (a b : Bool) → (a && b) ≡ true → b ≡ true
and_right true b p = p
and_right false b p = truths_differ p

all_append : (f : ℤ → Bool) (xs ys : List ℤ) → list_all f xs ≡ true → list_all f ys ≡ true → list_all f (xs ++ ys) ≡ true
all_append f [] ys p q = q
all_append f (x ∷ xs) ys p q = and_both (f x) (list_all f (xs ++ ys)) (and_left (f x) (list_all f xs) p) (all_append f xs ys (and_right (f x) (list_all f xs) p) q)

mutual
  unfolding scalars_of

  pub scalars_are : (s : Scalar) (k : ℕ) (v : ValueTree) → IsOfDims s k v → list_all (is_number_of s) (scalars_of v) ≡ true
  scalars_are s zero (single n) h = and_both (is_number_of s n) true h refl
  scalars_are s zero (matrix is ps) h = absurd h
  scalars_are s (suc k) (single n) h = absurd h
  scalars_are s (suc k) (matrix is ps) h = scalars_of_parts s k ps h.1

  pub scalars_of_parts : (s : Scalar) (k : ℕ) (vs : ValueTrees) → AreOfDims s k vs → list_all (is_number_of s) (scalars_of_all vs) ≡ true
  scalars_of_parts s k no_values h = refl
  scalars_of_parts s k (value_and v vs) h =
      all_append (is_number_of s) (scalars_of v) (scalars_of_all vs) (scalars_are s k v h.0) (scalars_of_parts s k vs h.1)

pub listed-as_parts : (vs : List ValueTree) → listed_values (as_parts vs) ≡ vs
unfolding listed_values as_parts
listed-as_parts [] = refl
listed-as_parts (v ∷ vs) = ap (λ ws. v ∷ ws) (listed-as_parts vs)

length-counting : (a : ℤ) (n : ℕ) → length (counting a n) ≡ n
unfolding counting
length-counting a zero = refl
length-counting a (suc n) = ap suc (length-counting (a +ℤ pos 1) n)

length-singles : (ns : List ℤ) → length (map single ns) ≡ length ns
length-singles [] = refl
length-singles (n ∷ ns) = ap suc (length-singles ns)

singles_are : (s : Scalar) (ns : List ℤ) → list_all (is_number_of s) ns ≡ true → AreOfDims s 0 (as_parts (map single ns))
unfolding as_parts
singles_are s [] h = tt
singles_are s (n ∷ ns) h = (and_left (is_number_of s n) (list_all (is_number_of s) ns) h, singles_are s ns (and_right (is_number_of s n) (list_all (is_number_of s) ns) h))

-- numbers as a matrix of one dimension
pub list_value_is : (s : Scalar) (ns : List ℤ) → list_all (is_number_of s) ns ≡ true → IsOfDims s 1 (list_value ns)
unfolding list_value
list_value_is s ns h =
    (length-counting (pos 1) (length ns) ∙ sym (ap length (listed-as_parts (map single ns)) ∙ length-singles ns), singles_are s ns h)

-- the numbers of a value of a matrix type
pub matrix_scalars : (t : ValueType) (v : ValueTree) → is_matrix t ≡ true → IsOf t v → list_all (is_number_of (scalar_of t)) (scalars_of v) ≡ true
unfolding is_matrix is_integer scalar_of scalars_of
matrix_scalars ValueType.Bool v c h = truths_differ c
matrix_scalars ValueType.Int v c h = truths_differ c
matrix_scalars (ValueType.Matrix zero s) v c h = absurd h
matrix_scalars (ValueType.Matrix (suc k) s) v c h = scalars_are s (suc k) v h
matrix_scalars ValueType.Empty v c h = subst (λ w. list_all (is_number_of Scalar.Bool) (scalars_of w) ≡ true) (sym h) refl

-- ---- reads

-- how many indices are stated
unfoldable pub stated : List Index → ℕ
stated [] = 0
stated (at_index i ∷ is) = suc (stated is)
stated (any_index ∷ is) = stated is

pub stated-most : (is : List Index) → stated is ≤ length is
unfolding stated
stated-most [] = omega arith
stated-most (at_index i ∷ is) = omega (arith, stated-most is)
stated-most (any_index ∷ is) = omega (arith, stated-most is)

part_at_is : (s : Scalar) (k : ℕ) (is : List ℤ) (ps : ValueTrees) (i : ℤ) (v : ValueTree) → AreOfDims s k ps → part_at is ps i ≡ Some v → IsOfDims s k v
unfolding part_at
part_at_is s k [] ps i v h e = no_some e
part_at_is s k (j ∷ js) no_values i v h e = no_some e
part_at_is s k (j ∷ js) (value_and w ws) i v h e = go (int_eq i j) e (part_at_is s k js ws i v h.1)
  where
    go : (same : Bool) → (if same then Some w else part_at js ws i) ≡ Some v → (part_at js ws i ≡ Some v → IsOfDims s k v) → IsOfDims s k v
    go true e ih = subst (λ x. IsOfDims s k x) (some_is e) h.0
    go false e ih = ih e

defined_length : {A : Type 0} (os : List (Option A)) (xs : List A) → all_defined os ≡ Some xs → length xs ≡ length os
unfolding all_defined
defined_length [] xs e = subst (λ ys. length ys ≡ 0) (some_is e) refl
defined_length (None ∷ os) xs e = no_some e
defined_length (Some o ∷ os) xs e =
    let p : _ = map_is (λ ys. o ∷ ys) (all_defined os) xs e in
    subst (λ ys. length ys ≡ suc (length os)) p.2 (ap suc (defined_length os p.0 p.1))

length-map : {A B : Type 0} (f : A → B) (xs : List A) → length (map f xs) ≡ length xs
length-map f [] = refl
length-map f (x ∷ xs) = ap suc (length-map f xs)

-- each part of a matrix, read further
read_parts : (s : Scalar) (k n : ℕ) (f : ValueTree → Option ValueTree) (ps : ValueTrees) (vs : List ValueTree)
    → ((v w : ValueTree) → IsOfDims s k v → f v ≡ Some w → IsOfDims s n w) → AreOfDims s k ps
    → all_defined (map f (listed_values ps)) ≡ Some vs → AreOfDims s n (as_parts vs)
unfolding all_defined listed_values as_parts
read_parts s k n f no_values vs each h e = subst (λ ws. AreOfDims s n (as_parts ws)) (some_is e) tt
read_parts s k n f (value_and p ps) vs each h e = go (f p) refl (λ ws. read_parts s k n f ps ws each h.1) e
  where
    go : (o : Option ValueTree) → f p ≡ o
        → ((ws : List ValueTree) → all_defined (map f (listed_values ps)) ≡ Some ws → AreOfDims s n (as_parts ws))
        → all_defined (o ∷ map f (listed_values ps)) ≡ Some vs → AreOfDims s n (as_parts vs)
    go None q ih e = no_some e
    go (Some w) q ih e =
        let r : _ = map_is (λ ys. w ∷ ys) (all_defined (map f (listed_values ps))) vs e in
        subst (λ ws. AreOfDims s n (as_parts ws)) r.2 (each p w h.0 q, ih r.0 r.1)

-- What a read gives has the dimensions that are left.
pub read_is : (s : Scalar) (is : List Index) (k : ℕ) (v w : ValueTree) → length is ≤ k → IsOfDims s k v → read_value is v ≡ Some w
    → IsOfDims s (k - stated is) w
unfolding read_value stated
read_is s [] k v w b h e = let same : k - 0 ≡ k = omega arith in rw same (subst (λ x. IsOfDims s k x) (some_is e) h)
read_is s (at_index i ∷ is) zero v w b h e = absurd (omega (arith, b))
read_is s (any_index ∷ is) zero v w b h e = absurd (omega (arith, b))
read_is s (at_index i ∷ is) (suc k) (single n) w b h e = absurd h
read_is s (any_index ∷ is) (suc k) (single n) w b h e = absurd h
read_is s (at_index i ∷ is) (suc k) (matrix indices parts) w b h e =
    let p : _ = then_is (read_value is) (part_at indices parts i) w e in
    let less : suc k - suc (stated is) ≡ k - stated is = omega arith in
    rw less (read_is s is k p.0 w (omega (arith, b)) (part_at_is s k indices parts i p.0 h.1 p.1) p.2)
read_is s (any_index ∷ is) (suc k) (matrix indices parts) w b h e =
    let p : _ = map_is (λ vs. matrix indices (as_parts vs)) (all_defined (map (read_value is) (listed_values parts))) w e in
    let more : suc k - stated is ≡ suc (k - stated is) = omega (arith, b, stated-most is) in
    rw more (subst (λ x. IsOfDims s (suc (k - stated is)) x) p.2 (
      h.0 ∙ sym (ap length (listed-as_parts p.0) ∙ defined_length (map (read_value is) (listed_values parts)) p.0 p.1 ∙ length-map (read_value is) (listed_values parts)),
      read_parts s k (k - stated is) (read_value is) parts p.0 (λ x y hx ex. read_is s is k x y (omega (arith, b)) hx ex) h.1 p.1,
    ))

-- ---- lists

-- values of types, one of each
abbrev pub AllOf : List ValueType → List ValueTree → Type 0
AllOf [] [] = Unit {0}
AllOf [] (v ∷ vs) = ⊥
AllOf (t ∷ ts) [] = ⊥
AllOf (t ∷ ts) (v ∷ vs) = IsOf t v × AllOf ts vs

-- values of a type
abbrev pub EachOf : ValueType → List ValueTree → Type 0
EachOf t [] = Unit {0}
EachOf t (v ∷ vs) = IsOf t v × EachOf t vs

-- no parts, and no indices
pub empty_matrix : (is : List ℤ) → length is ≡ 0 → ◌≡◌ {A = ValueTree} (matrix is no_values) (matrix [] no_values)
empty_matrix [] h = refl
empty_matrix (i ∷ is) h = absurd cc

-- integers as numbers of a scalar that all of them may be
integers_are : (s : Scalar) (ts : List ValueType) (vs : List ValueTree) → list_all is_integer ts ≡ true
    → ((s ≡ Scalar.Bool) → list_all is_boolean ts ≡ true) → AllOf ts vs → AreOfDims s 0 (as_parts vs)
unfolding as_parts
integers_are s [] [] c d h = tt
integers_are s [] (v ∷ vs) c d h = absurd h
integers_are s (t ∷ ts) [] c d h = absurd h
integers_are Scalar.Bool (t ∷ ts) (v ∷ vs) c d h = (
  boolean_is t v (and_left (is_boolean t) (list_all is_boolean ts) (d refl)) h.0,
  integers_are Scalar.Bool ts vs (and_right (is_integer t) (list_all is_integer ts) c)
      (λ _. and_right (is_boolean t) (list_all is_boolean ts) (d refl)) h.1,
)
integers_are Scalar.Int (t ∷ ts) (v ∷ vs) c d h = (
  integer_is t v (and_left (is_integer t) (list_all is_integer ts) c) h.0,
  integers_are Scalar.Int ts vs (and_right (is_integer t) (list_all is_integer ts) c) (λ e. absurd cc) h.1,
)

-- a value of a matrix type of so many dimensions
matrix_part_is : (s : Scalar) (k : ℕ) (t : ValueType) (v : ValueTree) → has_dimensions (suc k) t ≡ true
    → ((s ≡ Scalar.Bool) → is_matrix_of_bool t ≡ true) → IsOf t v → IsOfDims s (suc k) v
unfolding has_dimensions is_matrix_of_bool is_bool_scalar listed_values
matrix_part_is s k ValueType.Bool v c d h = truths_differ c
matrix_part_is s k ValueType.Int v c d h = truths_differ c
matrix_part_is s k (ValueType.Matrix zero sc) v c d h = absurd h
matrix_part_is Scalar.Bool k (ValueType.Matrix (suc j) Scalar.Bool) v c d h =
    let same : j ≡ k = grind arith in subst (λ n. IsOfDims Scalar.Bool (suc n) v) same h
matrix_part_is Scalar.Bool k (ValueType.Matrix (suc j) Scalar.Int) v c d h = truths_differ (d refl)
matrix_part_is Scalar.Int k (ValueType.Matrix (suc j) Scalar.Bool) v c d h =
    let same : j ≡ k = grind arith in subst (λ n. IsOfDims Scalar.Int (suc n) v) same (dims_as_int (suc j) v h)
matrix_part_is Scalar.Int k (ValueType.Matrix (suc j) Scalar.Int) v c d h =
    let same : j ≡ k = grind arith in subst (λ n. IsOfDims Scalar.Int (suc n) v) same h
matrix_part_is s k ValueType.Empty v c d h = subst (λ w. IsOfDims s (suc k) w) (sym h) (refl, tt)

-- matrices of so many dimensions as parts of a matrix
matrices_are : (s : Scalar) (k : ℕ) (ts : List ValueType) (vs : List ValueTree) → list_all (has_dimensions (suc k)) ts ≡ true
    → ((s ≡ Scalar.Bool) → list_all is_matrix_of_bool ts ≡ true) → AllOf ts vs → AreOfDims s (suc k) (as_parts vs)
unfolding as_parts
matrices_are s k [] [] c d h = tt
matrices_are s k [] (v ∷ vs) c d h = absurd h
matrices_are s k (t ∷ ts) [] c d h = absurd h
matrices_are s k (t ∷ ts) (v ∷ vs) c d h = (
  matrix_part_is s k t v (and_left (has_dimensions (suc k) t) (list_all (has_dimensions (suc k)) ts) c)
      (λ e. and_left (is_matrix_of_bool t) (list_all is_matrix_of_bool ts) (d e)) h.0,
  matrices_are s k ts vs (and_right (has_dimensions (suc k) t) (list_all (has_dimensions (suc k)) ts) c)
      (λ e. and_right (is_matrix_of_bool t) (list_all is_matrix_of_bool ts) (d e)) h.1,
)

-- lists without parts of a matrix
empties_are : (ts : List ValueType) (vs : List ValueTree) → stated_dimensions ts ≡ None → list_all is_matrix ts ≡ true → AllOf ts vs
    → AreOfDims Scalar.Bool 1 (as_parts vs)
unfolding as_parts stated_dimensions is_matrix is_integer listed_values
empties_are [] [] n c h = tt
empties_are [] (v ∷ vs) n c h = absurd h
empties_are (t ∷ ts) [] n c h = absurd h
empties_are (ValueType.Bool ∷ ts) (v ∷ vs) n c h = truths_differ c
empties_are (ValueType.Int ∷ ts) (v ∷ vs) n c h = truths_differ c
empties_are (ValueType.Matrix k s ∷ ts) (v ∷ vs) n c h = no_some (sym n)
empties_are (ValueType.Empty ∷ ts) (v ∷ vs) n c h =
    (subst (λ w. IsOfDims Scalar.Bool 1 w) (sym h.0) (refl, tt), empties_are ts vs n c h.1)

-- no list states that its parts have no dimensions
stated_positive : (ts : List ValueType) (vs : List ValueTree) → stated_dimensions ts ≡ Some 0 → AllOf ts vs → ⊥
unfolding stated_dimensions
stated_positive [] vs n h = no_some n
stated_positive (t ∷ ts) [] n h = h
stated_positive (ValueType.Bool ∷ ts) (v ∷ vs) n h = stated_positive ts vs n h.1
stated_positive (ValueType.Int ∷ ts) (v ∷ vs) n h = stated_positive ts vs n h.1
stated_positive (ValueType.Matrix zero s ∷ ts) (v ∷ vs) n h = h.0
stated_positive (ValueType.Matrix (suc k) s ∷ ts) (v ∷ vs) n h = let e : suc k ≡ 0 = some_is n in absurd (omega (arith, e))
stated_positive (ValueType.Empty ∷ ts) (v ∷ vs) n h = stated_positive ts vs n h.1

-- A list of values of its parts' types is of the list's type.
pub list_is : (ts : List ValueType) (vs : List ValueTree) (is : List ℤ) (t : ValueType) → AllOf ts vs → length is ≡ length vs
    → list_type ts ≡ typed t → IsOf t (matrix is (as_parts vs))
unfolding list_type list_of_matrices as_parts
list_is [] [] is t h l e = subst (λ r. IsOf r (matrix is no_values)) (typed_is e) (empty_matrix is l)
list_is [] (v ∷ vs) is t h l e = absurd h
list_is (s ∷ ts) [] is t h l e = absurd h
list_is (s ∷ ts) (v ∷ vs) is t h l e =
    go (list_all is_integer (s ∷ ts)) (list_all is_boolean (s ∷ ts)) (list_all is_matrix (s ∷ ts)) refl refl refl e
  where
    whole : length is ≡ length (listed_values (as_parts (v ∷ vs)))
    whole = l ∙ sym (ap length (listed-as_parts (v ∷ vs)))

    scalar_choice : (c : Bool) → ((if c then Scalar.Bool else Scalar.Int) ≡ Scalar.Bool) → c ≡ true
    scalar_choice true p = refl
    scalar_choice false p = absurd cc

    of_dims : (k : ℕ) (b : Bool) → list_all is_matrix_of_bool (s ∷ ts) ≡ b → list_all (has_dimensions (suc k)) (s ∷ ts) ≡ true
        → ValueType.Matrix (suc k + 1) (if b then Scalar.Bool else Scalar.Int) ≡ t → IsOf t (matrix is (as_parts (v ∷ vs)))
    of_dims k b p c q =
        subst (λ r. IsOf r (matrix is (as_parts (v ∷ vs)))) q
        (let one_more : suc k + 1 ≡ suc (suc k) = omega arith in
        rw one_more (whole, matrices_are (if b then Scalar.Bool else Scalar.Int) k (s ∷ ts) (v ∷ vs) c (λ r. p ∙ scalar_choice b r) h))

    matrices : (o : Option ℕ) → stated_dimensions (s ∷ ts) ≡ o → list_all is_matrix (s ∷ ts) ≡ true → list_of_matrices (s ∷ ts) o ≡ typed t
        → IsOf t (matrix is (as_parts (v ∷ vs)))
    matrices None p c q = subst (λ r. IsOf r (matrix is (as_parts (v ∷ vs)))) (typed_is q) (whole, empties_are (s ∷ ts) (v ∷ vs) p c h)
    matrices (Some zero) p c q = absurd (stated_positive (s ∷ ts) (v ∷ vs) p h)
    matrices (Some (suc k)) p c q =
        let g : _ = gives_is (ValueType.Matrix (suc k + 1) (if list_all is_matrix_of_bool (s ∷ ts) then Scalar.Bool else Scalar.Int)) (list_all (has_dimensions (suc k)) (s ∷ ts)) t q in
        of_dims k (list_all is_matrix_of_bool (s ∷ ts)) refl g.1 g.0

    go : (a b c : Bool) → list_all is_integer (s ∷ ts) ≡ a → list_all is_boolean (s ∷ ts) ≡ b → list_all is_matrix (s ∷ ts) ≡ c
        → (if a then typed (ValueType.Matrix 1 (if b then Scalar.Bool else Scalar.Int))
        else (if c then list_of_matrices (s ∷ ts) (stated_dimensions (s ∷ ts)) else mistyped)) ≡ typed t
        → IsOf t (matrix is (as_parts (v ∷ vs)))
    go true b c p q r e =
        subst (λ x. IsOf x (matrix is (as_parts (v ∷ vs)))) (typed_is e)
        (whole, integers_are (if b then Scalar.Bool else Scalar.Int) (s ∷ ts) (v ∷ vs) p (λ x. q ∙ scalar_choice b x) h)
    go false b true p q r e = matrices (stated_dimensions (s ∷ ts)) refl r e
    go false b false p q r e = mistyped_is e

-- ---- parts of one type

each_bool : (vs : List ValueTree) → EachOf ValueType.Bool vs → AreOfDims Scalar.Bool 0 (as_parts vs)
unfolding as_parts
each_bool [] h = tt
each_bool (v ∷ vs) h = (h.0, each_bool vs h.1)

each_int : (vs : List ValueTree) → EachOf ValueType.Int vs → AreOfDims Scalar.Int 0 (as_parts vs)
unfolding as_parts
each_int [] h = tt
each_int (v ∷ vs) h = (h.0, each_int vs h.1)

each_matrix : (k : ℕ) (s : Scalar) (vs : List ValueTree) → EachOf (ValueType.Matrix (suc k) s) vs → AreOfDims s (suc k) (as_parts vs)
unfolding as_parts
each_matrix k s [] h = tt
each_matrix k s (v ∷ vs) h = (h.0, each_matrix k s vs h.1)

each_empty : (vs : List ValueTree) → EachOf ValueType.Empty vs → AreOfDims Scalar.Bool 1 (as_parts vs)
unfolding as_parts listed_values
each_empty [] h = tt
each_empty (v ∷ vs) h = (subst (λ w. IsOfDims Scalar.Bool 1 w) (sym h.0) (refl, tt), each_empty vs h.1)

each_none : (s : Scalar) (vs : List ValueTree) → EachOf (ValueType.Matrix 0 s) vs → AreOfDims s 0 (as_parts vs)
unfolding as_parts
each_none s [] h = tt
each_none s (v ∷ vs) h = absurd h.0

one_more : (n : ℕ) (s : Scalar) (vs : List ValueTree) (is : List ℤ) (t : ValueType) → length is ≡ length vs → AreOfDims s n (as_parts vs)
    → ValueType.Matrix (n + 1) s ≡ t → IsOf t (matrix is (as_parts vs))
one_more n s vs is t l h q =
    subst (λ r. IsOf r (matrix is (as_parts vs))) q
    (let e : n + 1 ≡ suc n = omega arith in rw e (l ∙ sym (ap length (listed-as_parts vs)), h))

-- Values of one type are of the type of a list of it, however many they are.
pub each_is : (s : ValueType) (vs : List ValueTree) (is : List ℤ) (t : ValueType) → EachOf s vs → length is ≡ length vs
    → list_type (s ∷ []) ≡ typed t → IsOf t (matrix is (as_parts vs))
unfolding list_type list_of_matrices stated_dimensions is_integer is_boolean is_matrix is_matrix_of_bool is_bool_scalar has_dimensions
each_is ValueType.Bool vs is t h l e = subst (λ r. IsOf r (matrix is (as_parts vs))) (typed_is e) (l ∙ sym (ap length (listed-as_parts vs)), each_bool vs h)
each_is ValueType.Int vs is t h l e = subst (λ r. IsOf r (matrix is (as_parts vs))) (typed_is e) (l ∙ sym (ap length (listed-as_parts vs)), each_int vs h)
each_is (ValueType.Matrix zero Scalar.Bool) vs is t h l e =
    one_more 0 Scalar.Bool vs is t l (each_none Scalar.Bool vs h) (gives_is (ValueType.Matrix (0 + 1) Scalar.Bool) (((0 == 0) && true)) t e).0
each_is (ValueType.Matrix (suc k) Scalar.Bool) vs is t h l e =
    one_more (suc k) Scalar.Bool vs is t l (each_matrix k Scalar.Bool vs h) (gives_is (ValueType.Matrix ((suc k) + 1) Scalar.Bool) ((((suc k) == (suc k)) && true)) t e).0
each_is (ValueType.Matrix zero Scalar.Int) vs is t h l e =
    one_more 0 Scalar.Int vs is t l (each_none Scalar.Int vs h) (gives_is (ValueType.Matrix (0 + 1) Scalar.Int) (((0 == 0) && true)) t e).0
each_is (ValueType.Matrix (suc k) Scalar.Int) vs is t h l e =
    one_more (suc k) Scalar.Int vs is t l (each_matrix k Scalar.Int vs h) (gives_is (ValueType.Matrix ((suc k) + 1) Scalar.Int) ((((suc k) == (suc k)) && true)) t e).0
each_is ValueType.Empty vs is t h l e = subst (λ r. IsOf r (matrix is (as_parts vs))) (typed_is e) (l ∙ sym (ap length (listed-as_parts vs)), each_empty vs h)
