-- The scalars of values that are made of numbers, and of values that fit.
use Rattle.std.proofs.Common.{◌≡◌, ℕ, zero, suc, ◌+◌, ◌*◌, ◌≤◌, Bool, true, false, ◌&&◌, ◌==◌, ℤ, pos, List, [], ◌∷◌, ◌++◌, length, Option, Some, None, refl, sym, ap, subst, ◌∙◌, arith, append_assoc, option_map, if◌then◌else◌}
use Rattle.std.specs.Prelude.{option_and_then}
use Rattle.std.specs.List.{list_all}
use Rattle.std.proofs.lemmas.Bool.Decides.{Decides-eqb}
use Rattle.std.proofs.lemmas.List.{length-append}
use Rattle.ep_base.specs.Reads.{first_or_zero}
use Rattle.ep_tree.specs.Solutions.{cell_count}
use Rattle.ep_tree.specs.Environments.{shape_type}
use Rattle.ep_tree.specs.TypedValues.{AreOfDims, IsOf, IsOfDims, is_number_of}
use Rattle.ep_tree.specs.Types.{of_scalar}
use Rattle.ep_tree.specs.Values.{ValueTree, ValueTrees, all_fitted, as_parts, fitted, listed_values, matrix, no_values, scalar_fits, scalars_of, scalars_of_all, single, value_and, with_indices}
use Rattle.ep_tree.specs.declared.values.Scalar.{Scalar}
use Rattle.ep_solve.specs.Reading.{parts_from, value_from}

-- ---- what is made of numbers

-- the scalars of what is made are the first numbers, so many of them
pub record Made (count : ℕ) (numbers scalars left : List ℤ) : Type 0 where
  pub cut : numbers ≡ scalars ++ left
  pub many : length scalars ≡ count

parts-made : (make : List ℤ → ValueTree × List ℤ) (count : ℕ)
    → ((numbers : List ℤ) → count ≤ length numbers → Made count numbers (scalars_of (make numbers).0) (make numbers).1)
    → (k : ℕ) (numbers : List ℤ) → k * count ≤ length numbers
    → Made (k * count) numbers (scalars_of_all (as_parts (parts_from make k numbers).0)) (parts_from make k numbers).1
unfolding parts_from as_parts scalars_of
parts-made make count h zero numbers enough = record { cut = refl; many = omega arith }
parts-made make count h (suc k) numbers enough =
    let split : suc k * count ≡ count + k * count = omega arith in
    let first = h numbers (omega (arith, enough, split)) in
    let left : List ℤ = (make numbers).1 in
    let own : List ℤ = scalars_of (make numbers).0 in
    let all : length numbers ≡ length own + length left = ap length first.cut ∙ length-append own left in
    let others = parts-made make count h k left (omega (arith, enough, split, all, first.many)) in
    let rest : List ℤ = scalars_of_all (as_parts (parts_from make k left).0) in record {
      cut = first.cut ∙ ap (λ xs. own ++ xs) others.cut ∙ sym (append_assoc own rest (parts_from make k left).1);
      many = length-append own rest ∙ omega (arith, first.many, others.many, split);
    }

pub value-made : (indices : List (List ℤ)) (numbers : List ℤ) → cell_count indices ≤ length numbers
    → Made (cell_count indices) numbers (scalars_of (value_from indices numbers).0) (value_from indices numbers).1
unfolding value_from scalars_of cell_count first_or_zero
value-made [] [] enough = absurd (omega (arith, enough))
value-made [] (n ∷ numbers) enough = record { cut = refl; many = refl }
value-made (indices ∷ inner) numbers enough = parts-made (value_from inner) (cell_count inner) (value-made inner) (length indices) numbers enough

-- ---- what is made of numbers that pass fits

both-true : (a b : Bool) → (a && b) ≡ true → (a ≡ true) × (b ≡ true)
both-true true true h = (refl, refl)
both-true true false h = absurd cc
both-true false b h = absurd cc

pub all-split : (test : ℤ → Bool) (xs ys : List ℤ) → list_all test (xs ++ ys) ≡ true → (list_all test xs ≡ true) × (list_all test ys ≡ true)
all-split test [] ys h = (refl, h)
all-split test (x ∷ xs) ys h =
    let q = both-true (test x) (list_all test (xs ++ ys)) h in
    let r = all-split test xs ys q.1 in
    (ap (λ b. b && list_all test xs) q.0 ∙ r.0, r.1)

pub all-joined : (test : ℤ → Bool) (xs ys : List ℤ) → list_all test xs ≡ true → list_all test ys ≡ true → list_all test (xs ++ ys) ≡ true
all-joined test [] ys h g = g
all-joined test (x ∷ xs) ys h g =
    let q = both-true (test x) (list_all test xs) h in
    ap (λ b. b && list_all test (xs ++ ys)) q.0 ∙ all-joined test xs ys q.1 g

scalar-fits-itself : (s : Scalar) → scalar_fits s s ≡ true
unfolding scalar_fits
scalar-fits-itself Scalar.Bool = refl
scalar-fits-itself Scalar.Int = refl

single-fits : (s : Scalar) (test : ℤ → Bool) (x : ℤ) → test x ≡ true → fitted s s test [] (single x) ≡ Some (single x)
unfolding fitted
single-fits s test x h =
    ap (λ b. if b && test x then Some (single x) else None) (scalar-fits-itself s)
    ∙ ap (λ b. if b then Some (single x) else None) h

parts-count : (make : List ℤ → ValueTree × List ℤ) (k : ℕ) (numbers : List ℤ) → length (parts_from make k numbers).0 ≡ k
unfolding parts_from
parts-count make zero numbers = refl
parts-count make (suc k) numbers = ap suc (parts-count make k (make numbers).1)

parts-fit : (s : Scalar) (test : ℤ → Bool) (inner : List (List ℤ)) (make : List ℤ → ValueTree × List ℤ)
    → ((numbers : List ℤ) → list_all test (scalars_of (make numbers).0) ≡ true → fitted s s test inner (make numbers).0 ≡ Some (make numbers).0)
    → (k : ℕ) (numbers : List ℤ) → list_all test (scalars_of_all (as_parts (parts_from make k numbers).0)) ≡ true
    → all_fitted s s test inner (as_parts (parts_from make k numbers).0) ≡ Some (parts_from make k numbers).0
unfolding as_parts fitted parts_from scalars_of
parts-fit s test inner make h zero numbers pass = refl
parts-fit s test inner make h (suc k) numbers pass =
    let left : List ℤ = (make numbers).1 in
    let q = all-split test (scalars_of (make numbers).0) (scalars_of_all (as_parts (parts_from make k left).0)) pass in
    ap (option_and_then (λ x. option_map (λ xs. x ∷ xs) (all_fitted s s test inner (as_parts (parts_from make k left).0)))) (h numbers q.0)
    ∙ ap (option_map (λ xs. (make numbers).0 ∷ xs)) (parts-fit s test inner make h k left q.1)

matrix-fits : (s : Scalar) (test : ℤ → Bool) (indices : List ℤ) (inner : List (List ℤ)) (parts : List ValueTree)
    → length parts ≡ length indices
    → all_fitted s s test inner (as_parts parts) ≡ Some parts
    → fitted s s test (indices ∷ inner) (matrix indices (as_parts parts)) ≡ Some (matrix indices (as_parts parts))
unfolding fitted with_indices
matrix-fits s test indices inner parts counted fit =
    ap (option_and_then (with_indices indices)) fit
    ∙ ap (λ n. if length indices == n then Some (matrix indices (as_parts parts)) else None) counted
    ∙ ap (λ b. if b then Some (matrix indices (as_parts parts)) else None) ((Decides-eqb (length indices) (length indices)).1 refl)

pub value-fits : (s : Scalar) (test : ℤ → Bool) (indices : List (List ℤ)) (numbers : List ℤ)
    → list_all test (scalars_of (value_from indices numbers).0) ≡ true
    → fitted s s test indices (value_from indices numbers).0 ≡ Some (value_from indices numbers).0
unfolding value_from scalars_of first_or_zero
value-fits s test [] [] pass = single-fits s test (pos 0) (both-true (test (pos 0)) true pass).0
value-fits s test [] (n ∷ numbers) pass = single-fits s test n (both-true (test n) true pass).0
value-fits s test (indices ∷ inner) numbers pass =
    matrix-fits s test indices inner (parts_from (value_from inner) (length indices) numbers).0
    (parts-count (value_from inner) (length indices) numbers)
    (parts-fit s test inner (value_from inner) (value-fits s test inner) (length indices) numbers pass)

-- ---- what fits has so many scalars, each of which passes

pub record Passing (test : ℤ → Bool) (count : ℕ) (scalars : List ℤ) : Type 0 where
  pub many : length scalars ≡ count
  pub pass : list_all test scalars ≡ true

both-fitted : (first : Option ValueTree) (others : Option (List ValueTree)) (vs : List ValueTree)
    → option_and_then (λ x. option_map (λ xs. x ∷ xs) others) first ≡ Some vs
    → (y : ValueTree) × (ys : List ValueTree) × (first ≡ Some y) × (others ≡ Some ys) × (y ∷ ys ≡ vs)
both-fitted None others vs e = absurd cc
both-fitted (Some y) None vs e = absurd cc
both-fitted (Some y) (Some ys) vs e = (y, ys, refl, refl, cc)

by-count : (indices : List ℤ) (vs : List ValueTree) (v : ValueTree) (b : Bool) → (b ≡ true → length indices ≡ length vs)
    → (if b then Some (matrix indices (as_parts vs)) else None) ≡ Some v
    → (length vs ≡ length indices) × (matrix indices (as_parts vs) ≡ v)
by-count indices vs v true same e = (sym (same refl), cc)
by-count indices vs v false same e = absurd cc

indexed : (indices : List ℤ) (all : Option (List ValueTree)) (v : ValueTree) → option_and_then (with_indices indices) all ≡ Some v
    → (vs : List ValueTree) × (all ≡ Some vs) × (length vs ≡ length indices) × (matrix indices (as_parts vs) ≡ v)
unfolding with_indices
indexed indices None v e = absurd cc
indexed indices (Some vs) v e =
    let q = by-count indices vs v (length indices == length vs) (Decides-eqb (length indices) (length vs)).0 e in
    (vs, refl, q.0, q.1)

passed : (a b : Bool) (x : ℤ) (v : ValueTree) → (if a && b then Some (single x) else None) ≡ Some v → (b ≡ true) × (single x ≡ v)
passed true true x v e = (refl, cc)
passed true false x v e = absurd cc
passed false b x v e = absurd cc

one-passes : (test : ℤ → Bool) (x : ℤ) → test x ≡ true → Passing test 1 (x ∷ [])
one-passes test x h = record { many = refl; pass = ap (λ b. b && true) h }

parts-pass : (own wanted : Scalar) (test : ℤ → Bool) (inner : List (List ℤ))
    → ((w v : ValueTree) → fitted own wanted test inner w ≡ Some v → Passing test (cell_count inner) (scalars_of v))
    → (parts : ValueTrees) (vs : List ValueTree) → all_fitted own wanted test inner parts ≡ Some vs
    → Passing test (length vs * cell_count inner) (scalars_of_all (as_parts vs))
unfolding fitted as_parts scalars_of
parts-pass own wanted test inner h no_values [] e = record { many = omega arith; pass = refl }
parts-pass own wanted test inner h no_values (v ∷ vs) e = absurd cc
parts-pass own wanted test inner h (value_and w ws) vs e =
    let cut = both-fitted (fitted own wanted test inner w) (all_fitted own wanted test inner ws) vs e in
    let y : ValueTree = cut.0 in
    let ys : List ValueTree = cut.1 in
    let first = h w y cut.2 in
    let others = parts-pass own wanted test inner h ws ys cut.3 in
    let P : List ValueTree → Type 0 = λ zs. Passing test (length zs * cell_count inner) (scalars_of_all (as_parts zs)) in
    let split : suc (length ys) * cell_count inner ≡ cell_count inner + length ys * cell_count inner = omega arith in
    subst P cut.4 (record {
      many = length-append (scalars_of y) (scalars_of_all (as_parts ys)) ∙ omega (arith, first.many, others.many, split);
      pass = all-joined test (scalars_of y) (scalars_of_all (as_parts ys)) first.pass others.pass;
    })

pub fitted-passes : (own wanted : Scalar) (test : ℤ → Bool) (indices : List (List ℤ)) (w v : ValueTree)
    → fitted own wanted test indices w ≡ Some v → Passing test (cell_count indices) (scalars_of v)
unfolding fitted cell_count scalars_of
fitted-passes own wanted test [] (single x) v e =
    let q = passed (scalar_fits own wanted) (test x) x v e in
    let P : ValueTree → Type 0 = λ u. Passing test 1 (scalars_of u) in
    subst P q.1 (one-passes test x q.0)
fitted-passes own wanted test [] (matrix old parts) v e = absurd cc
fitted-passes own wanted test (indices ∷ inner) (single x) v e = absurd cc
fitted-passes own wanted test (indices ∷ inner) (matrix old parts) v e =
    let q = indexed indices (all_fitted own wanted test inner parts) v e in
    let P : ValueTree → Type 0 = λ u. Passing test (length indices * cell_count inner) (scalars_of u) in
    let N : ℕ → Type 0 = λ n. Passing test (n * cell_count inner) (scalars_of_all (as_parts q.0)) in
    subst P q.3 (subst N q.2 (parts-pass own wanted test inner (fitted-passes own wanted test inner) parts q.0 q.1))

-- ---- what fits is what is made of its scalars

parts-read : (own wanted : Scalar) (test : ℤ → Bool) (inner : List (List ℤ)) (make : List ℤ → ValueTree × List ℤ)
    → ((w v : ValueTree) (rest : List ℤ) → fitted own wanted test inner w ≡ Some v → make (scalars_of v ++ rest) ≡ (v, rest))
    → (parts : ValueTrees) (vs : List ValueTree) (rest : List ℤ) → all_fitted own wanted test inner parts ≡ Some vs
    → parts_from make (length vs) (scalars_of_all (as_parts vs) ++ rest) ≡ (vs, rest)
unfolding fitted as_parts scalars_of parts_from
parts-read own wanted test inner make h no_values [] rest e = refl
parts-read own wanted test inner make h no_values (v ∷ vs) rest e = absurd cc
parts-read own wanted test inner make h (value_and w ws) vs rest e =
    let cut = both-fitted (fitted own wanted test inner w) (all_fitted own wanted test inner ws) vs e in
    let y : ValueTree = cut.0 in
    let ys : List ValueTree = cut.1 in
    let later : List ℤ = scalars_of_all (as_parts ys) ++ rest in
    let P : List ValueTree → Type 0 = λ zs. parts_from make (length zs) (scalars_of_all (as_parts zs) ++ rest) ≡ (zs, rest) in
    subst P cut.4
    (ap (parts_from make (suc (length ys))) (append_assoc (scalars_of y) (scalars_of_all (as_parts ys)) rest)
    ∙ ap (λ (p : ValueTree × List ℤ). (p.0 ∷ (parts_from make (length ys) p.1).0, (parts_from make (length ys) p.1).1)) (h w y later cut.2)
    ∙ ap (λ (q : List ValueTree × List ℤ). (y ∷ q.0, q.1)) (parts-read own wanted test inner make h ws ys rest cut.3))

pub value-read : (own wanted : Scalar) (test : ℤ → Bool) (indices : List (List ℤ)) (w v : ValueTree) (rest : List ℤ)
    → fitted own wanted test indices w ≡ Some v → value_from indices (scalars_of v ++ rest) ≡ (v, rest)
unfolding fitted value_from scalars_of first_or_zero
value-read own wanted test [] (single x) v rest e =
    let q = passed (scalar_fits own wanted) (test x) x v e in
    subst (λ u. value_from [] (scalars_of u ++ rest) ≡ (u, rest)) q.1 refl
value-read own wanted test [] (matrix old parts) v rest e = absurd cc
value-read own wanted test (indices ∷ inner) (single x) v rest e = absurd cc
value-read own wanted test (indices ∷ inner) (matrix old parts) v rest e =
    let q = indexed indices (all_fitted own wanted test inner parts) v e in
    let vs : List ValueTree = q.0 in
    let numbers : List ℤ = scalars_of_all (as_parts vs) ++ rest in
    subst (λ u. value_from (indices ∷ inner) (scalars_of u ++ rest) ≡ (u, rest)) q.3
    (ap (λ n. (matrix indices (as_parts (parts_from (value_from inner) n numbers).0), (parts_from (value_from inner) n numbers).1)) (sym q.2)
    ∙ ap (λ (p : List ValueTree × List ℤ). (matrix indices (as_parts p.0), p.1)) (parts-read own wanted test inner (value_from inner) (value-read own wanted test inner) parts vs rest q.1))

-- ---- what is made of numbers of a scalar is of its type

pub all-weaker : (test more : ℤ → Bool) (xs : List ℤ) → ((x : ℤ) → test x ≡ true → more x ≡ true) → list_all test xs ≡ true → list_all more xs ≡ true
all-weaker test more [] weaker h = refl
all-weaker test more (x ∷ xs) weaker h =
    let q = both-true (test x) (list_all test xs) h in
    ap (λ b. b && list_all more xs) (weaker x q.0) ∙ all-weaker test more xs weaker q.1

listed-parts : (vs : List ValueTree) → listed_values (as_parts vs) ≡ vs
unfolding as_parts listed_values
listed-parts [] = refl
listed-parts (v ∷ vs) = ap (λ ws. v ∷ ws) (listed-parts vs)

parts-are-of : (s : Scalar) (k : ℕ) (make : List ℤ → ValueTree × List ℤ)
    → ((numbers : List ℤ) → list_all (is_number_of s) (scalars_of (make numbers).0) ≡ true → IsOfDims s k (make numbers).0)
    → (count : ℕ) (numbers : List ℤ) → list_all (is_number_of s) (scalars_of_all (as_parts (parts_from make count numbers).0)) ≡ true
    → AreOfDims s k (as_parts (parts_from make count numbers).0)
unfolding as_parts parts_from scalars_of
parts-are-of s k make h zero numbers pass = tt
parts-are-of s k make h (suc count) numbers pass =
    let left : List ℤ = (make numbers).1 in
    let q = all-split (is_number_of s) (scalars_of (make numbers).0) (scalars_of_all (as_parts (parts_from make count left).0)) pass in
    (h numbers q.0, parts-are-of s k make h count left q.1)

is-of-dims : (s : Scalar) (indices : List (List ℤ)) (numbers : List ℤ) → list_all (is_number_of s) (scalars_of (value_from indices numbers).0) ≡ true
    → IsOfDims s (length indices) (value_from indices numbers).0
unfolding value_from scalars_of first_or_zero
is-of-dims s [] [] pass = (both-true (is_number_of s (pos 0)) true pass).0
is-of-dims s [] (n ∷ numbers) pass = (both-true (is_number_of s n) true pass).0
is-of-dims s (is ∷ inner) numbers pass =
    let parts : List ValueTree = (parts_from (value_from inner) (length is) numbers).0 in (
      sym (ap length (listed-parts parts) ∙ parts-count (value_from inner) (length is) numbers),
      parts-are-of s (length inner) (value_from inner) (is-of-dims s inner) (length is) numbers pass,
    )

pub value-typed : (s : Scalar) (indices : List (List ℤ)) (numbers : List ℤ) → list_all (is_number_of s) (scalars_of (value_from indices numbers).0) ≡ true
    → IsOf (shape_type s indices) (value_from indices numbers).0
unfolding shape_type of_scalar
value-typed Scalar.Bool [] numbers pass = is-of-dims Scalar.Bool [] numbers pass
value-typed Scalar.Int [] numbers pass = is-of-dims Scalar.Int [] numbers pass
value-typed s (is ∷ inner) numbers pass = is-of-dims s (is ∷ inner) numbers pass
