-- Values that lie in what is known of an expression: their numbers and their scalars, lists and matrices of them.
use Rattle.std.specs.Prelude.{◌≡◌, ℕ, suc, ◌≤ℤ◌, ◌||◌, ◌==◌, List, [], ◌∷◌, ◌++◌, map, length, ℤ, pos, neg_ℤ, Bool, true, false, if◌then◌else◌, Some, None, Option, option_map, refl}
use Rattle.std.proofs.Common.{ap, arith, subst, sym, ◌∙◌}
use Rattle.std.proofs.lemmas.Int.{ints}
use Rattle.std.specs.Ordering.{int_eq}
use Rattle.ep_base.specs.Intervals.{LiesIn}
use Rattle.ep_base.specs.Numbers.{of_bool, sum_of}
use Rattle.ep_base.specs.Runs.{counting}
use Rattle.ep_tree_laws.proofs.Intervals.{negated_lies, sum_lies}
use Rattle.ep_tree_laws.specs.Intervals.{LieInEach}
use Rattle.ep_tree.proofs.TypedEvaluation.{with_indices_is}
use Rattle.ep_tree.proofs.TypedParts.{both_is, map_is, no_some, some_is}
use Rattle.ep_tree.specs.Agreement.{LieWithin, LiesWithin}
use Rattle.ep_tree.specs.Evaluation.{matrix_value, number_in, scalars_in, truth_in, undefined_truth}
use Rattle.ep_tree.specs.Reach.{Extent, Span, matrix_extent, measured_indices, negated_span, reaches, signed_span, span_of, sum_span, truth_span, wide_span}
use Rattle.ep_tree.specs.TypedValues.{IsOfDims, is_number_of}
use Rattle.ep_tree.specs.Values.{Grids, ValueTree, ValueTrees, all_defined, as_parts, list_value, matrix, no_values, scalars_of, scalars_of_all, single, value_and, with_indices}
use Rattle.ep_tree.specs.declared.values.Mode.{Mode}
use Rattle.ep_tree.specs.declared.values.Scalar.{Scalar}
use Rattle.ep_reach_laws.proofs.AlikeEnvironments.{Matched}

-- a value that may be missing lies in what is known, where it is defined
abbrev pub Within : Extent → Option ValueTree → Type 0
Within x o = (v : ValueTree) → o ≡ Some v → LiesWithin v x

-- a number that may be missing lies in a reach, where it is defined
abbrev pub NumberWithin : Span → Option ℤ → Type 0
NumberWithin s o = (n : ℤ) → o ≡ Some n → LiesIn n s.reach

-- numbers lie in what is known of them, one in each
abbrev pub EachLies : List ℤ → List Span → Type 0
EachLies [] [] = Unit {0}
EachLies [] (s ∷ ss) = ⊥
EachLies (n ∷ ns) [] = ⊥
EachLies (n ∷ ns) (s ∷ ss) = LiesIn n s.reach × EachLies ns ss

-- ---- one number

pub number_within : (o : Option ValueTree) (x : Extent) → Within x o → NumberWithin (span_of x) (number_in o)
unfolding number_in span_of
number_within None x w n e = no_some e
number_within (Some (single m)) (single s) w n e = subst (λ k. LiesIn k s.reach) (some_is e) (w (single m) refl)
number_within (Some (single m)) (matrix is xs) w n e = absurd (w (single m) refl)
number_within (Some (matrix is vs)) x w n e = no_some e

-- a number's value by its number
pub single_within : (s : Span) (o : Option ℤ) → NumberWithin s o → Within (single s) (option_map single o)
single_within s o w v e = let p : _ = map_is single o v e in subst (λ u. LiesWithin u (single s)) p.2 (w p.0 p.1)

-- the value of what is a number
pub of_number : (o : Option ValueTree) (x : Extent) (s : Scalar) → ((v : ValueTree) → o ≡ Some v → IsOfDims s 0 v) → Within x o → Within (single (span_of x)) o
unfolding span_of
of_number o (single t) s typed w v e = w v e
of_number o (matrix is xs) s typed w (single n) e = absurd (w (single n) e)
of_number o (matrix is xs) s typed w (matrix js vs) e = absurd (typed (matrix js vs) e)

-- ---- Booleans

bit_in : (n : ℤ) → (int_eq n (pos 0) || int_eq n (pos 1)) ≡ true → (pos 0 ≤ℤ n) × (n ≤ℤ pos 1)
bit_in n h = (grind (arith, ints, h), grind (arith, ints, h))

pub bit_lies : (n : ℤ) → is_number_of Scalar.Bool n ≡ true → LiesIn n truth_span.reach
unfolding is_number_of
bit_lies n h = bit_in n h

pub truth_lies : (v : ValueTree) → IsOfDims Scalar.Bool 0 v → LiesWithin v (single truth_span)
truth_lies (single n) h = bit_lies n h
truth_lies (matrix is vs) h = absurd h

bool_lies : (b : Bool) → LiesIn (of_bool b) truth_span.reach
unfolding of_bool
bool_lies true = (omega (arith, ints), omega (arith, ints))
bool_lies false = (omega (arith, ints), omega (arith, ints))

pub truth_within : (mode : Mode) (o : Option Bool) → Within (single truth_span) (truth_in mode o)
unfolding truth_in undefined_truth
truth_within Mode.Relational None v e = subst (λ u. LiesWithin u (single truth_span)) (some_is e) (omega (arith, ints), omega (arith, ints))
truth_within Mode.Strict None v e = no_some e
truth_within mode (Some b) v e = subst (λ u. LiesWithin u (single truth_span)) (some_is e) (bool_lies b)

-- ---- scalars

each_append : (ns ms : List ℤ) (ss ts : List Span) → EachLies ns ss → EachLies ms ts → EachLies (ns ++ ms) (ss ++ ts)
each_append [] ms [] ts h k = k
each_append [] ms (s ∷ ss) ts h k = absurd h
each_append (n ∷ ns) ms [] ts h k = absurd h
each_append (n ∷ ns) ms (s ∷ ss) ts h k = (h.0, each_append ns ms ss ts h.1 k)

mutual
  unfolding scalars_of

  pub scalars_lie : (v : ValueTree) (x : Extent) → LiesWithin v x → EachLies (scalars_of v) (scalars_of x)
  scalars_lie (single n) (single s) h = (h, tt)
  scalars_lie (single n) (matrix js xs) h = absurd h
  scalars_lie (matrix is vs) (single s) h = absurd h
  scalars_lie (matrix is vs) (matrix js xs) h = all_scalars_lie vs xs h.1

  all_scalars_lie : (vs : ValueTrees) (xs : Grids Span) → LieWithin vs xs → EachLies (scalars_of_all vs) (scalars_of_all xs)
  all_scalars_lie no_values no_values h = tt
  all_scalars_lie no_values (value_and x xs) h = absurd h
  all_scalars_lie (value_and v vs) no_values h = absurd h
  all_scalars_lie (value_and v vs) (value_and x xs) h =
      each_append (scalars_of v) (scalars_of_all vs) (scalars_of x) (scalars_of_all xs) (scalars_lie v x h.0) (all_scalars_lie vs xs h.1)

pub scalars_within : (o : Option ValueTree) (x : Extent) → Within x o → (ns : List ℤ) → scalars_in o ≡ Some ns → EachLies ns (scalars_of x)
scalars_within o x w ns e = let p : _ = map_is scalars_of o ns e in subst (λ l. EachLies l (scalars_of x)) p.2 (scalars_lie p.0 x (w p.0 p.1))

pub lie_in_each : (ns : List ℤ) (ss : List Span) → EachLies ns ss → LieInEach ns (reaches ss)
lie_in_each [] [] h = tt
lie_in_each [] (s ∷ ss) h = absurd h
lie_in_each (n ∷ ns) [] h = absurd h
lie_in_each (n ∷ ns) (s ∷ ss) h = (h.0, lie_in_each ns ss h.1)

each_long : (ns : List ℤ) (ss : List Span) → EachLies ns ss → length ns ≡ length ss
each_long [] [] h = refl
each_long [] (s ∷ ss) h = absurd h
each_long (n ∷ ns) [] h = absurd h
each_long (n ∷ ns) (s ∷ ss) h = ap suc (each_long ns ss h.1)

-- scalars as a matrix of one dimension
singles_lie : (ns : List ℤ) (ss : List Span) → EachLies ns ss → LieWithin (as_parts (map single ns)) (as_parts (map single ss))
unfolding as_parts
singles_lie [] [] h = tt
singles_lie [] (s ∷ ss) h = absurd h
singles_lie (n ∷ ns) [] h = absurd h
singles_lie (n ∷ ns) (s ∷ ss) h = (h.0, singles_lie ns ss h.1)

pub list_lies : (ns : List ℤ) (ss : List Span) → EachLies ns ss → LiesWithin (list_value ns) (list_value ss)
unfolding list_value
list_lies ns ss h = (ap (counting (pos 1)) (each_long ns ss h), singles_lie ns ss h)

pub list_within : (o : Option ValueTree) (x : Extent) → Within x o → Within (list_value (scalars_of x)) (option_map list_value (scalars_in o))
list_within o x w v e =
    let p : _ = map_is list_value (scalars_in o) v e in
    subst (λ u. LiesWithin u (list_value (scalars_of x))) p.2 (list_lies p.0 (scalars_of x) (scalars_within o x w p.0 p.1))

-- ---- what is defined

pub defined_first : {A : Type 0} (o : Option A) (os : List (Option A)) (xs : List A) → all_defined (o ∷ os) ≡ Some xs
    → (y : A) × (ys : List A) × (o ≡ Some y) × (all_defined os ≡ Some ys) × (y ∷ ys ≡ xs)
unfolding all_defined
defined_first None os xs e = no_some e
defined_first (Some y) os xs e = let p : _ = map_is (λ ys. y ∷ ys) (all_defined os) xs e in (y, p.0, refl, p.1, p.2)

pub defined_none : {A : Type 0} (xs : List A) → all_defined [] ≡ Some xs → [] ≡ xs
unfolding all_defined
defined_none xs e = some_is e

pub defined_more : {A : Type 0} (o : Option A) (x : A) (os : List (Option A)) (xs : List A) → o ≡ Some x → all_defined os ≡ Some xs → all_defined (o ∷ os) ≡ Some (x ∷ xs)
unfolding all_defined
defined_more o x os xs p q = ap (λ y. all_defined (y ∷ os)) p ∙ ap (option_map (λ ys. x ∷ ys)) q

-- numbers of which each is defined
pub defined_lie : (ss : List Span) (os : List (Option ℤ)) → Matched NumberWithin ss os → (ns : List ℤ) → all_defined os ≡ Some ns → EachLies ns ss
defined_lie [] [] h ns e = subst (λ l. EachLies l []) (defined_none ns e) tt
defined_lie [] (o ∷ os) h ns e = absurd h
defined_lie (s ∷ ss) [] h ns e = absurd h
defined_lie (s ∷ ss) (o ∷ os) h ns e =
    let p : _ = defined_first o os ns e in
    subst (λ l. EachLies l (s ∷ ss)) p.4 (h.0 p.0 p.2, defined_lie ss os h.1 p.1 p.3)

-- a sum of numbers of which each is defined
pub sum_within : (ss : List Span) (o : Option (List ℤ)) → ((ns : List ℤ) → o ≡ Some ns → EachLies ns ss) → NumberWithin (sum_span ss) (option_map sum_of o)
unfolding sum_span wide_span
sum_within ss o each n e =
    let p : _ = map_is sum_of o n e in
    subst (λ k. LiesIn k (sum_span ss).reach) p.2 (sum_lies p.0 (reaches ss) (lie_in_each p.0 ss (each p.0 p.1)))

-- a term with its sign
pub signed_within : (plus : Bool) (s : Span) (n : ℤ) (m : ℤ) → LiesIn n s.reach → m ≡ (if plus then n else neg_ℤ n) → LiesIn m (signed_span plus s).reach
unfolding signed_span negated_span
signed_within true s n m h e = subst (λ k. LiesIn k s.reach) (sym e) h
signed_within false s n m h e = subst (λ k. LiesIn k (signed_span false s).reach) (sym e) (negated_lies n s.reach h)

-- ---- matrices

-- parts that may be missing, each in what is known of it
parts_lie : (xs : List Extent) (os : List (Option ValueTree)) → Matched Within xs os → (vs : List ValueTree) → all_defined os ≡ Some vs → LieWithin (as_parts vs) (as_parts xs)
unfolding as_parts
parts_lie [] [] h vs e = subst (λ l. LieWithin (as_parts l) (as_parts [])) (defined_none vs e) tt
parts_lie [] (o ∷ os) h vs e = absurd h
parts_lie (x ∷ xs) [] h vs e = absurd h
parts_lie (x ∷ xs) (o ∷ os) h vs e =
    let p : _ = defined_first o os vs e in
    subst (λ l. LieWithin (as_parts l) (as_parts (x ∷ xs))) p.4 (h.0 p.0 p.2, parts_lie xs os h.1 p.1 p.3)

matched_long : {A B : Type 0} (Q : A → B → Type 0) (xs : List A) (ys : List B) → Matched Q xs ys → length ys ≡ length xs
matched_long Q [] [] h = refl
matched_long Q [] (y ∷ ys) h = absurd h
matched_long Q (x ∷ xs) [] h = absurd h
matched_long Q (x ∷ xs) (y ∷ ys) h = ap suc (matched_long Q xs ys h.1)

defined_long : {A : Type 0} (os : List (Option A)) (xs : List A) → all_defined os ≡ Some xs → length xs ≡ length os
defined_long [] xs e = subst (λ l. length l ≡ 0) (defined_none xs e) refl
defined_long (o ∷ os) xs e = let p : _ = defined_first o os xs e in subst (λ l. length l ≡ suc (length os)) p.4 (ap suc (defined_long os p.1 p.3))

same_measured : (is : List ℤ) (count : ℕ) → length is ≡ count → measured_indices (Some is) count ≡ is
unfolding measured_indices
same_measured is count h = go (length is == count) refl
  where
    go : (b : Bool) → (length is == count) ≡ b → (if b then is else counting (pos 1) count) ≡ is
    go true e = refl
    go false e = absurd (grind (arith, e, h))

-- A matrix of parts, over indices that are the same for both.
pub matrix_within : (own indices : ℕ → Option (List ℤ)) → ((n : ℕ) → own n ≡ indices n) → (xs : List Extent) (os : List (Option ValueTree)) → Matched Within xs os
    → Within (matrix_extent own xs) (matrix_value indices os)
unfolding matrix_value matrix_extent
matrix_within own indices same xs os h v e =
    let p : _ = both_is (indices (length os)) (all_defined os) with_indices v e in
    let q : _ = with_indices_is p.0 p.1 v p.4 in
    let long : length os ≡ length xs = matched_long Within xs os h in
    let known : own (length xs) ≡ Some p.0 = same (length xs) ∙ ap indices (sym long) ∙ p.2 in
    let measured : measured_indices (own (length xs)) (length xs) ≡ p.0 =
    ap (λ o. measured_indices o (length xs)) known ∙ same_measured p.0 (length xs) (q.0 ∙ defined_long os p.1 p.3 ∙ long) in
    subst (λ u. LiesWithin u (matrix (measured_indices (own (length xs)) (length xs)) (as_parts xs))) q.1
    (sym measured, parts_lie xs os h p.1 p.3)
