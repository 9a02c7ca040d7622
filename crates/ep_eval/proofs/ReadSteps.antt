-- Reads of matrices, one index after another.
use Rattle.ep_eval.proofs.Words.{◌≡◌, Bool, List, [], ◌∷◌, ◌++◌, length, ℤ, Option, Some, None, option_map, refl, sym, ap, ◌∙◌, arith, IfOk, Result, Ok, Err, if◌then◌else◌, map, option_and_then, append-nil, compare_holds, on_both, CompareOp, Index, ValueTree, all_defined, any_index, as_parts, at_index, index_in, indices_in, listed_values, matrix, part_at, read_value, single, value_tree, values_from, Value, part_under}

-- one index further
pub part_next : (own js : List ℤ) (parts rest : List Value) (x i : ℤ) (v : Value) (b : Bool) → own ≡ x ∷ js → parts ≡ v ∷ rest → b ≡ compare_holds CompareOp.Equal i x
    → part_at own (values_from parts) i ≡ (if b then Some (value_tree v) else part_at js (values_from rest) i)
unfolding part_at values_from compare_holds
part_next own js parts rest x i v b cut more same =
    ap (λ o. part_at o (values_from parts) i) cut ∙ ap (λ ps. part_at (x ∷ js) (values_from ps) i) more
    ∙ ap (λ c. if c then Some (value_tree v) else part_at js (values_from rest) i) (sym same)

-- there are fewer parts than indices
pub part_short : (own js : List ℤ) (parts : List Value) (x i : ℤ) → own ≡ x ∷ js → parts ≡ [] → part_at own (values_from parts) i ≡ None
unfolding part_at values_from
part_short own js parts x i cut none = ap (λ o. part_at o (values_from parts) i) cut ∙ ap (λ ps. part_at (x ∷ js) (values_from ps) i) none

-- there is no index
pub part_none : (own : List ℤ) (parts : List Value) (i : ℤ) → own ≡ [] → part_at own (values_from parts) i ≡ None
unfolding part_at
part_none own parts i none = ap (λ o. part_at o (values_from parts) i) none

-- a read whose first index is stated
pub read_stated : (i : ℤ) (is : List Index) (v : ValueTree) → read_value (at_index i ∷ is) v ≡ option_and_then (read_value is) (part_under v i)
unfolding read_value part_under
read_stated i is (single x) = refl
read_stated i is (matrix own parts) = refl

pub stated_first : (indices rest : List (Option ℤ)) (i : ℤ) (v : ValueTree) → indices ≡ Some i ∷ rest
    → read_value (indices_in indices) v ≡ option_and_then (read_value (indices_in rest)) (part_under v i)
unfolding index_in
stated_first indices rest i v cut = ap (λ l. read_value (indices_in l) v) cut ∙ read_stated i (indices_in rest) v

pub every_first : (indices rest : List (Option ℤ)) (v : ValueTree) → indices ≡ None ∷ rest → read_value (indices_in indices) v ≡ read_value (any_index ∷ indices_in rest) v
unfolding index_in
every_first indices rest v cut = ap (λ l. read_value (indices_in l) v) cut

pub read_none : (indices : List (Option ℤ)) (v : ValueTree) → indices ≡ [] → read_value (indices_in indices) v ≡ Some v
unfolding read_value
read_none indices v none = ap (λ l. read_value (indices_in l) v) none

pub read_number : (indices : List (Option ℤ)) (x : ℤ) → length indices ≡ 0 → Some (single x) ≡ read_value (indices_in indices) (single x)
unfolding read_value
read_number [] x h = refl
read_number (i ∷ is) x h = absurd (omega (arith, h))

pub read_no_number : (indices : List (Option ℤ)) (x : ℤ) → (length indices ≡ 0 → ⊥) → None ≡ read_value (indices_in indices) (single x)
unfolding read_value
read_no_number [] x h = absurd (h refl)
read_no_number (i ∷ is) x h = refl

pub every_number : (is : List Index) (x : ℤ) → None ≡ read_value (any_index ∷ is) (single x)
unfolding read_value
every_number is x = refl

listed_from : (parts : List Value) → listed_values (values_from parts) ≡ map value_tree parts
unfolding listed_values values_from
listed_from [] = refl
listed_from (v ∷ vs) = ap (λ l. value_tree v ∷ l) (listed_from vs)

maps : {A B C : Type 0} (f : B → C) (g : A → B) (xs : List A) → map f (map g xs) ≡ map (λ x. f (g x)) xs
maps f g [] = refl
maps f g (x ∷ xs) = ap (λ ys. f (g x) ∷ ys) (maps f g xs)

-- a read of each part
pub every_part : (is : List Index) (own : List ℤ) (parts : List Value)
    → read_value (any_index ∷ is) (matrix own (values_from parts))
    ≡ option_map (λ vs. matrix own (as_parts vs)) (all_defined (map (λ part. read_value is (value_tree part)) parts))
unfolding read_value
every_part is own parts =
    ap (λ l. option_map (λ vs. matrix own (as_parts vs)) (all_defined (map (read_value is) l))) (listed_from parts)
    ∙ ap (λ l. option_map (λ vs. matrix own (as_parts vs)) (all_defined l)) (maps (read_value is) value_tree parts)

-- ---- values of which each is defined, one after another

-- some values, and the others that are left
unfoldable pub defined_so_far : {A : Type 0} → List A → Option (List A) → Option (List A)
defined_so_far done left = option_map (λ l. done ++ l) left

pub defined_begins : {A : Type 0} (o : Option (List A)) → o ≡ defined_so_far [] o
unfolding defined_so_far
defined_begins None = refl
defined_begins (Some l) = refl

appended : {A : Type 0} (done l : List A) (x : A) → done ++ (x ∷ l) ≡ (done ++ x ∷ []) ++ l
appended [] l x = refl
appended (y ∷ done) l x = ap (λ r. y ∷ r) (appended done l x)

pub defined_more : {A : Type 0} (done : List A) (x : A) (os : List (Option A)) → defined_so_far done (all_defined (Some x ∷ os)) ≡ defined_so_far (done ++ x ∷ []) (all_defined os)
unfolding defined_so_far all_defined
defined_more done x os = by (all_defined os)
  where
    by : (o : Option (List _)) → option_map (λ l. done ++ l) (option_map (λ ys. x ∷ ys) o) ≡ option_map (λ l. (done ++ x ∷ []) ++ l) o
    by None = refl
    by (Some l) = ap Some (appended done l x)

pub defined_fails : {A : Type 0} (done : List A) (os : List (Option A)) → defined_so_far done (all_defined (None ∷ os)) ≡ None
unfolding defined_so_far all_defined
defined_fails done os = refl

pub defined_ends : {A : Type 0} (done : List A) (os : List (Option A)) → os ≡ [] → defined_so_far done (all_defined os) ≡ Some done
unfolding defined_so_far all_defined
defined_ends done os none = ap (λ l. defined_so_far done (all_defined l)) none ∙ ap Some (append-nil done)

-- what holds of a result and follows
pub given : {T E : Type 0} (r : Result T E) (P Q : T → Type 0) → IfOk r P → ((x : T) → P x → Q x) → IfOk r Q
given (Ok x) P Q h f = f x h
given (Err e) P Q h f = tt

-- without the second of two parts there is no value
pub no_value : {A B C : Type 0} (a : Option A) (f : A → B → Option C) → on_both a None f ≡ None
unfolding on_both
no_value None f = refl
no_value (Some x) f = refl
