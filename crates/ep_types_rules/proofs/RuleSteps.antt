-- What the rules of types compute from.
use Rattle.std.proofs.Common.{◌≡◌, ℕ, suc, ◌+◌, ◌<◌, ◌≤◌, Bool, true, false, not, ◌&&◌, ◌||◌, ◌==◌, List, [], ◌∷◌, length, drop, get_or, Some, None, Ok, Err, Option, refl, sym, ap, subst, ◌∙◌, if◌then◌else◌, arith}
use Rattle.std.specs.Prelude.{zero, nat_le, is_some, Result}
use Rattle.std.specs.List.{list_all}
use Rattle.std.proofs.Math.ListN.{drop_of_length-le}
use Rattle.std.proofs.lemmas.Bool.{ne_eqb}
use Rattle.std.proofs.lemmas.List.{drop_more}
use Rattle.ep_base.specs.declared.places.Place.{Place}
use Rattle.ep_tree.specs.Faults.{Fault, entry_count, has_open_range, ill_typed}
use Rattle.ep_tree.specs.Trees.{Ranges, span_and}
use Rattle.ep_tree.specs.Types.{Judged, gives, is_boolean, is_integer, is_matrix, left_type, list_of_matrices, list_type, mistyped, of_scalar, slice_count, stated_dimensions, typed}
use Rattle.ep_tree.specs.Views.{end_of, indices_of, ranges_of, with_range}
use Rattle.ep_tree.specs.declared.syntax.Expr.{Expr}
use Rattle.ep_tree.specs.declared.syntax.Range.{Range}
use Rattle.ep_tree.specs.declared.values.Scalar.{Scalar}
use Rattle.ep_tree.specs.declared.values.ValueType.{ValueType}
use Rattle.ep_types_rules.proofs.Said.{ill_typed_says}
use Rattle.ep_types_rules.specs.Concluding.{Checked, SaysOfCheck, conclude, quantified_over, unless_fault}
use Rattle.ep_types_rules.specs.Named.{fault_of}
use Rattle.ep_types_rules.specs.declared.errors.StaticError.{StaticError}
use Rattle.ep_types_rules.specs.declared.errors.StaticError.TheVariants.{IllTyped}

-- ---- rules

pub ill_typed_is : {A : Type 0} (p : Place) (check : Checked A) → check ≡ Err (ill_typed p) → (fault : Fault) → fault_of (IllTyped p) ≡ Some fault → check ≡ Err fault
ill_typed_is p check e fault s = e ∙ ill_typed_says p fault s

pub conclude_false : (p : Place) (t : ValueType) (b : Bool) → b ≡ false → conclude p (gives t b) ≡ Err (ill_typed p)
unfolding gives
conclude_false p t b e = rw e refl

pub over_false : (p : Place) (b : Bool) (j : Judged) → b ≡ false → conclude p (quantified_over b j) ≡ Err (ill_typed p)
over_false p true j e = absurd cc
over_false p false j e = refl

-- a check that is the same as another says the same
pub says_same : (result : Result ValueType StaticError) (one other : Checked ValueType) → one ≡ other → SaysOfCheck (λ t. t) result other → SaysOfCheck (λ t. t) result one
says_same result one other e h = let P : Checked ValueType → Type 0 = λ x. SaysOfCheck (λ t. t) result x in subst P (sym e) h

-- the items that are left: the next one and the others
pub next_is : {A : Type 0} (xs : List A) (i : ℕ) (x : A) → i < length xs → x ≡ get_or xs i x → drop i xs ≡ x ∷ drop (i + 1) xs
next_is xs i x within is = drop_more xs i x within ∙ ap (λ y. y ∷ drop (i + 1) xs) (sym is)

-- ---- lists

pub over_true : (b : Bool) (j k : _) → b ≡ true → j ≡ k → quantified_over b j ≡ k
over_true true j k h e = e
over_true false j k h e = absurd cc

pub list_empty : (ts : List ValueType) → (length ts == 0) ≡ true → list_type ts ≡ typed ValueType.Empty
unfolding list_type
list_empty [] h = refl
list_empty (t ∷ ts) h = let e : true ≡ false = sym h ∙ ne_eqb (length (t ∷ ts)) 0 (λ e. omega (arith, e)) in absurd cc

pub list_numbers : (ts : List ValueType) → (length ts == 0) ≡ false → list_all is_integer ts ≡ true
    → list_type ts ≡ typed (ValueType.Matrix 1 (if list_all is_boolean ts then Scalar.Bool else Scalar.Int))
unfolding list_type
list_numbers [] h e = absurd cc
list_numbers (t ∷ ts) h e = rw e refl

pub list_mixed : (ts : List ValueType) → (length ts == 0) ≡ false → list_all is_integer ts ≡ false → list_all is_matrix ts ≡ false → list_type ts ≡ mistyped
unfolding list_type
list_mixed [] h e m = absurd cc
list_mixed (t ∷ ts) h e m = rw e (rw m refl)

pub list_matrices : (ts : List ValueType) → (length ts == 0) ≡ false → list_all is_integer ts ≡ false → list_all is_matrix ts ≡ true
    → list_type ts ≡ list_of_matrices ts (stated_dimensions ts)
unfolding list_type
list_matrices [] h e m = absurd cc
list_matrices (t ∷ ts) h e m = rw e (rw m refl)

-- what is there, or else something else
unfoldable pub or_else : Option ℕ → Option ℕ → Option ℕ
or_else None other = other
or_else (Some n) other = Some n

first_states : (t : ValueType) (us : List ValueType) → stated_dimensions (t ∷ us) ≡ or_else (stated_dimensions (t ∷ [])) (stated_dimensions us)
unfolding stated_dimensions or_else
first_states ValueType.Bool us = refl
first_states ValueType.Int us = refl
first_states (ValueType.Matrix n s) us = refl
first_states ValueType.Empty us = refl

-- the first matrix of a list says its dimensions
pub states_next : (ts : List ValueType) (i : ℕ) (d : ValueType) → i < length ts
    → stated_dimensions (drop i ts) ≡ or_else (stated_dimensions (get_or ts i d ∷ [])) (stated_dimensions (drop (i + 1) ts))
states_next ts i d lt = ap stated_dimensions (drop_more ts i d lt) ∙ first_states (get_or ts i d) (drop (i + 1) ts)

pub states_nothing : (ts : List ValueType) (i : ℕ) → length ts ≤ i → stated_dimensions (drop i ts) ≡ None
unfolding stated_dimensions
states_nothing ts i le = ap stated_dimensions (drop_of_length-le ts le)

-- ---- reads

pub reads_within : (t : ValueType) (b : Bool) (n m : ℕ) → n ≤ m → gives t (b && nat_le n m) ≡ gives t b
reads_within t true n m h = ap (gives t) (at_most n m h)
  where
    at_most : (n m : ℕ) → n ≤ m → nat_le n m ≡ true
    at_most n m h = grind arith
reads_within t false n m h = refl

pub reads_beyond : (p : Place) (t : ValueType) (b : Bool) (n m : ℕ) → m < n → conclude p (gives t (b && nat_le n m)) ≡ Err (ill_typed p)
unfolding gives
reads_beyond p t true n m h = ap (λ c. conclude p (gives t c)) (beyond n m h)
  where
    beyond : (n m : ℕ) → m < n → nat_le n m ≡ false
    beyond n m h = grind arith
reads_beyond p t false n m h = refl

pub left_none : (n : ℕ) (s : Scalar) → n ≡ 0 → left_type n s ≡ of_scalar s
unfolding left_type
left_none n s e = rw e refl

pub left_some : (n : ℕ) (s : Scalar) → 0 < n → left_type n s ≡ ValueType.Matrix n s
unfolding left_type
left_some zero s h = absurd (omega (arith, h))
left_some (suc n) s h = refl

-- ---- counts of indices

pub count_next : (is : List (Option Expr)) (i : ℕ) (x : Option Expr) → i < length is → x ≡ get_or is i x
    → slice_count (indices_of (drop i is)) ≡ slice_count (indices_of (x ∷ [])) + slice_count (indices_of (drop (i + 1) is))
unfolding slice_count indices_of
count_next is i x lt e = ap (λ l. slice_count (indices_of l)) (next_is is i x lt e) ∙ go x (drop (i + 1) is)
  where
    go : (x : Option Expr) (others : List (Option Expr)) → slice_count (indices_of (x ∷ others)) ≡ slice_count (indices_of (x ∷ [])) + slice_count (indices_of others)
    go None others = omega arith
    go (Some e) others = omega arith

pub count_end : (is : List (Option Expr)) (i : ℕ) → length is ≤ i → slice_count (indices_of (drop i is)) ≡ 0
unfolding slice_count indices_of
count_end is i le = ap (λ l. slice_count (indices_of l)) (drop_of_length-le is le)

pub entries : (is : List (Option Expr)) → entry_count (indices_of is) ≡ length is
unfolding entry_count indices_of
entries [] = refl
entries (None ∷ is) = ap suc (entries is)
entries (Some x ∷ is) = ap suc (entries is)

-- ---- open ranges

pub open_next : (rs : List Range) (i : ℕ) (r : Range) (b : Bool) → i < length rs → r ≡ get_or rs i r
    → ((others : Ranges) → has_open_range (with_range r others) ≡ (b || has_open_range others))
    → has_open_range (ranges_of (drop i rs)) ≡ (b || has_open_range (ranges_of (drop (i + 1) rs)))
unfolding ranges_of
open_next rs i r b lt e h = ap (λ l. has_open_range (ranges_of l)) (next_is rs i r lt e) ∙ h (ranges_of (drop (i + 1) rs))

pub open_span : (a b : Option Expr) (rs : Ranges) → has_open_range (span_and (end_of a) (end_of b) rs) ≡ (not (is_some a && is_some b) || has_open_range rs)
unfolding has_open_range end_of
open_span None b rs = refl
open_span (Some a) None rs = refl
open_span (Some a) (Some b) rs = refl

pub open_end : (rs : List Range) (i : ℕ) → length rs ≤ i → has_open_range (ranges_of (drop i rs)) ≡ false
unfolding has_open_range ranges_of
open_end rs i le = ap (λ l. has_open_range (ranges_of l)) (drop_of_length-le rs le)

-- ---- open domains

pub closed : (b : Bool) (f : Fault) → b ≡ true → unless_fault b f ≡ Ok tt
closed true f e = refl
closed false f e = absurd cc

pub not_closed : (b : Bool) (f : Fault) → b ≡ false → unless_fault b f ≡ Err f
not_closed true f e = absurd cc
not_closed false f e = refl
