-- Counts of numbers as sums of marks.
use Rattle.std.proofs.Common.{◌≡◌, ◌↔◌, inl, inr, ℕ, zero, suc, ◌+◌, ◌<◌, ◌≤◌, ℤ, pos, negsuc, neg_ℤ, ◌+ℤ◌, ◌*ℤ◌, Bool, true, false, ◌&&◌, cond, IsTrue, List, [], ◌∷◌, ◌++◌, length, map, take, drop, count_by, Option, Some, None, option_map, option_to_list, unwrap_or, slice_get, refl, sym, ap, subst, ◌∙◌, arith, get_or, nat_lt}
use Rattle.std.specs.Prelude.{Err, Ok, OnOk, Result}
use Rattle.std.specs.List.{All, Contains, list_all}
use Rattle.std.specs.Ordering.{int_eq}
use Rattle.std.proofs.lemmas.Int.{ints}
use Rattle.std.proofs.lemmas.List.{append-nil, append_assoc, drop_all, drop_more, get_or-append-add, get_or-map, get_or-take, get_or_default, length-map, map-append, map_more, take_more}
use Rattle.std.proofs.lemmas.List.Elements.{All-append, All-cons, All-contains, All-head, All-nil, All-tail, All-weaker, Contains-append_left, Contains-append_right}
use Rattle.std.proofs.lemmas.List.Folds.{list_all_at}
use Rattle.std.proofs.lemmas.List.Sums.{sum_by-cons}
use Rattle.std.proofs.lemmas.Option.{slice_get-get_or, slice_get_past}
use Rattle.cnf_core.proofs.Members.{All-from_contains}
use Rattle.cnf_core.specs.Formula.{Cnf, Keeps}
use Rattle.ep_base.specs.Numbers.{compare_holds, counts_hold, has_number, of_bool, sum_of, times_in}
use Rattle.ep_base.specs.Reads.{IsWithinNumbers, weighted_sum}
use Rattle.ep_base.specs.declared.operators.CompareOp.{CompareOp}
use Rattle.ep_base.specs.declared.operators.CompareOp.TheVariants as Op
use Rattle.ep_flat.specs.Cons.{FlatCon, con_holds, con_variables, is_as_said, kind_coefficients, kind_holds, kind_variables, linear, number_at, numbers_of_vars}
use Rattle.enc_atoms.proofs.Adding.{adds_both, adds_later, adds_like}
use Rattle.enc_atoms.proofs.Decoded.{length_among, number_among, number_front}
use Rattle.enc_atoms.specs.Atoms.{Adds, AreOfDomains, clause_holds}
use Rattle.enc_atoms.specs.declared.atoms.Atom.{Atom}
use Rattle.enc_count.specs.Counts.{AreFit, IsAllOf, IsMark, counted_parts, no_wanted, sum_holds, wanted_by_numbers, wanted_by_vars, wanted_count, wanted_holds}
use Rattle.enc_count.specs.declared.counts.Wanted.{Wanted}
use Rattle.enc_atoms.proofs.Choosing.{number_from, number_kept, number_there, numbers_kept, truth_at, truths_are}
use Rattle.enc_atoms.proofs.Guards.{adds_below_none}
use Rattle.enc_atoms.proofs.Meanings.{clause_none, decided, either, not_false, other_test, same, same_test}
use Rattle.enc_atoms.proofs.Naming.{fails_as, one_is_says}
use Rattle.enc_atoms.proofs.NewTruths.{adds_truths, length-numbers_from, length_later, numbers_from_at}
use Rattle.enc_atoms.specs.Steps.{AreOf, HasTruths, Implied, IsReady, IsTruth, IsTruthDomain, SomeTruths, Unless, are_all, is_not, numbers_from}
use Rattle.enc_var.proofs.Places.{lt_back, lt_back_false}
use Rattle.enc_var.specs.Decoding.{VariableLiterals}
use Rattle.enc_var.specs.Layouts.{CanTake, GoesOn, HoldsUnder, IsLayoutOf, literals_at}

-- two facts of a result that is there
pub on_ok_both : {T E P Q R : Type 0} (r : Result T E) → (P → Q → R) → OnOk r P → OnOk r Q → OnOk r R
on_ok_both (Ok x) f p q = f p q
on_ok_both (Err e) f p q = tt

-- ---- how often a number stands

times_cons : (x : ℤ) (xs : List ℤ) (v : ℤ) → times_in (x ∷ xs) v ≡ of_bool (int_eq v x) +ℤ times_in xs v
unfolding times_in of_bool
times_cons x xs v = by (int_eq v x) refl
  where
    by : (t : Bool) → int_eq v x ≡ t → pos (count_by (λ y. int_eq v y) (x ∷ xs)) ≡ of_bool t +ℤ pos (count_by (λ y. int_eq v y) xs)
    by true e =
        let h : count_by (λ y. int_eq v y) (x ∷ xs) ≡ 1 + count_by (λ y. int_eq v y) xs = sum_by-cons (λ y. cond (int_eq v y) 1 0) x xs ∙ ap (λ b. cond b 1 0 + count_by (λ y. int_eq v y) xs) e in
        omega (arith, ints, h)
    by false e =
        let h : count_by (λ y. int_eq v y) (x ∷ xs) ≡ 0 + count_by (λ y. int_eq v y) xs = sum_by-cons (λ y. cond (int_eq v y) 1 0) x xs ∙ ap (λ b. cond b 1 0 + count_by (λ y. int_eq v y) xs) e in
        omega (arith, ints, h)

times_nothing : (v : ℤ) → times_in [] v ≡ pos 0
unfolding times_in
times_nothing v = refl

times_append : (xs ys : List ℤ) (v : ℤ) → times_in (xs ++ ys) v ≡ times_in xs v +ℤ times_in ys v
times_append [] ys v = omega (arith, ints, times_nothing v)
times_append (x ∷ xs) ys v = omega (arith, ints, times_cons x (xs ++ ys) v, times_append xs ys v, times_cons x xs v)

times_one : (x v : ℤ) → times_in (x ∷ []) v ≡ of_bool (int_eq v x)
times_one x v = omega (arith, ints, times_cons x [] v, times_nothing v)

numbers_append : (values : List ℤ) (xs ys : List ℕ) → numbers_of_vars values (xs ++ ys) ≡ numbers_of_vars values xs ++ numbers_of_vars values ys
unfolding numbers_of_vars
numbers_append values xs ys = map-append (number_at values) xs ys

numbers_one : (values : List ℤ) (x : ℕ) → numbers_of_vars values (x ∷ []) ≡ number_at values x ∷ []
unfolding numbers_of_vars
numbers_one values x = refl

numbers_cons : (values : List ℤ) (x : ℕ) (xs : List ℕ) → numbers_of_vars values (x ∷ xs) ≡ number_at values x ∷ numbers_of_vars values xs
unfolding numbers_of_vars
numbers_cons values x xs = refl

times_next : (values : List ℤ) (xs : List ℕ) (x : ℕ) (v : ℤ) → times_in (numbers_of_vars values (xs ++ x ∷ [])) v ≡ times_in (numbers_of_vars values xs) v +ℤ of_bool (int_eq v (number_at values x))
times_next values xs x v =
    ap (λ ns. times_in ns v) (numbers_append values xs (x ∷ []) ∙ ap (λ ns. numbers_of_vars values xs ++ ns) (numbers_one values x))
    ∙ times_append (numbers_of_vars values xs) (number_at values x ∷ []) v
    ∙ ap (λ n. times_in (numbers_of_vars values xs) v +ℤ n) (times_one (number_at values x) v)

-- the variables that can be a number, so far
pub able_none : (L : List VariableLiterals) (items vars : List ℕ) (v : ℤ) → items ≡ [] → (values : List ℤ) → AreOfDomains L values → times_in (numbers_of_vars values items) v ≡ times_in (numbers_of_vars values (take 0 vars)) v
able_none L items vars v empty values among = ap (λ xs. times_in (numbers_of_vars values xs) v) empty

pub able_more : (L : List VariableLiterals) (items new vars : List ℕ) (k : ℕ) (v : ℤ) → k < length vars → new ≡ items ++ get_or vars k 0 ∷ []
    → ((values : List ℤ) → AreOfDomains L values → times_in (numbers_of_vars values items) v ≡ times_in (numbers_of_vars values (take k vars)) v)
    → (values : List ℤ) → AreOfDomains L values → times_in (numbers_of_vars values new) v ≡ times_in (numbers_of_vars values (take (k + 1) vars)) v
able_more L items new vars k v low pushed so_far values among =
    ap (λ xs. times_in (numbers_of_vars values xs) v) pushed ∙ times_next values items (get_or vars k 0) v
    ∙ ap (λ n. n +ℤ of_bool (int_eq v (number_at values (get_or vars k 0)))) (so_far values among)
    ∙ sym (times_next values (take k vars) (get_or vars k 0) v)
    ∙ ap (λ xs. times_in (numbers_of_vars values xs) v) (sym (take_more vars k 0 low))

pub able_same : (L : List VariableLiterals) (items vars : List ℕ) (k : ℕ) (v : ℤ) → k < length vars → get_or vars k 0 < length L → (Contains (literals_at L (get_or vars k 0)).domain v → ⊥)
    → ((values : List ℤ) → AreOfDomains L values → times_in (numbers_of_vars values items) v ≡ times_in (numbers_of_vars values (take k vars)) v)
    → (values : List ℤ) → AreOfDomains L values → times_in (numbers_of_vars values items) v ≡ times_in (numbers_of_vars values (take (k + 1) vars)) v
unfolding of_bool
able_same L items vars k v low there none so_far values among =
    let differ : int_eq v (number_at values (get_or vars k 0)) ≡ false =
    other_test v (number_at values (get_or vars k 0)) (λ is. none (subst (λ n. Contains (literals_at L (get_or vars k 0)).domain n) (sym is) (number_among L values (get_or vars k 0) among there))) in
    let last : of_bool (int_eq v (number_at values (get_or vars k 0))) ≡ pos 0 = ap of_bool differ in
    omega (arith, ints, so_far values among, times_next values (take k vars) (get_or vars k 0) v, last, ap (λ xs. times_in (numbers_of_vars values xs) v) (take_more vars k 0 low))

-- ---- marks

-- behind no guard
pub unless_nothing : (L : List VariableLiterals) (f : Cnf) (L1 : List VariableLiterals) (g : Cnf) (guard : List Atom) (P : List ℤ → Type 0) → IsLayoutOf L f → guard ≡ [] → Adds L f L1 g (Unless guard P) → Adds L f L1 g P
unless_nothing L f L1 g guard P is_layout empty adds =
    adds_like L f L1 g (Unless guard P) P is_layout adds
    (λ values among. (λ h. h (ap (clause_holds values) empty ∙ clause_none values), λ h off. h))

pub mark_whole : (L : List VariableLiterals) (f f1 f2 : Cnf) (one other : List Atom) (mark x : ℕ) (v w u : ℤ) → IsLayoutOf L f → one ≡ [] → other ≡ [] → w ≡ v → u ≡ v → Adds L f L f1 (Unless one (Implied mark (pos 1) x w)) → Adds L f1 L f2 (Unless other (Implied x u mark (pos 1))) → Adds L f L f2 (IsMark mark x v)
mark_whole L f f1 f2 one other mark x v w u is_layout one_empty other_empty first second adds more =
    adds_both L f f1 L f2 (Implied mark (pos 1) x v) (Implied x v mark (pos 1)) is_layout
    (subst (λ (n : ℤ). Adds L f L f1 (Implied mark (pos 1) x n)) first (unless_nothing L f L f1 one (Implied mark (pos 1) x w) is_layout one_empty adds))
    (subst (λ (n : ℤ). Adds L f1 L f2 (Implied x n mark (pos 1))) second (unless_nothing L f1 L f2 other (Implied x u mark (pos 1)) adds.goes_on.is_layout other_empty more))

-- one more mark in a sum
pub parts_more : (var : Option ℕ) (marks : List ℕ) (k : ℕ) (items new : List (ℤ × ℕ)) → k < length marks → items ≡ counted_parts var (take k marks) → new ≡ items ++ (pos 1, get_or marks k 0) ∷ [] → new ≡ counted_parts var (take (k + 1) marks)
unfolding counted_parts
parts_more var marks k items new low so_far pushed =
    pushed ∙ ap (λ ps. ps ++ (pos 1, get_or marks k 0) ∷ []) so_far
    ∙ append_assoc (map (λ x. (neg_ℤ (pos 1), x)) (option_to_list var)) (map (λ x. (pos 1, x)) (take k marks)) ((pos 1, get_or marks k 0) ∷ [])
    ∙ ap (λ ps. map (λ x. (neg_ℤ (pos 1), x)) (option_to_list var) ++ ps) (sym (map_more {Y = ℤ × ℕ} (λ x. (pos 1, x)) marks k 0 low))

-- a variable of 0 and 1 that is 1 exactly where another one is a number
bit_of_mark : (b n v : ℤ) → IsTruth b → (b ≡ pos 1 → n ≡ v) → (n ≡ v → b ≡ pos 1) → b ≡ of_bool (int_eq v n)
unfolding of_bool
bit_of_mark b n v truth forth back = elim truth as (λ _. b ≡ of_bool (int_eq v n)) [
  | inl zero_is ↦ zero_is ∙ sym (ap of_bool (other_test v n (λ e. apart (sym zero_is ∙ back (sym e)))))
  | inr one_is ↦ one_is ∙ sym (ap of_bool (same_test v n (sym (forth one_is))))
]
  where
    apart : pos 0 ≡ pos 1 → ⊥
    apart e = omega (arith, ints, e)

bit_one : (b : Bool) → of_bool b ≡ pos 1 → b ≡ true
unfolding of_bool
bit_one true e = refl
bit_one false e = absurd (omega (arith, ints, e))

bit_zero : (b : Bool) → of_bool b ≡ pos 0 → b ≡ false
unfolding of_bool
bit_zero true e = absurd (omega (arith, ints, e))
bit_zero false e = refl

one_bit : (b : Bool) → b ≡ true → of_bool b ≡ pos 1
unfolding of_bool
one_bit true e = refl
one_bit false e = not_false false e refl

zero_bit : (b : Bool) → b ≡ false → of_bool b ≡ pos 0
unfolding of_bool
zero_bit true e = not_false true refl e
zero_bit false e = refl

bit_is_truth : (b : Bool) → IsTruth (of_bool b)
unfolding of_bool
bit_is_truth true = inr refl
bit_is_truth false = inl refl

sum_cons : (x : ℤ) (xs : List ℤ) → sum_of (x ∷ xs) ≡ x +ℤ sum_of xs
unfolding sum_of
sum_cons x xs = refl

sum_nothing : sum_of [] ≡ pos 0
unfolding sum_of
sum_nothing = refl

-- bits that tell where a number stands sum up to how often it does
sum_is : (bits xs : List ℤ) (v : ℤ) → length bits ≡ length xs → ((k : ℕ) → k < length xs → get_or bits k (pos 0) ≡ of_bool (int_eq v (get_or xs k (pos 0)))) → sum_of bits ≡ times_in xs v
sum_is [] [] v long each = sum_nothing ∙ sym (times_nothing v)
sum_is [] (x ∷ xs) v long each = absurd (omega (arith, long))
sum_is (b ∷ bits) [] v long each = absurd (omega (arith, long))
sum_is (b ∷ bits) (x ∷ xs) v long each =
    let first : b ≡ of_bool (int_eq v x) = each 0 (omega arith) in
    let rest : sum_of bits ≡ times_in xs v = sum_is bits xs v (omega (arith, long)) (λ k low. each (suc k) (omega (arith, low))) in
    omega (arith, ints, first, rest, sum_cons b bits, times_cons x xs v)

-- ---- a sum as a constraint

ones : (vs : List ℤ) (marks : List ℕ) → weighted_sum (map {B = ℤ × ℤ} (λ p. (p.0, number_at vs p.1)) (map {B = ℤ × ℕ} (λ x. (pos 1, x)) marks)) ≡ sum_of (numbers_of_vars vs marks)
unfolding weighted_sum sum_of numbers_of_vars
ones vs [] = refl
ones vs (x ∷ marks) =
    let rest = ones vs marks in
    let one : pos 1 *ℤ number_at vs x ≡ number_at vs x = omega (arith, ints) in
    ap (λ n. n +ℤ sum_of (map (λ p. p.0 *ℤ p.1) (map {B = ℤ × ℤ} (λ p. (p.0, number_at vs p.1)) (map {B = ℤ × ℕ} (λ y. (pos 1, y)) marks)))) one ∙ ap (λ n. number_at vs x +ℤ n) rest

counted : (vs : List ℤ) (var : Option ℕ) (marks : List ℕ)
    → weighted_sum (map {B = ℤ × ℤ} (λ p. (p.0, number_at vs p.1)) (counted_parts var marks)) ≡ neg_ℤ (unwrap_or (option_map (number_at vs) var) (pos 0)) +ℤ sum_of (numbers_of_vars vs marks)
unfolding counted_parts weighted_sum sum_of
counted vs None marks =
    let nothing : sum_of (numbers_of_vars vs marks) ≡ neg_ℤ (pos 0) +ℤ sum_of (numbers_of_vars vs marks) = omega (arith, ints) in
    ones vs marks ∙ nothing
counted vs (Some x) marks =
    let minus : negsuc 0 *ℤ number_at vs x ≡ neg_ℤ (number_at vs x) = omega (arith, ints) in
    ap (λ n. n +ℤ weighted_sum (map {B = ℤ × ℤ} (λ p. (p.0, number_at vs p.1)) (map {B = ℤ × ℕ} (λ y. (pos 1, y)) marks))) minus ∙ ap (λ n. neg_ℤ (number_at vs x) +ℤ n) (ones vs marks)

shifted : (op : CompareOp) (s a c : ℤ) → compare_holds op (neg_ℤ a +ℤ s) c ≡ compare_holds op s (a +ℤ c)
unfolding compare_holds
shifted Op.Equal s a c = grind (arith, ints)
shifted Op.NotEqual s a c = grind (arith, ints)
shifted Op.Less s a c = grind (arith, ints)
shifted Op.AtMost s a c = grind (arith, ints)
shifted Op.Greater s a c = grind (arith, ints)
shifted Op.AtLeast s a c = grind (arith, ints)

sum_said : (vs : List ℤ) (op : CompareOp) (marks : List ℕ) (wanted : Wanted) (n : ℤ) → n ≡ wanted.count → kind_holds vs (linear (counted_parts wanted.var marks) op n) ≡ sum_holds vs op marks wanted
unfolding kind_holds sum_holds wanted_count
sum_said vs op marks wanted n is =
    ap (λ s. compare_holds op s n) (counted vs wanted.var marks) ∙ shifted op (sum_of (numbers_of_vars vs marks)) (unwrap_or (option_map (number_at vs) wanted.var) (pos 0)) n
    ∙ ap (λ m. compare_holds op (sum_of (numbers_of_vars vs marks)) (unwrap_or (option_map (number_at vs) wanted.var) (pos 0) +ℤ m)) is

part_vars : (var : Option ℕ) (marks : List ℕ) → map (λ p. p.1) (counted_parts var marks) ≡ option_to_list var ++ marks
unfolding counted_parts
part_vars None marks = seconds marks
  where
    seconds : (marks : List ℕ) → map {A = ℤ × ℕ} (λ p. p.1) (map (λ x. (pos 1, x)) marks) ≡ marks
    seconds [] = refl
    seconds (x ∷ marks) = ap (λ xs. x ∷ xs) (seconds marks)
part_vars (Some y) marks = ap (λ xs. y ∷ xs) (seconds marks)
  where
    seconds : (marks : List ℕ) → map {A = ℤ × ℕ} (λ p. p.1) (map (λ x. (pos 1, x)) marks) ≡ marks
    seconds [] = refl
    seconds (x ∷ marks) = ap (λ xs. x ∷ xs) (seconds marks)

one_within : IsWithinNumbers (pos 1)
one_within = (omega (arith, ints), omega (arith, ints))

minus_one_within : IsWithinNumbers (negsuc 0)
minus_one_within = (omega (arith, ints), omega (arith, ints))

part_coefficients : (var : Option ℕ) (marks : List ℕ) → All IsWithinNumbers (map (λ p. p.0) (counted_parts var marks))
unfolding counted_parts
part_coefficients None marks = firsts marks
  where
    firsts : (marks : List ℕ) → All IsWithinNumbers (map {A = ℤ × ℕ} (λ p. p.0) (map (λ x. (pos 1, x)) marks))
    firsts [] = All-nil IsWithinNumbers
    firsts (x ∷ marks) = All-cons IsWithinNumbers (pos 1) (map {A = ℤ × ℕ} (λ p. p.0) (map (λ y. (pos 1, y)) marks)) one_within (firsts marks)
part_coefficients (Some y) marks = All-cons IsWithinNumbers (negsuc 0) (map {A = ℤ × ℕ} (λ p. p.0) (map (λ x. (pos 1, x)) marks)) minus_one_within (firsts marks)
  where
    firsts : (marks : List ℕ) → All IsWithinNumbers (map {A = ℤ × ℕ} (λ p. p.0) (map (λ x. (pos 1, x)) marks))
    firsts [] = All-nil IsWithinNumbers
    firsts (x ∷ marks) = All-cons IsWithinNumbers (pos 1) (map {A = ℤ × ℕ} (λ p. p.0) (map (λ y. (pos 1, y)) marks)) one_within (firsts marks)

fit_append : (L : List VariableLiterals) (xs ys : List ℕ) → AreFit L xs → AreFit L ys → AreFit L (xs ++ ys)
fit_append L xs ys one two = record {
  there = All-append (λ x. x < length L) xs ys one.there two.there;
  small = All-append (λ x. All IsWithinNumbers (literals_at L x).domain) xs ys one.small two.small;
}

front : {X : Type 0} (P : X → Type 0) (xs ys : List X) → All P (xs ++ ys) → All P xs
front P xs ys h = All-from_contains P xs (λ x found. All-contains P (xs ++ ys) x h (Contains-append_left xs ys x found))

back : {X : Type 0} (P : X → Type 0) (xs ys : List X) → All P (xs ++ ys) → All P ys
back P xs ys h = All-from_contains P ys (λ x found. All-contains P (xs ++ ys) x h (Contains-append_right xs ys x found))

-- the variables of a constraint that can be encoded are fit
pub kind_fit : (L : List VariableLiterals) (f : Cnf) (con : FlatCon) → CanTake L f con → AreFit L (kind_variables con.kind)
unfolding con_variables
kind_fit L f con can = record {
  there = back (λ x. x < length L) (option_to_list con.truth) (kind_variables con.kind) can.names;
  small = back (λ x. All IsWithinNumbers (literals_at L x).domain) (option_to_list con.truth) (kind_variables con.kind) can.numbers;
}

pub both_fit : (L : List VariableLiterals) (xs ys : List ℕ) → AreFit L (xs ++ ys) → AreFit L xs × AreFit L ys
both_fit L xs ys fit = (
  record { there = front (λ x. x < length L) xs ys fit.there; small = front (λ x. All IsWithinNumbers (literals_at L x).domain) xs ys fit.small },
  record { there = back (λ x. x < length L) xs ys fit.there; small = back (λ x. All IsWithinNumbers (literals_at L x).domain) xs ys fit.small },
)

-- a sum of marks can be encoded
pub sum_taken : (L : List VariableLiterals) (f : Cnf) (truth : Option ℕ) (op : CompareOp) (marks : List ℕ) (wanted : Wanted) (parts : List (ℤ × ℕ)) (n : ℤ) → IsReady L f → AreFit L (option_to_list truth) → AreFit L marks → AreFit L (option_to_list wanted.var)
    → parts ≡ counted_parts wanted.var marks → CanTake L f (record { truth = truth; kind = linear parts op n })
unfolding con_variables kind_variables kind_coefficients
sum_taken L f truth op marks wanted parts n ready truth_fit marks_fit wanted_fit are =
    let all : AreFit L (option_to_list truth ++ map (λ p. p.1) parts) =
    subst (λ (xs : List ℕ). AreFit L (option_to_list truth ++ xs)) (sym (ap (map (λ p. p.1)) are ∙ part_vars wanted.var marks))
    (fit_append L (option_to_list truth) (option_to_list wanted.var ++ marks) truth_fit (fit_append L (option_to_list wanted.var) marks wanted_fit marks_fit)) in
    record {
      from_new = ready.from_new;
      is_layout = ready.is_layout;
      names = all.there;
      numbers = all.small;
      coefficients = subst (λ (ps : List (ℤ × ℕ)). All IsWithinNumbers (map (λ p. p.0) ps)) (sym are) (part_coefficients wanted.var marks);
    }

-- what is kept of a sum of marks
pub sum_kept : (L : List VariableLiterals) (f : Cnf) (L1 : List VariableLiterals) (g : Cnf) (truth : Option ℕ) (op : CompareOp) (marks : List ℕ) (wanted : Wanted) (parts : List (ℤ × ℕ)) (n : ℤ) → IsLayoutOf L f → parts ≡ counted_parts wanted.var marks → n ≡ wanted.count
    → GoesOn L f L1 g → Keeps f g (HoldsUnder L (record { truth = truth; kind = linear parts op n })) → Adds L f L1 g (λ values. IsTrue (is_as_said values truth (sum_holds values op marks wanted)))
unfolding con_holds
sum_kept L f L1 g truth op marks wanted parts n is_layout are is goes keeps =
    adds_like L f L1 g (λ values. IsTrue (is_as_said values truth (kind_holds values (linear parts op n)))) (λ values. IsTrue (is_as_said values truth (sum_holds values op marks wanted))) is_layout
    (record { goes_on = goes; keeps = keeps })
    (λ values among.
    let says : kind_holds values (linear parts op n) ≡ sum_holds values op marks wanted = ap (λ ps. kind_holds values (linear ps op n)) are ∙ sum_said values op marks wanted n is in
    (λ h. ap (is_as_said values truth) (sym says) ∙ h, λ h. ap (is_as_said values truth) says ∙ h))

-- ---- one number

said_kept : (values bits : List ℤ) (truth : Option ℕ) (b : Bool) → All (λ x. x < length values) (option_to_list truth) → is_as_said (values ++ bits) truth b ≡ is_as_said values truth b
unfolding is_as_said
said_kept values bits None b low = refl
said_kept values bits (Some t) b low = ap (λ n. int_eq n (of_bool b)) (number_kept values bits t (All-head (λ x. x < length values) t [] low))

count_kept : (values bits : List ℤ) (wanted : Wanted) → All (λ x. x < length values) (option_to_list wanted.var) → wanted_count (values ++ bits) wanted ≡ wanted_count values wanted
unfolding wanted_count
count_kept values bits wanted low = ap (λ o. unwrap_or o (pos 0) +ℤ wanted.count) (kept wanted.var low)
  where
    kept : (var : Option ℕ) → All (λ x. x < length values) (option_to_list var) → option_map (number_at (values ++ bits)) var ≡ option_map (number_at values) var
    kept None low = refl
    kept (Some x) low = ap Some (number_kept values bits x (All-head (λ y. y < length values) x [] low))

-- what marks and their sum are said to be
abbrev pub IsCounted : Option ℕ → CompareOp → List ℕ → List ℕ → Wanted → List ℤ → Type 0
IsCounted truth op marks able wanted values =
    ((k : ℕ) → k < length able → IsMark (get_or marks k 0) (get_or able k 0) wanted.value values) × IsTrue (is_as_said values truth (sum_holds values op marks wanted))

number_of : (values : List ℤ) (xs : List ℕ) (k : ℕ) (d : ℤ) → k < length xs → get_or (numbers_of_vars values xs) k d ≡ number_at values (get_or xs k 0)
unfolding numbers_of_vars
number_of values xs k d low = get_or-map (number_at values) xs k 0 d low

length_numbers : (values : List ℤ) (xs : List ℕ) → length (numbers_of_vars values xs) ≡ length xs
unfolding numbers_of_vars
length_numbers values xs = length-map xs (number_at values)

-- There are marks with such a sum exactly where the number stands so often.
marked : (values : List ℤ) (N : ℕ) (truth : Option ℕ) (op : CompareOp) (marks able vars : List ℕ) (wanted : Wanted) → length values ≡ N → All (λ x. x < length values) (option_to_list truth) → All (λ x. x < length values) (option_to_list wanted.var) → All (λ x. x < length values) able
    → marks ≡ numbers_from N (length able) → times_in (numbers_of_vars values able) wanted.value ≡ times_in (numbers_of_vars values vars) wanted.value
    → SomeTruths (length able) (λ bits. IsCounted truth op marks able wanted (values ++ bits)) ↔ IsTrue (is_as_said values truth (wanted_holds values op vars wanted))
unfolding sum_holds wanted_holds
marked values N truth op marks able vars wanted long truth_low var_low able_low marks_are times_are = (
  λ h. sym (said h.truths (sum_is h.truths (numbers_of_vars values able) wanted.value (h.many ∙ sym (length_numbers values able)) (λ k low. bit h k (omega (arith, low, length_numbers values able)))) h.many) ∙ h.holds_there.1,
  λ h. record {
    truths = B;
    many = length-map able (λ x. of_bool (int_eq wanted.value (number_at values x)));
    each = λ k d low. subst IsTruth (sym (at_bit k d (omega (arith, low, length-map able (λ x. of_bool (int_eq wanted.value (number_at values x))))))) (bit_is_truth (int_eq wanted.value (number_at values (get_or able k 0))));
    holds_there = (
      λ k low. (
        λ one. able_kept B k low ∙ sym (same wanted.value (number_at values (get_or able k 0)) (bit_one (int_eq wanted.value (number_at values (get_or able k 0))) (sym (at_bit k (pos 0) low) ∙ sym (mark_is B k low) ∙ one))),
        λ at. mark_is B k low ∙ at_bit k (pos 0) low ∙ one_bit (int_eq wanted.value (number_at values (get_or able k 0))) (same_test wanted.value (number_at values (get_or able k 0)) (sym (sym (able_kept B k low) ∙ at))),
      ),
      said B (sum_is B (numbers_of_vars values able) wanted.value (length-map able (λ x. of_bool (int_eq wanted.value (number_at values x))) ∙ sym (length_numbers values able))
          (λ k low.
          let within : k < length able = omega (arith, low, length_numbers values able) in
          at_bit k (pos 0) within ∙ ap (λ n. of_bool (int_eq wanted.value n)) (sym (number_of values able k (pos 0) within)))) (length-map able (λ x. of_bool (int_eq wanted.value (number_at values x)))) ∙ h,
    );
  },
)
  where
    B : List ℤ
    B = map (λ x. of_bool (int_eq wanted.value (number_at values x))) able

    at_bit : (k : ℕ) (d : ℤ) → k < length able → get_or (map (λ x. of_bool (int_eq wanted.value (number_at values x))) able) k d ≡ of_bool (int_eq wanted.value (number_at values (get_or able k 0)))
    at_bit k d low = get_or-map (λ x. of_bool (int_eq wanted.value (number_at values x))) able k 0 d low

    mark_is : (bits : List ℤ) (k : ℕ) → k < length able → number_at (values ++ bits) (get_or marks k 0) ≡ get_or bits k (pos 0)
    mark_is bits k low = ap (λ ms. number_at (values ++ bits) (get_or ms k 0)) marks_are ∙ ap (number_at (values ++ bits)) (numbers_from_at N (length able) k 0 low) ∙ truth_at values bits N k long

    able_kept : (bits : List ℤ) (k : ℕ) → k < length able → number_at (values ++ bits) (get_or able k 0) ≡ number_at values (get_or able k 0)
    able_kept bits k low = number_kept values bits (get_or able k 0) (able_low k 0 low)

    bit : (h : SomeTruths (length able) (λ bits. IsCounted truth op marks able wanted (values ++ bits))) (k : ℕ) → k < length able → get_or h.truths k (pos 0) ≡ of_bool (int_eq wanted.value (get_or (numbers_of_vars values able) k (pos 0)))
    bit h k low =
        let mark = h.holds_there.0 k low in
        bit_of_mark (get_or h.truths k (pos 0)) (number_at values (get_or able k 0)) wanted.value (h.each k (pos 0) (omega (arith, low, h.many)))
        (λ one. sym (able_kept h.truths k low) ∙ mark.0 (mark_is h.truths k low ∙ one))
        (λ at. sym (mark_is h.truths k low) ∙ mark.1 (able_kept h.truths k low ∙ at))
        ∙ ap (λ n. of_bool (int_eq wanted.value n)) (sym (number_of values able k (pos 0) low))

    sum_bits : (bits : List ℤ) → length bits ≡ length able → numbers_of_vars (values ++ bits) marks ≡ bits
    sum_bits bits many = ap (numbers_of_vars (values ++ bits)) marks_are ∙ truths_are values bits N (length able) long many

    same_sum : (bits : List ℤ) → sum_of bits ≡ times_in (numbers_of_vars values able) wanted.value → length bits ≡ length able → sum_holds (values ++ bits) op marks wanted ≡ wanted_holds values op vars wanted
    same_sum bits is many =
        ap (λ n. compare_holds op (sum_of n) (wanted_count (values ++ bits) wanted)) (sum_bits bits many)
        ∙ ap (λ n. compare_holds op n (wanted_count (values ++ bits) wanted)) (is ∙ times_are)
        ∙ ap (compare_holds op (times_in (numbers_of_vars values vars) wanted.value)) (count_kept values bits wanted var_low)

    said : (bits : List ℤ) → sum_of bits ≡ times_in (numbers_of_vars values able) wanted.value → length bits ≡ length able → is_as_said (values ++ bits) truth (sum_holds (values ++ bits) op marks wanted) ≡ is_as_said values truth (wanted_holds values op vars wanted)
    said bits is many = ap (is_as_said (values ++ bits) truth) (same_sum bits is many) ∙ said_kept values bits truth (wanted_holds values op vars wanted) truth_low

lower : (L : List VariableLiterals) (values : List ℤ) (xs : List ℕ) → length values ≡ length L → AreOf L xs → All (λ x. x < length values) xs
lower L values xs long low = All-weaker (λ (x : ℕ). x < length L) (λ (x : ℕ). x < length values) (λ x below. omega (arith, below, long)) xs low

-- new variables that are marks, and what their sum is said to be
pub count_whole : (L : List VariableLiterals) (f : Cnf) (L1 : List VariableLiterals) (f1 f2 : Cnf) (L2 : List VariableLiterals) (f3 : Cnf) (truth : Option ℕ) (op : CompareOp) (marks able vars : List ℕ) (wanted : Wanted) (count : ℕ) (v : ℤ) → IsLayoutOf L f
    → AreOf L (option_to_list truth) → AreOf L (option_to_list wanted.var) → AreOf L able → HasTruths L f L1 f1 count → count ≡ length able → marks ≡ numbers_from (length L) count → v ≡ wanted.value
    → ((values : List ℤ) → AreOfDomains L values → times_in (numbers_of_vars values able) v ≡ times_in (numbers_of_vars values vars) v)
    → Adds L1 f1 L1 f2 (λ values. (k : ℕ) → k < length able → IsMark (get_or marks k 0) (get_or able k 0) v values)
    → Adds L1 f2 L2 f3 (λ values. IsTrue (is_as_said values truth (sum_holds values op marks wanted)))
    → Adds L f L2 f3 (λ values. IsTrue (is_as_said values truth (wanted_holds values op vars wanted)))
count_whole L f L1 f1 f2 L2 f3 truth op marks able vars wanted count v is_layout truth_low var_low able_low new many marks_are is times_are one two =
    adds_like L f L2 f3 (λ values. SomeTruths count (λ bits. IsCounted truth op marks able wanted (values ++ bits))) (λ values. IsTrue (is_as_said values truth (wanted_holds values op vars wanted))) is_layout
    (adds_truths L f L1 f1 L2 f3 count (IsCounted truth op marks able wanted) is_layout new
    (adds_both L1 f1 f2 L2 f3 (λ values. (k : ℕ) → k < length able → IsMark (get_or marks k 0) (get_or able k 0) wanted.value values) (λ values. IsTrue (is_as_said values truth (sum_holds values op marks wanted))) new.goes_on.is_layout
    (subst (λ (w : ℤ). Adds L1 f1 L1 f2 (λ values. (k : ℕ) → k < length able → IsMark (get_or marks k 0) (get_or able k 0) w values)) is one) two))
    (λ values among.
    let long : length values ≡ length L = length_among L values among in
    let both = marked values (length L) truth op marks able vars wanted long (lower L values (option_to_list truth) long truth_low) (lower L values (option_to_list wanted.var) long var_low) (lower L values able long able_low)
    (marks_are ∙ ap (numbers_from (length L)) many)
    (subst (λ (w : ℤ). times_in (numbers_of_vars values able) w ≡ times_in (numbers_of_vars values vars) w) is (times_are values among)) in (
      λ h. both.0 (subst (λ (n : ℕ). SomeTruths n (λ bits. IsCounted truth op marks able wanted (values ++ bits))) many h),
      λ h. subst (λ (n : ℕ). SomeTruths n (λ bits. IsCounted truth op marks able wanted (values ++ bits))) (sym many) (both.1 h),
    ))

-- ---- later layouts

short : {X : Type 0} (n : ℕ) (ys : List X) → length (take n ys) ≤ length ys
short zero ys = omega arith
short (suc n) [] = omega arith
short (suc n) (y ∷ ys) = let h = short n ys in omega (arith, h)

longer : (L : List VariableLiterals) (f : Cnf) (L1 : List VariableLiterals) (g : Cnf) → GoesOn L f L1 g → length L ≤ length L1
longer L f L1 g goes = subst (λ m. m ≤ length L1) (ap length goes.earlier) (short (length L) L1)

pub of_later : (L : List VariableLiterals) (f : Cnf) (L1 : List VariableLiterals) (g : Cnf) (xs : List ℕ) → GoesOn L f L1 g → AreOf L xs → AreOf L1 xs
of_later L f L1 g xs goes low = let most = longer L f L1 g goes in All-weaker (λ (x : ℕ). x < length L) (λ (x : ℕ). x < length L1) (λ x below. omega (arith, below, most)) xs low

pub fit_later : (L : List VariableLiterals) (f : Cnf) (L1 : List VariableLiterals) (g : Cnf) (xs : List ℕ) → GoesOn L f L1 g → AreFit L xs → AreFit L1 xs
fit_later L f L1 g xs goes fit = record {
  there = of_later L f L1 g xs goes fit.there;
  small = λ k d low. subst (λ (e : VariableLiterals). All IsWithinNumbers e.domain) (same (get_or xs k d) (fit.there k d low)) (fit.small k d low);
}
  where
    same : (x : ℕ) → x < length L → literals_at L x ≡ literals_at L1 x
    same x low = ap (λ es. get_or es x (record { domain = []; first = 0 })) (sym goes.earlier) ∙ get_or-take (length L) L1 x (record { domain = []; first = 0 }) low

pub wanted_later : (L : List VariableLiterals) (f : Cnf) (L1 : List VariableLiterals) (g : Cnf) (wanted : List Wanted) → GoesOn L f L1 g → All (λ one. AreFit L (option_to_list one.var)) wanted → All (λ one. AreFit L1 (option_to_list one.var)) wanted
wanted_later L f L1 g wanted goes fit = All-weaker (λ (one : Wanted). AreFit L (option_to_list one.var)) (λ (one : Wanted). AreFit L1 (option_to_list one.var)) (λ one h. fit_later L f L1 g (option_to_list one.var) goes h) wanted fit

-- new variables of 0 and 1 are fit
pub truths_fit : (L : List VariableLiterals) (f : Cnf) (L1 : List VariableLiterals) (g : Cnf) (count : ℕ) (truths : List ℕ) → HasTruths L f L1 g count → truths ≡ numbers_from (length L) count → AreFit L1 truths
truths_fit L f L1 g count truths new are = subst (λ ts. AreFit L1 ts) (sym are) (record {
  there = λ k d low. let at = place k d low in omega (arith, at.0, at.1, length_later L f L1 g count new);
  small = λ k d low. let at = place k d low in subst (λ (x : ℕ). All IsWithinNumbers (literals_at L1 x).domain) (sym at.0) (small_at k at.1);
})
  where
    small_bit : (v : ℤ) → IsTruth v → IsWithinNumbers v
    small_bit v truth = elim truth as (λ _. IsWithinNumbers v) [ inl zero_is ↦ (omega (arith, ints, zero_is), omega (arith, ints, zero_is)) | inr one_is ↦ (omega (arith, ints, one_is), omega (arith, ints, one_is)) ]

    small_bits : (e : VariableLiterals) → IsTruthDomain e.domain → All IsWithinNumbers e.domain
    small_bits e bits j d low = small_bit (get_or e.domain j d) (bits.only (get_or e.domain j d) (j, low, get_or_default e.domain j (get_or e.domain j d) d low))

    place : (k d : ℕ) → k < length (numbers_from (length L) count) → (get_or (numbers_from (length L) count) k d ≡ length L + k) × (k < count)
    place k d low = let within : k < count = omega (arith, low, length-numbers_from (length L) count) in (numbers_from_at (length L) count k d within, within)

    small_at : (k : ℕ) → k < count → All IsWithinNumbers (literals_at L1 (length L + k)).domain
    small_at k within =
        let e : VariableLiterals = get_or new.added k (record { domain = []; first = 0 }) in
        let is : literals_at L1 (length L + k) ≡ get_or new.added k (record { domain = []; first = 0 }) = ap (λ es. get_or es (length L + k) (record { domain = []; first = 0 })) new.pushed ∙ get_or-append-add L new.added k (record { domain = []; first = 0 }) in
        subst (λ (v : VariableLiterals). All IsWithinNumbers v.domain) (sym is) (small_bits e (new.domains k (record { domain = []; first = 0 }) (omega (arith, within, new.many))))

-- numbers of earlier variables
numbers_front : (values : List ℤ) (n : ℕ) (xs : List ℕ) → All (λ x. x < n) xs → numbers_of_vars (take n values) xs ≡ numbers_of_vars values xs
unfolding numbers_of_vars
numbers_front values n [] low = refl
numbers_front values n (x ∷ xs) low =
    ap (λ v. v ∷ map (number_at (take n values)) xs) (number_front values n x (All-head (λ y. y < n) x xs low))
    ∙ ap (λ vs. number_at values x ∷ vs) (numbers_front values n xs (All-tail (λ y. y < n) x xs low))

said_front : (values : List ℤ) (n : ℕ) (truth : Option ℕ) (b : Bool) → All (λ x. x < n) (option_to_list truth) → is_as_said (take n values) truth b ≡ is_as_said values truth b
unfolding is_as_said
said_front values n None b low = refl
said_front values n (Some t) b low = ap (λ v. int_eq v (of_bool b)) (number_front values n t (All-head (λ x. x < n) t [] low))

wanted_front : (values : List ℤ) (n : ℕ) (op : CompareOp) (vars : List ℕ) (wanted : Wanted) → All (λ x. x < n) vars → All (λ x. x < n) (option_to_list wanted.var) → wanted_holds (take n values) op vars wanted ≡ wanted_holds values op vars wanted
unfolding wanted_holds wanted_count
wanted_front values n op vars wanted vars_low var_low =
    ap (λ ns. compare_holds op (times_in ns wanted.value) (unwrap_or (option_map (number_at (take n values)) wanted.var) (pos 0) +ℤ wanted.count)) (numbers_front values n vars vars_low)
    ∙ ap (λ o. compare_holds op (times_in (numbers_of_vars values vars) wanted.value) (unwrap_or o (pos 0) +ℤ wanted.count)) (front wanted.var var_low)
  where
    front : (var : Option ℕ) → All (λ x. x < n) (option_to_list var) → option_map (number_at (take n values)) var ≡ option_map (number_at values) var
    front None low = refl
    front (Some x) low = ap Some (number_front values n x (All-head (λ y. y < n) x [] low))

-- the variable at a place is one of them
pub place_fit : (L : List VariableLiterals) (xs : List ℕ) (k : ℕ) → AreFit L xs → AreFit L (option_to_list (slice_get xs k))
place_fit L xs k fit = by (nat_lt k (length xs)) refl
  where
    none : (o : Option ℕ) → o ≡ None → AreFit L (option_to_list o)
    none o is = subst (λ (p : Option ℕ). AreFit L (option_to_list p)) (sym is) (record { there = All-nil (λ x. x < length L); small = All-nil (λ x. All IsWithinNumbers (literals_at L x).domain) })

    some : (o : Option ℕ) (x : ℕ) → o ≡ Some x → x < length L → All IsWithinNumbers (literals_at L x).domain → AreFit L (option_to_list o)
    some o x is low small = subst (λ (p : Option ℕ). AreFit L (option_to_list p)) (sym is) (record {
      there = All-cons (λ y. y < length L) x [] low (All-nil (λ y. y < length L));
      small = All-cons (λ y. All IsWithinNumbers (literals_at L y).domain) x [] small (All-nil (λ y. All IsWithinNumbers (literals_at L y).domain));
    })

    by : (t : Bool) → nat_lt k (length xs) ≡ t → AreFit L (option_to_list (slice_get xs k))
    by true e = let low = lt_back k (length xs) e in some (slice_get xs k) (get_or xs k 0) (slice_get-get_or xs k 0 low) (fit.there k 0 low) (fit.small k 0 low)
    by false e = none (slice_get xs k) (slice_get_past xs k (lt_back_false k (length xs) e))

-- ---- many numbers

-- what is said of each number
abbrev pub IsSaid : List ℕ → CompareOp → List ℕ → List Wanted → List ℤ → ℕ → Type 0
IsSaid truths op vars wanted values k = IsTrue (is_as_said values (slice_get truths k) (wanted_holds values op vars (get_or wanted k no_wanted)))

pub counts_none : (L : List VariableLiterals) (f : Cnf) (truths : List ℕ) (op : CompareOp) (vars : List ℕ) (wanted : List Wanted) → IsLayoutOf L f → IsTrue f.from_new → Adds L f L f (λ values. (j : ℕ) → j < 0 → IsSaid truths op vars wanted values j)
counts_none L f truths op vars wanted is_layout from_new = adds_below_none L f (λ values j. IsSaid truths op vars wanted values j) is_layout from_new

pub counts_more : (L : List VariableLiterals) (f : Cnf) (L1 : List VariableLiterals) (f1 : Cnf) (L2 : List VariableLiterals) (f2 : Cnf) (truths : List ℕ) (op : CompareOp) (vars : List ℕ) (wanted : List Wanted) (k : ℕ) → IsLayoutOf L f
    → AreFit L truths → AreOf L vars → All (λ one. AreFit L (option_to_list one.var)) wanted → k < length wanted
    → Adds L f L1 f1 (λ values. (j : ℕ) → j < k → IsSaid truths op vars wanted values j)
    → Adds L1 f1 L2 f2 (λ values. IsTrue (is_as_said values (slice_get truths k) (wanted_holds values op vars (get_or wanted k no_wanted))))
    → Adds L f L2 f2 (λ values. (j : ℕ) → j < k + 1 → IsSaid truths op vars wanted values j)
counts_more L f L1 f1 L2 f2 truths op vars wanted k is_layout truths_fit vars_low wanted_fit low one two =
    adds_like L f L2 f2 (λ values. ((j : ℕ) → j < k → IsSaid truths op vars wanted values j) × IsSaid truths op vars wanted values k) (λ values. (j : ℕ) → j < k + 1 → IsSaid truths op vars wanted values j) is_layout
    (adds_later L f L1 f1 L2 f2 (λ values. (j : ℕ) → j < k → IsSaid truths op vars wanted values j) (λ values. IsSaid truths op vars wanted values k) (λ values. IsSaid truths op vars wanted values k) is_layout one two
    (λ values among. (λ h. sym (same values) ∙ h, λ h. same values ∙ h)))
    (λ values among. (λ h. below_more (IsSaid truths op vars wanted values) h.0 h.1, λ h. (λ j below. h j (omega (arith, below)), h k (omega arith))))
  where
    same : (values : List ℤ) → is_as_said values (slice_get truths k) (wanted_holds values op vars (get_or wanted k no_wanted)) ≡ is_as_said (take (length L) values) (slice_get truths k) (wanted_holds (take (length L) values) op vars (get_or wanted k no_wanted))
    same values =
        sym (said_front values (length L) (slice_get truths k) (wanted_holds values op vars (get_or wanted k no_wanted)) (place_fit L truths k truths_fit).there)
        ∙ ap (is_as_said (take (length L) values) (slice_get truths k)) (sym (wanted_front values (length L) op vars (get_or wanted k no_wanted) vars_low (wanted_fit k no_wanted low).there))

    below_more : (P : ℕ → Type 0) → ((j : ℕ) → j < k → P j) → P k → (j : ℕ) → j < k + 1 → P j
    below_more P before here j below = by (nat_lt j k) refl
      where
        by : (t : Bool) → nat_lt j k ≡ t → P j
        by true e = before j (lt_back j k e)
        by false e = let is : k ≡ j = omega (arith, below, lt_back_false j k e) in subst P is here

pub counts_end : (L : List VariableLiterals) (f : Cnf) (L1 : List VariableLiterals) (g : Cnf) (truths : List ℕ) (op : CompareOp) (vars : List ℕ) (wanted : List Wanted) (k : ℕ) → k ≡ length wanted → Adds L f L1 g (λ values. (j : ℕ) → j < k → IsSaid truths op vars wanted values j) → Adds L f L1 g (λ values. (j : ℕ) → j < length wanted → IsSaid truths op vars wanted values j)
counts_end L f L1 g truths op vars wanted k is adds = subst (λ (m : ℕ). Adds L f L1 g (λ values. (j : ℕ) → j < m → IsSaid truths op vars wanted values j)) is adds

-- a test of each element
all_from_each : {X : Type 0} (p : X → Bool) (xs : List X) (d : X) → ((k : ℕ) → k < length xs → p (get_or xs k d) ≡ true) → list_all p xs ≡ true
all_from_each p [] d each = refl
all_from_each p (x ∷ xs) d each = and_both (p x) (list_all p xs) (each 0 (omega arith)) (all_from_each p xs d (λ k low. each (suc k) (omega (arith, low))))
  where
    and_both : (a b : Bool) → a ≡ true → b ≡ true → (a && b) ≡ true
    and_both true b e h = h
    and_both false b e h = not_false false e refl

each_from_all : {X : Type 0} (p : X → Bool) (xs : List X) (d : X) → list_all p xs ≡ true → (k : ℕ) → k < length xs → p (get_or xs k d) ≡ true
each_from_all p xs d all k low = elim (either (p (get_or xs k d))) as (λ _. p (get_or xs k d) ≡ true) [
  | inl on ↦ on
  | inr off ↦ not_false (list_all p xs) all (list_all_at p xs k d low off)
]

-- where no number has a variable for its truth, all that is wanted holds
pub counts_plain : (L : List VariableLiterals) (f : Cnf) (L1 : List VariableLiterals) (g : Cnf) (truth : Option ℕ) (truths : List ℕ) (op : CompareOp) (vars : List ℕ) (wanted : List Wanted) → IsLayoutOf L f → truth ≡ None → truths ≡ []
    → Adds L f L1 g (λ values. (j : ℕ) → j < length wanted → IsSaid truths op vars wanted values j) → Adds L f L1 g (λ values. IsTrue (is_as_said values truth (list_all (wanted_holds values op vars) wanted)))
unfolding is_as_said
counts_plain L f L1 g truth truths op vars wanted is_layout none empty adds =
    adds_like L f L1 g (λ values. (j : ℕ) → j < length wanted → IsSaid truths op vars wanted values j) (λ values. IsTrue (is_as_said values truth (list_all (wanted_holds values op vars) wanted))) is_layout adds
    (λ values among. (
      λ h. ap (λ o. is_as_said values o (list_all (wanted_holds values op vars) wanted)) none ∙ all_from_each (wanted_holds values op vars) wanted no_wanted
          (λ k low. ap (λ (ts : List ℕ). is_as_said values (slice_get ts k) (wanted_holds values op vars (get_or wanted k no_wanted))) (sym empty) ∙ h k low),
      λ h k low. ap (λ (ts : List ℕ). is_as_said values (slice_get ts k) (wanted_holds values op vars (get_or wanted k no_wanted))) empty
          ∙ each_from_all (wanted_holds values op vars) wanted no_wanted (ap (λ o. is_as_said values o (list_all (wanted_holds values op vars) wanted)) (sym none) ∙ h) k low,
    ))

-- where a test of all fails, one element fails
first_off : {X : Type 0} (p : X → Bool) (xs : List X) (d : X) → list_all p xs ≡ false → (k : ℕ) × (k < length xs) × (p (get_or xs k d) ≡ false)
first_off p [] d off = not_false true refl off
first_off p (x ∷ xs) d off = by (p x) refl (λ h. first_off p xs d h)
  where
    by : (t : Bool) → p x ≡ t → (list_all p xs ≡ false → (k : ℕ) × (k < length xs) × (p (get_or xs k d) ≡ false)) → (k : ℕ) × (k < length (x ∷ xs)) × (p (get_or (x ∷ xs) k d) ≡ false)
    by false e later = (0, omega arith, e)
    by true e later = let at = later (ap (λ b. b && list_all p xs) (sym e) ∙ off) in (suc at.0, omega (arith, at.1), at.2)

-- ---- all of many

pub all_whole : (L : List VariableLiterals) (f f1 f2 f3 : Cnf) (t : ℕ) (told : List ℕ) → IsLayoutOf L f → Adds L f L f1 (λ values. IsTruth (number_at values t)) → Adds L f1 L f2 (λ values. All (λ d. Implied t (pos 1) d (pos 1) values) told)
    → Adds L f2 L f3 (λ values. number_at values t ≡ pos 0 → IsTrue (has_number (numbers_of_vars values told) (pos 0))) → Adds L f L f3 (IsAllOf t told)
all_whole L f f1 f2 f3 t told is_layout one two three =
    adds_both L f f2 L f3 (λ values. IsTruth (number_at values t) × All (λ d. Implied t (pos 1) d (pos 1) values) told) (λ values. number_at values t ≡ pos 0 → IsTrue (has_number (numbers_of_vars values told) (pos 0))) is_layout
    (adds_both L f f1 L f2 (λ values. IsTruth (number_at values t)) (λ values. All (λ d. Implied t (pos 1) d (pos 1) values) told) is_layout one two) three

pub untold_whole : (L : List VariableLiterals) (f g : Cnf) (off atoms : List Atom) (t : ℕ) (told : List ℕ) → IsLayoutOf L f → off ≡ is_not t (pos 0) ∷ [] → atoms ≡ are_all told (pos 0) → Adds L f L g (Unless off (λ values. IsTrue (clause_holds values atoms)))
    → Adds L f L g (λ values. number_at values t ≡ pos 0 → IsTrue (has_number (numbers_of_vars values told) (pos 0)))
untold_whole L f g off atoms t told is_layout off_is atoms_are adds =
    adds_like L f L g (Unless off (λ values. IsTrue (clause_holds values atoms))) (λ values. number_at values t ≡ pos 0 → IsTrue (has_number (numbers_of_vars values told) (pos 0))) is_layout adds
    (λ values among. (
      λ h at. (one_is_says values told (pos 0)).0 (ap (clause_holds values) (sym atoms_are) ∙ h ((fails_as t (pos 0) off off_is values).1 at)),
      λ h no. ap (clause_holds values) atoms_are ∙ (one_is_says values told (pos 0)).1 (h ((fails_as t (pos 0) off off_is values).0 no)),
    ))

-- There are truths of the numbers, all of which are 1 where a variable is 1, exactly where it is the truth of all.
told_all : (values : List ℤ) (N t : ℕ) (told : List ℕ) (op : CompareOp) (vars : List ℕ) (wanted : List Wanted) → length values ≡ N → t < length values → All (λ x. x < length values) vars → All (λ one. All (λ x. x < length values) (option_to_list one.var)) wanted → told ≡ numbers_from N (length wanted)
    → SomeTruths (length wanted) (λ bits. IsAllOf t told (values ++ bits) × ((k : ℕ) → k < length wanted → IsSaid told op vars wanted (values ++ bits) k)) ↔ IsTrue (is_as_said values (Some t) (list_all (wanted_holds values op vars) wanted))
unfolding is_as_said wanted_holds
told_all values N t told op vars wanted long t_low vars_low wanted_low told_are = (
  λ h. (decided values t (list_all (wanted_holds values op vars) wanted)).0 (
    elim h.holds_there.0.0.0 as (λ _. IsTruth (number_at values t)) [ inl zero_is ↦ inl (sym (t_kept h.truths) ∙ zero_is) | inr one_is ↦ inr (sym (t_kept h.truths) ∙ one_is) ],
    λ one. all_from_each (wanted_holds values op vars) wanted no_wanted (λ k low. bit_one (wanted_holds values op vars (get_or wanted k no_wanted)) (sym (bit_is h.truths (h.holds_there.1) k low) ∙ sym (told_is h.truths k low)
        ∙ h.holds_there.0.0.1 k 0 (omega (arith, low, told_long)) (t_kept h.truths ∙ one))),
    λ zero_is. some_off h.truths h.many h.holds_there.1 (sym (ap (λ ns. has_number ns (pos 0)) (told_bits h.truths h.many)) ∙ h.holds_there.0.1 (t_kept h.truths ∙ zero_is)),
  ),
  λ h.
      let d = (decided values t (list_all (wanted_holds values op vars) wanted)).1 h in
      record {
        truths = B;
        many = length-map wanted (λ one. of_bool (wanted_holds values op vars one));
        each = λ k e low. subst IsTruth (sym (at_bit k e (omega (arith, low, length-map wanted (λ one. of_bool (wanted_holds values op vars one)))))) (bit_is_truth (wanted_holds values op vars (get_or wanted k no_wanted)));
        holds_there = (
          (
            (
              elim d.0 as (λ _. IsTruth (number_at (values ++ B) t)) [ inl zero_is ↦ inl (t_kept B ∙ zero_is) | inr one_is ↦ inr (t_kept B ∙ one_is) ],
              λ k e low one.
                  let within : k < length wanted = omega (arith, low, told_long) in
                  ap (number_at (values ++ B)) (get_or_default told k e 0 low) ∙ told_is B k within ∙ at_bit k (pos 0) within
                  ∙ one_bit (wanted_holds values op vars (get_or wanted k no_wanted)) (each_from_all (wanted_holds values op vars) wanted no_wanted (d.1 (sym (t_kept B) ∙ one)) k within),
            ),
            λ zero_is. ap (λ ns. has_number ns (pos 0)) (told_bits B (length-map wanted (λ one. of_bool (wanted_holds values op vars one)))) ∙ off_there wanted (d.2 (sym (t_kept B) ∙ zero_is)),
          ),
          λ k low. ap (λ o. is_as_said (values ++ B) o (wanted_holds (values ++ B) op vars (get_or wanted k no_wanted))) (place_told k low)
              ∙ same_test (number_at (values ++ B) (get_or told k 0)) (of_bool (wanted_holds (values ++ B) op vars (get_or wanted k no_wanted))) (told_is B k low ∙ at_bit k (pos 0) low ∙ ap of_bool (sym (holds_kept B k low))),
        );
      },
)
  where
    B : List ℤ
    B = map (λ one. of_bool (wanted_holds values op vars one)) wanted

    at_bit : (k : ℕ) (e : ℤ) → k < length wanted → get_or (map (λ one. of_bool (wanted_holds values op vars one)) wanted) k e ≡ of_bool (wanted_holds values op vars (get_or wanted k no_wanted))
    at_bit k e low = get_or-map (λ one. of_bool (wanted_holds values op vars one)) wanted k no_wanted e low

    told_long : length told ≡ length wanted
    told_long = ap length told_are ∙ length-numbers_from N (length wanted)

    t_kept : (bits : List ℤ) → number_at (values ++ bits) t ≡ number_at values t
    t_kept bits = number_kept values bits t t_low

    told_is : (bits : List ℤ) (k : ℕ) → k < length wanted → number_at (values ++ bits) (get_or told k 0) ≡ get_or bits k (pos 0)
    told_is bits k low = ap (λ ts. number_at (values ++ bits) (get_or ts k 0)) told_are ∙ ap (number_at (values ++ bits)) (numbers_from_at N (length wanted) k 0 low) ∙ truth_at values bits N k long

    told_bits : (bits : List ℤ) → length bits ≡ length wanted → numbers_of_vars (values ++ bits) told ≡ bits
    told_bits bits many = ap (numbers_of_vars (values ++ bits)) told_are ∙ truths_are values bits N (length wanted) long many

    place_told : (k : ℕ) → k < length wanted → slice_get told k ≡ Some (get_or told k 0)
    place_told k low = slice_get-get_or told k 0 (omega (arith, low, told_long))

    holds_kept : (bits : List ℤ) (k : ℕ) → k < length wanted → wanted_holds (values ++ bits) op vars (get_or wanted k no_wanted) ≡ wanted_holds values op vars (get_or wanted k no_wanted)
    holds_kept bits k low =
        ap (λ ns. compare_holds op (times_in ns (get_or wanted k no_wanted).value) (wanted_count (values ++ bits) (get_or wanted k no_wanted))) (numbers_kept values bits vars vars_low)
        ∙ ap (compare_holds op (times_in (numbers_of_vars values vars) (get_or wanted k no_wanted).value)) (count_kept values bits (get_or wanted k no_wanted) (wanted_low k no_wanted low))

    bit_is : (bits : List ℤ) → ((k : ℕ) → k < length wanted → IsSaid told op vars wanted (values ++ bits) k) → (k : ℕ) → k < length wanted → get_or bits k (pos 0) ≡ of_bool (wanted_holds values op vars (get_or wanted k no_wanted))
    bit_is bits said k low =
        sym (told_is bits k low)
        ∙ same (number_at (values ++ bits) (get_or told k 0)) (of_bool (wanted_holds (values ++ bits) op vars (get_or wanted k no_wanted)))
        (ap (λ o. is_as_said (values ++ bits) o (wanted_holds (values ++ bits) op vars (get_or wanted k no_wanted))) (sym (place_told k low)) ∙ said k low)
        ∙ ap of_bool (holds_kept bits k low)

    some_off : (bits : List ℤ) → length bits ≡ length wanted → ((k : ℕ) → k < length wanted → IsSaid told op vars wanted (values ++ bits) k) → has_number bits (pos 0) ≡ true → list_all (wanted_holds values op vars) wanted ≡ false
    some_off bits many said found =
        let at = number_there bits (pos 0) found in
        let k : ℕ = at.0 in
        let within : k < length wanted = omega (arith, at.2, many) in
        let zero_is : get_or bits k (pos 0) ≡ pos 0 = get_or_default bits k (pos 0) at.1 at.2 ∙ at.3 ∙ sym (same (pos 0) at.1 at.4) in
        list_all_at (wanted_holds values op vars) wanted k no_wanted within (bit_zero (wanted_holds values op vars (get_or wanted k no_wanted)) (sym (bit_is bits said k within) ∙ zero_is))

    off_there : (ws : List Wanted) → list_all (wanted_holds values op vars) ws ≡ false → has_number (map (λ one. of_bool (wanted_holds values op vars one)) ws) (pos 0) ≡ true
    off_there ws off = by (first_off (wanted_holds values op vars) ws no_wanted off)
      where
        by : ((k : ℕ) × (k < length ws) × (wanted_holds values op vars (get_or ws k no_wanted) ≡ false)) → has_number (map (λ one. of_bool (wanted_holds values op vars one)) ws) (pos 0) ≡ true
        by at = number_from (map (λ one. of_bool (wanted_holds values op vars one)) ws) (pos 0) at.0 (pos 0) (omega (arith, at.1, length-map ws (λ one. of_bool (wanted_holds values op vars one))))
            (get_or-map (λ one. of_bool (wanted_holds values op vars one)) ws at.0 no_wanted (pos 0) at.1 ∙ zero_bit (wanted_holds values op vars (get_or ws at.0 no_wanted)) at.2)

pub told_whole : (L : List VariableLiterals) (f : Cnf) (L1 : List VariableLiterals) (f1 f2 : Cnf) (L2 : List VariableLiterals) (f3 : Cnf) (t : ℕ) (told : List ℕ) (op : CompareOp) (vars : List ℕ) (wanted : List Wanted) (count : ℕ) → IsLayoutOf L f → t < length L → AreOf L vars → All (λ one. AreFit L (option_to_list one.var)) wanted
    → HasTruths L f L1 f1 count → count ≡ length wanted → told ≡ numbers_from (length L) count → Adds L1 f1 L1 f2 (IsAllOf t told) → Adds L1 f2 L2 f3 (λ values. (j : ℕ) → j < length wanted → IsSaid told op vars wanted values j)
    → Adds L f L2 f3 (λ values. IsTrue (is_as_said values (Some t) (list_all (wanted_holds values op vars) wanted)))
told_whole L f L1 f1 f2 L2 f3 t told op vars wanted count is_layout t_low vars_low wanted_fit new many told_are one two =
    adds_like L f L2 f3 (λ values. SomeTruths count (λ bits. IsAllOf t told (values ++ bits) × ((k : ℕ) → k < length wanted → IsSaid told op vars wanted (values ++ bits) k))) (λ values. IsTrue (is_as_said values (Some t) (list_all (wanted_holds values op vars) wanted))) is_layout
    (adds_truths L f L1 f1 L2 f3 count (λ values. IsAllOf t told values × ((k : ℕ) → k < length wanted → IsSaid told op vars wanted values k)) is_layout new
    (adds_both L1 f1 f2 L2 f3 (IsAllOf t told) (λ values. (j : ℕ) → j < length wanted → IsSaid told op vars wanted values j) new.goes_on.is_layout one two))
    (λ values among.
    let long : length values ≡ length L = length_among L values among in
    let both = told_all values (length L) t told op vars wanted long (omega (arith, t_low, long)) (lower L values vars long vars_low)
    (All-weaker (λ (w : Wanted). AreFit L (option_to_list w.var)) (λ (w : Wanted). All (λ x. x < length values) (option_to_list w.var)) (λ w fit. lower L values (option_to_list w.var) long fit.there) wanted wanted_fit)
    (told_are ∙ ap (numbers_from (length L)) many) in (
      λ h. both.0 (subst (λ (n : ℕ). SomeTruths n (λ bits. IsAllOf t told (values ++ bits) × ((k : ℕ) → k < length wanted → IsSaid told op vars wanted (values ++ bits) k))) many h),
      λ h. subst (λ (n : ℕ). SomeTruths n (λ bits. IsAllOf t told (values ++ bits) × ((k : ℕ) → k < length wanted → IsSaid told op vars wanted (values ++ bits) k))) (sym many) (both.1 h),
    ))

-- ---- numbers and counts in two lists

pub vars_step : (items new whole : List Wanted) (numbers : List ℤ) (counts : List ℕ) (k : ℕ) (one : Wanted) → k < length numbers → length numbers ≡ length counts → items ++ wanted_by_vars (drop k numbers) (drop k counts) ≡ whole → one ≡ record { value = get_or numbers k (pos 0); var = Some (get_or counts k 0); count = pos 0 } → new ≡ items ++ one ∷ []
    → new ++ wanted_by_vars (drop (k + 1) numbers) (drop (k + 1) counts) ≡ whole
unfolding wanted_by_vars
vars_step items new whole numbers counts k one low long so_far one_is pushed =
    ap (λ those. those ++ wanted_by_vars (drop (k + 1) numbers) (drop (k + 1) counts)) (pushed ∙ ap (λ w. items ++ w ∷ []) one_is)
    ∙ append_assoc items (record { value = get_or numbers k (pos 0); var = Some (get_or counts k 0); count = pos 0 } ∷ []) (wanted_by_vars (drop (k + 1) numbers) (drop (k + 1) counts))
    ∙ ap (λ ns. items ++ wanted_by_vars ns (get_or counts k 0 ∷ drop (k + 1) counts)) (sym (drop_more numbers k (pos 0) low))
    ∙ ap (λ cs. items ++ wanted_by_vars (drop k numbers) cs) (sym (drop_more counts k 0 (omega (arith, low, long))))
    ∙ so_far

pub vars_end : (items whole : List Wanted) (numbers : List ℤ) (counts : List ℕ) (k : ℕ) → length numbers ≤ k → items ++ wanted_by_vars (drop k numbers) (drop k counts) ≡ whole → items ≡ whole
unfolding wanted_by_vars
vars_end items whole numbers counts k low so_far = sym (append-nil items) ∙ ap (λ ns. items ++ wanted_by_vars ns (drop k counts)) (sym (drop_all k numbers low)) ∙ so_far

pub numbers_step : (items new whole : List Wanted) (numbers counts : List ℤ) (k : ℕ) (one : Wanted) → k < length numbers → length numbers ≡ length counts → items ++ wanted_by_numbers (drop k numbers) (drop k counts) ≡ whole → one ≡ record { value = get_or numbers k (pos 0); var = None; count = get_or counts k (pos 0) } → new ≡ items ++ one ∷ []
    → new ++ wanted_by_numbers (drop (k + 1) numbers) (drop (k + 1) counts) ≡ whole
unfolding wanted_by_numbers
numbers_step items new whole numbers counts k one low long so_far one_is pushed =
    ap (λ those. those ++ wanted_by_numbers (drop (k + 1) numbers) (drop (k + 1) counts)) (pushed ∙ ap (λ w. items ++ w ∷ []) one_is)
    ∙ append_assoc items (record { value = get_or numbers k (pos 0); var = None; count = get_or counts k (pos 0) } ∷ []) (wanted_by_numbers (drop (k + 1) numbers) (drop (k + 1) counts))
    ∙ ap (λ ns. items ++ wanted_by_numbers ns (get_or counts k (pos 0) ∷ drop (k + 1) counts)) (sym (drop_more numbers k (pos 0) low))
    ∙ ap (λ cs. items ++ wanted_by_numbers (drop k numbers) cs) (sym (drop_more counts k (pos 0) (omega (arith, low, long))))
    ∙ so_far

pub numbers_end : (items whole : List Wanted) (numbers counts : List ℤ) (k : ℕ) → length numbers ≤ k → items ++ wanted_by_numbers (drop k numbers) (drop k counts) ≡ whole → items ≡ whole
unfolding wanted_by_numbers
numbers_end items whole numbers counts k low so_far = sym (append-nil items) ∙ ap (λ ns. items ++ wanted_by_numbers ns (drop k counts)) (sym (drop_all k numbers low)) ∙ so_far

pub vars_fit : (L : List VariableLiterals) (numbers : List ℤ) (counts : List ℕ) → AreFit L counts → All (λ one. AreFit L (option_to_list one.var)) (wanted_by_vars numbers counts)
unfolding wanted_by_vars
vars_fit L [] counts fit = All-nil (λ (one : Wanted). AreFit L (option_to_list one.var))
vars_fit L (v ∷ numbers) [] fit = All-nil (λ (one : Wanted). AreFit L (option_to_list one.var))
vars_fit L (v ∷ numbers) (x ∷ counts) fit =
    All-cons (λ (one : Wanted). AreFit L (option_to_list one.var)) (record { value = v; var = Some x; count = pos 0 }) (wanted_by_vars numbers counts)
    (record {
      there = All-cons (λ y. y < length L) x [] (All-head (λ y. y < length L) x counts fit.there) (All-nil (λ y. y < length L));
      small = All-cons (λ y. All IsWithinNumbers (literals_at L y).domain) x [] (All-head (λ y. All IsWithinNumbers (literals_at L y).domain) x counts fit.small) (All-nil (λ y. All IsWithinNumbers (literals_at L y).domain));
    })
    (vars_fit L numbers counts (record { there = All-tail (λ y. y < length L) x counts fit.there; small = All-tail (λ y. All IsWithinNumbers (literals_at L y).domain) x counts fit.small }))

pub numbers_fit : (L : List VariableLiterals) (numbers counts : List ℤ) → All (λ one. AreFit L (option_to_list one.var)) (wanted_by_numbers numbers counts)
unfolding wanted_by_numbers
numbers_fit L [] counts = All-nil (λ (one : Wanted). AreFit L (option_to_list one.var))
numbers_fit L (v ∷ numbers) [] = All-nil (λ (one : Wanted). AreFit L (option_to_list one.var))
numbers_fit L (v ∷ numbers) (n ∷ counts) =
    All-cons (λ (one : Wanted). AreFit L (option_to_list one.var)) (record { value = v; var = None; count = n }) (wanted_by_numbers numbers counts)
    (record { there = All-nil (λ y. y < length L); small = All-nil (λ y. All IsWithinNumbers (literals_at L y).domain) })
    (numbers_fit L numbers counts)

-- counts of numbers as what is wanted
pub vars_hold : (values : List ℤ) (op : CompareOp) (vars : List ℕ) (numbers : List ℤ) (counts : List ℕ) → length numbers ≡ length counts → counts_hold op (numbers_of_vars values vars) numbers (numbers_of_vars values counts) ≡ Some (list_all (wanted_holds values op vars) (wanted_by_vars numbers counts))
unfolding counts_hold wanted_by_vars wanted_holds wanted_count numbers_of_vars
vars_hold values op vars [] [] long = refl
vars_hold values op vars [] (x ∷ counts) long = absurd (omega (arith, long))
vars_hold values op vars (v ∷ numbers) [] long = absurd (omega (arith, long))
vars_hold values op vars (v ∷ numbers) (x ∷ counts) long =
    let more : number_at values x ≡ number_at values x +ℤ pos 0 = omega (arith, ints) in
    ap (option_map (λ others. compare_holds op (times_in (map (number_at values) vars) v) (number_at values x) && others)) (vars_hold values op vars numbers counts (omega (arith, long)))
    ∙ ap (λ (n : ℤ). Some (compare_holds op (times_in (map (number_at values) vars) v) n && list_all (wanted_holds values op vars) (wanted_by_vars numbers counts))) more

pub numbers_hold : (values : List ℤ) (op : CompareOp) (vars : List ℕ) (numbers counts : List ℤ) → length numbers ≡ length counts → counts_hold op (numbers_of_vars values vars) numbers counts ≡ Some (list_all (wanted_holds values op vars) (wanted_by_numbers numbers counts))
unfolding counts_hold wanted_by_numbers wanted_holds wanted_count
numbers_hold values op vars [] [] long = refl
numbers_hold values op vars [] (n ∷ counts) long = absurd (omega (arith, long))
numbers_hold values op vars (v ∷ numbers) [] long = absurd (omega (arith, long))
numbers_hold values op vars (v ∷ numbers) (n ∷ counts) long =
    let more : n ≡ pos 0 +ℤ n = omega (arith, ints) in
    ap (option_map (λ others. compare_holds op (times_in (numbers_of_vars values vars) v) n && others)) (numbers_hold values op vars numbers counts (omega (arith, long)))
    ∙ ap (λ (m : ℤ). Some (compare_holds op (times_in (numbers_of_vars values vars) v) m && list_all (wanted_holds values op vars) (wanted_by_numbers numbers counts))) more

none_hold : (op : CompareOp) (xs numbers counts : List ℤ) → (length numbers ≡ length counts → ⊥) → counts_hold op xs numbers counts ≡ None
unfolding counts_hold
none_hold op xs [] [] apart = absurd (apart refl)
none_hold op xs [] (c ∷ counts) apart = refl
none_hold op xs (v ∷ numbers) [] apart = refl
none_hold op xs (v ∷ numbers) (c ∷ counts) apart = ap (option_map (λ others. compare_holds op (times_in xs v) c && others)) (none_hold op xs numbers counts (λ e. apart (ap suc e)))

-- a constraint in other words
said_like : (L : List VariableLiterals) (f : Cnf) (L1 : List VariableLiterals) (g : Cnf) (truth : Option ℕ) (K J : List ℤ → Bool) → IsLayoutOf L f → ((values : List ℤ) → J values ≡ K values) → Adds L f L1 g (λ values. IsTrue (is_as_said values truth (K values))) → Adds L f L1 g (λ values. IsTrue (is_as_said values truth (J values)))
said_like L f L1 g truth K J is_layout same_word adds =
    adds_like L f L1 g (λ values. IsTrue (is_as_said values truth (K values))) (λ values. IsTrue (is_as_said values truth (J values))) is_layout adds
    (λ values among. (λ h. ap (is_as_said values truth) (same_word values) ∙ h, λ h. ap (is_as_said values truth) (sym (same_word values)) ∙ h))

pub vars_said : (L : List VariableLiterals) (f : Cnf) (L1 : List VariableLiterals) (g : Cnf) (truth : Option ℕ) (op : CompareOp) (vars : List ℕ) (numbers : List ℤ) (counts : List ℕ) (wanted : List Wanted) → IsLayoutOf L f → length numbers ≡ length counts → wanted ≡ wanted_by_vars numbers counts
    → Adds L f L1 g (λ values. IsTrue (is_as_said values truth (list_all (wanted_holds values op vars) wanted))) → Adds L f L1 g (λ values. IsTrue (is_as_said values truth (unwrap_or (counts_hold op (numbers_of_vars values vars) numbers (numbers_of_vars values counts)) false)))
vars_said L f L1 g truth op vars numbers counts wanted is_layout long are adds =
    said_like L f L1 g truth (λ values. list_all (wanted_holds values op vars) wanted) (λ values. unwrap_or (counts_hold op (numbers_of_vars values vars) numbers (numbers_of_vars values counts)) false) is_layout
    (λ values. ap (λ o. unwrap_or o false) (vars_hold values op vars numbers counts long) ∙ ap (list_all (wanted_holds values op vars)) (sym are)) adds

pub numbers_said : (L : List VariableLiterals) (f : Cnf) (L1 : List VariableLiterals) (g : Cnf) (truth : Option ℕ) (op : CompareOp) (vars : List ℕ) (numbers counts : List ℤ) (wanted : List Wanted) → IsLayoutOf L f → length numbers ≡ length counts → wanted ≡ wanted_by_numbers numbers counts
    → Adds L f L1 g (λ values. IsTrue (is_as_said values truth (list_all (wanted_holds values op vars) wanted))) → Adds L f L1 g (λ values. IsTrue (is_as_said values truth (unwrap_or (counts_hold op (numbers_of_vars values vars) numbers counts) false)))
numbers_said L f L1 g truth op vars numbers counts wanted is_layout long are adds =
    said_like L f L1 g truth (λ values. list_all (wanted_holds values op vars) wanted) (λ values. unwrap_or (counts_hold op (numbers_of_vars values vars) numbers counts) false) is_layout
    (λ values. ap (λ o. unwrap_or o false) (numbers_hold values op vars numbers counts long) ∙ ap (list_all (wanted_holds values op vars)) (sym are)) adds

pub vars_never : (L : List VariableLiterals) (f g : Cnf) (truth : Option ℕ) (op : CompareOp) (vars : List ℕ) (numbers : List ℤ) (counts : List ℕ) → IsLayoutOf L f → (length numbers ≡ length counts → ⊥)
    → Adds L f L g (λ values. IsTrue (is_as_said values truth false)) → Adds L f L g (λ values. IsTrue (is_as_said values truth (unwrap_or (counts_hold op (numbers_of_vars values vars) numbers (numbers_of_vars values counts)) false)))
vars_never L f g truth op vars numbers counts is_layout apart adds =
    said_like L f L g truth (λ values. false) (λ values. unwrap_or (counts_hold op (numbers_of_vars values vars) numbers (numbers_of_vars values counts)) false) is_layout
    (λ values. ap (λ o. unwrap_or o false) (none_hold op (numbers_of_vars values vars) numbers (numbers_of_vars values counts) (λ e. apart (e ∙ length_numbers values counts)))) adds

pub numbers_never : (L : List VariableLiterals) (f g : Cnf) (truth : Option ℕ) (op : CompareOp) (vars : List ℕ) (numbers counts : List ℤ) → IsLayoutOf L f → (length numbers ≡ length counts → ⊥)
    → Adds L f L g (λ values. IsTrue (is_as_said values truth false)) → Adds L f L g (λ values. IsTrue (is_as_said values truth (unwrap_or (counts_hold op (numbers_of_vars values vars) numbers counts) false)))
numbers_never L f g truth op vars numbers counts is_layout apart adds =
    said_like L f L g truth (λ values. false) (λ values. unwrap_or (counts_hold op (numbers_of_vars values vars) numbers counts) false) is_layout
    (λ values. ap (λ o. unwrap_or o false) (none_hold op (numbers_of_vars values vars) numbers counts apart)) adds
