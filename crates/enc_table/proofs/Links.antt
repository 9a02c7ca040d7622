-- Clauses of a chain along two lists of variables, and what a chain says of the lists.
use Rattle.std.proofs.Common.{◌≡◌, ◌↔◌, ◌⊎◌, inl, inr, ℕ, zero, suc, ◌+◌, ◌<◌, ◌≤◌, ℤ, ◌≤ℤ◌, pos, Bool, true, false, not, ◌&&◌, IsTrue, List, [], ◌∷◌, ◌++◌, length, map, take, Some, refl, sym, ap, subst, ◌∙◌, arith, get_or, int_le, int_lt}
use Rattle.std.specs.List.{All, Contains}
use Rattle.std.proofs.lemmas.Int.{ints}
use Rattle.std.proofs.lemmas.List.{get_or-map, length-map}
use Rattle.std.proofs.lemmas.List.Elements.{All-contains, All-head, All-tail, All-weaker, Contains-append_left, Contains-append_right}
use Rattle.cnf_core.proofs.Members.{All-from_contains}
use Rattle.cnf_core.specs.Formula.{Cnf}
use Rattle.ep_base.specs.Numbers.{lex_holds, lex_less, of_bool}
use Rattle.ep_base.specs.declared.operators.LexOp.{LexOp}
use Rattle.ep_flat.specs.Cons.{is_as_said, number_at, numbers_of_vars}
use Rattle.enc_atoms.proofs.Adding.{adds_all, adds_both, adds_later, adds_like, adds_nothing}
use Rattle.enc_atoms.proofs.Decoded.{length_among, number_among, number_front}
use Rattle.enc_atoms.specs.Atoms.{Adds, atom_holds, clause_holds, test_holds}
use Rattle.enc_atoms.specs.declared.atoms.Atom.{Atom}
use Rattle.enc_atoms.proofs.Choosing.{guard_kept, number_kept, truth_at}
use Rattle.enc_atoms.proofs.Guards.{unless_all, unless_both, unless_like}
use Rattle.enc_atoms.proofs.Meanings.{clause_more, clause_one, decided, either, guard_fails, is_not_fails, is_says, not_false}
use Rattle.enc_atoms.proofs.Naming.{fails_as}
use Rattle.enc_atoms.proofs.NewTruths.{adds_truths, length-numbers_from, numbers_from_at}
use Rattle.enc_atoms.specs.Steps.{AreAtomsOf, AreOf, HasTruths, IsTruth, SomeTruths, Unless, above, at_most, is, is_not, numbers_from}
use Rattle.enc_var.specs.Decoding.{VariableLiterals}
use Rattle.enc_var.specs.Layouts.{GoesOn, IsLayoutOf, literals_at}
use Rattle.enc_table.proofs.Chains.{end_holds, in_order, none_first, same_first, steps_hold}
use Rattle.enc_table.specs.Orders.{EndsBadly, EndsWell, IsChain, IsNext, IsStep, is_before}

at_most_says : (values : List ℤ) (x : ℕ) (v : ℤ) → IsTrue (atom_holds values (at_most x v)) ↔ (number_at values x ≤ℤ v)
unfolding atom_holds test_holds
at_most_says values x v = (λ h. by (int_le (number_at values x) v) refl h, λ h. back (int_le (number_at values x) v) refl h)
  where
    by : (t : Bool) → int_le (number_at values x) v ≡ t → t ≡ true → number_at values x ≤ℤ v
    by true e h = omega (arith, ints, e)
    by false e h = not_false false h refl

    back : (t : Bool) → int_le (number_at values x) v ≡ t → number_at values x ≤ℤ v → t ≡ true
    back true e h = refl
    back false e h = absurd (omega (arith, ints, e, h))

above_fails : (values : List ℤ) (x : ℕ) (v : ℤ) → (atom_holds values (above x v) ≡ false) ↔ (number_at values x ≤ℤ v)
unfolding atom_holds test_holds
above_fails values x v = (λ h. omega (arith, ints, h), λ h. back (int_lt v (number_at values x)) refl h)
  where
    back : (t : Bool) → int_lt v (number_at values x) ≡ t → number_at values x ≤ℤ v → t ≡ false
    back true e h = absurd (omega (arith, ints, e, h))
    back false e h = refl

-- a clause of "it is above" and "it is at most"
pub bound_says : (values : List ℤ) (x y : ℕ) (v : ℤ) → IsTrue (clause_holds values (above y v ∷ at_most x v ∷ [])) ↔ (number_at values y ≤ℤ v → number_at values x ≤ℤ v)
bound_says values x y v = (
  λ h low. (at_most_says values x v).0 (sym (clause_one values (at_most x v)) ∙ (clause_more values (above y v) (at_most x v ∷ [])).0 h ((above_fails values y v).1 low)),
  λ h. (clause_more values (above y v) (at_most x v ∷ [])).1 (λ no. clause_one values (at_most x v) ∙ (at_most_says values x v).1 (h ((above_fails values y v).0 no))),
)

-- a clause of "it isn't", "it is above" and "it is 1"
pub next_says : (values : List ℤ) (x y next : ℕ) (v : ℤ) → IsTrue (clause_holds values (is_not x v ∷ above y v ∷ is next (pos 1) ∷ [])) ↔ IsNext x y next v values
next_says values x y next v = (
  λ h at low. (is_says values next (pos 1)).0 (sym (clause_one values (is next (pos 1)))
      ∙ (clause_more values (above y v) (is next (pos 1) ∷ [])).0 ((clause_more values (is_not x v) (above y v ∷ is next (pos 1) ∷ [])).0 h ((is_not_fails values x v).1 at)) ((above_fails values y v).1 low)),
  λ h. (clause_more values (is_not x v) (above y v ∷ is next (pos 1) ∷ [])).1 (λ no. (clause_more values (above y v) (is next (pos 1) ∷ [])).1 (λ none. clause_one values (is next (pos 1))
      ∙ (is_says values next (pos 1)).1 (h ((is_not_fails values x v).0 no) ((above_fails values y v).0 none)))),
)

-- a clause of "it isn't 1"
pub broken_says : (values : List ℤ) (t : ℕ) → IsTrue (clause_holds values (is_not t (pos 1) ∷ [])) ↔ (number_at values t ≡ pos 1 → ⊥)
broken_says values t = (
  λ h at. not_false (clause_holds values (is_not t (pos 1) ∷ [])) h ((guard_fails values t (pos 1)).1 at),
  λ h. elim (either (clause_holds values (is_not t (pos 1) ∷ []))) as (λ _. clause_holds values (is_not t (pos 1) ∷ []) ≡ true) [
    | inl on ↦ on
    | inr off ↦ absurd (h ((guard_fails values t (pos 1)).0 off))
  ],
)

-- at most another at each of its numbers
pub at_most_all : (L : List VariableLiterals) (f g : Cnf) (guard : List Atom) (x y : ℕ) (numbers : List ℤ) (k : ℕ) → IsLayoutOf L f → y < length L → numbers ≡ (literals_at L y).domain → length numbers ≤ k
    → Adds L f L g (λ values. All (λ v. Unless guard (λ vs. number_at vs y ≤ℤ v → number_at vs x ≤ℤ v) values) (take k numbers)) → Adds L f L g (Unless guard (λ values. number_at values x ≤ℤ number_at values y))
at_most_all L f g guard x y numbers k is_layout low are long adds =
    unless_like L f L g guard (λ values. All (λ v. number_at values y ≤ℤ v → number_at values x ≤ℤ v) numbers) (λ values. number_at values x ≤ℤ number_at values y) is_layout
    (unless_all L f L g guard (λ values v. number_at values y ≤ℤ v → number_at values x ≤ℤ v) numbers is_layout
    (adds_all L f L g (λ values v. Unless guard (λ vs. number_at vs y ≤ℤ v → number_at vs x ≤ℤ v) values) numbers k long adds))
    (λ values among. (
      λ h. All-contains (λ v. number_at values y ≤ℤ v → number_at values x ≤ℤ v) numbers (number_at values y) h (subst (λ ns. Contains ns (number_at values y)) (sym are) (number_among L values y among low)) (omega (arith, ints)),
      λ le k' d below under. omega (arith, ints, le, under),
    ))

-- a further one is 1 at each number of the first
pub nexts_all : (L : List VariableLiterals) (f g : Cnf) (guard : List Atom) (x y next : ℕ) (numbers : List ℤ) (k : ℕ) → IsLayoutOf L f → x < length L → numbers ≡ (literals_at L x).domain → length numbers ≤ k
    → Adds L f L g (λ values. All (λ v. Unless guard (IsNext x y next v) values) (take k numbers)) → Adds L f L g (Unless guard (λ values. number_at values y ≤ℤ number_at values x → number_at values next ≡ pos 1))
nexts_all L f g guard x y next numbers k is_layout low are long adds =
    unless_like L f L g guard (λ values. All (λ v. IsNext x y next v values) numbers) (λ values. number_at values y ≤ℤ number_at values x → number_at values next ≡ pos 1) is_layout
    (unless_all L f L g guard (λ values v. IsNext x y next v values) numbers is_layout
    (adds_all L f L g (λ values v. Unless guard (IsNext x y next v) values) numbers k long adds))
    (λ values among. (
      λ h. All-contains (λ v. IsNext x y next v values) numbers (number_at values x) h (subst (λ ns. Contains ns (number_at values x)) (sym are) (number_among L values x among low)) refl,
      λ h k' d below at under. h (omega (arith, ints, at, under)),
    ))

pub step_whole : (L : List VariableLiterals) (f f1 f2 : Cnf) (guard : List Atom) (link x y next : ℕ) → IsLayoutOf L f → guard ≡ is_not link (pos 1) ∷ [] → Adds L f L f1 (Unless guard (λ values. number_at values x ≤ℤ number_at values y))
    → Adds L f1 L f2 (Unless guard (λ values. number_at values y ≤ℤ number_at values x → number_at values next ≡ pos 1)) → Adds L f L f2 (IsStep link x y next)
step_whole L f f1 f2 guard link x y next is_layout are one two =
    adds_like L f L f2 (Unless guard (λ values. (number_at values x ≤ℤ number_at values y) × (number_at values y ≤ℤ number_at values x → number_at values next ≡ pos 1))) (IsStep link x y next) is_layout
    (unless_both L f f1 L f2 guard (λ values. number_at values x ≤ℤ number_at values y) (λ values. number_at values y ≤ℤ number_at values x → number_at values next ≡ pos 1) is_layout one two)
    (λ values among. (λ h at. h ((fails_as link (pos 1) guard are values).1 at), λ h off. h ((fails_as link (pos 1) guard are values).0 off)))

-- the end of a chain
pub end_bad : (L : List VariableLiterals) (f g : Cnf) (strict : Bool) (m n t : ℕ) → IsLayoutOf L f → EndsBadly strict m n → Adds L f L g (λ values. number_at values t ≡ pos 1 → ⊥) → Adds L f L g (EndsWell strict m n t)
end_bad L f g strict m n t is_layout bad adds =
    adds_like L f L g (λ values. number_at values t ≡ pos 1 → ⊥) (EndsWell strict m n t) is_layout adds (λ values among. (λ h any. h, λ h. h bad))

pub end_good : (L : List VariableLiterals) (f : Cnf) (strict : Bool) (m n t : ℕ) → IsLayoutOf L f → IsTrue f.from_new → (EndsBadly strict m n → ⊥) → Adds L f L f (EndsWell strict m n t)
end_good L f strict m n t is_layout from_new none =
    adds_like L f L f (λ values. Unit {0}) (EndsWell strict m n t) is_layout (adds_nothing L f is_layout from_new) (λ values among. (λ any bad. absurd (none bad), λ h. tt))

pub ends : (strict same_length : Bool) (m n : ℕ) → (n < m → ⊥) → (same_length ≡ true → m ≡ n) → (m ≡ n → same_length ≡ true) → IsTrue (strict && same_length) ↔ EndsBadly strict m n
ends true true m n enough forth back = (λ h. inr (refl, forth refl), λ h. refl)
ends true false m n enough forth back = (λ h. not_false false h refl, λ h. elim h as (λ _. IsTrue (true && false)) [ inl more ↦ absurd (enough more) | inr both ↦ back both.1 ])
ends false b m n enough forth back = (λ h. not_false false h refl, λ h. elim h as (λ _. IsTrue (false && b)) [ inl more ↦ absurd (enough more) | inr both ↦ both.0 ])

one_back : (b : Bool) → of_bool b ≡ pos 1 → b ≡ true
unfolding of_bool
one_back true e = refl
one_back false e = absurd (omega (arith, ints, e))

one_there : (b : Bool) → b ≡ true → of_bool b ≡ pos 1
unfolding of_bool
one_there true e = refl
one_there false e = not_false false e refl

is_truth : (b : Bool) → IsTruth (of_bool b)
unfolding of_bool
is_truth true = inr refl
is_truth false = inl refl

-- numbers 0 and 1 by a test of their places
bits_of : (ℕ → Bool) → ℕ → List ℤ
bits_of P n = map (λ k. of_bool (P k)) (numbers_from 0 n)

bit_at : (P : ℕ → Bool) (n k : ℕ) (d : ℤ) → k < n → get_or (bits_of P n) k d ≡ of_bool (P k)
unfolding bits_of
bit_at P n k d low =
    let is_place : get_or (numbers_from 0 n) k 0 ≡ k = omega (arith, numbers_from_at 0 n k 0 low) in
    get_or-map (λ j. of_bool (P j)) (numbers_from 0 n) k 0 d (omega (arith, low, length-numbers_from 0 n)) ∙ ap (λ j. of_bool (P j)) is_place

length-bits : (P : ℕ → Bool) (n : ℕ) → length (bits_of P n) ≡ n
unfolding bits_of
length-bits P n = length-map (numbers_from 0 n) (λ k. of_bool (P k)) ∙ length-numbers_from 0 n

some_bits : (P : ℕ → Bool) (n : ℕ) (holds : List ℤ → Type 0) → holds (bits_of P n) → SomeTruths n holds
some_bits P n holds h = record {
  truths = bits_of P n;
  many = length-bits P n;
  each = λ k d low. subst IsTruth (sym (bit_at P n k d (omega (arith, low, length-bits P n)))) (is_truth (P k));
  holds_there = h;
}

and_both : (a b : Bool) → a ≡ true → b ≡ true → (a && b) ≡ true
and_both true b e h = h
and_both false b e h = not_false false e refl

and_first : (a b : Bool) → (a && b) ≡ true → a ≡ true
and_first true b e = refl
and_first false b e = not_false false e refl

and_second : (a b : Bool) → (a && b) ≡ true → b ≡ true
and_second true b e = e
and_second false b e = not_false false e refl

was_false : (b : Bool) → not b ≡ true → b ≡ false
was_false true e = not_false false e refl
was_false false e = refl

number_of : (values : List ℤ) (xs : List ℕ) (k : ℕ) (d : ℤ) → k < length xs → get_or (numbers_of_vars values xs) k d ≡ number_at values (get_or xs k 0)
unfolding numbers_of_vars
number_of values xs k d low = get_or-map (number_at values) xs k 0 d low

length_numbers : (values : List ℤ) (xs : List ℕ) → length (numbers_of_vars values xs) ≡ length xs
unfolding numbers_of_vars
length_numbers values xs = length-map xs (number_at values)

-- the numbers of variables of an earlier layout
numbers_front : (values : List ℤ) (n : ℕ) (xs : List ℕ) → All (λ x. x < n) xs → numbers_of_vars (take n values) xs ≡ numbers_of_vars values xs
unfolding numbers_of_vars
numbers_front values n [] low = refl
numbers_front values n (x ∷ xs) low =
    ap (λ v. v ∷ map (number_at (take n values)) xs) (number_front values n x (All-head (λ y. y < n) x xs low))
    ∙ ap (λ vs. number_at values x ∷ vs) (numbers_front values n xs (All-tail (λ y. y < n) x xs low))

next_number : (k : ℕ) → suc k ≡ k + 1
next_number k = omega arith

-- There are links of a chain exactly where the lists are in order, unless the guard holds.
chained : (values : List ℤ) (N n : ℕ) (guard : List Atom) (strict : Bool) (xs ys links : List ℕ) → length values ≡ N → All (λ a. a.var < length values) guard → All (λ x. x < length values) xs → All (λ x. x < length values) ys
    → links ≡ numbers_from N (n + 1) → n ≤ length xs → n ≤ length ys → (length xs ≤ n) ⊎ (length ys ≤ n)
    → SomeTruths (n + 1) (λ bits. IsChain guard strict xs ys links n (values ++ bits)) ↔ Unless guard (λ vs. is_before strict (numbers_of_vars vs xs) (numbers_of_vars vs ys) ≡ true) values
chained values N n guard strict xs ys links long guard_low xs_low ys_low links_are first second stops = (
  λ h off. in_order strict (numbers_of_vars values xs) (numbers_of_vars values ys) (λ k. get_or h.truths k (pos 0) ≡ pos 1)
      (λ k lowx lowy e.
      let below : k < n = within k (omega (arith, lowx, length_numbers values xs)) (omega (arith, lowy, length_numbers values ys)) in
      let st = h.holds_there.0.1 k below (link_is h.truths k (omega (arith, below)) ∙ e) in
      let xv = x_kept h.truths k (omega (arith, below, first)) in
      let yv = y_kept h.truths k (omega (arith, below, second)) in
      (omega (arith, ints, xv, yv, st.0), λ le. next_place h.truths k ∙ sym (link_is h.truths (k + 1) (omega (arith, below))) ∙ st.1 (omega (arith, ints, xv, yv, le))))
      (λ m mx my ends_there bad e.
      let at : m ≡ n = last m (omega (arith, mx, length_numbers values xs)) (omega (arith, my, length_numbers values ys)) (end_lengths m ends_there) in
      h.holds_there.1 (bad_lengths bad) (link_is h.truths n (omega arith) ∙ ap (λ j. get_or h.truths j (pos 0)) (sym at) ∙ e))
      (sym (link_is h.truths 0 (omega arith)) ∙ h.holds_there.0.0 (guard_kept values h.truths guard guard_low ∙ off)),
  λ h. some_bits P (n + 1) (λ bits. IsChain guard strict xs ys links n (values ++ bits)) (
    (
      λ off. link_on 0 (omega arith) (and_both (not (clause_holds values guard)) (same_first 0 X Y) (ap not (sym (guard_kept values B guard guard_low) ∙ off)) (none_first X Y)),
      λ k below one.
          let on : P k ≡ true = one_back (P k) (sym (bit_at P (n + 1) k (pos 0) (omega (arith, below))) ∙ sym (link_is B k (omega (arith, below))) ∙ one) in
          let off = was_false (clause_holds values guard) (and_first (not (clause_holds values guard)) (same_first k X Y) on) in
          let st = steps_hold strict X Y (h off) k (omega (arith, below, first, length_numbers values xs)) (omega (arith, below, second, length_numbers values ys)) (and_second (not (clause_holds values guard)) (same_first k X Y) on) in
          let xv = x_kept B k (omega (arith, below, first)) in
          let yv = y_kept B k (omega (arith, below, second)) in (
            omega (arith, ints, xv, yv, st.0),
            λ le. link_on (k + 1) (omega (arith, below)) (and_both (not (clause_holds values guard)) (same_first (k + 1) X Y) (ap not off) (next_same k (st.1 (omega (arith, ints, xv, yv, le))))),
          ),
    ),
    λ bad one.
        let on : P n ≡ true = one_back (P n) (sym (bit_at P (n + 1) n (pos 0) (omega arith)) ∙ sym (link_is B n (omega arith)) ∙ one) in
        let off = was_false (clause_holds values guard) (and_first (not (clause_holds values guard)) (same_first n X Y) on) in
        end_holds strict X Y (h off) n (stops_there) (and_second (not (clause_holds values guard)) (same_first n X Y) on) (lengths_bad bad),
  ),
)
  where
    X : List ℤ
    X = numbers_of_vars values xs

    Y : List ℤ
    Y = numbers_of_vars values ys

    P : ℕ → Bool
    P k = not (clause_holds values guard) && same_first k (numbers_of_vars values xs) (numbers_of_vars values ys)

    B : List ℤ
    B = bits_of P (n + 1)

    link_is : (bits : List ℤ) (k : ℕ) → k < n + 1 → number_at (values ++ bits) (get_or links k 0) ≡ get_or bits k (pos 0)
    link_is bits k low = ap (λ ls. number_at (values ++ bits) (get_or ls k 0)) links_are ∙ ap (number_at (values ++ bits)) (numbers_from_at N (n + 1) k 0 low) ∙ truth_at values bits N k long

    link_on : (k : ℕ) → k < n + 1 → P k ≡ true → number_at (values ++ B) (get_or links k 0) ≡ pos 1
    link_on k low on = link_is B k low ∙ bit_at P (n + 1) k (pos 0) low ∙ one_there (P k) on

    next_place : (bits : List ℤ) (k : ℕ) → get_or bits (suc k) (pos 0) ≡ get_or bits (k + 1) (pos 0)
    next_place bits k = ap (λ j. get_or bits j (pos 0)) (next_number k)

    next_same : (k : ℕ) → same_first (suc k) (numbers_of_vars values xs) (numbers_of_vars values ys) ≡ true → same_first (k + 1) (numbers_of_vars values xs) (numbers_of_vars values ys) ≡ true
    next_same k h = ap (λ j. same_first j (numbers_of_vars values xs) (numbers_of_vars values ys)) (sym (next_number k)) ∙ h

    within : (k : ℕ) → k < length xs → k < length ys → k < n
    within k lowx lowy = elim stops as (λ _. k < n) [ inl a ↦ omega (arith, a, lowx) | inr b ↦ omega (arith, b, lowy) ]

    last : (m : ℕ) → m ≤ length xs → m ≤ length ys → (length xs ≤ m) ⊎ (length ys ≤ m) → m ≡ n
    last m mx my ends_there = elim stops as (λ _. m ≡ n) [
      | inl a ↦ elim ends_there as (λ _. m ≡ n) [ inl c ↦ omega (arith, a, c, mx, my, first, second) | inr d ↦ omega (arith, a, d, mx, my, first, second) ]
      | inr b ↦ elim ends_there as (λ _. m ≡ n) [ inl c ↦ omega (arith, b, c, mx, my, first, second) | inr d ↦ omega (arith, b, d, mx, my, first, second) ]
    ]

    end_lengths : (m : ℕ) → (length (numbers_of_vars values xs) ≤ m) ⊎ (length (numbers_of_vars values ys) ≤ m) → (length xs ≤ m) ⊎ (length ys ≤ m)
    end_lengths m h = elim h as (λ _. (length xs ≤ m) ⊎ (length ys ≤ m)) [ inl a ↦ inl (omega (arith, a, length_numbers values xs)) | inr b ↦ inr (omega (arith, b, length_numbers values ys)) ]

    stops_there : (length (numbers_of_vars values xs) ≤ n) ⊎ (length (numbers_of_vars values ys) ≤ n)
    stops_there = elim stops as (λ _. (length (numbers_of_vars values xs) ≤ n) ⊎ (length (numbers_of_vars values ys) ≤ n)) [ inl a ↦ inl (omega (arith, a, length_numbers values xs)) | inr b ↦ inr (omega (arith, b, length_numbers values ys)) ]

    bad_lengths : EndsBadly strict (length (numbers_of_vars values xs)) (length (numbers_of_vars values ys)) → EndsBadly strict (length xs) (length ys)
    bad_lengths bad = elim bad as (λ _. EndsBadly strict (length xs) (length ys)) [ inl a ↦ inl (omega (arith, a, length_numbers values xs, length_numbers values ys)) | inr b ↦ inr (b.0, sym (length_numbers values xs) ∙ b.1 ∙ length_numbers values ys) ]

    lengths_bad : EndsBadly strict (length xs) (length ys) → EndsBadly strict (length (numbers_of_vars values xs)) (length (numbers_of_vars values ys))
    lengths_bad bad = elim bad as (λ _. EndsBadly strict (length (numbers_of_vars values xs)) (length (numbers_of_vars values ys))) [
      | inl a ↦ inl (omega (arith, a, length_numbers values xs, length_numbers values ys))
      | inr b ↦ inr (b.0, length_numbers values xs ∙ b.1 ∙ sym (length_numbers values ys))
    ]

    x_kept : (bits : List ℤ) (k : ℕ) → k < length xs → number_at (values ++ bits) (get_or xs k 0) ≡ get_or (numbers_of_vars values xs) k (pos 0)
    x_kept bits k low = number_kept values bits (get_or xs k 0) (xs_low k 0 low) ∙ sym (number_of values xs k (pos 0) low)

    y_kept : (bits : List ℤ) (k : ℕ) → k < length ys → number_at (values ++ bits) (get_or ys k 0) ≡ get_or (numbers_of_vars values ys) k (pos 0)
    y_kept bits k low = number_kept values bits (get_or ys k 0) (ys_low k 0 low) ∙ sym (number_of values ys k (pos 0) low)

-- the first link, the steps and the end of a chain
pub chain_whole : (L : List VariableLiterals) (f f1 f2 f3 : Cnf) (guard : List Atom) (strict : Bool) (xs ys links : List ℕ) (n : ℕ) → IsLayoutOf L f
    → Adds L f L f1 (Unless guard (λ values. number_at values (get_or links 0 0) ≡ pos 1))
    → Adds L f1 L f2 (λ values. (k : ℕ) → k < n → IsStep (get_or links k 0) (get_or xs k 0) (get_or ys k 0) (get_or links (k + 1) 0) values)
    → Adds L f2 L f3 (EndsWell strict (length xs) (length ys) (get_or links n 0))
    → Adds L f L f3 (IsChain guard strict xs ys links n)
chain_whole L f f1 f2 f3 guard strict xs ys links n is_layout one two three =
    adds_both L f f2 L f3 (λ values. Unless guard (λ vs. number_at vs (get_or links 0 0) ≡ pos 1) values × ((k : ℕ) → k < n → IsStep (get_or links k 0) (get_or xs k 0) (get_or ys k 0) (get_or links (k + 1) 0) values)) (EndsWell strict (length xs) (length ys) (get_or links n 0)) is_layout
    (adds_both L f f1 L f2 (Unless guard (λ values. number_at values (get_or links 0 0) ≡ pos 1)) (λ values. (k : ℕ) → k < n → IsStep (get_or links k 0) (get_or xs k 0) (get_or ys k 0) (get_or links (k + 1) 0) values) is_layout one two)
    three

-- new variables that are the links of a chain
pub before_whole : (L : List VariableLiterals) (f : Cnf) (L1 : List VariableLiterals) (f1 f2 : Cnf) (guard : List Atom) (strict : Bool) (xs ys links : List ℕ) (n : ℕ) → IsLayoutOf L f → AreOf L xs → AreOf L ys → AreAtomsOf L guard
    → HasTruths L f L1 f1 (n + 1) → links ≡ numbers_from (length L) (n + 1) → n ≤ length xs → n ≤ length ys → (length xs ≤ n) ⊎ (length ys ≤ n)
    → Adds L1 f1 L1 f2 (IsChain guard strict xs ys links n)
    → Adds L f L1 f2 (Unless guard (λ values. is_before strict (numbers_of_vars values xs) (numbers_of_vars values ys) ≡ true))
before_whole L f L1 f1 f2 guard strict xs ys links n is_layout xs_low ys_low guard_low new links_are first second stops adds =
    adds_like L f L1 f2 (λ values. SomeTruths (n + 1) (λ bits. IsChain guard strict xs ys links n (values ++ bits))) (Unless guard (λ values. is_before strict (numbers_of_vars values xs) (numbers_of_vars values ys) ≡ true)) is_layout
    (adds_truths L f L1 f1 L1 f2 (n + 1) (IsChain guard strict xs ys links n) is_layout new adds)
    (λ values among.
    let long : length values ≡ length L = length_among L values among in
    chained values (length L) n guard strict xs ys links long
    (All-weaker (λ (a : Atom). a.var < length L) (λ (a : Atom). a.var < length values) (λ a below. omega (arith, below, long)) guard guard_low)
    (All-weaker (λ (x : ℕ). x < length L) (λ (x : ℕ). x < length values) (λ x below. omega (arith, below, long)) xs xs_low)
    (All-weaker (λ (x : ℕ). x < length L) (λ (x : ℕ). x < length values) (λ x below. omega (arith, below, long)) ys ys_low)
    links_are first second stops)

-- where lists aren't in order they are the other way round
turned_order : (strict : Bool) (xs ys : List ℤ) → is_before (not strict) ys xs ≡ not (is_before strict xs ys)
unfolding is_before
turned_order true xs ys = refl
turned_order false xs ys = twice (lex_less ys xs)
  where
    twice : (b : Bool) → b ≡ not (not b)
    twice true = refl
    twice false = refl

-- a truth value, with which lists are in order, and without it the other way round
pub order_decided : (L : List VariableLiterals) (f f1 : Cnf) (L2 : List VariableLiterals) (f2 : Cnf) (L3 : List VariableLiterals) (f3 : Cnf) (t : ℕ) (on off : List Atom) (strict other : Bool) (xs ys : List ℕ) → IsLayoutOf L f → t < length L → AreOf L xs → AreOf L ys
    → on ≡ is_not t (pos 1) ∷ [] → off ≡ is_not t (pos 0) ∷ [] → other ≡ not strict
    → Adds L f L f1 (λ values. IsTruth (number_at values t)) → Adds L f1 L2 f2 (Unless on (λ values. is_before strict (numbers_of_vars values xs) (numbers_of_vars values ys) ≡ true)) → Adds L2 f2 L3 f3 (Unless off (λ values. is_before other (numbers_of_vars values ys) (numbers_of_vars values xs) ≡ true))
    → Adds L f L3 f3 (λ values. IsTrue (is_as_said values (Some t) (is_before strict (numbers_of_vars values xs) (numbers_of_vars values ys))))
order_decided L f f1 L2 f2 L3 f3 t on off strict other xs ys is_layout t_low xs_low ys_low on_is off_is other_is one two three =
    adds_like L f L3 f3 (λ values. (IsTruth (number_at values t) × Unless on (λ vs. K vs ≡ true) values) × (number_at values t ≡ pos 0 → K values ≡ false)) (λ values. IsTrue (is_as_said values (Some t) (K values))) is_layout
    (adds_later L f L2 f2 L3 f3 (λ values. IsTruth (number_at values t) × Unless on (λ vs. K vs ≡ true) values) (Unless off (λ values. is_before other (numbers_of_vars values ys) (numbers_of_vars values xs) ≡ true)) (λ values. number_at values t ≡ pos 0 → K values ≡ false) is_layout
    (adds_both L f f1 L2 f2 (λ values. IsTruth (number_at values t)) (Unless on (λ vs. K vs ≡ true)) is_layout one two) three
    (λ values among. (
      λ h at. was_false (K (take (length L) values)) (sym (turned values) ∙ h ((fails_as t (pos 0) off off_is values).1 (sym (number_front values (length L) t t_low) ∙ at))),
      λ h no. turned values ∙ ap not (h (number_front values (length L) t t_low ∙ (fails_as t (pos 0) off off_is values).0 no)),
    )))
    (λ values among. (
      λ h. (decided values t (K values)).0 (h.0.0, λ at. h.0.1 ((fails_as t (pos 1) on on_is values).1 at), h.1),
      λ h. let d = (decided values t (K values)).1 h in ((d.0, λ no. d.1 ((fails_as t (pos 1) on on_is values).0 no)), d.2),
    ))
  where
    K : List ℤ → Bool
    K values = is_before strict (numbers_of_vars values xs) (numbers_of_vars values ys)

    turned : (values : List ℤ) → is_before other (numbers_of_vars values ys) (numbers_of_vars values xs) ≡ not (K (take (length L) values))
    turned values =
        ap (λ b. is_before b (numbers_of_vars values ys) (numbers_of_vars values xs)) other_is ∙ turned_order strict (numbers_of_vars values xs) (numbers_of_vars values ys)
        ∙ ap (λ vs. not (is_before strict vs (numbers_of_vars values ys))) (sym (numbers_front values (length L) xs xs_low))
        ∙ ap (λ vs. not (is_before strict (numbers_of_vars (take (length L) values) xs) vs)) (sym (numbers_front values (length L) ys ys_low))

-- variables of a layout are of a later one
pub of_later : (L : List VariableLiterals) (f : Cnf) (L1 : List VariableLiterals) (g : Cnf) (xs : List ℕ) → GoesOn L f L1 g → AreOf L xs → AreOf L1 xs
of_later L f L1 g xs goes low = All-weaker (λ (x : ℕ). x < length L) (λ (x : ℕ). x < length L1) (λ x below. later_var x below) xs low
  where
    short : {X : Type 0} (n : ℕ) (ys : List X) → length (take n ys) ≤ length ys
    short zero ys = omega arith
    short (suc n) [] = omega arith
    short (suc n) (y ∷ ys) = let h = short n ys in omega (arith, h)

    later_var : (x : ℕ) → x < length L → x < length L1
    later_var x below =
        let most : length L ≤ length L1 = subst (λ m. m ≤ length L1) (ap length goes.earlier) (short (length L) L1) in
        omega (arith, below, most)

pub atoms_later : (L : List VariableLiterals) (f : Cnf) (L1 : List VariableLiterals) (g : Cnf) (t : ℕ) (v : ℤ) (guard : List Atom) → GoesOn L f L1 g → guard ≡ is_not t v ∷ [] → t < length L → AreAtomsOf L1 guard
atoms_later L f L1 g t v guard goes are low =
    let at : AreOf L1 (t ∷ []) = of_later L f L1 g (t ∷ []) goes (λ k d below. one_of k d below) in
    subst (λ (those : List Atom). AreAtomsOf L1 those) (sym are) (λ k d below. at_place k d below (at 0 0 (omega arith)))
  where
    one_of : (k d : ℕ) → k < length (t ∷ []) → get_or (t ∷ []) k d < length L
    one_of zero d below = low
    one_of (suc k) d below = absurd (omega (arith, below))

    at_place : (k : ℕ) (d : Atom) → k < length (is_not t v ∷ []) → t < length L1 → (get_or (is_not t v ∷ []) k d).var < length L1
    at_place zero d below there = there
    at_place (suc k) d below there = absurd (omega (arith, below))

-- the four comparisons
pub less_is : (op : LexOp) (xs ys : List ℤ) → op ≡ LexOp.Less → lex_holds op xs ys ≡ is_before true xs ys
unfolding lex_holds is_before
less_is op xs ys is = ap (λ o. lex_holds o xs ys) is

pub at_most_is : (op : LexOp) (xs ys : List ℤ) → op ≡ LexOp.AtMost → lex_holds op xs ys ≡ is_before false xs ys
unfolding lex_holds is_before
at_most_is op xs ys is = ap (λ o. lex_holds o xs ys) is

pub greater_is : (op : LexOp) (xs ys : List ℤ) → op ≡ LexOp.Greater → lex_holds op xs ys ≡ is_before true ys xs
unfolding lex_holds is_before
greater_is op xs ys is = ap (λ o. lex_holds o xs ys) is

pub at_least_is : (op : LexOp) (xs ys : List ℤ) → op ≡ LexOp.AtLeast → lex_holds op xs ys ≡ is_before false ys xs
unfolding lex_holds is_before
at_least_is op xs ys is = ap (λ o. lex_holds o xs ys) is

-- variables of two lists
pub both_of : (L : List VariableLiterals) (xs ys : List ℕ) → AreOf L (xs ++ ys) → AreOf L xs × AreOf L ys
both_of L xs ys all = (
  All-from_contains (λ x. x < length L) xs (λ x found. All-contains (λ y. y < length L) (xs ++ ys) x all (Contains-append_left xs ys x found)),
  All-from_contains (λ x. x < length L) ys (λ x found. All-contains (λ y. y < length L) (xs ++ ys) x all (Contains-append_right xs ys x found)),
)
