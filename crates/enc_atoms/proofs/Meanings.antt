-- What atoms, and clauses of few of them, say of the variables' numbers.
use Rattle.std.proofs.Common.{Some, ◌≡◌, ◌↔◌, ◌⊎◌, inl, inr, ℕ, ℤ, ◌≤ℤ◌, pos, Bool, true, false, not, ◌||◌, IsTrue, List, [], ◌∷◌, map, refl, sym, ap, ◌∙◌, arith, int_le, int_lt}
use Rattle.std.specs.List.{list_any}
use Rattle.std.specs.Ordering.{int_eq}
use Rattle.std.proofs.lemmas.Bool.Decides.{Decides-int_eq}
use Rattle.std.proofs.lemmas.Int.{ints}
use Rattle.std.proofs.Math.Bool.{or-false}
use Rattle.ep_base.specs.Numbers.{has_number, of_bool}
use Rattle.ep_flat.specs.Cons.{is_as_said, number_at, numbers_of_vars}
use Rattle.enc_atoms.specs.Atoms.{atom_holds, clause_holds, test_holds}
use Rattle.enc_atoms.specs.declared.atoms.Atom.{Atom}
use Rattle.enc_atoms.specs.Steps.{Implied, IsTruth, NotBoth, above, at_most, is, is_not, are_all}

true_is : (b : Bool) → b ≡ false → not b ≡ true
true_is true e = absurd (bad e)
  where
    bad : true ≡ false → ⊥
    bad x = cc
true_is false e = refl

pub not_false : {X : Type 0} (b : Bool) → b ≡ true → b ≡ false → X
not_false b e g = absurd (bad (sym e ∙ g))
  where
    bad : true ≡ false → ⊥
    bad x = cc

pub either : (b : Bool) → (b ≡ true) ⊎ (b ≡ false)
either true = inl refl
either false = inr refl

pub same : (a b : ℤ) → int_eq a b ≡ true → a ≡ b
same a b e = (Decides-int_eq a b).0 e

pub same_test : (a b : ℤ) → a ≡ b → int_eq a b ≡ true
same_test a b e = (Decides-int_eq a b).1 e

pub other_test : (a b : ℤ) → (a ≡ b → ⊥) → int_eq a b ≡ false
other_test a b differ = elim (either (int_eq a b)) as (λ _. int_eq a b ≡ false) [ inl on ↦ absurd (differ (same a b on)) | inr e ↦ e ]

pub other : (a b : ℤ) → int_eq a b ≡ false → a ≡ b → ⊥
other a b e is = not_false (int_eq a b) (same_test a b is) e

-- an atom "it is" holds where it is, and an atom "it isn't" fails there
pub is_says : (values : List ℤ) (x : ℕ) (v : ℤ) → IsTrue (atom_holds values (is x v)) ↔ (number_at values x ≡ v)
unfolding atom_holds test_holds
is_says values x v = (λ h. same (number_at values x) v h, λ h. same_test (number_at values x) v h)

pub is_not_fails : (values : List ℤ) (x : ℕ) (v : ℤ) → (atom_holds values (is_not x v) ≡ false) ↔ (number_at values x ≡ v)
unfolding atom_holds test_holds
is_not_fails values x v = (
  λ h. elim (either (int_eq (number_at values x) v)) as (λ _. number_at values x ≡ v) [
    | inl on ↦ same (number_at values x) v on
    | inr off ↦ not_false (not (int_eq (number_at values x) v)) (true_is (int_eq (number_at values x) v) off) h
  ],
  λ h. ap not (same_test (number_at values x) v h),
)

at_most_says : (values : List ℤ) (x : ℕ) (v : ℤ) → IsTrue (atom_holds values (at_most x v)) ↔ (number_at values x ≤ℤ v)
unfolding atom_holds test_holds
at_most_says values x v = (λ h. by (int_le (number_at values x) v) refl h, λ h. back (int_le (number_at values x) v) refl h)
  where
    by : (t : Bool) → int_le (number_at values x) v ≡ t → t ≡ true → number_at values x ≤ℤ v
    by true e h = omega (arith, ints, e)
    by false e h = not_false false h refl

    back : (t : Bool) → int_le (number_at values x) v ≡ t → number_at values x ≤ℤ v → t ≡ true
    back true e h = refl
    back false e h = absurd (omega (arith, ints, e, h))

above_fails : (values : List ℤ) (x : ℕ) (v : ℤ) → (atom_holds values (above x v) ≡ false) ↔ (number_at values x ≤ℤ v)
unfolding atom_holds test_holds
above_fails values x v = (λ h. omega (arith, ints, h), λ h. back (int_lt v (number_at values x)) refl h)
  where
    back : (t : Bool) → int_lt v (number_at values x) ≡ t → number_at values x ≤ℤ v → t ≡ false
    back true e h = absurd (omega (arith, ints, e, h))
    back false e h = refl

after_or : (a b : Bool) → (a || b) ≡ true → a ≡ false → b ≡ true
after_or true b h e = not_false true refl e
after_or false b h e = h

or_after : (a b : Bool) → (a ≡ false → b ≡ true) → (a || b) ≡ true
or_after true b h = refl
or_after false b h = h refl

-- a clause with one more atom in front
pub clause_more : (values : List ℤ) (atom : Atom) (atoms : List Atom) → IsTrue (clause_holds values (atom ∷ atoms)) ↔ (atom_holds values atom ≡ false → IsTrue (clause_holds values atoms))
unfolding clause_holds
clause_more values atom atoms = (
  λ h no. after_or (atom_holds values atom) (list_any (atom_holds values) atoms) h no,
  λ h. or_after (atom_holds values atom) (list_any (atom_holds values) atoms) h,
)

pub clause_one : (values : List ℤ) (atom : Atom) → clause_holds values (atom ∷ []) ≡ atom_holds values atom
unfolding clause_holds
clause_one values atom = or-false (atom_holds values atom)

pub clause_none : (values : List ℤ) → clause_holds values [] ≡ false
unfolding clause_holds
clause_none values = refl

-- a clause of one atom "it is"
pub is_clause : (values : List ℤ) (x : ℕ) (v : ℤ) → IsTrue (clause_holds values (is x v ∷ [])) ↔ (number_at values x ≡ v)
is_clause values x v = (λ h. (is_says values x v).0 (sym (clause_one values (is x v)) ∙ h), λ h. clause_one values (is x v) ∙ (is_says values x v).1 h)

-- a clause of "it isn't" and something fails where the guard does not hold
pub guard_fails : (values : List ℤ) (x : ℕ) (v : ℤ) → (clause_holds values (is_not x v ∷ []) ≡ false) ↔ (number_at values x ≡ v)
guard_fails values x v = (
  λ h. (is_not_fails values x v).0 (sym (clause_one values (is_not x v)) ∙ h),
  λ h. clause_one values (is_not x v) ∙ (is_not_fails values x v).1 h,
)

pub implied_says : (values : List ℤ) (x : ℕ) (v : ℤ) (y : ℕ) (w : ℤ) → IsTrue (clause_holds values (is_not x v ∷ is y w ∷ [])) ↔ Implied x v y w values
implied_says values x v y w = (
  λ h at. (is_says values y w).0 (sym (clause_one values (is y w)) ∙ (clause_more values (is_not x v) (is y w ∷ [])).0 h ((is_not_fails values x v).1 at)),
  λ h. (clause_more values (is_not x v) (is y w ∷ [])).1 (λ no. clause_one values (is y w) ∙ (is_says values y w).1 (h ((is_not_fails values x v).0 no))),
)

pub not_both_says : (values : List ℤ) (x : ℕ) (v : ℤ) (y : ℕ) (w : ℤ) → IsTrue (clause_holds values (is_not x v ∷ is_not y w ∷ [])) ↔ NotBoth x v y w values
not_both_says values x v y w = (
  λ h at there. not_false (atom_holds values (is_not y w)) (sym (clause_one values (is_not y w)) ∙ (clause_more values (is_not x v) (is_not y w ∷ [])).0 h ((is_not_fails values x v).1 at)) ((is_not_fails values y w).1 there),
  λ h. (clause_more values (is_not x v) (is_not y w ∷ [])).1 (λ no. clause_one values (is_not y w)
      ∙ elim (either (atom_holds values (is_not y w))) as (λ _. atom_holds values (is_not y w) ≡ true) [
        | inl on ↦ on
        | inr off ↦ absurd (h ((is_not_fails values x v).0 no) ((is_not_fails values y w).0 off))
      ]),
)

is_test : (values : List ℤ) (x : ℕ) (v : ℤ) → atom_holds values (is x v) ≡ int_eq (number_at values x) v
unfolding atom_holds test_holds
is_test values x v = refl

of_true : of_bool true ≡ pos 1
unfolding of_bool
of_true = refl

of_false : of_bool false ≡ pos 0
unfolding of_bool
of_false = refl

apart : {X : Type 0} → pos 1 ≡ pos 0 → X
apart e = absurd (omega (arith, ints, e))

-- a clause which says that one of some variables is this number
pub are_all_says : (values : List ℤ) (xs : List ℕ) (v : ℤ) → clause_holds values (are_all xs v) ≡ has_number (numbers_of_vars values xs) v
unfolding clause_holds are_all has_number numbers_of_vars
are_all_says values [] v = refl
are_all_says values (x ∷ xs) v = ap (λ b. b || list_any (atom_holds values) (map (λ y. is y v) xs)) (one x) ∙ ap (λ b. int_eq v (number_at values x) || b) (are_all_says values xs v)
  where
    turned : (a b : ℤ) → int_eq a b ≡ int_eq b a
    turned a b = elim (either (int_eq a b)) as (λ _. int_eq a b ≡ int_eq b a) [
      | inl on ↦ on ∙ sym (same_test b a (sym (same a b on)))
      | inr off ↦ off ∙ sym (other_test b a (λ back. other a b off (sym back)))
    ]

    one : (x : ℕ) → atom_holds values (is x v) ≡ int_eq v (number_at values x)
    one x = is_test values x v ∙ turned (number_at values x) v

-- A truth value that is 0 or 1, and with 1 the constraint, and with 0 not.
pub decided : (values : List ℤ) (t : ℕ) (holds : Bool) → ((number_at values t ≡ pos 0) ⊎ (number_at values t ≡ pos 1)) × (number_at values t ≡ pos 1 → holds ≡ true) × (number_at values t ≡ pos 0 → holds ≡ false)
    ↔ IsTrue (is_as_said values (Some t) holds)
unfolding is_as_said
decided values t holds = (λ h. forth holds h.0 h.1 h.2, λ h. back holds (same (number_at values t) (of_bool holds) h))
  where
    forth : (b : Bool) → ((number_at values t ≡ pos 0) ⊎ (number_at values t ≡ pos 1)) → (number_at values t ≡ pos 1 → b ≡ true) → (number_at values t ≡ pos 0 → b ≡ false) → int_eq (number_at values t) (of_bool b) ≡ true
    forth true one on off = elim one as (λ _. int_eq (number_at values t) (of_bool true) ≡ true) [
      | inl zero_is ↦ not_false true refl (off zero_is)
      | inr one_is ↦ same_test (number_at values t) (of_bool true) (one_is ∙ sym of_true)
    ]
    forth false one on off = elim one as (λ _. int_eq (number_at values t) (of_bool false) ≡ true) [
      | inl zero_is ↦ same_test (number_at values t) (of_bool false) (zero_is ∙ sym of_false)
      | inr one_is ↦ not_false false (on one_is) refl
    ]

    back : (b : Bool) → number_at values t ≡ of_bool b → ((number_at values t ≡ pos 0) ⊎ (number_at values t ≡ pos 1)) × (number_at values t ≡ pos 1 → b ≡ true) × (number_at values t ≡ pos 0 → b ≡ false)
    back true is_one = (inr (is_one ∙ of_true), λ at. refl, λ at. apart (sym (is_one ∙ of_true) ∙ at))
    back false is_zero = (inl (is_zero ∙ of_false), λ at. apart (sym at ∙ (is_zero ∙ of_false)), λ at. refl)

-- a clause which says that a variable is 0 or 1
pub decided_says : (values : List ℤ) (t : ℕ) → IsTrue (clause_holds values (is t (pos 0) ∷ is t (pos 1) ∷ [])) ↔ IsTruth (number_at values t)
decided_says values t = (
  λ h. elim (either (atom_holds values (is t (pos 0)))) as (λ _. IsTruth (number_at values t)) [
    | inl on ↦ inl ((is_says values t (pos 0)).0 on)
    | inr off ↦ inr ((is_says values t (pos 1)).0 (sym (clause_one values (is t (pos 1))) ∙ (clause_more values (is t (pos 0)) (is t (pos 1) ∷ [])).0 h off))
  ],
  λ h. (clause_more values (is t (pos 0)) (is t (pos 1) ∷ [])).1 (λ off. clause_one values (is t (pos 1))
      ∙ elim h as (λ _. atom_holds values (is t (pos 1)) ≡ true) [
        | inl zero_is ↦ not_false (atom_holds values (is t (pos 0))) ((is_says values t (pos 0)).1 zero_is) off
        | inr one_is ↦ (is_says values t (pos 1)).1 one_is
      ]),
)
