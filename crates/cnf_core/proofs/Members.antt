-- What stands in a list, by cases on the list, and by the test on literals.
use Rattle.std.proofs.Common.{◌≡◌, Bool, true, false, not, ◌&&◌, ◌||◌, nat_eq, ◌⊎◌, inl, inr, List, [], ◌∷◌, zero, suc, refl, ap, ◌∙◌, sym, subst, cond, arith}
use Rattle.std.specs.Prelude.{All, Contains}
use Rattle.std.specs.List.{list_any, list_all, filter}
use Rattle.std.proofs.lemmas.Bool.{eqb-true, false≢true, or_right}
use Rattle.std.proofs.lemmas.Bool.Decides.{nat_tests}
use Rattle.std.proofs.lemmas.List.Elements.{All-cons, All-nil}
use Rattle.cnf_core.specs.Literal.{Literal, negation, same_sign, same_literal, is_among}
use Rattle.cnf_core.proofs.Literals.{literal_ext}

pub Contains-here : {X : Type 0} (x : X) (xs : List X) → Contains (x ∷ xs) x
Contains-here x xs = (0, omega arith, refl)

pub Contains-there : {X : Type 0} (x : X) (xs : List X) (y : X) → Contains xs y → Contains (x ∷ xs) y
Contains-there x xs y found = (suc found.0, omega (arith, found.1), found.2)

pub Contains-cases : {X : Type 0} (x : X) (xs : List X) (y : X) → Contains (x ∷ xs) y → (x ≡ y) ⊎ Contains xs y
Contains-cases x xs y (zero, below, is) = inl is
Contains-cases x xs y (suc k, below, is) = inr (k, omega arith, is)

pub none_in_nil : {X : Type 0} (x : X) → Contains [] x → ⊥
none_in_nil x found = omega (arith, found.1)

-- each element that stands in a list meets what is shown of it there
pub All-from_contains : {X : Type 0} (P : X → Type 0) (xs : List X) → ((x : X) → Contains xs x → P x) → All P xs
All-from_contains P [] each = All-nil P
All-from_contains P (x ∷ xs) each =
    All-cons P x xs (each x (Contains-here x xs)) (All-from_contains P xs (λ y found. each y (Contains-there x xs y found)))

-- which of two tests holds
pub or_cases : (p q : Bool) → (p || q) ≡ true → (p ≡ true) ⊎ (q ≡ true)
or_cases true q e = inl refl
or_cases false q e = inr e

pub and_parts : (p q : Bool) → (p && q) ≡ true → (p ≡ true) × (q ≡ true)
and_parts true q e = (refl, e)
and_parts false q e = absurd (false≢true e)

pub either : (p : Bool) → (p ≡ true) ⊎ (p ≡ false)
either true = inl refl
either false = inr refl

pub or_left : (p q : Bool) → p ≡ true → (p || q) ≡ true
or_left true q e = refl
or_left false q e = absurd (false≢true e)

signs_from_test : (p q : Bool) → same_sign p q ≡ true → p ≡ q
signs_from_test true true e = refl
signs_from_test true false e = absurd (false≢true e)
signs_from_test false true e = absurd (false≢true e)
signs_from_test false false e = refl

pub same_sign-self : (p : Bool) → same_sign p p ≡ true
same_sign-self true = refl
same_sign-self false = refl

-- the test finds two literals to be one exactly where they are
pub literals_from_test : (a b : Literal) → same_literal a b ≡ true → a ≡ b
literals_from_test a b e =
    let parts = and_parts (nat_eq a.var b.var) (same_sign a.positive b.positive) e in
    literal_ext a b (eqb-true a.var b.var parts.0) (signs_from_test a.positive b.positive parts.1)

and_true : (p q : Bool) → p ≡ true → q ≡ true → (p && q) ≡ true
and_true true q e f = f
and_true false q e f = e

pub same_literal-self : (a : Literal) → same_literal a a ≡ true
same_literal-self a = and_true _ _ (grind (arith, nat_tests)) (same_sign-self a.positive)

pub same_literal-true : (a b : Literal) → a ≡ b → same_literal a b ≡ true
same_literal-true a b e = subst (λ (l : Literal). same_literal a l ≡ true) e (same_literal-self a)

-- a literal is found exactly where it stands
pub Contains-from_test : (literals : List Literal) (l : Literal) → is_among literals l ≡ true → Contains literals l
Contains-from_test [] l e = absurd (false≢true e)
Contains-from_test (m ∷ literals) l e =
    elim (or_cases (same_literal l m) (is_among literals l) e) [
      | inl here ↦ subst (Contains (m ∷ literals)) (sym (literals_from_test l m here)) (Contains-here m literals)
      | inr there ↦ Contains-there m literals l (Contains-from_test literals l there)
    ]

pub test_from_Contains : (literals : List Literal) (l : Literal) → Contains literals l → is_among literals l ≡ true
test_from_Contains [] l found = absurd (none_in_nil l found)
test_from_Contains (m ∷ literals) l found =
    elim (Contains-cases m literals l found) [
      | inl here ↦ or_left (same_literal l m) (is_among literals l) (same_literal-true l m (sym here))
      | inr there ↦ or_right (same_literal l m) (is_among literals l) (test_from_Contains literals l there)
    ]
  where
    or_left : (p q : Bool) → p ≡ true → (p || q) ≡ true
    or_left true q e = refl
    or_left false q e = absurd (false≢true e)

pub negation-negation : (l : Literal) → negation (negation l) ≡ l
negation-negation l = literal_ext (negation (negation l)) l refl (twice l.positive)
  where
    twice : (p : Bool) → not (not p) ≡ p
    twice true = refl
    twice false = refl

-- a filter keeps what passes it
pub Contains-filter : {X : Type 0} (p : X → Bool) (xs : List X) (x : X) → Contains xs x → p x ≡ true → Contains (filter p xs) x
Contains-filter p [] x found passes = found
Contains-filter p (y ∷ xs) x found passes =
    elim (Contains-cases y xs x found) [
      | inl here ↦ head_kept (p y) (ap p here ∙ passes) here
      | inr there ↦ tail_kept (p y) (Contains-filter p xs x there passes)
    ]
  where
    head_kept : (b : Bool) → b ≡ true → y ≡ x → Contains (cond b (y ∷ filter p xs) (filter p xs)) x
    head_kept true e here = subst (Contains (y ∷ filter p xs)) here (Contains-here y (filter p xs))
    head_kept false e here = absurd (false≢true e)

    tail_kept : (b : Bool) → Contains (filter p xs) x → Contains (cond b (y ∷ filter p xs) (filter p xs)) x
    tail_kept true rest = Contains-there y (filter p xs) x rest
    tail_kept false rest = rest

-- where each element passes a test, each that stands there does
pub passes_each : {X : Type 0} (p : X → Bool) (xs : List X) (x : X) → list_all p xs ≡ true → Contains xs x → p x ≡ true
passes_each p [] x all found = absurd (none_in_nil x found)
passes_each p (y ∷ xs) x all found =
    let parts = and_parts (p y) (list_all p xs) all in
    elim (Contains-cases y xs x found) [
      | inl here ↦ subst (λ z. p z ≡ true) here parts.0
      | inr there ↦ passes_each p xs x parts.1 there
    ]

-- where some element passes a test, one that stands there does
pub passes_some : {X : Type 0} (p : X → Bool) (xs : List X) → list_any p xs ≡ true → (x : X) × Contains xs x × (p x ≡ true)
passes_some p [] any = absurd (false≢true any)
passes_some p (y ∷ xs) any =
    elim (or_cases (p y) (list_any p xs) any) [
      | inl here ↦ (y, Contains-here y xs, here)
      | inr there ↦ later (passes_some p xs there)
    ]
  where
    later : (x : _) × Contains xs x × (p x ≡ true) → (x : _) × Contains (y ∷ xs) x × (p x ≡ true)
    later found = (found.0, Contains-there y xs found.0 found.1, found.2)

-- where none passes, none that stands there does
pub passes_none : {X : Type 0} (p : X → Bool) (xs : List X) (x : X) → list_any p xs ≡ false → Contains xs x → p x ≡ false
passes_none p [] x none found = absurd (none_in_nil x found)
passes_none p (y ∷ xs) x none found =
    elim (Contains-cases y xs x found) [
      | inl here ↦ subst (λ z. p z ≡ false) here (or_false_left (p y) (list_any p xs) none)
      | inr there ↦ passes_none p xs x (or_false_right (p y) (list_any p xs) none) there
    ]
  where
    or_false_left : (p q : Bool) → (p || q) ≡ false → p ≡ false
    or_false_left true q e = absurd (false≢true (sym e))
    or_false_left false q e = refl

    or_false_right : (p q : Bool) → (p || q) ≡ false → q ≡ false
    or_false_right true q e = absurd (false≢true (sym e))
    or_false_right false q e = e

-- and nothing else
pub Contains-from_filter : {X : Type 0} (p : X → Bool) (xs : List X) (x : X) → Contains (filter p xs) x → Contains xs x × (p x ≡ true)
Contains-from_filter p [] x found = absurd (none_in_nil x found)
Contains-from_filter p (y ∷ xs) x found = by_test (p y) refl found (Contains-from_filter p xs x)
  where
    later : Contains xs x × (p x ≡ true) → Contains (y ∷ xs) x × (p x ≡ true)
    later rest = (Contains-there y xs x rest.0, rest.1)

    by_test : (b : Bool) → p y ≡ b → Contains (cond b (y ∷ filter p xs) (filter p xs)) x → (Contains (filter p xs) x → Contains xs x × (p x ≡ true)) → Contains (y ∷ xs) x × (p x ≡ true)
    by_test true is stands rest =
        elim (Contains-cases y (filter p xs) x stands) [
          | inl here ↦ (subst (Contains (y ∷ xs)) here (Contains-here y xs), subst (λ z. p z ≡ true) here is)
          | inr there ↦ later (rest there)
        ]
    by_test false is stands rest = later (rest stands)

-- where each element that stands in a list passes a test, all do
pub all_pass : {X : Type 0} (p : X → Bool) (xs : List X) → ((x : X) → Contains xs x → p x ≡ true) → list_all p xs ≡ true
all_pass p [] each = refl
all_pass p (x ∷ xs) each = and_true (p x) (list_all p xs) (each x (Contains-here x xs)) (all_pass p xs (λ y found. each y (Contains-there x xs y found)))
