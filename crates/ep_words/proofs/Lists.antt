-- Tests over lists.
use Rattle.std.proofs.Common.{◌≡◌, ℕ, ◌<◌, Bool, true, ◌||◌, ◌&&◌, List, [], ◌∷◌, inl, inr, map, length, ap, refl, arith, subst}
use Rattle.std.specs.List.{list_any, list_all}
use Rattle.std.specs.Char.{is_ascii_digit}
use Rattle.std.proofs.lemmas.Bool.{and_from, and_parts, or_cases, false≢true}
use Rattle.std.proofs.lemmas.Slice.Eq.{bytes_eq-Decides}
use Rattle.ep_base.specs.TokenTexts.{is_number, is_one_of}
use Rattle.std.specs.Str.{all_ascii_digits}

-- a test of what the elements are read as
pub any_of_read : {X Y : Type 0} (p : X → Bool) (read : Y → X) → (ys : List Y) → list_any p (map read ys) ≡ list_any (λ y. p (read y)) ys
any_of_read p read [] = refl
any_of_read p read (y ∷ ys) = ap (λ b. p (read y) || b) (any_of_read p read ys)

pub all_of_read : {X Y : Type 0} (p : X → Bool) (read : Y → X) → (ys : List Y) → list_all p (map read ys) ≡ list_all (λ y. p (read y)) ys
all_of_read p read [] = refl
all_of_read p read (y ∷ ys) = ap (λ b. p (read y) && b) (all_of_read p read ys)

-- what is true of each text of a table is true of one of them
pub one_of_passes : (test : List ℕ → Bool) (texts : List (List ℕ)) (name : List ℕ) → is_one_of texts name ≡ true → list_all test texts ≡ true → test name ≡ true
one_of_passes test [] name one all = absurd (false≢true one)
one_of_passes test (text ∷ texts) name one all =
    let parts = and_parts _ _ all in
    elim (or_cases _ _ one) [
      | inl here ↦ subst (λ (t : List ℕ). test t ≡ true) ((bytes_eq-Decides text name).0 here) parts.0
      | inr there ↦ one_of_passes test texts name there parts.1
    ]

-- digits, one or more
pub digits_are_number : (text : List ℕ) → 0 < length text → list_all is_ascii_digit text ≡ is_number text
digits_are_number [] some = absurd (omega arith)
digits_are_number (digit ∷ digits) some = refl

-- digits in std's word
pub digits_are_ascii : (text : List ℕ) → list_all is_ascii_digit text ≡ true → all_ascii_digits text ≡ true
digits_are_ascii [] all = refl
digits_are_ascii (digit ∷ digits) all =
    let parts = and_parts _ _ all in
    and_from _ _ parts.0 (digits_are_ascii digits parts.1)

pub number_is_ascii : (text : List ℕ) → is_number text ≡ true → all_ascii_digits text ≡ true
number_is_ascii [] number = absurd (false≢true number)
number_is_ascii (digit ∷ digits) number = digits_are_ascii (digit ∷ digits) number

pub number_has_digits : (text : List ℕ) → is_number text ≡ true → 0 < length text
number_has_digits [] number = absurd (false≢true number)
number_has_digits (digit ∷ digits) number = omega arith
