-- A name with indices behind it, of at most 18 digits each, is the name of a cell.
use Rattle.std.proofs.Common.{◌≡◌, ℕ, suc, ℤ, pos, negsuc, ◌^◌, ◌<◌, Bool, true, false, not, eqb, List, [], ◌∷◌, ◌++◌, refl, sym, ap, subst, arith, inl, inr}
use Rattle.std.specs.Prelude.{decimal, is_some, unsigned_abs}
use Rattle.std.specs.Char.{is_ascii_digit}
use Rattle.std.specs.Fmt.{signed_decimal}
use Rattle.std.specs.Int.{IsInRange}
use Rattle.std.specs.List.{AllByRecursion, list_all, onto_first, slice_split}
use Rattle.std.specs.Str.Parse.{digits_value}
use Rattle.std.proofs.lemmas.Bool.Decides.{nat_tests}
use Rattle.std.proofs.lemmas.Fmt.{digits_decimal}
use Rattle.std.proofs.lemmas.List.{append-nil}
use Rattle.std.proofs.lemmas.Str.Parse.{IsDigitsTest, IsNumeralModel, numerals_by_value}
use Rattle.enc_var.specs.Notes.{indices_text, joined_numbers}
use Rattle.sat_text.proofs.Again.{and_both, and_parts, whole_again}
use Rattle.sat_text.specs.NoteGrammar.{IsCell}
use Rattle.sat_text.specs.Notes.{are_wholes, is_free_name}
use Rattle.sat_text.specs.Numbers.{whole_of}

-- a number of at most 18 digits
abbrev pub IsShortNumber : ℤ → Type 0
IsShortNumber n = unsigned_abs n < 10 ^ 18

-- ---- words without a comma

-- no byte of the word is a comma
abbrev HasNoComma : List ℕ → Type 0
HasNoComma word = list_all (λ b. not (eqb b 44)) word ≡ true

no_comma : (b : Bool) → not b ≡ true → b ≡ false
no_comma true e = absurd cc
no_comma false e = refl

piece_before : (word rest : List ℕ) → HasNoComma word → slice_split (λ b. eqb b 44) (word ++ 44 ∷ rest) ≡ word ∷ slice_split (λ b. eqb b 44) rest
piece_before [] rest h = refl
piece_before (b ∷ word) rest h =
    let parts = and_parts (not (eqb b 44)) (list_all (λ x. not (eqb x 44)) word) h in
    let other : eqb b 44 ≡ false = no_comma (eqb b 44) parts.0 in
    rw other (ap (onto_first b) (piece_before word rest parts.1))

last_piece : (word : List ℕ) → HasNoComma word → slice_split (λ b. eqb b 44) word ≡ word ∷ []
last_piece [] h = refl
last_piece (b ∷ word) h =
    let parts = and_parts (not (eqb b 44)) (list_all (λ x. not (eqb x 44)) word) h in
    let other : eqb b 44 ≡ false = no_comma (eqb b 44) parts.0 in
    rw other (ap (onto_first b) (last_piece word parts.1))

-- ---- numbers

digit_range : (c : ℕ) → is_ascii_digit c ≡ true → IsInRange 48 57 c
digit_range c e = grind (arith, nat_tests)

range_digit : (c : ℕ) → IsInRange 48 57 c → is_ascii_digit c ≡ true
range_digit c r = grind (arith, nat_tests)

-- the bytes are digits
abbrev AreDigits : List ℕ → Type 0
AreDigits bytes = list_all is_ascii_digit bytes ≡ true

digits_test : IsDigitsTest AreDigits
digits_test = record {
  empty = refl;
  parts = λ c cs e. let both = and_parts (is_ascii_digit c) (list_all is_ascii_digit cs) e in (digit_range c both.0, both.1);
  more = λ c cs r e. and_both (is_ascii_digit c) (list_all is_ascii_digit cs) (range_digit c r) e;
}

numerals : IsNumeralModel AreDigits (digits_value 10)
numerals = numerals_by_value AreDigits digits_test

below_word : (n : ℕ) → n < 10 ^ 18 → n < 2 ^ 64
below_word n lt = omega (arith, lt)

digits_no_comma : (bytes : List ℕ) → AreDigits bytes → HasNoComma bytes
digits_no_comma [] h = refl
digits_no_comma (b ∷ bytes) h =
    let parts = and_parts (is_ascii_digit b) (list_all is_ascii_digit bytes) h in
    let r = digit_range b parts.0 in
    let other : eqb b 44 ≡ false = grind (arith, nat_tests) in
    and_both (not (eqb b 44)) (list_all (λ x. not (eqb x 44)) bytes) (ap not other) (digits_no_comma bytes parts.1)

number_no_comma : (n : ℤ) → IsShortNumber n → HasNoComma (signed_decimal n)
number_no_comma (pos n) short = digits_no_comma (decimal n) (digits_decimal numerals n (below_word n short))
number_no_comma (negsuc n) short = digits_no_comma (decimal (suc n)) (digits_decimal numerals (suc n) (below_word (suc n) short))

-- ---- cells

wholes_between : (n : ℤ) (ns : List ℤ) → IsShortNumber n → AllByRecursion IsShortNumber ns → are_wholes (slice_split (λ b. eqb b 44) (joined_numbers (n ∷ ns))) ≡ true
unfolding joined_numbers
wholes_between n [] short more = rw (last_piece (signed_decimal n) (number_no_comma n short), whole_again n short) refl
wholes_between n (m ∷ ns) short more =
    rw (piece_before (signed_decimal n) (joined_numbers (m ∷ ns)) (number_no_comma n short), whole_again n short) (wholes_between m ns more.0 more.1)

pub cell_named : (name : List ℕ) (indices : List ℤ) → is_free_name name ≡ true → AllByRecursion IsShortNumber indices → IsCell (name ++ indices_text indices)
unfolding indices_text
cell_named name [] named short = inl (subst (λ (bytes : List ℕ). is_free_name bytes ≡ true) (sym (append-nil name)) named)
cell_named name (n ∷ ns) named short =
    inr (record { name = name; indices = joined_numbers (n ∷ ns); parts = refl; named = named; wholes = wholes_between n ns short.0 short.1 })
