-- An `x` and a number are a name of the language.
use Rattle.std.proofs.Common.{◌≡◌, ℕ, ◌<◌, ◌^◌, Bool, true, false, ◌||◌, List, [], ◌∷◌, refl, arith, inl}
use Rattle.std.specs.Prelude.{decimal}
use Rattle.std.specs.Char.{is_ascii_digit}
use Rattle.std.specs.Int.{IsInRange}
use Rattle.std.specs.List.{list_all}
use Rattle.std.specs.Str.Parse.{digits_value}
use Rattle.std.proofs.lemmas.Bool.Decides.{nat_tests}
use Rattle.std.proofs.lemmas.Fmt.{digits_decimal}
use Rattle.std.proofs.lemmas.Str.Parse.{IsDigitsTest, IsNumeralModel, numerals_by_value}
use Rattle.ep_base.specs.TokenTexts.{begins_name, continues_name, is_word}
use Rattle.opb_solve.specs.Logged.{variable_name}
use Rattle.sat_text.proofs.Again.{and_both, and_parts}
use Rattle.sat_text.specs.NoteGrammar.{IsCell}
use Rattle.sat_text.specs.Notes.{is_free_name}

digit_range : (c : ℕ) → is_ascii_digit c ≡ true → IsInRange 48 57 c
digit_range c e = grind (arith, nat_tests)

range_digit : (c : ℕ) → IsInRange 48 57 c → is_ascii_digit c ≡ true
range_digit c r = grind (arith, nat_tests)

-- the bytes are digits
abbrev AreDigits : List ℕ → Type 0
AreDigits bytes = list_all is_ascii_digit bytes ≡ true

digits_test : IsDigitsTest AreDigits
digits_test = record {
  empty = refl;
  parts = λ c cs e. let both = and_parts (is_ascii_digit c) (list_all is_ascii_digit cs) e in (digit_range c both.0, both.1);
  more = λ c cs r e. and_both (is_ascii_digit c) (list_all is_ascii_digit cs) (range_digit c r) e;
}

numerals : IsNumeralModel AreDigits (digits_value 10)
numerals = numerals_by_value AreDigits digits_test

or_second : (a b : Bool) → b ≡ true → (a || b) ≡ true
or_second true b e = refl
or_second false b e = e

digits_continue : (bytes : List ℕ) → AreDigits bytes → list_all continues_name bytes ≡ true
digits_continue [] h = refl
digits_continue (b ∷ bytes) h =
    let parts = and_parts (is_ascii_digit b) (list_all is_ascii_digit bytes) h in
    and_both (continues_name b) (list_all continues_name bytes) (or_second (begins_name b) (is_ascii_digit b) parts.0) (digits_continue bytes parts.1)

-- no reserved word begins with an `x`
no_word : (bytes : List ℕ) → is_word (120 ∷ bytes) ≡ false
unfolding is_word
no_word bytes = refl

pub name_is_cell : (var : ℕ) → var < 2 ^ 64 → IsCell (variable_name var)
name_is_cell var low =
    let name : is_free_name (variable_name var) ≡ true = rw (no_word (decimal var)) (and_both (list_all continues_name (decimal var)) true (digits_continue (decimal var) (digits_decimal numerals var low)) refl) in
    inl name
