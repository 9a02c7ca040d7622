-- The value of some digits, one digit after another.
use Rattle.std.proofs.Common.{◌≡◌, ℕ, ◌+◌, ◌-◌, ◌*◌, ◌^◌, ◌<◌, ◌≤◌, true, List, length, take, get_or, sym, ap, ◌∙◌, arith}
use Rattle.std.specs.List.{list_all}
use Rattle.std.specs.Char.{is_ascii_digit, digit_value}
use Rattle.std.specs.Str.Parse.{digits_value}
use Rattle.std.proofs.Math.Nat.{pow-le-pow_right}
use Rattle.std.proofs.lemmas.Grind.{pow_more}
use Rattle.std.proofs.lemmas.Bool.Decides.{nat_tests}
use Rattle.std.proofs.lemmas.Int.Digits.{digits_value_more}
use Rattle.std.proofs.lemmas.List.Folds.{list_all_at}
use Rattle.std.proofs.lemmas.Bool.{true_from_ne_false, false≢true}

-- what a digit is worth
digit_is : (b : ℕ) → is_ascii_digit b ≡ true → (48 ≤ b) × (b ≤ 57) × (digit_value b ≡ b - 48)
digit_is b e = grind (arith, nat_tests)

-- one more digit
pub record TakesDigit (digits : List ℕ) (i before digit : ℕ) : Type 0 where
  pub value : before * 10 + digit ≡ digits_value 10 (take (i + 1) digits)
  pub small : before * 10 + digit < 10 ^ (i + 1)
  pub fits : before * 10 + digit < 10 ^ 18

pub takes_digit : (digits : List ℕ) (i value digit : ℕ) → i < length digits → length digits ≤ 18 → list_all is_ascii_digit digits ≡ true → value ≡ digits_value 10 (take i digits) → value < 10 ^ i → digit ≡ get_or digits i 0 - 48 → TakesDigit digits i value digit
takes_digit digits i value digit within few all is small e =
    let here : is_ascii_digit (get_or digits i 0) ≡ true = true_from_ne_false _ (λ f. false≢true (sym (list_all_at is_ascii_digit digits i 0 within f) ∙ all)) in
    let d = digit_is (get_or digits i 0) here in
    let more = digits_value_more 10 digits i within in
    let power = pow_more 10 i in
    let within_18 : i + 1 ≤ 18 = omega arith in
    let most : 10 ^ (i + 1) ≤ 10 ^ 18 = pow-le-pow_right (omega arith) within_18 in
    record {
      value = sym (more ∙ ap (λ v. v * 10 + digit_value (get_or digits i 0)) (sym is) ∙ ap (λ w. value * 10 + w) (d.2 ∙ sym e));
      small = omega (arith, d.0, d.1);
      fits = omega (arith, d.0, d.1);
    }

pub small_value : (i value : ℕ) → i ≤ 18 → value < 10 ^ i → value < 10 ^ 18
small_value i value few small = let most : 10 ^ i ≤ 10 ^ 18 = pow-le-pow_right (omega arith) few in omega arith
