-- Numbers of at most eighteen digits.
use Rattle.std.proofs.Common.{◌≡◌, zero-add, ℕ, suc, zero, ◌+◌, ◌*◌, ◌-◌, ◌^◌, ◌<◌, ◌≤◌, Bool, true, false, ltb, leb, ◌&&◌, List, [], ◌∷◌, length, drop, get_or, Some, None, refl, sym, ap, subst, ◌∙◌, arith}
use Rattle.std.proofs.lemmas.Bool.Decides.{nat_tests}
use Rattle.std.proofs.Math.Nat.{pow-suc}
use Rattle.std.proofs.Math.Seq.{drop-cons}
use Rattle.std.specs.Char.{is_ascii_digit, digit_value}
use Rattle.std.specs.List.{list_all}
use Rattle.std.specs.Str.Parse.{digits_value, digits_value_after}
use Rattle.std.proofs.lemmas.List.{drop_all}
use Rattle.sat_text.specs.Numbers.{are_digits, natural_of}

digit_is : (b : ℕ) → is_ascii_digit b ≡ true → digit_value b ≡ b - 48
digit_is b e = grind (arith, nat_tests)

pub digit_small : (b : ℕ) → is_ascii_digit b ≡ true → (48 ≤ b) × (b ≤ 57)
digit_small b e = grind (arith, nat_tests)

ten_mono : (k d : ℕ) → 10 ^ k ≤ 10 ^ (d + k)
ten_mono k zero = rw zero-add (omega arith)
ten_mono k (suc d) =
    let more : 10 ^ (suc d + k) ≡ 10 ^ (d + k) * 10 = ap (λ (n : ℕ). 10 ^ n) (let e : suc d + k ≡ suc (d + k) = omega arith in e) ∙ pow-suc 10 (d + k) in
    omega (arith, more, ten_mono k d)

pub room : (k n : ℕ) → n < 10 ^ k → k < 18 → n < 10 ^ 17
room k n lt le =
    let same : (17 - k) + k ≡ 17 = omega arith in
    let below : 10 ^ k ≤ 10 ^ 17 = subst (λ (m : ℕ). 10 ^ k ≤ 10 ^ m) same (ten_mono k (17 - k)) in
    omega (arith, lt, below)

pub ten_step : (k n d : ℕ) → n < 10 ^ k → d < 10 → n * 10 + d < 10 ^ (k + 1)
ten_step k n d lt small =
    let more : 10 ^ (k + 1) ≡ 10 ^ k * 10 = ap (λ (m : ℕ). 10 ^ m) (let e : k + 1 ≡ suc k = omega arith in e) ∙ pow-suc 10 k in
    omega (arith, more, lt, small)

-- the number of the first k digits, and what the rest make of it
pub record Read (word : List ℕ) (k number : ℕ) : Type 0 where
  pub small : number < 10 ^ k
  pub value : digits_value_after 10 number (drop k word) ≡ digits_value 10 word
  pub digits : list_all is_ascii_digit (drop k word) ≡ list_all is_ascii_digit word

next_byte : (word : List ℕ) (k : ℕ) → k < length word → drop k word ≡ get_or word k 0 ∷ drop (k + 1) word
next_byte word k lt = grind (arith, drop-cons)

pub read_none : (word : List ℕ) → Read word 0 0
read_none word = record { small = omega arith; value = refl; digits = refl }

pub read_more : (word : List ℕ) (k number : ℕ) → Read word k number → k < length word → is_ascii_digit (get_or word k 0) ≡ true → Read word (k + 1) (number * 10 + (get_or word k 0 - 48))
read_more word k number r lt digit =
    let b = get_or word k 0 in
    let next = next_byte word k lt in
    let small = digit_small b digit in
    record {
      small = ten_step k number (b - 48) r.small (omega (arith, small));
      value = ap (λ (d : ℕ). digits_value_after 10 (number * 10 + d) (drop (k + 1) word)) (sym (digit_is b digit)) ∙ sym (ap (digits_value_after 10 number) next) ∙ r.value;
      digits = sym (ap (list_all is_ascii_digit) next ∙ rw digit refl) ∙ r.digits;
    }

pub read_stops : (word : List ℕ) (k number : ℕ) → Read word k number → k < length word → is_ascii_digit (get_or word k 0) ≡ false → natural_of word ≡ None
read_stops word k number r lt digit =
    let none : list_all is_ascii_digit word ≡ false = sym r.digits ∙ ap (list_all is_ascii_digit) (next_byte word k lt) ∙ rw digit refl in
    rw none refl

pub read_all : (word : List ℕ) (k number : ℕ) → Read word k number → length word ≤ k → 0 < length word → length word ≤ 18 → natural_of word ≡ Some number
read_all word k number r le some short =
    let past : drop k word ≡ [] = drop_all k word le in
    let digits : list_all is_ascii_digit word ≡ true = sym r.digits ∙ ap (list_all is_ascii_digit) past in
    let value : digits_value 10 word ≡ number = sym r.value ∙ ap (digits_value_after 10 number) past in
    let low : ltb 0 (length word) ≡ true = grind (arith, nat_tests) in
    let high : leb (length word) 18 ≡ true = grind (arith, nat_tests) in
    rw (digits, low, high) (ap (λ (n : ℕ). Some n) value)

pub too_short : (word : List ℕ) → length word ≡ 0 → natural_of word ≡ None
too_short [] e = refl
too_short (b ∷ word) e = absurd (omega (arith, e))

and_false : (a b : Bool) → (a && (b && false)) ≡ false
and_false true true = refl
and_false true false = refl
and_false false b = refl

pub too_long : (word : List ℕ) → 18 < length word → natural_of word ≡ None
too_long word long =
    let high : leb (length word) 18 ≡ false = grind (arith, nat_tests) in
    let none : are_digits word ≡ false = rw high (and_false (list_all is_ascii_digit word) (ltb 0 (length word))) in
    rw none refl

pub small_value : (word : List ℕ) (k number : ℕ) → Read word k number → k ≤ length word → length word ≤ 18 → number < 10 ^ 18
small_value word k number r le short =
    let same : (18 - k) + k ≡ 18 = omega arith in
    let below : 10 ^ k ≤ 10 ^ 18 = subst (λ (m : ℕ). 10 ^ k ≤ 10 ^ m) same (ten_mono k (18 - k)) in
    omega (arith, r.small, below)
