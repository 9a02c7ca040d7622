-- The number that the word in front of a text spells, byte by byte.
use Rattle.std.proofs.Common.{◌≡◌, ℕ, ◌+◌, ◌*◌, ◌-◌, ◌^◌, ◌<◌, ◌≤◌, true, false, List, length, drop, get_or, Some, None, sym, ap, ◌∙◌, arith}
use Rattle.std.specs.Char.{is_ascii_digit}
use Rattle.sat_text.specs.Numbers.{natural_of}
use Rattle.sat_text.specs.Words.{is_plain, first_word, behind_word}
use Rattle.sat_text.proofs.Again.{plain_digit}
use Rattle.sat_text.proofs.Digits.{Read, read_more, read_stops, read_all, too_long, too_short, small_value}
use Rattle.sat_text.proofs.Heads.{in_word, same_byte, word_length, word_behind}

pub number_more : (text : List ℕ) (k number : ℕ) → Read (first_word text) k number → k ≤ length (first_word text) → k < length text → is_ascii_digit (get_or text k 0) ≡ true
    → Read (first_word text) (k + 1) (number * 10 + (get_or text k 0 - 48)) × (k + 1 ≤ length (first_word text))
number_more text k number r le lt digit =
    let within = in_word text k le lt (plain_digit (get_or text k 0) digit) in
    let same = same_byte text k within in
    (rw (← same) (read_more (first_word text) k number r within (rw same digit)), omega (arith, within))

pub number_long : (text : List ℕ) (k : ℕ) → k ≤ length (first_word text) → k < length text → is_ascii_digit (get_or text k 0) ≡ true → k ≡ 18 → natural_of (first_word text) ≡ None
number_long text k le lt digit is = too_long (first_word text) (let within = in_word text k le lt (plain_digit (get_or text k 0) digit) in omega (arith, within, is))

pub number_wrong : (text : List ℕ) (k number : ℕ) → Read (first_word text) k number → k ≤ length (first_word text) → k < length text → is_plain (get_or text k 0) ≡ true → is_ascii_digit (get_or text k 0) ≡ false → natural_of (first_word text) ≡ None
number_wrong text k number r le lt plain digit =
    let within = in_word text k le lt plain in
    read_stops (first_word text) k number r within (rw (same_byte text k within) digit)

pub number_wanting : (text : List ℕ) → (0 < length text → is_plain (get_or text 0 0) ≡ false) → natural_of (first_word text) ≡ None
number_wanting text ends = too_short (first_word text) (word_length text 0 (omega arith) ends)

pub number_ends : (text : List ℕ) (k number : ℕ) → Read (first_word text) k number → k ≤ length (first_word text) → 0 < k → k ≤ 18 → (k < length text → is_plain (get_or text k 0) ≡ false)
    → (natural_of (first_word text) ≡ Some number) × (number < 10 ^ 18) × (drop k text ≡ behind_word text)
number_ends text k number r le some short ends =
    let len = word_length text k le ends in (
      read_all (first_word text) k number r (omega (arith, len)) (omega (arith, len)) (omega (arith, len)),
      small_value (first_word text) k number r le (omega (arith, len)),
      sym (word_behind text ∙ ap (λ (n : ℕ). drop n text) len),
    )
