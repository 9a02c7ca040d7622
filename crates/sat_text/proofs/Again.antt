-- What is written is read again: numbers, words and lines.
use Rattle.std.proofs.Common.{◌≡◌, neg_ℤ, ◌==◌, ℕ, suc, ℤ, pos, negsuc, ◌^◌, ◌<◌, ◌≤◌, Bool, true, false, not, eqb, ltb, leb, ◌&&◌, ◌||◌, List, [], ◌∷◌, ◌++◌, length, filter, Some, refl, sym, ap, subst, ◌∙◌, arith}
use Rattle.std.proofs.lemmas.Bool.Decides.{nat_tests}
use Rattle.std.proofs.lemmas.List.{append-nil}
use Rattle.std.proofs.lemmas.List.Concat.{flat_map-cons}
use Rattle.std.specs.List.{list_all, flat_map, slice_split, onto_first}
use Rattle.std.specs.Prelude.{decimal, unsigned_abs}
use Rattle.std.specs.Fmt.{signed_decimal}
use Rattle.std.specs.Char.{is_ascii_digit}
use Rattle.std.specs.Int.{IsInRange}
use Rattle.std.specs.Str.Parse.{digits_value}
use Rattle.std.proofs.lemmas.Str.Parse.{IsNumeralModel, IsDigitsTest, numerals_by_value}
use Rattle.std.proofs.lemmas.Fmt.{digits_decimal, digits_value-decimal, length-decimal-le, decimal_nonempty}
use Rattle.std.specs.Option.{option_map}
use Rattle.sat_text.specs.Words.{lines, is_between_words, has_bytes, words, is_plain}
use Rattle.sat_text.specs.Numbers.{are_digits, natural_of, whole_of}

pub and_parts : (a b : Bool) → (a && b) ≡ true → (a ≡ true) × (b ≡ true)
and_parts true b e = (refl, e)
and_parts false b e = absurd cc

pub and_both : (a b : Bool) → a ≡ true → b ≡ true → (a && b) ≡ true
and_both true b e f = f
and_both false b e f = absurd cc

digit_range : (c : ℕ) → is_ascii_digit c ≡ true → IsInRange 48 57 c
digit_range c e = grind (arith, nat_tests)

range_digit : (c : ℕ) → IsInRange 48 57 c → is_ascii_digit c ≡ true
range_digit c r = grind (arith, nat_tests)

-- lists of digits
abbrev Digits : List ℕ → Type 0
Digits ds = list_all is_ascii_digit ds ≡ true

tells : IsDigitsTest Digits
tells = record {
  empty = refl;
  parts = λ c cs e. let both = and_parts (is_ascii_digit c) (list_all is_ascii_digit cs) e in (digit_range c both.0, both.1);
  more = λ c cs r e. and_both (is_ascii_digit c) (list_all is_ascii_digit cs) (range_digit c r) e;
}

own : IsNumeralModel Digits (digits_value 10)
own = numerals_by_value Digits tells

below_word : (n : ℕ) → n < 10 ^ 18 → n < 2 ^ 64
below_word n lt = omega (arith, lt)

pub natural_again : (n : ℕ) → n < 10 ^ 18 → natural_of (decimal n) ≡ Some n
natural_again n lt =
    let small = below_word n lt in
    let digits : list_all is_ascii_digit (decimal n) ≡ true = digits_decimal own n small in
    let value : digits_value 10 (decimal n) ≡ n = digits_value-decimal own n small in
    let short : length (decimal n) ≤ 18 = length-decimal-le 18 n (omega arith) lt small in
    let some : 0 < length (decimal n) = decimal_nonempty n small in
    let low : ltb 0 (length (decimal n)) ≡ true = grind (arith, nat_tests) in
    let high : leb (length (decimal n)) 18 ≡ true = grind (arith, nat_tests) in
    let all : are_digits (decimal n) ≡ true = and_both _ _ digits (and_both _ _ low high) in
    rw all (ap (λ (m : ℕ). Some m) value)

whole_of_digits : (ds : List ℕ) → Digits ds → 0 < length ds → whole_of ds ≡ option_map (λ n. pos n) (natural_of ds)
whole_of_digits [] d some = absurd (omega arith)
whole_of_digits (b ∷ ds) d some =
    let r = digit_range b (and_parts (is_ascii_digit b) (list_all is_ascii_digit ds) d).0 in
    let no : eqb b 45 ≡ false = grind (arith, nat_tests) in
    rw no refl

pub whole_again : (z : ℤ) → unsigned_abs z < 10 ^ 18 → whole_of (signed_decimal z) ≡ Some z
whole_again (pos n) lt =
    whole_of_digits (decimal n) (digits_decimal own n (below_word n lt)) (decimal_nonempty n (below_word n lt)) ∙ ap (option_map (λ m. pos m)) (natural_again n lt)
whole_again (negsuc n) lt = ap (option_map (λ m. neg_ℤ (pos m))) (natural_again (suc n) lt)

-- ---- words

pub first_false : (a b : Bool) → not (a || b) ≡ true → a ≡ false
first_false true b e = absurd cc
first_false false b e = refl

second_false : (a b : Bool) → not (a || b) ≡ true → b ≡ false
second_false true b e = absurd cc
second_false false true e = absurd cc
second_false false false e = refl

-- a word without such bytes
abbrev pub IsWord : List ℕ → Type 0
IsWord word = (list_all is_plain word ≡ true) × (0 < length word)

pub plain_digit : (b : ℕ) → is_ascii_digit b ≡ true → is_plain b ≡ true
plain_digit b e =
    let r = digit_range b e in
    let a : eqb b 32 ≡ false = grind (arith, nat_tests) in
    let c : eqb b 9 ≡ false = grind (arith, nat_tests) in
    let d : eqb b 13 ≡ false = grind (arith, nat_tests) in
    let f : eqb b 10 ≡ false = grind (arith, nat_tests) in
    rw (a, c, d, f) refl

pub plain_not_blank : (b : ℕ) → is_plain b ≡ true → is_between_words b ≡ false
plain_not_blank b e = first_false (is_between_words b) (b == 10) e

plain_not_end : (b : ℕ) → is_plain b ≡ true → (b == 10) ≡ false
plain_not_end b e = second_false (is_between_words b) (b == 10) e

pub plain_digits : (ds : List ℕ) → Digits ds → list_all is_plain ds ≡ true
plain_digits [] d = refl
plain_digits (b ∷ ds) d =
    let both = and_parts (is_ascii_digit b) (list_all is_ascii_digit ds) d in
    and_both (is_plain b) (list_all is_plain ds) (plain_digit b both.0) (plain_digits ds both.1)

pub number_is_word : (z : ℤ) → unsigned_abs z < 10 ^ 18 → IsWord (signed_decimal z)
number_is_word (pos n) lt = (plain_digits (decimal n) (digits_decimal own n (below_word n lt)), decimal_nonempty n (below_word n lt))
number_is_word (negsuc n) lt = (plain_digits (decimal (suc n)) (digits_decimal own (suc n) (below_word (suc n) lt)), omega arith)

-- words with a space before each
abbrev pub joined : List (List ℕ) → List ℕ
joined found = flat_map (λ word. 32 ∷ word) found

abbrev pub AreWords : List (List ℕ) → Type 0
AreWords [] = Unit {0}
AreWords (word ∷ found) = IsWord word × AreWords found

split_word : (word : List ℕ) (rest : List ℕ) → list_all is_plain word ≡ true → slice_split is_between_words (word ++ 32 ∷ rest) ≡ word ∷ slice_split is_between_words rest
split_word [] rest p = refl
split_word (b ∷ word) rest p =
    let both = and_parts (is_plain b) (list_all is_plain word) p in
    let no : is_between_words b ≡ false = plain_not_blank b both.0 in
    rw no (ap (onto_first b) (split_word word rest both.1))

split_last : (word : List ℕ) → list_all is_plain word ≡ true → slice_split is_between_words word ≡ word ∷ []
split_last [] p = refl
split_last (b ∷ word) p =
    let both = and_parts (is_plain b) (list_all is_plain word) p in
    let no : is_between_words b ≡ false = plain_not_blank b both.0 in
    rw no (ap (onto_first b) (split_last word both.1))

kept : (word : List ℕ) (rest : List (List ℕ)) → 0 < length word → filter has_bytes (word ∷ rest) ≡ word ∷ filter has_bytes rest
kept [] rest some = absurd (omega arith)
kept (b ∷ word) rest some = refl

-- words with single spaces between them are these words
pub words_again : (word : List ℕ) (found : List (List ℕ)) → IsWord word → AreWords found → words (word ++ joined found) ≡ word ∷ found
words_again word [] w ws =
    ap words (append-nil word) ∙ ap (filter has_bytes) (split_last word w.0) ∙ kept word [] w.1
words_again word (next ∷ found) w ws =
    let regrouped : word ++ joined (next ∷ found) ≡ word ++ 32 ∷ (next ++ joined found) = ap (λ (t : List ℕ). word ++ t) (flat_map-cons (λ word. 32 ∷ word) next found) in
    ap words regrouped ∙ ap (filter has_bytes) (split_word word (next ++ joined found) w.0) ∙ kept word (slice_split is_between_words (next ++ joined found)) w.1
    ∙ ap (λ (ws : List (List ℕ)). word ∷ ws) (words_again next found ws.0 ws.1)

-- ---- lines

-- a line without a byte 10
abbrev pub IsLine : List ℕ → Type 0
IsLine line = list_all (λ b. not (b == 10)) line ≡ true

not_true : (b : Bool) → not b ≡ true → b ≡ false
not_true true e = absurd cc
not_true false e = refl

-- a line with its end is the first line of what follows
pub line_again : (line rest : List ℕ) → IsLine line → lines (line ++ 10 ∷ rest) ≡ line ∷ lines rest
line_again [] rest l = refl
line_again (b ∷ line) rest l =
    let both = and_parts (not (b == 10)) (list_all (λ b. not (b == 10)) line) l in
    let no : (b == 10) ≡ false = not_true (b == 10) both.0 in
    rw no (ap (onto_first b) (line_again line rest both.1))

pub all_append : (p : ℕ → Bool) (xs ys : List ℕ) → list_all p xs ≡ true → list_all p ys ≡ true → list_all p (xs ++ ys) ≡ true
all_append p [] ys a b = b
all_append p (x ∷ xs) ys a b =
    let both = and_parts (p x) (list_all p xs) a in
    and_both (p x) (list_all p (xs ++ ys)) both.0 (all_append p xs ys both.1 b)

pub plain_line : (word : List ℕ) → list_all is_plain word ≡ true → IsLine word
plain_line [] p = refl
plain_line (b ∷ word) p =
    let both = and_parts (is_plain b) (list_all is_plain word) p in
    and_both (not (b == 10)) (list_all (λ b. not (b == 10)) word) (ap not (plain_not_end b both.0)) (plain_line word both.1)

pub joined_line : (word : List ℕ) (found : List (List ℕ)) → IsWord word → AreWords found → IsLine (word ++ joined found)
joined_line word [] w ws = all_append (λ b. not (b == 10)) word [] (plain_line word w.0) refl
joined_line word (next ∷ found) w ws =
    let regrouped : word ++ 32 ∷ (next ++ joined found) ≡ word ++ joined (next ∷ found) = ap (λ (t : List ℕ). word ++ t) (sym (flat_map-cons (λ word. 32 ∷ word) next found)) in
    subst IsLine regrouped (all_append (λ b. not (b == 10)) word (32 ∷ (next ++ joined found)) (plain_line word w.0) (joined_line next found ws.0 ws.1))
