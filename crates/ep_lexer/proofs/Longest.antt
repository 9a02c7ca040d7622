-- The longest token that some bytes begin with, by their first byte.
use Rattle.std.proofs.Common.{◌≡◌, ℕ, zero, suc, ◌+◌, ◌-◌, ◌<◌, ◌≤◌, Bool, true, false, cond, not, ◌&&◌, ◌||◌, List, [], ◌∷◌, length, take, drop, get_or, refl, sym, ap, ◌∙◌, ⊎_elim, inr, arith, length-take-le, get_or-take}
use Rattle.std.specs.Prelude.{bytes_eq}
use Rattle.std.specs.List.{list_all, prefix_len}
use Rattle.std.specs.Char.{is_ascii_digit}
use Rattle.std.proofs.lemmas.Bool.{cases_Bool, false_from_ne_true, false≢true, and_parts, and_left, or_from, or_left, or_right, and_from, cond-true, cond-false}
use Rattle.std.proofs.lemmas.Bool.Decides.{nat_tests}
use Rattle.std.proofs.lemmas.List.{length-take}
use Rattle.std.proofs.lemmas.List.Folds.{list_all_at}
use Rattle.std.proofs.lemmas.List.Sums.{prefix_len_stops, prefix_len-le-length}
use Rattle.std.proofs.lemmas.Slice.Eq.{bytes_eq-Decides}
use Rattle.ep_base.proofs.WordLengths.{is_one_of-fails, is_word-is, words}
use Rattle.ep_base.specs.TokenTexts.{begins_name, continues_name, is_name, is_number, is_word, is_symbol, is_token, is_one_of, symbols, list_comparisons, language_name}
use Rattle.ep_base.specs.Tokens.{greatest, token_len}
use Rattle.ep_lexer.proofs.Fronts.{greatest_is}

-- whether a text's first byte passes a test
abbrev pub first_passes : (ℕ → Bool) → List ℕ → Bool
first_passes passes [] = false
first_passes passes (byte ∷ bytes) = passes byte

-- whether a byte begins no name and no number
abbrev pub begins_neither : ℕ → Bool
begins_neither byte = not (begins_name byte) && not (is_ascii_digit byte)

no_digit_begins_name : (b : ℕ) → is_ascii_digit b ≡ true → begins_name b ≡ false
no_digit_begins_name b e = grind (arith, nat_tests)

no_letter_is_digit : (b : ℕ) → begins_name b ≡ true → is_ascii_digit b ≡ false
no_letter_is_digit b e = grind (arith, nat_tests)

name_is_not_neither : (b : ℕ) → begins_name b ≡ true → begins_neither b ≡ false
name_is_not_neither b e = rw e refl

digit_is_not_neither : (b : ℕ) → is_ascii_digit b ≡ true → begins_neither b ≡ false
digit_is_not_neither b e = rw (no_digit_begins_name b e, e) refl

-- each word begins as a name
no_word : (b : ℕ) (bs : List ℕ) → begins_name b ≡ false → is_word (b ∷ bs) ≡ false
no_word b bs e = is_word-is (b ∷ bs) ∙ is_one_of-fails (first_passes begins_name) words (b ∷ bs) refl e

neither_of : (a b c : Bool) → a ≡ false → b ≡ false → (a || (b && c)) ≡ false
neither_of a b c e f = rw (e, f) refl

-- and no symbol begins as a name or a number
no_symbol : (b : ℕ) (bs following : List ℕ) → begins_neither b ≡ false → is_symbol (b ∷ bs) following ≡ false
unfolding is_symbol
no_symbol b bs following e =
    let f = is_one_of-fails (first_passes begins_neither) symbols (b ∷ bs) refl e in
    let g = is_one_of-fails (first_passes begins_neither) list_comparisons (b ∷ bs) refl e in
    neither_of (is_one_of symbols (b ∷ bs)) (is_one_of list_comparisons (b ∷ bs)) _ f g

none_of_four : (n d w s : Bool) → n ≡ false → d ≡ false → w ≡ false → s ≡ false → (n || d || w || s) ≡ false
none_of_four n d w s e f g h = rw (e, f, g, h) refl

no_name : (b : ℕ) (bs : List ℕ) → list_all continues_name (b ∷ bs) ≡ false → is_name (b ∷ bs) ≡ false
no_name b bs e =
    false_from_ne_true _ (λ t.
    let parts = and_parts (begins_name b) (list_all continues_name bs) t in
    let all : list_all continues_name (b ∷ bs) ≡ true = and_from _ _ (or_left _ (is_ascii_digit b) parts.0) parts.1 in
    false≢true (sym e ∙ all))

-- each word is made as a name is, or is the name of the language
abbrev is_made_as_word : List ℕ → Bool
is_made_as_word text = list_all continues_name text || bytes_eq language_name text

-- what begins as a name and doesn't go on as one is no token
longer_than_name : (b : ℕ) (bs following : List ℕ) → begins_name b ≡ true → list_all continues_name (b ∷ bs) ≡ false → bytes_eq language_name (b ∷ bs) ≡ false → is_token (b ∷ bs) following ≡ false
unfolding is_token
longer_than_name b bs following begins all language =
    none_of_four (is_name (b ∷ bs)) (is_number (b ∷ bs)) (is_word (b ∷ bs)) (is_symbol (b ∷ bs) following) (no_name b bs all) (and_left _ _ (no_letter_is_digit b begins)) (is_word-is (b ∷ bs) ∙ is_one_of-fails is_made_as_word words (b ∷ bs) refl (or_from _ _ all language)) (no_symbol b bs following (name_is_not_neither b begins))

-- nor is what begins as a number and doesn't go on as one
longer_than_number : (b : ℕ) (bs following : List ℕ) → is_ascii_digit b ≡ true → list_all is_ascii_digit (b ∷ bs) ≡ false → is_token (b ∷ bs) following ≡ false
unfolding is_token
longer_than_number b bs following begins all =
    none_of_four (is_name (b ∷ bs)) (is_number (b ∷ bs)) (is_word (b ∷ bs)) (is_symbol (b ∷ bs) following) (and_left _ _ (no_digit_begins_name b begins)) all (no_word b bs (no_digit_begins_name b begins)) (no_symbol b bs following (digit_is_not_neither b begins))

one_more : (n : ℕ) → 1 + n ≡ suc n
one_more n = omega arith

-- the longest front whose bytes all pass a test
list_all_front : (passes : ℕ → Bool) (bytes : List ℕ) → list_all passes (take (prefix_len passes bytes) bytes) ≡ true
list_all_front passes [] = refl
list_all_front passes (b ∷ bs) =
    ⊎_elim
    (λ (e : passes b ≡ true).
    let more : prefix_len passes (b ∷ bs) ≡ suc (prefix_len passes bs) = cond-true (passes b) (1 + prefix_len passes bs) 0 e ∙ one_more (prefix_len passes bs) in
    ap (λ n. list_all passes (take n (b ∷ bs))) more ∙ and_from (passes b) _ e (list_all_front passes bs))
    (λ (e : passes b ≡ false). ap (λ n. list_all passes (take n (b ∷ bs))) (cond-false (passes b) (1 + prefix_len passes bs) 0 e))
    (cases_Bool (passes b))

not_all_beyond : (passes : ℕ → Bool) (bytes : List ℕ) (m : ℕ) → prefix_len passes bytes < m → m ≤ length bytes → list_all passes (take m bytes) ≡ false
not_all_beyond passes bytes m low high =
    let n = prefix_len passes bytes in
    let size = length-take-le m bytes high in
    list_all_at passes (take m bytes) n 0 (omega arith) (ap passes (get_or-take m bytes n 0 low) ∙ prefix_len_stops passes bytes 0 (omega arith))

first_len : (passes : ℕ → Bool) (b : ℕ) (bs : List ℕ) → passes b ≡ true → 0 < prefix_len passes (b ∷ bs)
first_len passes b bs e = let more = cond-true (passes b) (1 + prefix_len passes bs) 0 e in omega arith

name_front : (b : ℕ) (bs : List ℕ) (n : ℕ) → 0 < n → begins_name b ≡ true → list_all continues_name (take n (b ∷ bs)) ≡ true → is_name (take n (b ∷ bs)) ≡ true
name_front b bs zero some begins all = absurd (omega arith)
name_front b bs (suc n) some begins all = and_from _ _ begins (and_parts _ _ all).1

-- a front of so many bytes, one at least
some_front : (b : ℕ) (bs : List ℕ) (m : ℕ) → 0 < m → take m (b ∷ bs) ≡ b ∷ take (m - 1) bs
some_front b bs zero some = absurd (omega arith)
some_front b bs (suc m) some = let e : suc m - 1 ≡ m = omega arith in ap (λ k. b ∷ take k bs) (sym e)

language_at_eight : (bytes : List ℕ) (m : ℕ) → m ≤ length bytes → bytes_eq language_name (take m bytes) ≡ true → m ≡ 8
language_at_eight bytes m high e =
    let same = ap length ((bytes_eq-Decides language_name (take m bytes)).0 e) in
    let size = length-take-le m bytes high in
    omega arith

first_of_four : (n d w s : Bool) → n ≡ true → (n || d || w || s) ≡ true
first_of_four n d w s e = rw e refl

second_of_four : (n d w s : Bool) → d ≡ true → (n || d || w || s) ≡ true
second_of_four true d w s e = refl
second_of_four false d w s e = rw e refl

third_of_four : (n d w s : Bool) → w ≡ true → (n || d || w || s) ≡ true
third_of_four true d w s e = refl
third_of_four false true w s e = refl
third_of_four false false w s e = rw e refl

name_is_token : (b : ℕ) (bs : List ℕ) (n : ℕ) → 0 < n → begins_name b ≡ true → list_all continues_name (take n (b ∷ bs)) ≡ true → is_token (take n (b ∷ bs)) (drop n (b ∷ bs)) ≡ true
unfolding is_token
name_is_token b bs n some begins all = first_of_four _ _ _ _ (name_front b bs n some begins all)

-- The longest token that begins as a name, but for the name of the language, is the longest front of bytes of a name.
pub name_len : (bytes : List ℕ) → 0 < length bytes → begins_name (get_or bytes 0 0) ≡ true → bytes_eq language_name (take 8 bytes) ≡ false → prefix_len continues_name bytes ≡ token_len bytes
unfolding token_len
name_len [] some begins language = absurd (omega arith)
name_len (b ∷ bs) some begins language =
    let bytes = b ∷ bs in
    let n = prefix_len continues_name bytes in
    let positive = first_len continues_name b bs (or_left _ _ begins) in
    sym (greatest_is (λ m. is_token (take m bytes) (drop m bytes)) (length bytes) n (prefix_len-le-length continues_name bytes) (inr (name_is_token b bs n positive begins (list_all_front continues_name bytes)))
    (λ m low high.
    let front = some_front b bs m (omega arith) in
    let all = not_all_beyond continues_name bytes m low high in
    let other : bytes_eq language_name (take m bytes) ≡ false = false_from_ne_true _ (λ t. let eight = language_at_eight bytes m high t in false≢true (sym language ∙ ap (λ k. bytes_eq language_name (take k bytes)) (sym eight) ∙ t)) in
    ap (λ text. is_token text (drop m bytes)) front ∙ longer_than_name b (take (m - 1) bs) (drop m bytes) begins (ap (list_all continues_name) (sym front) ∙ all) (ap (bytes_eq language_name) (sym front) ∙ other)))

language_is_token : (text following : List ℕ) → bytes_eq language_name text ≡ true → is_token text following ≡ true
unfolding is_token is_word
language_is_token text following e = third_of_four (is_name text) (is_number text) _ _ (or_right _ _ e)

number_front : (b : ℕ) (bs : List ℕ) (n : ℕ) → 0 < n → list_all is_ascii_digit (take n (b ∷ bs)) ≡ true → is_number (take n (b ∷ bs)) ≡ true
number_front b bs zero some all = absurd (omega arith)
number_front b bs (suc n) some all = all

number_is_token : (b : ℕ) (bs : List ℕ) (n : ℕ) → 0 < n → list_all is_ascii_digit (take n (b ∷ bs)) ≡ true → is_token (take n (b ∷ bs)) (drop n (b ∷ bs)) ≡ true
unfolding is_token
number_is_token b bs n some all = second_of_four (is_name (take n (b ∷ bs))) _ _ _ (number_front b bs n some all)

fourth_alone : (n d w s : Bool) → n ≡ false → d ≡ false → w ≡ false → (n || d || w || s) ≡ s
fourth_alone n d w s e f g = rw (e, f, g) refl

only_symbol : (b : ℕ) (bs following : List ℕ) → begins_name b ≡ false → is_ascii_digit b ≡ false → is_token (b ∷ bs) following ≡ is_symbol (b ∷ bs) following
unfolding is_token
only_symbol b bs following letter digit =
    fourth_alone (is_name (b ∷ bs)) (is_number (b ∷ bs)) (is_word (b ∷ bs)) (is_symbol (b ∷ bs) following) (and_left _ _ letter) (and_left _ _ digit) (no_word b bs letter)

greatest_same : (p q : ℕ → Bool) → ((m : ℕ) → p (suc m) ≡ q (suc m)) → (k : ℕ) → greatest p k ≡ greatest q k
greatest_same p q same zero = refl
greatest_same p q same (suc k) = ap (λ b. cond b (suc k) (greatest p k)) (same k) ∙ ap (λ n. cond (q (suc k)) (suc k) n) (greatest_same p q same k)

-- The name of the language is the longest token where it stands.
pub language_len : (bytes : List ℕ) → 8 ≤ length bytes → bytes_eq language_name (take 8 bytes) ≡ true → 8 ≡ token_len bytes
unfolding token_len
language_len [] long language = absurd (omega arith)
language_len (b ∷ bs) long language =
    let bytes = b ∷ bs in
    let same = (bytes_eq-Decides language_name (take 8 bytes)).0 language in
    let begins : begins_name b ≡ true = ap (λ text. begins_name (get_or text 0 0)) (sym same) in
    let quote : continues_name (get_or bytes 7 0) ≡ false = ap continues_name (sym (get_or-take 8 bytes 7 0 (omega arith))) ∙ ap (λ text. continues_name (get_or text 7 0)) (sym same) in
    sym (greatest_is (λ m. is_token (take m bytes) (drop m bytes)) (length bytes) 8 long (inr (language_is_token (take 8 bytes) (drop 8 bytes) language))
    (λ m low high.
    let front = some_front b bs m (omega arith) in
    let size = length-take-le m bytes high in
    let all : list_all continues_name (take m bytes) ≡ false = list_all_at continues_name (take m bytes) 7 0 (omega arith) (ap continues_name (get_or-take m bytes 7 0 (omega arith)) ∙ quote) in
    let other : bytes_eq language_name (take m bytes) ≡ false = false_from_ne_true _ (λ t. let eight = language_at_eight bytes m high t in absurd (omega arith)) in
    ap (λ text. is_token text (drop m bytes)) front ∙ longer_than_name b (take (m - 1) bs) (drop m bytes) begins (ap (list_all continues_name) (sym front) ∙ all) (ap (bytes_eq language_name) (sym front) ∙ other)))

-- The longest token that begins as a number is the longest front of digits.
pub number_len : (bytes : List ℕ) → 0 < length bytes → is_ascii_digit (get_or bytes 0 0) ≡ true → prefix_len is_ascii_digit bytes ≡ token_len bytes
unfolding token_len
number_len [] some begins = absurd (omega arith)
number_len (b ∷ bs) some begins =
    let bytes = b ∷ bs in
    let n = prefix_len is_ascii_digit bytes in
    let positive = first_len is_ascii_digit b bs begins in
    sym (greatest_is (λ m. is_token (take m bytes) (drop m bytes)) (length bytes) n (prefix_len-le-length is_ascii_digit bytes) (inr (number_is_token b bs n positive (list_all_front is_ascii_digit bytes)))
    (λ m low high.
    let front = some_front b bs m (omega arith) in
    let all = not_all_beyond is_ascii_digit bytes m low high in
    ap (λ text. is_token text (drop m bytes)) front ∙ longer_than_number b (take (m - 1) bs) (drop m bytes) begins (ap (list_all is_ascii_digit) (sym front) ∙ all)))

-- Where no name and no number begins, the longest token is the longest symbol.
pub symbol_len : (bytes : List ℕ) → 0 < length bytes → begins_name (get_or bytes 0 0) ≡ false → is_ascii_digit (get_or bytes 0 0) ≡ false → greatest (λ n. is_symbol (take n bytes) (drop n bytes)) (length bytes) ≡ token_len bytes
unfolding token_len
symbol_len [] some letter digit = absurd (omega arith)
symbol_len (b ∷ bs) some letter digit =
    greatest_same (λ n. is_symbol (take n (b ∷ bs)) (drop n (b ∷ bs))) (λ n. is_token (take n (b ∷ bs)) (drop n (b ∷ bs))) (λ m. sym (only_symbol b (take m bs) (drop m bs) letter digit)) (length (b ∷ bs))

eight_bytes : (bytes : List ℕ) → bytes_eq language_name (take 8 bytes) ≡ true → 8 ≤ length bytes
eight_bytes bytes e =
    let same = ap length ((bytes_eq-Decides language_name (take 8 bytes)).0 e) in
    let size = length-take 8 bytes in
    omega arith

-- what begins as a name has a token
pub some_name : (bytes : List ℕ) → 0 < length bytes → begins_name (get_or bytes 0 0) ≡ true → 0 < token_len bytes
some_name [] some begins = absurd (omega arith)
some_name (b ∷ bs) some begins =
    ⊎_elim
    (λ (language : bytes_eq language_name (take 8 (b ∷ bs)) ≡ true). let e = language_len (b ∷ bs) (eight_bytes (b ∷ bs) language) language in omega arith)
    (λ (other : bytes_eq language_name (take 8 (b ∷ bs)) ≡ false).
    let e = name_len (b ∷ bs) some begins other in
    let positive = first_len continues_name b bs (or_left _ _ begins) in
    omega arith)
    (cases_Bool (bytes_eq language_name (take 8 (b ∷ bs))))

-- and what begins as a number has one, of digits alone
pub some_number : (bytes : List ℕ) → 0 < length bytes → is_ascii_digit (get_or bytes 0 0) ≡ true → 0 < token_len bytes
some_number [] some begins = absurd (omega arith)
some_number (b ∷ bs) some begins =
    let e = number_len (b ∷ bs) some begins in
    let positive = first_len is_ascii_digit b bs begins in
    omega arith

pub number_text : (bytes : List ℕ) → 0 < length bytes → is_ascii_digit (get_or bytes 0 0) ≡ true → is_number (take (token_len bytes) bytes) ≡ true
number_text [] some begins = absurd (omega arith)
number_text (b ∷ bs) some begins =
    let e = number_len (b ∷ bs) some begins in
    number_front b bs (token_len (b ∷ bs)) (some_number (b ∷ bs) some begins) (ap (λ n. list_all is_ascii_digit (take n (b ∷ bs))) (sym e) ∙ list_all_front is_ascii_digit (b ∷ bs))

pub digits_text : (bytes : List ℕ) → list_all is_ascii_digit (take (prefix_len is_ascii_digit bytes) bytes) ≡ true
digits_text bytes = list_all_front is_ascii_digit bytes

first_alone : (n d w s : Bool) → d ≡ false → w ≡ false → s ≡ false → (n || d || w || s) ≡ true → n ≡ true
first_alone true d w s e f g t = refl
first_alone false d w s e f g t = absurd (false≢true (sym (none_of_four false d w s refl e f g) ∙ t))

-- what begins as a name is no number
pub no_number_text : (bytes : List ℕ) (n : ℕ) → 0 < length bytes → is_ascii_digit (get_or bytes 0 0) ≡ false → is_number (take n bytes) ≡ false
no_number_text [] n some begins = absurd (omega arith)
no_number_text (b ∷ bs) zero some begins = refl
no_number_text (b ∷ bs) (suc n) some begins = and_left _ _ begins

pub no_word_text : (bytes : List ℕ) (n : ℕ) → 0 < length bytes → begins_name (get_or bytes 0 0) ≡ false → (is_word (take n bytes) ≡ false) × (is_name (take n bytes) ≡ false)
unfolding is_word
no_word_text [] n some begins = absurd (omega arith)
no_word_text (b ∷ bs) zero some begins = (refl, refl)
no_word_text (b ∷ bs) (suc n) some begins = (no_word b (take n bs) begins, and_left _ _ begins)

-- what begins as a name and is a token is a word or a name
name_from : (b : ℕ) (bs following : List ℕ) → begins_name b ≡ true → is_word (b ∷ bs) ≡ false → is_token (b ∷ bs) following ≡ true → is_name (b ∷ bs) ≡ true
unfolding is_token
name_from b bs following begins word token =
    first_alone (is_name (b ∷ bs)) (is_number (b ∷ bs)) (is_word (b ∷ bs)) (is_symbol (b ∷ bs) following) (and_left _ _ (no_letter_is_digit b begins)) word (no_symbol b bs following (name_is_not_neither b begins)) token

pub name_text : (bytes : List ℕ) (n : ℕ) → 0 < length bytes → 0 < n → begins_name (get_or bytes 0 0) ≡ true → is_word (take n bytes) ≡ false → is_token (take n bytes) (drop n bytes) ≡ true → is_name (take n bytes) ≡ true
name_text [] n some positive begins word token = absurd (omega arith)
name_text (b ∷ bs) zero some positive begins word token = absurd (omega arith)
name_text (b ∷ bs) (suc n) some positive begins word token = name_from b (take n bs) (drop n bs) begins word token

pub no_digit_first : (b : ℕ) → begins_name b ≡ true → is_ascii_digit b ≡ false
no_digit_first b e = no_letter_is_digit b e
