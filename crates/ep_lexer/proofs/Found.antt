-- The token that is found at an offset, from its length and the kind of its text.
use Rattle.std.proofs.Common.{◌≡◌, ℕ, ◌+◌, ◌-◌, ◌<◌, ◌≤◌, Bool, true, false, cond, ◌&&◌, List, length, take, drop, get_or, Ok, Err, Some, pos, sym, ap, subst, ◌∙◌, arith, length-take-le, length-drop, get_or-drop}
use Rattle.std.specs.Prelude.{◌==◌, nat_le, nat_lt, slice_range}
use Rattle.std.specs.List.{list_all, prefix_len}
use Rattle.std.specs.Char.{is_ascii_digit}
use Rattle.std.specs.Str.Parse.{digits_value}
use Rattle.std.proofs.lemmas.Bool.{cond-true, cond-false, and_left, and_right, lt-leb, ne_eqb, eq-eqb, le-ltb, lt-ltb, and_from}
use Rattle.ep_base.specs.declared.places.Place.{Place}
use Rattle.ep_base.specs.declared.tokens.Token.{Token}
use Rattle.ep_base.specs.declared.tokens.TokenKind.{TokenKind}
use Rattle.ep_base.specs.declared.tokens.TokenKind.TheVariants.{Name, Number, Word, Symbol}
use Rattle.ep_base.specs.TokenTexts.{begins_name, is_name, is_number, is_word, is_symbol, is_token, kind_of}
use Rattle.ep_base.specs.Tokens.{BadByte, LongNumber, place_at, greatest, token_len, token_at}
use Rattle.ep_lexer.proofs.Longest.{some_name, some_number, number_len, symbol_len, number_text, digits_text, no_number_text, no_word_text, no_digit_first, name_text}
use Rattle.std.proofs.lemmas.List.{take_rest}
use Rattle.ep_base.proofs.TokenLaws.{token_len-le, token_len_is_token}

-- the token of so many bytes at an offset
abbrev pub token_of : List ℕ → ℕ → ℕ → TokenKind → Place → Token
token_of text offset size kind place = record { kind = kind; from = offset; to = offset + size; place = place }

same_span : (text : List ℕ) (offset size : ℕ) → slice_range text offset (offset + size) ≡ take size (drop offset text)
same_span text offset size = let e : offset + size - offset ≡ size = omega arith in ap (λ n. take n (drop offset text)) e

chosen : {R : Type 0} (past none long : Bool) (x y z w : R) → past ≡ false → none ≡ false → long ≡ false → cond past x (cond none y (cond long z w)) ≡ w
chosen past none long x y z w e f g = cond-false past _ _ e ∙ cond-false none _ _ f ∙ cond-false long _ _ g

chosen_third : {R : Type 0} (past none third : Bool) (x y z w : R) → past ≡ false → none ≡ false → third ≡ true → cond past x (cond none y (cond third z w)) ≡ z
chosen_third past none third x y z w e f g = cond-false past _ _ e ∙ cond-false none _ _ f ∙ cond-true third _ _ g

-- a token is found, with its kind
pub token_found : (text : List ℕ) (offset : ℕ) (kind : TokenKind) → offset < length text → 0 < token_len (drop offset text) → kind_of (take (token_len (drop offset text)) (drop offset text)) ≡ kind → (is_number (take (token_len (drop offset text)) (drop offset text)) && nat_lt 18 (token_len (drop offset text))) ≡ false → token_at text offset ≡ Ok (Some (token_of text offset (token_len (drop offset text)) kind (place_at text offset)))
unfolding token_at
token_found text offset kind inside some is short =
    let size = token_len (drop offset text) in
    let span = same_span text offset size in
    let left = length-drop offset text in
    let word_size = length-take-le size (drop offset text) (token_len-le (drop offset text)) in
    chosen (nat_le (length text) offset) (offset + size == offset) _ _ _ _ _
    (lt-leb (length text) offset inside)
    (ne_eqb (offset + size) offset (λ e. absurd (omega arith)))
    (ap (λ word. is_number word && nat_lt 18 (length word)) span ∙ ap (λ n. is_number (take size (drop offset text)) && nat_lt 18 n) word_size ∙ short)
    ∙ ap (λ k. Ok (Some (token_of text offset size k (place_at text offset)))) (ap kind_of span ∙ is)

-- no token is found, where none begins
pub bad_byte_found : (text : List ℕ) (offset : ℕ) → offset < length text → token_len (drop offset text) ≡ 0 → token_at text offset ≡ Err (BadByte (place_at text offset))
unfolding token_at
bad_byte_found text offset inside none =
    cond-false (nat_le (length text) offset) _ _ (lt-leb (length text) offset inside) ∙ cond-true (offset + token_len (drop offset text) == offset) _ _ (eq-eqb _ _ (omega arith))

-- nor where a number is too long
pub long_number_found : (text : List ℕ) (offset : ℕ) → offset < length text → is_number (take (token_len (drop offset text)) (drop offset text)) ≡ true → 18 < token_len (drop offset text) → token_at text offset ≡ Err (LongNumber (place_at text offset))
unfolding token_at
long_number_found text offset inside digits long =
    let size = token_len (drop offset text) in
    let span = same_span text offset size in
    let left = length-drop offset text in
    let word_size = length-take-le size (drop offset text) (token_len-le (drop offset text)) in
    cond-false (nat_le (length text) offset) _ _ (lt-leb (length text) offset inside)
    ∙ cond-false (offset + size == offset) _ _ (ne_eqb (offset + size) offset (λ e. absurd (omega arith)))
    ∙ cond-true _ _ _ (ap (λ word. is_number word && nat_lt 18 (length word)) span ∙ and_from _ _ digits (lt-ltb 18 _ (omega arith)))

-- the kinds
pub kind_of_number : (text : List ℕ) → is_number text ≡ true → kind_of text ≡ Number (pos (digits_value 10 text))
unfolding kind_of
kind_of_number text digits = cond-true (is_number text) _ _ digits

pub kind_of_word : (text : List ℕ) → is_number text ≡ false → is_word text ≡ true → kind_of text ≡ Word
unfolding kind_of
kind_of_word text digits word = cond-false (is_number text) _ _ digits ∙ cond-true (is_word text) _ _ word

pub kind_of_name : (text : List ℕ) → is_number text ≡ false → is_word text ≡ false → is_name text ≡ true → kind_of text ≡ Name
unfolding kind_of
kind_of_name text digits word name = chosen_third (is_number text) (is_word text) (is_name text) _ _ _ _ digits word name

pub kind_of_symbol : (text : List ℕ) → is_number text ≡ false → is_word text ≡ false → is_name text ≡ false → kind_of text ≡ Symbol
unfolding kind_of
kind_of_symbol text digits word name = chosen (is_number text) (is_word text) (is_name text) _ _ _ _ digits word name

-- the same, where the length is known by another name
found_here : (text : List ℕ) (offset n : ℕ) (kind : TokenKind) (place : Place) → offset < length text → n ≡ token_len (drop offset text) → 0 < n → kind_of (take n (drop offset text)) ≡ kind → (is_number (take n (drop offset text)) && nat_lt 18 n) ≡ false → place ≡ place_at text offset → token_at text offset ≡ Ok (Some (token_of text offset n kind place))
found_here text offset n kind place inside e some is short at =
    let S : ℕ → Type 0 = λ m. 0 < m → kind_of (take m (drop offset text)) ≡ kind → (is_number (take m (drop offset text)) && nat_lt 18 m) ≡ false → token_at text offset ≡ Ok (Some (token_of text offset m kind (place_at text offset))) in
    subst S (sym e) (token_found text offset kind inside) some is short ∙ ap (λ p. Ok (Some (token_of text offset n kind p))) (sym at)

-- what a slice from an offset on holds
abbrev pub rest_of : List ℕ → ℕ → List ℕ
rest_of text offset = take (length text - offset) (drop offset text)

head_of : (text : List ℕ) (offset : ℕ) → get_or (drop offset text) 0 0 ≡ get_or text offset 0
head_of text offset = let e : offset + 0 ≡ offset = omega arith in get_or-drop offset text 0 0 ∙ ap (λ i. get_or text i 0) e

some_rest : (text : List ℕ) (offset : ℕ) → offset < length text → 0 < length (drop offset text)
some_rest text offset inside = let size = length-drop offset text in omega arith

pub size_fits : (text : List ℕ) (offset n : ℕ) → offset < length text → n ≡ token_len (rest_of text offset) → offset + n ≤ length text
size_fits text offset n inside e =
    let here = ap token_len (take_rest text offset) in
    let most = token_len-le (drop offset text) in
    let left = length-drop offset text in
    omega arith

pub front_size : (text : List ℕ) (offset n : ℕ) → offset < length text → n ≡ token_len (rest_of text offset) → n ≡ length (take n (rest_of text offset))
front_size text offset n inside e =
    let here = take_rest text offset in
    let most = token_len-le (rest_of text offset) in
    sym (length-take-le n (rest_of text offset) (omega arith))

kind_by_word : (bytes : List ℕ) (n : ℕ) (word : Bool) → 0 < length bytes → 0 < n → begins_name (get_or bytes 0 0) ≡ true → is_number (take n bytes) ≡ false → is_word (take n bytes) ≡ word → is_token (take n bytes) (drop n bytes) ≡ true → kind_of (take n bytes) ≡ cond word Word Name
kind_by_word bytes n true some positive first digits w token = kind_of_word (take n bytes) digits w
kind_by_word bytes n false some positive first digits w token = kind_of_name (take n bytes) digits w (name_text bytes n some positive first w token)

pub name_or_word_found : (text : List ℕ) (offset n : ℕ) (word : Bool) (kind : TokenKind) (place : Place) → offset < length text → begins_name (get_or text offset 0) ≡ true → n ≡ token_len (rest_of text offset) → is_word (take n (rest_of text offset)) ≡ word → kind ≡ cond word Word Name → place ≡ place_at text offset → token_at text offset ≡ Ok (Some (token_of text offset n kind place))
name_or_word_found text offset n word kind place inside begins long w is at =
    let here = take_rest text offset in
    let bytes = drop offset text in
    let some = some_rest text offset inside in
    let first = ap begins_name (head_of text offset) ∙ begins in
    let size = long ∙ ap token_len here in
    let positive = some_name bytes some first in
    let digits = no_number_text bytes n some (no_digit_first (get_or bytes 0 0) first) in
    let is_a_word = ap (λ l. is_word (take n l)) (sym here) ∙ w in
    let kind_is = kind_by_word bytes n word some (omega arith) first digits is_a_word (ap (λ m. is_token (take m bytes) (drop m bytes)) size ∙ token_len_is_token bytes positive) in
    found_here text offset n kind place inside size (omega arith) (kind_is ∙ sym is) (and_left _ _ digits) at

pub digits_only : (text : List ℕ) (offset n : ℕ) → n ≡ prefix_len is_ascii_digit (rest_of text offset) → list_all is_ascii_digit (take n (rest_of text offset)) ≡ true
digits_only text offset n e = ap (λ m. list_all is_ascii_digit (take m (rest_of text offset))) e ∙ digits_text (rest_of text offset)

pub number_size : (text : List ℕ) (offset n : ℕ) → offset < length text → is_ascii_digit (get_or text offset 0) ≡ true → n ≡ prefix_len is_ascii_digit (rest_of text offset) → n ≡ token_len (drop offset text)
number_size text offset n inside begins e =
    e ∙ ap (prefix_len is_ascii_digit) (take_rest text offset) ∙ number_len (drop offset text) (some_rest text offset inside) (ap is_ascii_digit (head_of text offset) ∙ begins)

pub number_found : (text : List ℕ) (offset n : ℕ) (kind : TokenKind) (place : Place) → offset < length text → is_ascii_digit (get_or text offset 0) ≡ true → n ≡ prefix_len is_ascii_digit (rest_of text offset) → n ≤ 18 → kind ≡ Number (pos (digits_value 10 (take n (rest_of text offset)))) → place ≡ place_at text offset → token_at text offset ≡ Ok (Some (token_of text offset n kind place))
number_found text offset n kind place inside begins e few is at =
    let here = take_rest text offset in
    let bytes = drop offset text in
    let some = some_rest text offset inside in
    let first = ap is_ascii_digit (head_of text offset) ∙ begins in
    let size = number_size text offset n inside begins e in
    let positive = some_number bytes some first in
    let digits = ap (λ m. is_number (take m bytes)) size ∙ number_text bytes some first in
    found_here text offset n kind place inside size (omega arith) (kind_of_number (take n bytes) digits ∙ ap (λ l. Number (pos (digits_value 10 (take n l)))) (sym here) ∙ sym is) (and_right _ _ (le-ltb 18 n few)) at

pub long_found : (text : List ℕ) (offset n : ℕ) (place : Place) → offset < length text → is_ascii_digit (get_or text offset 0) ≡ true → n ≡ prefix_len is_ascii_digit (rest_of text offset) → 18 < n → place ≡ place_at text offset → token_at text offset ≡ Err (LongNumber place)
long_found text offset n place inside begins e many at =
    let bytes = drop offset text in
    let some = some_rest text offset inside in
    let first = ap is_ascii_digit (head_of text offset) ∙ begins in
    let size = number_size text offset n inside begins e in
    long_number_found text offset inside (number_text bytes some first) (omega arith) ∙ ap (λ p. Err (LongNumber p)) (sym at)

pub symbol_size : (text : List ℕ) (offset n : ℕ) → offset < length text → begins_name (get_or text offset 0) ≡ false → is_ascii_digit (get_or text offset 0) ≡ false → n ≡ greatest (λ m. is_symbol (take m (rest_of text offset)) (drop m (rest_of text offset))) (length (rest_of text offset)) → n ≡ token_len (drop offset text)
symbol_size text offset n inside letter digit e =
    let here = take_rest text offset in
    e ∙ ap (λ l. greatest (λ m. is_symbol (take m l) (drop m l)) (length l)) here ∙ symbol_len (drop offset text) (some_rest text offset inside) (ap begins_name (head_of text offset) ∙ letter) (ap is_ascii_digit (head_of text offset) ∙ digit)

pub symbol_found : (text : List ℕ) (offset n : ℕ) (place : Place) → offset < length text → begins_name (get_or text offset 0) ≡ false → is_ascii_digit (get_or text offset 0) ≡ false → n ≡ token_len (drop offset text) → 0 < n → place ≡ place_at text offset → token_at text offset ≡ Ok (Some (token_of text offset n Symbol place))
symbol_found text offset n place inside letter digit size positive at =
    let bytes = drop offset text in
    let some = some_rest text offset inside in
    let digits = no_number_text bytes n some (ap is_ascii_digit (head_of text offset) ∙ digit) in
    let word = no_word_text bytes n some (ap begins_name (head_of text offset) ∙ letter) in
    found_here text offset n Symbol place inside size positive (kind_of_symbol (take n bytes) digits word.0 word.1) (and_left _ _ digits) at

pub bad_found : (text : List ℕ) (offset n : ℕ) (place : Place) → offset < length text → n ≡ token_len (drop offset text) → n ≡ 0 → place ≡ place_at text offset → token_at text offset ≡ Err (BadByte place)
bad_found text offset n place inside size none at =
    bad_byte_found text offset inside (sym size ∙ none) ∙ ap (λ p. Err (BadByte p)) (sym at)
