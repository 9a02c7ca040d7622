-- What the kind of a token says of its text.
use Rattle.std.proofs.Common.{◌≡◌, ℕ, zero, suc, ◌<◌, Bool, true, false, cond, ◌||◌, List, [], ◌∷◌, ℤ, pos, refl, sym, arith}
use Rattle.std.specs.Prelude.{IsAscii}
use Rattle.std.specs.List.{list_all}
use Rattle.std.specs.Str.Parse.{digits_value}
use Rattle.std.proofs.lemmas.Bool.{and_parts, false≢true}
use Rattle.std.proofs.lemmas.Bool.Decides.{nat_tests}
use Rattle.ep_base.specs.declared.tokens.TokenKind.{TokenKind}
use Rattle.ep_base.specs.declared.tokens.TokenKind.TheVariants.{Name, Number, Word, Symbol}
use Rattle.ep_base.specs.TokenTexts.{begins_name, continues_name, is_name, is_number, is_word, is_symbol, is_token, kind_of}

abbrev choice : Bool → Bool → Bool → ℤ → TokenKind
choice number word name value = cond number (Number value) (cond word Word (cond name Name Symbol))

name_chosen : (number word name : Bool) (value : ℤ) → choice number word name value ≡ Name → (word ≡ false) × (name ≡ true)
name_chosen true word name value e = absurd cc
name_chosen false true name value e = absurd cc
name_chosen false false true value e = (refl, refl)
name_chosen false false false value e = absurd cc

number_chosen : (number word name : Bool) (value other : ℤ) → choice number word name value ≡ Number other → (number ≡ true) × (other ≡ value)
number_chosen true word name value other e = (refl, cc)
number_chosen false true name value other e = absurd cc
number_chosen false false true value other e = absurd cc
number_chosen false false false value other e = absurd cc

word_chosen : (number word name : Bool) (value : ℤ) → choice number word name value ≡ Word → word ≡ true
word_chosen true word name value e = absurd cc
word_chosen false true name value e = refl
word_chosen false false true value e = absurd cc
word_chosen false false false value e = absurd cc

symbol_chosen : (number word name : Bool) (value : ℤ) → choice number word name value ≡ Symbol → (number ≡ false) × (word ≡ false) × (name ≡ false)
symbol_chosen true word name value e = absurd cc
symbol_chosen false true name value e = absurd cc
symbol_chosen false false true value e = absurd cc
symbol_chosen false false false value e = (refl, refl, refl)

-- A text of the kind Name has the form of a name, and is no word.
pub text_of_name : (text : List ℕ) → kind_of text ≡ Name → (is_word text ≡ false) × (is_name text ≡ true)
unfolding kind_of
text_of_name text e = name_chosen (is_number text) (is_word text) (is_name text) (pos (digits_value 10 text)) e

-- A text of the kind Number is a number, and its value is that of its digits.
pub text_of_number : (text : List ℕ) (value : ℤ) → kind_of text ≡ Number value → (is_number text ≡ true) × (value ≡ pos (digits_value 10 text))
unfolding kind_of
text_of_number text value e = number_chosen (is_number text) (is_word text) (is_name text) (pos (digits_value 10 text)) value e

-- A text of the kind Word is a reserved word, or the name of the language.
pub text_of_word : (text : List ℕ) → kind_of text ≡ Word → is_word text ≡ true
unfolding kind_of
text_of_word text e = word_chosen (is_number text) (is_word text) (is_name text) (pos (digits_value 10 text)) e

fourth : (n d w s : Bool) → n ≡ false → d ≡ false → w ≡ false → (n || d || w || s) ≡ true → s ≡ true
fourth false false false s e f g t = t
fourth true d w s e f g t = absurd (false≢true (sym e))
fourth false true w s e f g t = absurd (false≢true (sym f))
fourth false false true s e f g t = absurd (false≢true (sym g))

-- A token of the kind Symbol is a symbol where it stands.
pub text_of_symbol : (text following : List ℕ) → kind_of text ≡ Symbol → is_token text following ≡ true → is_symbol text following ≡ true
unfolding kind_of is_token
text_of_symbol text following e token =
    let others = symbol_chosen (is_number text) (is_word text) (is_name text) (pos (digits_value 10 text)) e in
    fourth (is_name text) (is_number text) (is_word text) (is_symbol text following) others.2 others.0 others.1 token

name_byte_is_ascii : (b : ℕ) → continues_name b ≡ true → b < 128
name_byte_is_ascii b e = grind (arith, nat_tests)

first_is_ascii : (b : ℕ) → begins_name b ≡ true → b < 128
first_is_ascii b e = grind (arith, nat_tests)

all_ascii : (bytes : List ℕ) → list_all continues_name bytes ≡ true → IsAscii bytes
all_ascii [] e i = omega arith
all_ascii (b ∷ bs) e zero = name_byte_is_ascii b (and_parts (continues_name b) (list_all continues_name bs) e).0
all_ascii (b ∷ bs) e (suc i) = all_ascii bs (and_parts (continues_name b) (list_all continues_name bs) e).1 i

-- A name is made of bytes below 128, so it is a text in UTF-8.
pub name_is_ascii : (text : List ℕ) → is_name text ≡ true → IsAscii text
name_is_ascii [] e i = omega arith
name_is_ascii (b ∷ bs) e zero = first_is_ascii b (and_parts (begins_name b) (list_all continues_name bs) e).0
name_is_ascii (b ∷ bs) e (suc i) = all_ascii bs (and_parts (begins_name b) (list_all continues_name bs) e).1 i
