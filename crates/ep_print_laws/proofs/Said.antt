-- What the tokens of a text may say, and how a word says it.
use Rattle.std.proofs.Common.{◌≡◌, ℕ, suc, ◌^◌, ◌<◌, ◌≤◌, Bool, true, false, not, ◌&&◌, ◌||◌, List, [], ◌∷◌, ◌++◌, length, get_or, pos, Ok, refl, sym, ap, arith}
use Rattle.std.specs.Prelude.{nat_lt}
use Rattle.std.specs.Char.{digit_value, is_ascii_digit}
use Rattle.std.specs.Fmt.{decimal}
use Rattle.std.specs.List.{list_all}
use Rattle.std.specs.Str.Parse.{AllDigits, IsNumeral, digits_value}
use Rattle.std.proofs.Math.Nat.{pow-le-pow_right}
use Rattle.std.proofs.lemmas.Bool.{and_from, and_left, and_parts, false≢true, ltb-false}
use Rattle.std.proofs.lemmas.Bool.Decides.{nat_tests}
use Rattle.std.proofs.lemmas.Fmt.{decimal_is_IsNumeral, length-decimal-le}
use Rattle.std.proofs.lemmas.Int.Digits.{digits_value-lt}
use Rattle.ep_base.specs.TokenTexts.{begins_name, is_name, is_number, is_symbol, is_token, is_word, kind_of}
use Rattle.ep_base.specs.Tokens.{separates, token_text, tokens_of}
use Rattle.ep_base.specs.declared.tokens.Token.{Token}
use Rattle.ep_base.specs.declared.tokens.TokenKind.{TokenKind}
use Rattle.ep_base.proofs.TokenKinds.{text_of_name, text_of_number}
use Rattle.ep_base.proofs.TokenLaws.{IsTokenAt, token_of}
use Rattle.ep_tree.specs.Phrases.{Lexeme, Saying, a_name, a_number, a_word, lexeme_of, lexemes_of, saying_of}
use Rattle.ep_print_laws.proofs.Scanned.{begins_no_gap, is_short, word_saying}

-- what a token of a text can say: a name that is no word, a number of at most 18 digits, or any word
abbrev pub CanSay : Saying → Type 0
CanSay (a_name x) = (is_word x ≡ false) × (is_name x ≡ true)
CanSay (a_number z) = (n : ℕ) × (z ≡ pos n) × (n < 10 ^ 18)
CanSay (a_word w) = Unit {0}

-- each of some tokens says what a token of a text can say
abbrev pub AreSaid : List Lexeme → Type 0
AreSaid [] = Unit {0}
AreSaid (l ∷ ls) = CanSay l.saying × AreSaid ls

pub said_parts : (front back : List Lexeme) → AreSaid (front ++ back) → AreSaid front × AreSaid back
said_parts [] back said = (tt, said)
said_parts (l ∷ front) back said = let rest = said_parts front back said.1 in ((said.0, rest.0), rest.1)

all_digits : (bytes : List ℕ) → list_all is_ascii_digit bytes ≡ true → AllDigits 10 bytes
all_digits [] e = tt
all_digits (b ∷ bs) e = let parts = and_parts (is_ascii_digit b) _ e in (digit b parts.0, all_digits bs parts.1)
  where
    digit : (b : ℕ) → is_ascii_digit b ≡ true → digit_value b < 10
    digit b e = grind (arith, nat_tests)

number_digits : (bytes : List ℕ) → is_number bytes ≡ true → AllDigits 10 bytes
number_digits [] e = tt
number_digits (b ∷ bs) e = all_digits (b ∷ bs) e

short_digits : (number long : Bool) → number ≡ true → (number && long) ≡ false → long ≡ false
short_digits true long e f = f
short_digits false long e f = absurd (false≢true e)

small_number : (word : List ℕ) → is_number word ≡ true → (is_number word && nat_lt 18 (length word)) ≡ false → digits_value 10 word < 10 ^ 18
small_number word e short =
    let few = ltb-false 18 (length word) (short_digits _ _ e short) in
    let below = digits_value-lt 10 word (number_digits word e) in
    let most : 10 ^ length word ≤ 10 ^ 18 = pow-le-pow_right (omega arith) few in
    omega (arith, below, most)

says_of_kind : (word : List ℕ) (kind : TokenKind) → kind_of word ≡ kind → (is_number word && nat_lt 18 (length word)) ≡ false → CanSay (saying_of word kind)
unfolding saying_of
says_of_kind word TokenKind.Name e short = text_of_name word e
says_of_kind word (TokenKind.Number z) e short = let is = text_of_number word z e in (digits_value 10 word, is.1, small_number word is.0 short)
says_of_kind word TokenKind.Word e short = tt
says_of_kind word TokenKind.Symbol e short = tt

token_says : (text : List ℕ) (offset : ℕ) (token : Token) → IsTokenAt text offset token → CanSay (lexeme_of text token).saying
token_says text offset token is = says_of_kind (token_text text token) token.kind (sym is.kind) is.short

each_says : (text : List ℕ) (tokens : List Token) (d : Token) → ((i : ℕ) → i < length tokens → CanSay (lexeme_of text (get_or tokens i d)).saying) → AreSaid (lexemes_of text tokens)
unfolding lexemes_of
each_says text [] d says = tt
each_says text (token ∷ tokens) d says = (says 0 (omega arith), each_says text tokens d (λ i within. says (suc i) (omega (arith, within))))

pub tokens_said : (text : List ℕ) (tokens : List Token) → tokens_of text ≡ Ok tokens → AreSaid (lexemes_of text tokens)
unfolding lexemes_of
tokens_said text [] found = tt
tokens_said text (token ∷ tokens) found =
    each_says text (token ∷ tokens) token (λ i within. token_says text _ _ (token_of text (token ∷ tokens) i token found within))

-- ---- words that say it

-- whether a text is written as a word of its own: a token of not too many digits that begins no gap
abbrev pub is_written : List ℕ → Bool
is_written word = is_token word (32 ∷ []) && (is_short word && begins_no_gap word)

pub one_of_four : (n d w s : Bool) → n ≡ true → (n || d || w || s) ≡ true
one_of_four n d w s e = rw e refl

pub two_of_four : (n d w s : Bool) → d ≡ true → (n || d || w || s) ≡ true
two_of_four true d w s e = refl
two_of_four false d w s e = rw e refl

name_first : (b : ℕ) → begins_name b ≡ true → (is_ascii_digit b ≡ false) × (separates false b ≡ false)
name_first b e = (grind (arith, nat_tests), grind (arith, nat_tests))

digit_first : (b : ℕ) → is_ascii_digit b ≡ true → separates false b ≡ false
digit_first b e = grind (arith, nat_tests)

not_false : (b : Bool) → b ≡ false → not b ≡ true
not_false b e = rw e refl

name_is_no_number : (x : List ℕ) → is_name x ≡ true → is_number x ≡ false
name_is_no_number [] e = refl
name_is_no_number (b ∷ bs) e = and_left _ _ (name_first b (and_parts (begins_name b) _ e).0).0

name_opens : (x : List ℕ) → is_name x ≡ true → begins_no_gap x ≡ true
name_opens [] e = absurd (false≢true e)
name_opens (b ∷ bs) e = not_false _ (name_first b (and_parts (begins_name b) _ e).0).1

pub name_written : (x : List ℕ) → is_name x ≡ true → is_written x ≡ true
unfolding is_token
name_written x e =
    and_from _ _ (one_of_four (is_name x) (is_number x) (is_word x) (is_symbol x (32 ∷ [])) e)
    (and_from _ _ (not_false _ (and_left _ _ (name_is_no_number x e))) (name_opens x e))

pub name_says : (x : List ℕ) → is_word x ≡ false → is_name x ≡ true → word_saying x ≡ a_name x
unfolding kind_of saying_of
name_says x word name = rw (name_is_no_number x name, word, name) refl

digits_of_numeral : (bytes : List ℕ) → AllDigits 10 bytes → list_all is_ascii_digit bytes ≡ true
digits_of_numeral [] e = refl
digits_of_numeral (b ∷ bs) e = and_from _ _ (digit b e.0) (digits_of_numeral bs e.1)
  where
    digit : (b : ℕ) → digit_value b < 10 → is_ascii_digit b ≡ true
    digit b e = grind (arith, nat_tests)

numeral_is_number : (bytes : List ℕ) → IsNumeral 10 bytes → is_number bytes ≡ true
numeral_is_number [] e = absurd (omega (arith, e.0))
numeral_is_number (b ∷ bs) e = digits_of_numeral (b ∷ bs) e.1

number_opens : (bytes : List ℕ) → is_number bytes ≡ true → begins_no_gap bytes ≡ true
number_opens [] e = absurd (false≢true e)
number_opens (b ∷ bs) e = not_false _ (digit_first b (and_parts (is_ascii_digit b) _ e).0)

few_bytes : (number : Bool) (size : ℕ) → size ≤ 18 → (number && nat_lt 18 size) ≡ false
few_bytes true size few = grind (arith, nat_tests)
few_bytes false size few = refl

-- what the digits of a number say
pub record Numbered (n : ℕ) : Type 0 where
  pub number : is_number (decimal n) ≡ true
  pub written : is_written (decimal n) ≡ true
  pub says : word_saying (decimal n) ≡ a_number (pos n)

pub numbered : (n : ℕ) → n < 10 ^ 18 → Numbered n
unfolding is_token kind_of saying_of
numbered n small =
    let numeral = decimal_is_IsNumeral n (omega (arith, small)) in
    let number = numeral_is_number (decimal n) numeral.0 in
    let few = length-decimal-le 18 n (omega arith) small (omega (arith, small)) in
    record {
      number = number;
      written = and_from _ _ (two_of_four (is_name (decimal n)) (is_number (decimal n)) (is_word (decimal n)) (is_symbol (decimal n) (32 ∷ [])) number)
          (and_from _ _ (not_false _ (few_bytes (is_number (decimal n)) (length (decimal n)) few)) (number_opens (decimal n) number));
      says = rw number (ap (λ v. a_number (pos v)) numeral.1);
    }
