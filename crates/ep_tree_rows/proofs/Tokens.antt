-- The tokens of small texts, computed.
use Rattle.std.proofs.Common.{◌≡◌, ℕ, true, ◌&&◌, [], ◌∷◌, ◌++◌, length, Ok, Err, pos, refl}
use Rattle.std.specs.Prelude.{codes, ◌==◌}
use Rattle.std.specs.List.{list_all}
use Rattle.ep_base.specs.declared.places.Place.{Place}
use Rattle.ep_base.specs.declared.tokens.Token.{Token}
use Rattle.ep_base.specs.declared.tokens.TokenKind.{TokenKind}
use Rattle.ep_base.specs.declared.tokens.TokenKind.TheVariants.{Name, Number, Word, Symbol}
use Rattle.ep_base.specs.TokenTexts.{reserved_words, language_name, symbols, list_comparisons, kind_of, is_token, is_symbol, is_word}
use Rattle.ep_base.specs.Tokens.{BadByte, LongNumber, tokens_of, tokens_from, token_at, token_len, place_at}

-- a place
abbrev at : ℕ → ℕ → Place
at line column = record { line = line; column = column }

-- a token by its kind, its span and its place
abbrev token : TokenKind → ℕ → ℕ → Place → Token
token kind from to place = record { kind = kind; from = from; to = to; place = place }

-- a symbol that would run into a name is shorter
less_than_name : tokens_of (codes "a<lexb") ≡ Ok (token Name 0 1 (at 1 1) ∷ token Symbol 1 2 (at 1 2) ∷ token Name 2 6 (at 1 3) ∷ [])
unfolding tokens_of tokens_from token_at token_len place_at kind_of is_token is_symbol is_word
less_than_name = refl

-- and the comparison of lists stands where a blank follows
list_comparison : tokens_of (codes "a<lex b") ≡ Ok (token Name 0 1 (at 1 1) ∷ token Symbol 1 5 (at 1 2) ∷ token Name 6 7 (at 1 7) ∷ [])
unfolding tokens_of tokens_from token_at token_len place_at kind_of is_token is_symbol is_word
list_comparison = refl

-- two dots are one symbol
two_dots : tokens_of (codes "1..3") ≡ Ok (token (Number (pos 1)) 0 1 (at 1 1) ∷ token Symbol 1 3 (at 1 2) ∷ token (Number (pos 3)) 3 4 (at 1 4) ∷ [])
unfolding tokens_of tokens_from token_at token_len place_at kind_of is_token is_symbol is_word
two_dots = refl

-- and of three stars the first two
three_stars : tokens_of (codes "***") ≡ Ok (token Symbol 0 2 (at 1 1) ∷ token Symbol 2 3 (at 1 3) ∷ [])
unfolding tokens_of tokens_from token_at token_len place_at kind_of is_token is_symbol is_word
three_stars = refl

-- an arrow that is cut short is two symbols
arrows : tokens_of (codes "<-> <-") ≡ Ok (token Symbol 0 3 (at 1 1) ∷ token Symbol 4 5 (at 1 5) ∷ token Symbol 5 6 (at 1 6) ∷ [])
unfolding tokens_of tokens_from token_at token_len place_at kind_of is_token is_symbol is_word
arrows = refl

-- an empty text has no token
nothing : tokens_of (codes "") ≡ Ok []
unfolding tokens_of tokens_from token_at token_len place_at kind_of is_token is_symbol is_word
nothing = refl

-- nor has a comment alone
only_comment : tokens_of (codes "$ 1") ≡ Ok []
unfolding tokens_of tokens_from token_at token_len place_at kind_of is_token is_symbol is_word
only_comment = refl

-- a comment ends with its line, and the next line has columns of its own
comment : tokens_of (codes "x $ 1\n  find") ≡ Ok (token Name 0 1 (at 1 1) ∷ token Word 8 12 (at 2 3) ∷ [])
unfolding tokens_of tokens_from token_at token_len place_at kind_of is_token is_symbol is_word
comment = refl

-- carriage returns and tabs are blanks of one column
blanks : tokens_of (codes "a\r\n\tb") ≡ Ok (token Name 0 1 (at 1 1) ∷ token Name 4 5 (at 2 2) ∷ [])
unfolding tokens_of tokens_from token_at token_len place_at kind_of is_token is_symbol is_word
blanks = refl

-- the language's name is a word with its quote, and a name without it
language : tokens_of (codes "ESSENCE' ESSENCE") ≡ Ok (token Word 0 8 (at 1 1) ∷ token Name 9 16 (at 1 10) ∷ [])
unfolding tokens_of tokens_from token_at token_len place_at kind_of is_token is_symbol is_word
language = refl

-- a reserved word that goes on is a name
longer_name : tokens_of (codes "letting2 in") ≡ Ok (token Name 0 8 (at 1 1) ∷ token Word 9 11 (at 1 10) ∷ [])
unfolding tokens_of tokens_from token_at token_len place_at kind_of is_token is_symbol is_word
longer_name = refl

-- eighteen digits are a number
eighteen_digits : tokens_of (codes "000000000000000012") ≡ Ok (token (Number (pos 12)) 0 18 (at 1 1) ∷ [])
unfolding tokens_of tokens_from token_at token_len place_at kind_of is_token is_symbol is_word
eighteen_digits = refl

-- nineteen are too many, and come before a bad byte behind them
long_number : tokens_of (codes "x 1234567890123456789 #") ≡ Err (LongNumber (at 1 3))
unfolding tokens_of tokens_from token_at token_len place_at kind_of is_token is_symbol is_word
long_number = refl

-- no token begins with `#`, before a long number too
bad_byte : tokens_of (codes "x\n # 1234567890123456789") ≡ Err (BadByte (at 2 2))
unfolding tokens_of tokens_from token_at token_len place_at kind_of is_token is_symbol is_word
bad_byte = refl

-- any byte may stand in a comment, and not behind it
byte_in_comment : tokens_of (36 ∷ 255 ∷ 10 ∷ 255 ∷ []) ≡ Err (BadByte (at 2 1))
unfolding tokens_of tokens_from token_at token_len place_at kind_of is_token is_symbol is_word
byte_in_comment = refl

-- each symbol is the longest token that it begins with
each_symbol : list_all (λ text. token_len text == length text) (symbols ++ list_comparisons) ≡ true
unfolding token_len is_token is_symbol is_word
each_symbol = refl

-- and so is each word
each_word : list_all (λ text. is_word text && token_len text == length text) (reserved_words ++ language_name ∷ []) ≡ true
unfolding token_len is_token is_symbol is_word
each_word = refl

-- the end of a text has a place
end_of_text : place_at (codes "a\nbc") 4 ≡ at 2 3
unfolding place_at
end_of_text = refl
