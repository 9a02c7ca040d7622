-- Which texts are tokens, and of which kind. A text is its list of bytes.
use Rattle.std.specs.Prelude.{ℕ, Bool, false, ◌&&◌, ◌||◌, not, List, [], ◌∷◌, pos, if◌then◌else◌, ◌==◌, codes, bytes_eq}
use Rattle.std.specs.List.{list_all, list_any}
use Rattle.std.specs.Char.{is_ascii_alphabetic, is_ascii_digit}
use Rattle.std.specs.Str.Parse.{digits_value}
use Rattle.ep_base.specs.declared.tokens.TokenKind.{TokenKind}
use Rattle.ep_base.specs.declared.tokens.TokenKind.TheVariants.{Name, Number, Word, Symbol}

-- the underscore
abbrev pub underscore : ℕ
underscore = 95

-- whether a byte may begin a name: a letter or an underscore
abbrev pub begins_name : ℕ → Bool
begins_name byte = is_ascii_alphabetic byte || byte == underscore

-- whether a byte may stand further on in a name: a letter, an underscore or a digit
abbrev pub continues_name : ℕ → Bool
continues_name byte = begins_name byte || is_ascii_digit byte

-- whether a text has the form of a name
abbrev pub is_name : List ℕ → Bool
is_name [] = false
is_name (byte ∷ bytes) = begins_name byte && list_all continues_name bytes

-- a number is one or more digits
abbrev pub is_number : List ℕ → Bool
is_number [] = false
is_number (byte ∷ bytes) = is_ascii_digit byte && list_all is_ascii_digit bytes

-- whether a text is one of the texts of a list
abbrev pub is_one_of : List (List ℕ) → List ℕ → Bool
is_one_of texts text = list_any (λ other. bytes_eq other text) texts

-- the reserved words, which have the form of a name and are none
abbrev pub reserved_words : List (List ℕ)
reserved_words =
    codes "language" ∷ codes "given" ∷ codes "letting" ∷ codes "where" ∷ codes "find" ∷ codes "such"
    ∷ codes "that" ∷ codes "minimising" ∷ codes "minimizing" ∷ codes "maximising" ∷ codes "maximizing"
    ∷ codes "branching" ∷ codes "on" ∷ codes "heuristic" ∷ codes "be" ∷ codes "domain" ∷ codes "matrix"
    ∷ codes "indexed" ∷ codes "by" ∷ codes "of" ∷ codes "int" ∷ codes "bool" ∷ codes "union"
    ∷ codes "intersect" ∷ codes "in" ∷ codes "toInt" ∷ codes "toSet" ∷ codes "flatten" ∷ codes "forAll"
    ∷ codes "exists" ∷ codes "sum" ∷ codes "product" ∷ codes "and" ∷ codes "or" ∷ codes "min"
    ∷ codes "max" ∷ codes "allDiff" ∷ codes "gcc" ∷ codes "atleast" ∷ codes "atmost" ∷ codes "table"
    ∷ codes "factorial" ∷ codes "true" ∷ codes "false" ∷ []

-- the name of the language, which ends in a quote
abbrev pub language_name : List ℕ
language_name = codes "ESSENCE'"

-- the symbols that are tokens whatever follows them
abbrev pub symbols : List (List ℕ)
symbols =
    codes "(" ∷ codes ")" ∷ codes "[" ∷ codes "]" ∷ codes "," ∷ codes ";" ∷ codes ":" ∷ codes "."
    ∷ codes ".." ∷ codes "|" ∷ codes "+" ∷ codes "-" ∷ codes "*" ∷ codes "**" ∷ codes "/" ∷ codes "%"
    ∷ codes "!" ∷ codes "=" ∷ codes "!=" ∷ codes "<" ∷ codes "<=" ∷ codes ">" ∷ codes ">="
    ∷ codes "/\\" ∷ codes "\\/" ∷ codes "->" ∷ codes "<->" ∷ []

-- the comparisons of lists, which are tokens only where no letter, digit or underscore follows
abbrev pub list_comparisons : List (List ℕ)
list_comparisons = codes "<lex" ∷ codes "<=lex" ∷ codes ">lex" ∷ codes ">=lex" ∷ []

-- whether a text is a reserved word or the name of the language
unfoldable pub is_word : List ℕ → Bool
is_word text = is_one_of reserved_words text || bytes_eq language_name text

-- whether the bytes that follow would continue a name
abbrev pub name_follows : List ℕ → Bool
name_follows [] = false
name_follows (byte ∷ bytes) = continues_name byte

-- whether a text is a symbol where these bytes follow it
unfoldable pub is_symbol : List ℕ → List ℕ → Bool
is_symbol text following =
    is_one_of symbols text || (is_one_of list_comparisons text && not (name_follows following))

-- whether a text is a token where these bytes follow it
unfoldable pub is_token : List ℕ → List ℕ → Bool
is_token text following = is_name text || is_number text || is_word text || is_symbol text following

-- the kind of a token with this text
unfoldable pub kind_of : List ℕ → TokenKind
kind_of text =
    if is_number text then Number (pos (digits_value 10 text))
    else (if is_word text then Word
    else (if is_name text then Name
    else Symbol))
