-- The words and symbols of the language, written out once more and computed by the checker.
use Rattle.std.specs.Prelude.{◌≡◌, Bool, true, false, [], ◌∷◌, pos, codes, refl}
use Rattle.std.specs.List.{list_all}
use Rattle.ep_base.specs.TokenTexts.{is_symbol, is_word, kind_of}
use Rattle.ep_base.specs.declared.tokens.TokenKind.{TokenKind}

abbrev a_reserved_word : TokenKind → Bool
a_reserved_word TokenKind.Word = true
a_reserved_word _ = false

abbrev a_name : TokenKind → Bool
a_name TokenKind.Name = true
a_name _ = false

words : list_all (λ w. a_reserved_word (kind_of (codes w))) ("language" ∷ "given" ∷ "letting" ∷ "where" ∷ "find" ∷ "such" ∷ "that" ∷ "minimising" ∷ "minimizing" ∷ "maximising" ∷ "maximizing" ∷ "branching" ∷ "on" ∷ "heuristic" ∷ "be" ∷ "domain" ∷ "matrix" ∷ "indexed" ∷ "by" ∷ "of" ∷ "int" ∷ "bool" ∷ "union" ∷ "intersect" ∷ "in" ∷ "toInt" ∷ "toSet" ∷ "flatten" ∷ "forAll" ∷ "exists" ∷ "sum" ∷ "product" ∷ "and" ∷ "or" ∷ "min" ∷ "max" ∷ "allDiff" ∷ "gcc" ∷ "atleast" ∷ "atmost" ∷ "table" ∷ "factorial" ∷ "true" ∷ "false" ∷ "ESSENCE'" ∷ []) ≡ true
unfolding kind_of is_word
words = refl

symbols : list_all (λ w. is_symbol (codes w) (codes "x")) ("(" ∷ ")" ∷ "[" ∷ "]" ∷ "," ∷ ";" ∷ ":" ∷ "." ∷ ".." ∷ "|" ∷ "+" ∷ "-" ∷ "*" ∷ "**" ∷ "/" ∷ "%" ∷ "!" ∷ "=" ∷ "!=" ∷ "<" ∷ "<=" ∷ ">" ∷ ">=" ∷ "/\\" ∷ "\\/" ∷ "->" ∷ "<->" ∷ []) ≡ true
unfolding is_symbol
symbols = refl

-- comparisons of lists, where no name, digit or underscore follows
lists : list_all (λ w. is_symbol (codes w) (codes " 1")) ("<lex" ∷ "<=lex" ∷ ">lex" ∷ ">=lex" ∷ []) ≡ true
unfolding is_symbol
lists = refl

abbrev refused : Bool → Bool
refused true = false
refused false = true

no_lists : list_all (λ after. refused (is_symbol (codes "<lex") after)) (codes "1" ∷ codes "_" ∷ codes "e" ∷ []) ≡ true
unfolding is_symbol
no_lists = refl

names : list_all (λ w. a_name (kind_of (codes w))) ("_" ∷ "_1" ∷ "a_b" ∷ "Z9" ∷ "languages" ∷ "In" ∷ []) ≡ true
unfolding kind_of is_word
names = refl

number_7 : kind_of (codes "007") ≡ TokenKind.Number (pos 7)
unfolding kind_of
number_7 = refl
