-- What single tokens say.
use Rattle.std.specs.Prelude.{Bool, List, None, Option, Some, [], false, ◌∷◌, ℕ, ℤ}
use Rattle.std.specs.Ordering.{int_eq}
use Rattle.ep_tree.specs.Phrases.{Lexeme, Saying, a_name, a_number, a_word}

-- the name that a token says
abbrev pub name_of : Saying → Option (List ℕ)
name_of (a_name x) = Some x
name_of (a_number n) = None
name_of (a_word w) = None

-- the number that a token says
abbrev pub said_number : Saying → Option ℤ
said_number (a_name x) = None
said_number (a_number n) = Some n
said_number (a_word w) = None

-- the word or symbol that a token is
abbrev pub word_of : Saying → Option (List ℕ)
word_of (a_name x) = None
word_of (a_number n) = None
word_of (a_word w) = Some w

-- the name that is next
unfoldable pub name_next : List Lexeme → Option (List ℕ)
name_next [] = None
name_next (l ∷ ls) = name_of l.saying

-- the number that is next
unfoldable pub said_number_next : List Lexeme → Option ℤ
said_number_next [] = None
said_number_next (l ∷ ls) = said_number l.saying

-- the word or symbol that is next
unfoldable pub word_next : List Lexeme → Option (List ℕ)
word_next [] = None
word_next (l ∷ ls) = word_of l.saying

-- whether a token is this number
abbrev pub says_number : ℤ → Saying → Bool
says_number n (a_name x) = false
says_number n (a_number m) = int_eq m n
says_number n (a_word w) = false
