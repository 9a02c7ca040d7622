-- A text as words, each with its line.
use Rattle.std.specs.Prelude.{◌≡◌, ◌<◌, ◌≤◌, take, drop, length, ℕ, ◌+◌, Bool, true, false, ◌||◌, ◌&&◌, not, ◌==◌, nat_lt, if◌then◌else◌, List, [], ◌∷◌, ◌++◌, Option, Some, None}
use Rattle.std.specs.List.{slice_split, flat_map}
use Rattle.sat_text.specs.Words.{lines, is_between_words, PlacedWord, words_on}

-- the greatest number of bytes of a text that is read
abbrev pub most_opb_bytes : ℕ
most_opb_bytes = 16777216

-- whether a byte is a sign by itself: `;` or `=`
abbrev pub is_sign_byte : ℕ → Bool
is_sign_byte b = b == 59 || b == 61

-- whether a word is `;`
abbrev pub is_end : List ℕ → Bool
is_end [] = false
is_end (b ∷ []) = b == 59
is_end (b ∷ c ∷ word) = false

-- What a sign says of the sides of a constraint: with `=` the left one is equal to the right one, with `>=` it is not
-- less. Other words are no such signs.
abbrev pub relation_of : List ℕ → Option Bool
relation_of [] = None
relation_of (b ∷ []) = if b == 61 then Some true else None
relation_of (b ∷ c ∷ []) = if b == 62 && c == 61 then Some false else None
relation_of (b ∷ c ∷ d ∷ word) = None

-- whether there is something
abbrev pub is_something : {X : Type 0} → Option X → Bool
is_something None = false
is_something (Some x) = true

-- whether a word is `;`, `=` or `>=`
abbrev pub is_whole_sign : List ℕ → Bool
is_whole_sign word = is_end word || is_something (relation_of word)

-- whether a word is `=`
abbrev pub is_equals : List ℕ → Bool
is_equals [] = false
is_equals (b ∷ []) = b == 61
is_equals (b ∷ c ∷ word) = false

-- Whether a byte and the word right behind it make one word: `>` and `=` do, and so do a byte and a word that are no
-- signs.
abbrev pub joins : ℕ → List ℕ → Bool
joins b word = (b == 62 && is_equals word) || not (is_sign_byte b || is_whole_sign word)

-- words with one more byte right before the first of them
abbrev pub with_byte : ℕ → List (List ℕ) → List (List ℕ)
with_byte b [] = (b ∷ []) ∷ []
with_byte b (word ∷ later) = if joins b word then (b ∷ word) ∷ later else (b ∷ []) ∷ word ∷ later

-- The words of bytes without a blank. `;`, `=` and `>=` are words by themselves, and what stands between them is one too.
abbrev pub block_words : List ℕ → List (List ℕ)
block_words [] = []
block_words (b ∷ bytes) = with_byte b (block_words bytes)

-- the words of a line: those between its blanks
abbrev pub line_words : List ℕ → List (List ℕ)
line_words line = flat_map block_words (slice_split is_between_words line)

-- a comment begins with a `*`
abbrev pub is_opb_comment : List ℕ → Bool
is_opb_comment [] = false
is_opb_comment (b ∷ line) = b == 42

-- the words of a line, of which a comment has none
abbrev pub said_opb_words : List ℕ → List (List ℕ)
said_opb_words line = if is_opb_comment line then [] else line_words line

-- the words of lines, where the first line has this number
abbrev pub opb_text_words : ℕ → List (List ℕ) → List PlacedWord
opb_text_words number [] = []
opb_text_words number (line ∷ later) = words_on number (said_opb_words line) ++ opb_text_words (number + 1) later

-- the words of a text, each with the number of its line
abbrev pub placed_opb_words : List ℕ → List PlacedWord
placed_opb_words text = opb_text_words 1 (lines text)

-- whether a word begins the objective
abbrev pub is_goal : List ℕ → Bool
is_goal [] = false
is_goal (a ∷ []) = false
is_goal (a ∷ b ∷ []) = false
is_goal (a ∷ b ∷ c ∷ []) = false
is_goal (a ∷ b ∷ c ∷ d ∷ []) = a == 109 && (b == 105 && (c == 110 && d == 58))
is_goal (a ∷ b ∷ c ∷ d ∷ e ∷ word) = false

-- ---- how a reader finds the end of a word

-- how many bytes the sign takes that stands first, or 0 where another word does
abbrev pub sign_length : List ℕ → ℕ
sign_length [] = 0
sign_length (b ∷ []) = if is_sign_byte b then 1 else 0
sign_length (b ∷ c ∷ rest) = if is_sign_byte b then 1 else if b == 62 && c == 61 then 2 else 0

-- whether no word that isn't a sign goes on with these bytes
abbrev pub ends_word : List ℕ → Bool
ends_word [] = true
ends_word (b ∷ rest) = is_between_words b || nat_lt 0 (sign_length (b ∷ rest))

-- a word begins here
abbrev pub BeginsWord : List ℕ → Type 0
BeginsWord [] = ⊥
BeginsWord (b ∷ rest) = is_between_words b ≡ false

-- so many bytes are the first word
pub record HasWord (rest : List ℕ) (n : ℕ) : Type 0 where
  pub some : 0 < n
  pub within : n ≤ length rest
  pub words : line_words rest ≡ take n rest ∷ line_words (drop n rest)
