-- Texts as lines, and lines as words.
use Rattle.std.specs.Prelude.{ℕ, ◌+◌, max, Bool, true, false, ◌||◌, not, ◌==◌, if◌then◌else◌, List, [], ◌∷◌, ◌++◌, length, filter, map}
use Rattle.std.specs.List.{slice_split, onto_first}

-- the most bytes that the text of a formula or of a proof may have
abbrev pub most_text_bytes : ℕ
most_text_bytes = 1073741824

-- The pieces of a text. Each byte that passes the test ends one, and what follows the last of them is
-- one too, where it isn't empty.
abbrev pub ended_by : (ℕ → Bool) → List ℕ → List (List ℕ)
ended_by ends [] = []
ended_by ends (b ∷ text) =
    if ends b then [] ∷ ended_by ends text else onto_first b (ended_by ends text)

-- the lines of a text, each ended by a byte 10
abbrev pub lines : List ℕ → List (List ℕ)
lines text = ended_by (λ b. b == 10) text

-- the first line of a text
abbrev pub first_line : List ℕ → List ℕ
first_line [] = []
first_line (b ∷ text) = if b == 10 then [] else b ∷ first_line text

-- what stands behind the end of the first line
abbrev pub behind_line : List ℕ → List ℕ
behind_line [] = []
behind_line (b ∷ text) = if b == 10 then text else behind_line text

-- how many lines a text has, or 1 where it is empty
abbrev pub last_line : List ℕ → ℕ
last_line text = max 1 (length (lines text))

-- a space, a tab or a carriage return
abbrev pub is_between_words : ℕ → Bool
is_between_words b = b == 32 || (b == 9 || b == 13)

-- whether a word has a byte
abbrev pub has_bytes : List ℕ → Bool
has_bytes [] = false
has_bytes (b ∷ bytes) = true

-- the words of a line: what stands between its blanks
abbrev pub words : List ℕ → List (List ℕ)
words line = filter has_bytes (slice_split is_between_words line)

-- a comment begins with a `c`
abbrev pub is_comment : List ℕ → Bool
is_comment [] = false
is_comment (b ∷ line) = b == 99

-- whether there is no word
abbrev pub has_no_word : List (List ℕ) → Bool
has_no_word [] = true
has_no_word (word ∷ later) = false

-- whether a line is a comment or blank
abbrev pub says_nothing : List ℕ → Bool
says_nothing line = is_comment line || has_no_word (words line)

-- a word, and the line that it stands on
pub record PlacedWord : Type 0 where
  pub line : ℕ
  pub bytes : List ℕ

-- words that stand on one line
abbrev pub words_on : ℕ → List (List ℕ) → List PlacedWord
words_on number found = map (λ bytes. record { line = number; bytes = bytes }) found

-- the words of a line, of which a comment has none
abbrev pub said_words : List ℕ → List (List ℕ)
said_words line = if is_comment line then [] else words line

-- the words of lines, where the first line has this number
abbrev pub text_words : ℕ → List (List ℕ) → List PlacedWord
text_words number [] = []
text_words number (line ∷ later) =
    words_on number (said_words line) ++ text_words (number + 1) later

-- the words of a text, each with the number of its line
abbrev pub placed_words : List ℕ → List PlacedWord
placed_words text = text_words 1 (lines text)

-- a byte that ends neither a word nor a line
abbrev pub is_plain : ℕ → Bool
is_plain b = not (is_between_words b || b == 10)

-- the word that a text begins with, or nothing where it begins with none
abbrev pub first_word : List ℕ → List ℕ
first_word [] = []
first_word (b ∷ text) = if is_plain b then b ∷ first_word text else []

-- what stands behind the word that a text begins with
abbrev pub behind_word : List ℕ → List ℕ
behind_word [] = []
behind_word (b ∷ text) = if is_plain b then behind_word text else b ∷ text
