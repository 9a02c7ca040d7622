-- How the text of a formula is read from left to right. What a text means, and where its fault is,
-- says CnfGrammar; that reading answers it is a clause of `read_cnf`.
use Rattle.std.specs.Prelude.{◌≡◌, ◌<◌, ◌^◌, ℕ, zero, suc, ◌+◌, ℤ, Bool, false, ◌==◌, ◌&&◌, nat_le, if◌then◌else◌, List, [], ◌∷◌, ◌++◌, Option, Some, None, Result, Ok, Err}
use Rattle.cnf_core.specs.Literal.{Literal}
use Rattle.sat_text.specs.Words.{lines, last_line, words, says_nothing, PlacedWord, text_words}
use Rattle.sat_text.specs.Clauses.{is_zero, literal_of, in_order}
use Rattle.sat_text.specs.Numbers.{natural_of, whole_of}
use Rattle.cnf_core.specs.Formula.{Cnf}
use Rattle.sat_text.specs.declared.faults.Stop.{Stop}
use Rattle.sat_text.specs.declared.faults.Stop.TheVariants.{Memory, At, Ends}
use Rattle.sat_text.specs.declared.header.HeaderLine.{HeaderLine}
use Rattle.sat_text.specs.declared.header.HeaderLine.TheVariants.{Good, Short, Wrong}

-- ---- the header: `p cnf` and two numbers, on one line

-- whether a word is the letter `p`
abbrev pub is_p : List ℕ → Bool
is_p [] = false
is_p (b ∷ []) = b == 112
is_p (b ∷ c ∷ word) = false

-- whether a word is `cnf`
abbrev pub is_cnf : List ℕ → Bool
is_cnf [] = false
is_cnf (a ∷ []) = false
is_cnf (a ∷ b ∷ []) = false
is_cnf (a ∷ b ∷ c ∷ []) = a == 99 && (b == 110 && c == 102)
is_cnf (a ∷ b ∷ c ∷ d ∷ word) = false

-- where no word of the header is left, it is good, and a further word is wrong
abbrev pub header_end : ℕ → Option ℕ → List (List ℕ) → HeaderLine
header_end vars None later = Wrong
header_end vars (Some count) [] = Good vars count
header_end vars (Some count) (word ∷ later) = Wrong

-- the number of clauses is the next word
unfoldable pub header_count : Option ℕ → List (List ℕ) → HeaderLine
header_count None later = Wrong
header_count (Some vars) [] = Short
header_count (Some vars) (word ∷ later) = header_end vars (natural_of word) later

-- the number of variables is the next word
unfoldable pub header_vars : List (List ℕ) → HeaderLine
header_vars [] = Short
header_vars (word ∷ later) = header_count (natural_of word) later

-- the next word is `cnf`
unfoldable pub header_format : List (List ℕ) → HeaderLine
header_format [] = Short
header_format (word ∷ later) = if is_cnf word then header_vars later else Wrong

-- What the words of a line say as the header. It is short where words are wanting, and wrong from its
-- first wrong word on.
unfoldable pub header_of : List (List ℕ) → HeaderLine
header_of [] = Short
header_of (word ∷ later) = if is_p word then header_format later else Wrong

-- ---- the clauses

-- a clause before others, unless these are wrong
abbrev pub with_clause :
    List Literal → Result (List (List Literal)) ℕ → Result (List (List Literal)) ℕ
with_clause clause (Ok clauses) = Ok (clause ∷ clauses)
with_clause clause (Err line) = Err line

-- Where the next word is a number: what follows a literal, or what follows the end of a clause.
-- Otherwise the word is wrong, and so is a variable that is too great.
abbrev pub number_next :
    ℕ → ℕ → Option ℤ → (ℤ → Result (List (List Literal)) ℕ) → Result (List (List Literal)) ℕ
    → Result (List (List Literal)) ℕ
number_next line vars None at_literal at_end = Err line
number_next line vars (Some n) at_literal at_end =
    if is_zero n then at_end
    else if nat_le (literal_of n).var vars then at_literal n else Err line

-- The clauses of words: each is whole numbers, none of which names a variable over vars, and a 0. As
-- many as count are still to come, and the next one begins with these literals. If not, the line of
-- the first word that is wrong, or last where words are wanting.
unfoldable pub clauses_of_words : ℕ → ℕ → ℕ → List Literal → List PlacedWord → Result (List (List Literal)) ℕ
clauses_of_words last vars zero begun [] = Ok []
clauses_of_words last vars (suc count) begun [] = Err last
clauses_of_words last vars zero begun (word ∷ later) = Err word.line
clauses_of_words last vars (suc count) begun (word ∷ later) =
    number_next word.line vars (whole_of word.bytes)
    (λ n. clauses_of_words last vars (suc count) (begun ++ literal_of n ∷ []) later)
    (with_clause (in_order begun) (clauses_of_words last vars count [] later))

-- ---- the whole text

-- the number of variables, and the clauses in order
pub record CnfContent : Type 0 where
  pub vars : ℕ
  pub clauses : List (List Literal)

-- clauses that were read, with the number of variables
abbrev pub with_vars : ℕ → Result (List (List Literal)) ℕ → Result CnfContent ℕ
with_vars vars (Ok clauses) = Ok (record { vars = vars; clauses = clauses })
with_vars vars (Err line) = Err line

-- the line of the first word, or last where there is none
abbrev pub first_word_line : ℕ → List PlacedWord → ℕ
first_word_line last [] = last
first_word_line last (word ∷ later) = word.line

-- what follows the header on line number: behind a short one the next word is wrong
abbrev pub behind_header : ℕ → ℕ → HeaderLine → List (List ℕ) → Result CnfContent ℕ
behind_header last number (Good vars count) later =
    with_vars vars (clauses_of_words last vars count [] (text_words (number + 1) later))
behind_header last number Short later = Err (first_word_line last (text_words (number + 1) later))
behind_header last number Wrong later = Err number

-- the formula of lines, where the first line has this number: the first one that says something is
-- the header
unfoldable pub formula_from : ℕ → ℕ → List (List ℕ) → Result CnfContent ℕ
formula_from last number [] = Err last
formula_from last number (line ∷ later) =
    if says_nothing line then formula_from last (number + 1) later
    else behind_header last number (header_of (words line)) later

-- what a text says, or the line of its fault
abbrev pub formula_of : List ℕ → Result CnfContent ℕ
formula_of text = formula_from (last_line text) 1 (lines text)

-- ---- what a reader keeps as it goes

-- clauses that were read before those that are still read
abbrev pub behind_clauses :
    List (List Literal) → Result (List (List Literal)) ℕ → Result (List (List Literal)) ℕ
behind_clauses front (Ok clauses) = Ok (front ++ clauses)
behind_clauses front (Err line) = Err line

-- these words complete the clauses so far to the answer
abbrev pub Completes :
    ℕ → Cnf → ℕ → List Literal → List PlacedWord → Result (List (List Literal)) ℕ → Type 0
Completes last f left begun later answer =
    behind_clauses f.clauses (clauses_of_words last f.vars left begun later) ≡ answer

-- a reader stops for want of memory, at the line of a wrong word, or where words are wanting
abbrev pub StopsLine : {Y : Type 0} → ℕ → Stop → Result Y ℕ → Type 0
StopsLine last Memory answer = Unit {0}
StopsLine last (At line) answer = answer ≡ Err line
StopsLine last Ends answer = answer ≡ Err last

-- where a reader stops, when it looks for the next word: at its line, or behind the last one
abbrev pub NamesLine : ℕ → Stop → ℕ → Type 0
NamesLine last Memory line = ⊥
NamesLine last (At number) line = line ≡ number
NamesLine last Ends line = line ≡ last

-- a formula that was read, as its variables and clauses
abbrev pub plain_formula : Cnf → CnfContent
plain_formula f = record { vars = f.vars; clauses = f.clauses }

-- a header that is good has at most eighteen digits for the number of variables
abbrev pub HasFewVariables : HeaderLine → Type 0
HasFewVariables (Good vars count) = vars < 10 ^ 18
HasFewVariables Short = Unit {0}
HasFewVariables Wrong = Unit {0}
