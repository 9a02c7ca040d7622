-- How the text of a proof is read from left to right. What a text means, and where its fault is,
-- says LogGrammar; that reading answers it is a clause of `read_log`.
use Rattle.std.specs.Prelude.{ℕ, suc, ◌+◌, ℤ, pos, negsuc, zero, Bool, false, ◌==◌, if◌then◌else◌, List, [], ◌∷◌, Option, Some, None, Result, Ok, Err}
use Rattle.cnf_core.specs.Literal.{Literal}
use Rattle.sat_text.specs.Words.{lines, words, says_nothing}
use Rattle.sat_text.specs.Numbers.{whole_of}
use Rattle.sat_text.specs.Clauses.{is_zero, literal_of, in_order}
use Rattle.cnf_core.specs.Lines.{ProofLine, add, delete}
use Rattle.sat_text.specs.Answers.{◌>>=◌}

-- the number of the first word, and the words behind it
unfoldable pub whole_at : List (List ℕ) → Option (ℤ × List (List ℕ))
whole_at [] = None
whole_at (word ∷ later) = do
  n ← whole_of word
  Some (n, later)

-- The items of the numbers up to the first 0, and the words behind it. A number that is no item is
-- wrong.
unfoldable pub items_at :
    {X : Type 0} → (ℤ → Option X) → List (List ℕ) → Option (List X × List (List ℕ))
items_at item [] = None
items_at item (word ∷ later) = do
  n ← whole_of word
  if is_zero n then Some ([], later)
      else item n >>= λ x. items_at item later >>= λ others. Some (x ∷ others.0, others.1)

-- a number that is positive
abbrev pub positive_of : ℤ → Option ℕ
positive_of (pos zero) = None
positive_of (pos (suc n)) = Some (suc n)
positive_of (negsuc n) = None

-- the literal of a number
abbrev pub any_literal : ℤ → Option Literal
any_literal n = Some (literal_of n)

-- a hint is whatever number isn't 0
abbrev pub any_hint : ℤ → Option ℤ
any_hint n = Some n

-- something, where no word is left
abbrev pub at_end : {X : Type 0} → X → List (List ℕ) → Option X
at_end x [] = Some x
at_end x (word ∷ later) = None

-- behind the id: the literals of a clause, a 0, its hints, a 0
unfoldable pub addition_at : ℕ → List (List ℕ) → Option ProofLine
addition_at id later = do
  literals ← items_at any_literal later
  hints ← items_at any_hint literals.1
  at_end (add id (in_order literals.0) hints.0) hints.1

-- behind the id and a `d`: ids, a 0
unfoldable pub deletion_at : List (List ℕ) → Option ProofLine
deletion_at later = do
  ids ← items_at positive_of later
  at_end (delete ids.0) ids.1

-- whether a word is the letter `d`
abbrev pub is_d : List ℕ → Bool
is_d [] = false
is_d (b ∷ []) = b == 100
is_d (b ∷ c ∷ word) = false

-- whether the first of these words is the letter `d`
abbrev pub begins_with_d : List (List ℕ) → Bool
begins_with_d [] = false
begins_with_d (word ∷ later) = is_d word

-- what stands behind the id
unfoldable pub behind_id : ℕ → List (List ℕ) → Option ProofLine
behind_id id [] = None
behind_id id (word ∷ later) = if is_d word then deletion_at later else addition_at id (word ∷ later)

-- the line that words say
unfoldable pub line_of : List (List ℕ) → Option ProofLine
line_of all = do
  first ← whole_at all
  id ← positive_of first.0
  behind_id id first.1

-- a line before others, or the number of the line that is wrong
abbrev pub before_others :
    ℕ → Option ProofLine → Result (List ProofLine) ℕ → Result (List ProofLine) ℕ
before_others number None others = Err number
before_others number (Some line) (Ok others) = Ok (line ∷ others)
before_others number (Some line) (Err wrong) = Err wrong

-- The lines of a proof that lines say, where the first of them has this number; or the number of the
-- first that says none.
unfoldable pub proof_from : ℕ → List (List ℕ) → Result (List ProofLine) ℕ
proof_from number [] = Ok []
proof_from number (line ∷ later) =
    if says_nothing line then proof_from (number + 1) later
    else before_others number (line_of (words line)) (proof_from (number + 1) later)

-- what a text says
abbrev pub proof_of : List ℕ → Result (List ProofLine) ℕ
proof_of text = proof_from 1 (lines text)
