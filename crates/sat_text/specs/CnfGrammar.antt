-- Which texts spell which formula, told without a reader.
use Rattle.std.specs.Prelude.{◌≡◌, ◌<◌, ◌≤◌, ◌⊎◌, ℕ, ℤ, pos, List, [], ◌∷◌, ◌++◌, All, length, map, codes, Some}
use Rattle.cnf_core.specs.Literal.{Literal, IsOrdered, HaveSameLiterals}
use Rattle.sat_text.specs.Words.{last_line, PlacedWord, words_on, placed_words}
use Rattle.sat_text.specs.Numbers.{natural_of, whole_of}
use Rattle.sat_text.specs.Clauses.{number_of}

-- words that are whole numbers of at most eighteen digits, with a `-` before them or none
abbrev pub SpellsNumbers : List ℤ → List (List ℕ) → Type 0
SpellsNumbers numbers found = map whole_of found ≡ map (λ n. Some n) numbers

-- literals of the variables from 1 up to this one
abbrev pub AreLiteralsUpTo : ℕ → List Literal → Type 0
AreLiteralsUpTo vars literals = All (λ l. (1 ≤ l.var) × (l.var ≤ vars)) literals

-- the clause of these literals: it has the same ones, in order and each once
pub record IsClauseOf (clause literals : List Literal) : Type 0 where
  pub ordered : IsOrdered clause
  pub same : HaveSameLiterals clause literals

-- The numbers of clauses: those of the literals that make the first clause, a 0, and then the
-- numbers of the other clauses.
abbrev pub SpellsClauses : ℕ → List (List Literal) → List ℤ → Type 0
SpellsClauses vars [] numbers = numbers ≡ []
SpellsClauses vars (clause ∷ clauses) numbers =
    (literals : List Literal) × (later : List ℤ)
    × (numbers ≡ map number_of literals ++ pos 0 ∷ later)
    × AreLiteralsUpTo vars literals × IsClauseOf clause literals × SpellsClauses vars clauses later

-- Words that spell a formula: `p`, `cnf`, the number of variables and the number of clauses, alone
-- on one line, and then the numbers of the clauses.
pub record SpellsFormula
    (vars : ℕ) (clauses : List (List Literal)) (found : List PlacedWord) : Type 0 where
  pub line : ℕ
  pub vars_word : List ℕ
  pub count_word : List ℕ
  pub later : List PlacedWord
  pub numbers : List ℤ
  pub words :
      found ≡ words_on line (codes "p" ∷ codes "cnf" ∷ vars_word ∷ count_word ∷ []) ++ later
  pub variables : natural_of vars_word ≡ Some vars
  pub count : natural_of count_word ≡ Some (length clauses)
  pub alone : All (λ word. line < word.line) later
  pub all_numbers : SpellsNumbers numbers (map (λ word. word.bytes) later)
  pub grouped : SpellsClauses vars clauses numbers

-- a text spells a formula where its words do, without those of its comments
abbrev pub SpellsCnf : List ℕ → ℕ → List (List Literal) → Type 0
SpellsCnf text vars clauses = SpellsFormula vars clauses (placed_words text)

-- words behind which others can stand, so that all of them spell a formula
abbrev pub CanGoOn : List PlacedWord → Type 0
CanGoOn front =
    (later : List PlacedWord) × (vars : ℕ) × (clauses : List (List Literal))
    × SpellsFormula vars clauses (front ++ later)

-- the first word with which no text can go on
pub record IsFirstWrongWord (found : List PlacedWord) (word : PlacedWord) : Type 0 where
  pub front : List PlacedWord
  pub later : List PlacedWord
  pub all_words : found ≡ front ++ word ∷ later
  pub good_before : CanGoOn front
  pub not_good : CanGoOn (front ++ word ∷ []) → ⊥

-- The line of the fault of a text that spells no formula: that of the first word with which no text can go on, or the text's
-- last line where others can stand behind all words, and these are too few.
abbrev pub IsFaultLine : List ℕ → ℕ → Type 0
IsFaultLine text line =
    ((word : PlacedWord) × IsFirstWrongWord (placed_words text) word × (line ≡ word.line))
    ⊎ (CanGoOn (placed_words text)
    × ((vars : ℕ) (clauses : List (List Literal)) → ¬ SpellsCnf text vars clauses)
    × (line ≡ last_line text))
