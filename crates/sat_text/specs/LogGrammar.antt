-- Which texts spell which proof, told without a reader.
use Rattle.std.specs.Prelude.{◌≡◌, ◌≤◌, ◌⊎◌, ℕ, ◌+◌, pos, true, not, List, [], ◌∷◌, ◌++◌, All, length, map, filter, codes, Some}
use Rattle.cnf_core.specs.Literal.{Literal}
use Rattle.cnf_core.specs.Lines.{ProofLine, add, delete}
use Rattle.sat_text.specs.Words.{lines, words, says_nothing}
use Rattle.sat_text.specs.Numbers.{whole_of}
use Rattle.sat_text.specs.Clauses.{number_of}
use Rattle.sat_text.specs.CnfGrammar.{SpellsNumbers, IsClauseOf}

-- Words that spell a line: an id, the numbers of the literals that make its clause, a 0, its
-- hints, none of which is 0, and a 0. Or an id, a `d`, the ids that the line deletes, and a 0. Ids
-- aren't 0.
abbrev pub SpellsLine : ProofLine → List (List ℕ) → Type 0
SpellsLine (add id clause hints) found =
    (literals : List Literal) × (1 ≤ id) × All (λ l. 1 ≤ l.var) literals
    × IsClauseOf clause literals × All (λ hint. hint ≡ pos 0 → ⊥) hints
    × SpellsNumbers (pos id ∷ (map number_of literals ++ pos 0 ∷ (hints ++ pos 0 ∷ []))) found
SpellsLine (delete ids) found =
    (id : ℕ) × (id_word : List ℕ) × (later : List (List ℕ)) × (found ≡ id_word ∷ codes "d" ∷ later)
    × (whole_of id_word ≡ Some (pos id)) × (1 ≤ id) × All (λ n. 1 ≤ n) ids
    × SpellsNumbers (map (λ n. pos n) ids ++ pos 0 ∷ []) later

-- the lines of a text that say something: no comments, and no blank lines
abbrev pub said_lines : List ℕ → List (List ℕ)
said_lines text = filter (λ line. not (says_nothing line)) (lines text)

-- as many lines as there are, each of which spells one
abbrev pub SpellLines : List ProofLine → List (List ℕ) → Type 0
SpellLines [] [] = Unit {0}
SpellLines (line ∷ proof) (said ∷ others) = SpellsLine line (words said) × SpellLines proof others
SpellLines [] (said ∷ others) = ⊥
SpellLines (line ∷ proof) [] = ⊥

-- a text spells a proof where each line that says something spells one of it, in order
abbrev pub SpellsLog : List ℕ → List ProofLine → Type 0
SpellsLog text proof = SpellLines proof (said_lines text)

-- a line is in the grammar where it says nothing, or spells a line of a proof
abbrev pub IsLogLine : List ℕ → Type 0
IsLogLine line = (says_nothing line ≡ true) ⊎ ((said : ProofLine) × SpellsLine said (words line))

-- the number, counted from 1, of the first line of a text that isn't in the grammar
pub record IsFirstWrongLine (text : List ℕ) (number : ℕ) : Type 0 where
  pub front : List (List ℕ)
  pub wrong : List ℕ
  pub later : List (List ℕ)
  pub all_lines : lines text ≡ front ++ wrong ∷ later
  pub good_before : All IsLogLine front
  pub not_good : IsLogLine wrong → ⊥
  pub place : number ≡ length front + 1
