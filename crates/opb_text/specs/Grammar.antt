-- Which texts spell which pseudo-Boolean problem, told without a reader.
use Rattle.std.specs.Prelude.{◌≡◌, ◌⊎◌, ℕ, Bool, true, false, List, [], ◌∷◌, ◌++◌, map, codes, Option, Some, None}
use Rattle.sat_text.specs.Words.{last_line, PlacedWord}
use Rattle.opb_text.specs.declared.content.OpbTerm.{OpbTerm}
use Rattle.opb_text.specs.Contents.{OpbConstraint, OpbContent}
use Rattle.opb_text.specs.Numbers.{signed_number_of, opb_literal_of}
use Rattle.opb_text.specs.Words.{placed_opb_words}

-- the sign between the sides of a constraint
abbrev pub relation_word : Bool → List ℕ
relation_word true = codes "="
relation_word false = codes ">="

-- the word behind the objective, and behind each constraint
abbrev pub end_word : List ℕ
end_word = codes ";"

-- two words spell a term: a number, and a literal
pub record SpellsTerm (t : OpbTerm) (number_word literal_word : List ℕ) : Type 0 where
  pub factor : signed_number_of number_word ≡ Some t.factor
  pub literal : opb_literal_of literal_word ≡ Some (t.negated, t.var)

-- words spell terms, two for each
abbrev pub SpellsOpbTerms : List OpbTerm → List (List ℕ) → Type 0
SpellsOpbTerms [] words = words ≡ []
SpellsOpbTerms (t ∷ terms) words =
    (number_word : List ℕ) × (literal_word : List ℕ) × (later : List (List ℕ))
    × (words ≡ number_word ∷ literal_word ∷ later) × SpellsTerm t number_word literal_word × SpellsOpbTerms terms later

-- words spell a constraint: its terms, the sign, the right side, and a `;`
pub record SpellsRow (row : OpbConstraint) (words : List (List ℕ)) : Type 0 where
  pub terms_words : List (List ℕ)
  pub right_word : List ℕ
  pub all_words : words ≡ terms_words ++ relation_word row.equal ∷ right_word ∷ end_word ∷ []
  pub terms : SpellsOpbTerms row.terms terms_words
  pub right : signed_number_of right_word ≡ Some row.right

-- words spell constraints, one after another
abbrev pub SpellsRows : List OpbConstraint → List (List ℕ) → Type 0
SpellsRows [] words = words ≡ []
SpellsRows (row ∷ rows) words =
    (first : List (List ℕ)) × (later : List (List ℕ))
    × (words ≡ first ++ later) × SpellsRow row first × SpellsRows rows later

-- Words spell the objective: `min:`, its terms, and a `;`. No word spells that there is none.
abbrev pub SpellsObjective : Option (List OpbTerm) → List (List ℕ) → Type 0
SpellsObjective None words = words ≡ []
SpellsObjective (Some terms) words =
    (terms_words : List (List ℕ)) × (words ≡ codes "min:" ∷ terms_words ++ end_word ∷ []) × SpellsOpbTerms terms terms_words

-- words spell a problem: its objective, and then its constraints
pub record SpellsContent (content : OpbContent) (words : List (List ℕ)) : Type 0 where
  pub objective_words : List (List ℕ)
  pub rows_words : List (List ℕ)
  pub all_words : words ≡ objective_words ++ rows_words
  pub objective : SpellsObjective content.objective objective_words
  pub rows : SpellsRows content.rows rows_words

-- the words alone, without their lines
abbrev pub bare_words : List PlacedWord → List (List ℕ)
bare_words found = map (λ word. word.bytes) found

-- a text spells a problem where its words do, without those of its comments
abbrev pub SpellsOpb : List ℕ → OpbContent → Type 0
SpellsOpb text content = SpellsContent content (bare_words (placed_opb_words text))

-- a text that spells a problem begins with these words
abbrev pub CanGoOnAsOpb : List (List ℕ) → Type 0
CanGoOnAsOpb front =
    (text : List ℕ) × (later : List (List ℕ)) × (content : OpbContent)
    × (bare_words (placed_opb_words text) ≡ front ++ later) × SpellsOpb text content

-- the first word of a text such that no text that spells a problem begins with the words up to and including it
pub record IsFirstWrongOpbWord (found : List PlacedWord) (word : PlacedWord) : Type 0 where
  pub front : List PlacedWord
  pub later : List PlacedWord
  pub all_words : found ≡ front ++ word ∷ later
  pub good_before : CanGoOnAsOpb (bare_words front)
  pub not_good : CanGoOnAsOpb (bare_words front ++ word.bytes ∷ []) → ⊥

-- The line of the fault of a text that spells no problem: that of the first word with which no text can go on, or the text's
-- last line where a text can go on with all words, and this one ends too early.
abbrev pub IsOpbFaultLine : List ℕ → ℕ → Type 0
IsOpbFaultLine text line =
    ((word : PlacedWord) × IsFirstWrongOpbWord (placed_opb_words text) word × (line ≡ word.line))
    ⊎ (CanGoOnAsOpb (bare_words (placed_opb_words text)) × ((content : OpbContent) → ¬ SpellsOpb text content) × (line ≡ last_line text))
