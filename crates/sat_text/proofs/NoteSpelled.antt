-- The reader of notes reads what their grammar spells.
use Rattle.std.proofs.Common.{◌≡◌, ℕ, ℤ, ◌≤◌, true, eqb, List, [], ◌∷◌, ◌++◌, length, drop, Option, Some, None, refl, sym, ap, subst, ◌∙◌, inl, inr, ◌⊎◌}
use Rattle.std.proofs.lemmas.Bool.{eqb-true}
use Rattle.std.proofs.lemmas.Bool.Decides.{Decides-eqb}
use Rattle.std.proofs.lemmas.Slice.Eq.{starts_is}
use Rattle.std.specs.List.{list_all, slice_split, onto_first, starts_with}
use Rattle.std.specs.Prelude.{codes, nat_eq, is_some}
use Rattle.cnf_core.specs.Literal.{Literal}
use Rattle.cnf_core.specs.Events.{Note}
use Rattle.sat_text.specs.Words.{is_plain}
use Rattle.sat_text.specs.Numbers.{whole_of}
use Rattle.sat_text.specs.Clauses.{is_zero, literal_of, number_of}
use Rattle.sat_text.specs.Notes.{is_cell, note_with, note_literal, note_value, note_at, note_of, added_on}
use Rattle.sat_text.specs.NoteGrammar.{SpellsNote, SpellsAdded}
use Rattle.sat_text.proofs.Cuts.{bool_cases}
use Rattle.sat_text.proofs.NotePieces.{some_piece}
use Rattle.sat_text.proofs.CellSpelled.{cell_sound, cell_complete}
use Rattle.sat_text.proofs.CellPlain.{cell_plain, whole_plain}
use Rattle.sat_text.proofs.TextAgain.{space_cut, space_none}
use Rattle.sat_text.proofs.Spelling.{cons_head, cons_tail, literal_of_number, number_not_zero, number_of_literal, literal_some}

-- ---- pieces between spaces

abbrev pieces : List ℕ → List (List ℕ)
pieces bytes = slice_split (λ b. eqb b 32) bytes

-- a piece is all of the bytes, or a space and the other pieces stand behind it
abbrev Cut : List ℕ → List ℕ → List (List ℕ) → Type 0
Cut bytes piece more = ((more ≡ []) × (bytes ≡ piece)) ⊎ ((later : List ℕ) × (bytes ≡ piece ++ 32 ∷ later) × (pieces later ≡ more))

cut_before : (b : ℕ) (bytes piece : List ℕ) (more : List (List ℕ)) → Cut bytes piece more → Cut (b ∷ bytes) (b ∷ piece) more
cut_before b bytes piece more (inl c) = inl (c.0, ap (λ (t : List ℕ). b ∷ t) c.1)
cut_before b bytes piece more (inr c) = inr (c.0, ap (λ (t : List ℕ). b ∷ t) c.1, c.2)

cut_at : (bytes piece : List ℕ) (more : List (List ℕ)) → pieces bytes ≡ piece ∷ more → Cut bytes piece more
cut_at [] piece more e = inl (sym (cons_tail [] piece [] more e), cons_head [] piece [] more e)
cut_at (b ∷ bytes) piece more e = elim (bool_cases (eqb b 32)) [
  | inl t ↦
      let cut : [] ∷ pieces bytes ≡ piece ∷ more = rw t at e in
      let none : [] ≡ piece = cons_head [] piece (pieces bytes) more cut in
      inr (bytes, ap (λ (c : ℕ). c ∷ bytes) (eqb-true _ _ t) ∙ ap (λ (p : List ℕ). p ++ 32 ∷ bytes) none, cons_tail [] piece (pieces bytes) more cut)
  | inr f ↦
      let r = some_piece (λ c. eqb c 32) bytes in
      let whole : onto_first b (pieces bytes) ≡ piece ∷ more = rw f at e in
      let cut : (b ∷ r.0) ∷ r.1 ≡ piece ∷ more = sym (ap (onto_first b) r.2) ∙ whole in
      subst (λ (p : List ℕ). Cut (b ∷ bytes) p more) (cons_head (b ∷ r.0) piece r.1 more cut)
      (subst (Cut (b ∷ bytes) (b ∷ r.0)) (cons_tail (b ∷ r.0) piece r.1 more cut) (cut_before b bytes r.0 r.1 (cut_at bytes r.0 r.1 r.2)))
]

-- ---- a note that is read is spelled

-- what stands behind `c cell ` spells a note
record SpellsBehind (bytes : List ℕ) (note : Note) : Type 0 where
  value_word : List ℕ
  literal_word : List ℕ
  parts : bytes ≡ note.cell ++ 32 ∷ (value_word ++ 32 ∷ literal_word)
  named : is_cell note.cell ≡ true
  value : whole_of value_word ≡ Some note.value
  literal : whole_of literal_word ≡ Some (number_of note.lit)
  variable : 1 ≤ note.lit.var

abbrev note_is : List ℕ → ℤ → Literal → Note
note_is cell value lit = record { cell = cell; value = value; lit = lit }

with_sound : (bytes cell value_word literal_word : List ℕ) (value lit : Option ℤ) (note : Note) → bytes ≡ cell ++ 32 ∷ (value_word ++ 32 ∷ literal_word) → is_cell cell ≡ true
    → whole_of value_word ≡ value → whole_of literal_word ≡ lit → note_with cell value lit ≡ Some note → SpellsBehind bytes note
unfolding note_with
with_sound bytes cell value_word literal_word None None note parts named v l e = absurd cc
with_sound bytes cell value_word literal_word None (Some n) note parts named v l e = absurd cc
with_sound bytes cell value_word literal_word (Some value) None note parts named v l e = absurd cc
with_sound bytes cell value_word literal_word (Some value) (Some n) note parts named v l e = elim (bool_cases (is_zero n)) [
  | inl t ↦ absurd (let wrong = rw t at e in cc)
  | inr z ↦
      let some : Some (note_is cell value (literal_of n)) ≡ Some note = rw z at e in
      let same : note_is cell value (literal_of n) ≡ note = cc in
      subst (SpellsBehind bytes) same
      (record {
        value_word = value_word;
        literal_word = literal_word;
        parts = parts;
        named = named;
        value = v;
        literal = l ∙ ap (λ (m : ℤ). Some m) (sym (number_of_literal n z));
        variable = literal_some n z;
      })
]

no_pieces : (bytes : List ℕ) → pieces bytes ≡ [] → ⊥
no_pieces bytes e = let r = some_piece (λ c. eqb c 32) bytes in let wrong = sym r.2 ∙ e in cc

last_cut : (bytes piece : List ℕ) → Cut bytes piece [] → bytes ≡ piece
last_cut bytes piece (inl c) = c.1
last_cut bytes piece (inr c) = absurd (no_pieces c.0 c.2)

next_cut : (bytes piece next : List ℕ) (more : List (List ℕ)) → Cut bytes piece (next ∷ more) → (later : List ℕ) × (bytes ≡ piece ++ 32 ∷ later) × (pieces later ≡ next ∷ more)
next_cut bytes piece next more (inl c) = absurd (let wrong = c.0 in cc)
next_cut bytes piece next more (inr c) = c

three_cut : (bytes a b c : List ℕ) → pieces bytes ≡ a ∷ b ∷ c ∷ [] → bytes ≡ a ++ 32 ∷ (b ++ 32 ∷ c)
three_cut bytes a b c e =
    let first = next_cut bytes a b (c ∷ []) (cut_at bytes a (b ∷ c ∷ []) e) in
    let second = next_cut first.0 b c [] (cut_at first.0 b (c ∷ []) first.2) in
    let third = last_cut second.0 c (cut_at second.0 c [] second.2) in
    first.1 ∙ ap (λ (t : List ℕ). a ++ 32 ∷ t) (second.1 ∙ ap (λ (t : List ℕ). b ++ 32 ∷ t) third)

at_sound : (bytes : List ℕ) (found : List (List ℕ)) (note : Note) → pieces bytes ≡ found → note_at found ≡ Some note → SpellsBehind bytes note
unfolding note_at note_value note_literal
at_sound bytes [] note is e = absurd cc
at_sound bytes (cell ∷ []) note is e = absurd cc
at_sound bytes (cell ∷ value ∷ []) note is e = absurd cc
at_sound bytes (cell ∷ value ∷ lit ∷ []) note is e = elim (bool_cases (is_cell cell)) [
  | inl t ↦ with_sound bytes cell value lit (whole_of value) (whole_of lit) note (three_cut bytes cell value lit is) t refl refl (rw t at e)
  | inr f ↦ absurd (let wrong = rw f at e in cc)
]
at_sound bytes (cell ∷ value ∷ lit ∷ more ∷ found) note is e = absurd cc

starts : (line prefix : List ℕ) → starts_with nat_eq line prefix ≡ true → line ≡ prefix ++ drop (length prefix) line
starts line prefix e = (starts_is Decides-eqb line prefix (starts_with nat_eq line prefix) refl).0 e

pub note_sound : (line : List ℕ) (note : Note) → note_of line ≡ Some note → SpellsNote line note
note_sound line note e = elim (bool_cases (starts_with nat_eq line (codes "c cell "))) [
  | inl t ↦
      let behind = at_sound (drop 7 line) (pieces (drop 7 line)) note refl (rw t at e) in
      record {
        value_word = behind.value_word;
        literal_word = behind.literal_word;
        bytes = starts line (codes "c cell ") t ∙ ap (λ (b : List ℕ). codes "c cell " ++ b) behind.parts;
        named = cell_sound note.cell behind.named;
        value = behind.value;
        literal = behind.literal;
        variable = behind.variable;
      }
  | inr f ↦ absurd (let wrong = rw f at e in cc)
]

-- ---- a note that is spelled is read

number_plain : (word : List ℕ) (n : ℤ) → whole_of word ≡ Some n → list_all is_plain word ≡ true
number_plain word n e = whole_plain word (ap is_some e)

pieces_of : (a b c : List ℕ) → list_all is_plain a ≡ true → list_all is_plain b ≡ true → list_all is_plain c ≡ true → pieces (a ++ 32 ∷ (b ++ 32 ∷ c)) ≡ a ∷ b ∷ c ∷ []
pieces_of a b c pa pb pc =
    space_cut a (b ++ 32 ∷ c) pa ∙ ap (λ (ps : List (List ℕ)). a ∷ ps) (space_cut b c pb ∙ ap (λ (ps : List (List ℕ)). b ∷ ps) (space_none c pc))

behind_complete : (note : Note) (value_word literal_word : List ℕ) → is_cell note.cell ≡ true → whole_of value_word ≡ Some note.value → whole_of literal_word ≡ Some (number_of note.lit) → 1 ≤ note.lit.var
    → note_at (note.cell ∷ value_word ∷ literal_word ∷ []) ≡ Some note
unfolding note_at note_value note_literal note_with
behind_complete note value_word literal_word named value literal variable = rw (named, value, literal, number_not_zero note.lit variable, literal_of_number note.lit variable) refl

pub note_complete : (line : List ℕ) (note : Note) → SpellsNote line note → note_of line ≡ Some note
note_complete line note s =
    ap note_of s.bytes
    ∙ ap note_at (pieces_of note.cell s.value_word s.literal_word (cell_plain note.cell (cell_complete note.cell s.named)) (number_plain s.value_word note.value s.value) (number_plain s.literal_word (number_of note.lit) s.literal))
    ∙ behind_complete note s.value_word s.literal_word (cell_complete note.cell s.named) s.value s.literal s.variable

-- ---- the number of added clauses

pub added_sound : (line : List ℕ) (added : ℕ) → added_on line ≡ Some added → SpellsAdded line added
added_sound line added e = elim (bool_cases (starts_with nat_eq line (codes "c added "))) [
  | inl t ↦ (drop 8 line, starts line (codes "c added ") t, rw t at e)
  | inr f ↦ absurd (let wrong = rw f at e in cc)
]

pub added_complete : (line : List ℕ) (added : ℕ) → SpellsAdded line added → added_on line ≡ Some added
added_complete line added s = ap added_on s.1 ∙ s.2
