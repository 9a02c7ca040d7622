-- The pieces of a note.
use Rattle.std.proofs.Common.{◌≡◌, ℕ, Bool, List, [], ◌∷◌, None, refl, inl, inr}
use Rattle.std.specs.List.{slice_split, onto_first}
use Rattle.sat_text.specs.Notes.{note_at, note_value, note_literal}
use Rattle.sat_text.proofs.Cuts.{bool_cases}

-- there is always a first piece
onto_some : (b : ℕ) (pieces : List (List ℕ)) → (piece : List ℕ) × (more : List (List ℕ)) × (onto_first b pieces ≡ piece ∷ more)
onto_some b [] = (b ∷ [], [], refl)
onto_some b (piece ∷ pieces) = (b ∷ piece, pieces, refl)

pub some_piece : (p : ℕ → Bool) (bytes : List ℕ) → (piece : List ℕ) × (more : List (List ℕ)) × (slice_split p bytes ≡ piece ∷ more)
some_piece p [] = ([], [], refl)
some_piece p (b ∷ bytes) = elim (bool_cases (p b)) [
  | inl t ↦ ([], slice_split p bytes, rw t refl)
  | inr f ↦ let r = onto_some b (slice_split p bytes) in (r.0, r.1, rw f r.2)
]

pub literal_more : (p : ℕ → Bool) (cell value lit bytes later : List ℕ) → slice_split p bytes ≡ lit ∷ slice_split p later → note_literal cell value (slice_split p bytes) ≡ None
unfolding note_literal
literal_more p cell value lit bytes later cut =
    let r = some_piece p later in
    rw (cut, r.2) refl

pub value_last : (cell value : List ℕ) (pieces : List (List ℕ)) → pieces ≡ value ∷ [] → note_value cell pieces ≡ None
unfolding note_value note_literal
value_last cell value pieces is = rw is refl

pub cell_last : (cell : List ℕ) (pieces : List (List ℕ)) → pieces ≡ cell ∷ [] → note_at pieces ≡ None
unfolding note_at note_value
cell_last cell pieces is = rw is refl
