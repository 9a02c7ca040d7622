-- Hearing the comments of a text line by line.
use Rattle.std.proofs.Common.{◌≡◌, ℕ, ◌<◌, true, false, eqb, List, [], ◌∷◌, ◌++◌, length, map, Option, Some, None, Result, Ok, Err, refl, sym, ap, subst, ◌∙◌, append_assoc, arith, inl, inr}
use Rattle.std.specs.Prelude.{unwrap_or, OnOk}
use Rattle.std.specs.List.{cons_option}
use Rattle.std.proofs.lemmas.List.{append-nil}
use Rattle.std.proofs.lemmas.Bool.Decides.{nat_tests}
use Rattle.cnf_core.specs.Events.{Note, plain_note}
use Rattle.cnf_core.specs.declared.log.CellNote.{CellNote}
use Rattle.sat_text.specs.Heard.{Heard}
use Rattle.sat_text.specs.Notes.{note_of, added_on, notes_of, added_of}
use Rattle.sat_text.specs.Words.{lines, first_line, behind_line, is_comment, says_nothing}
use Rattle.sat_text.specs.declared.notes.Comments.{Comments}
use Rattle.sat_text.proofs.Cuts.{bool_cases}
use Rattle.sat_text.proofs.Heads.{first_comment, lines_first, no_lines}

-- ---- a line that is no comment says nothing

turned : (b : ℕ) → eqb b 99 ≡ false → eqb 99 b ≡ false
turned b quiet = grind (arith, nat_tests)

quiet_note : (line : List ℕ) → is_comment line ≡ false → note_of line ≡ None
quiet_note [] quiet = refl
quiet_note (b ∷ line) quiet = rw (turned b quiet) refl

quiet_added : (line : List ℕ) → is_comment line ≡ false → added_on line ≡ None
quiet_added [] quiet = refl
quiet_added (b ∷ line) quiet = rw (turned b quiet) refl

-- ---- lines in order

pub heard_none : (said : Comments) → Heard said said []
heard_none said = record { notes = sym (append-nil (map plain_note said.notes.items)); added = refl }

joined : (front : List Note) (note : Option Note) (later : List Note) → (front ++ cons_option note []) ++ later ≡ front ++ cons_option note later
joined front None later = ap (λ (notes : List Note). notes ++ later) (append-nil front)
joined front (Some note) later = append_assoc front (note ∷ []) later

pub heard_then : (a b c : Comments) (line : List ℕ) (all : List (List ℕ)) → Heard a b (line ∷ []) → Heard b c all → Heard a c (line ∷ all)
heard_then a b c line all first later = record {
  notes = later.notes ∙ ap (λ (notes : List Note). notes ++ notes_of all) first.notes ∙ joined (map plain_note a.notes.items) (note_of line) (notes_of all);
  added = later.added ∙ ap (λ (n : ℕ). added_of n all) first.added;
}

pub heard_quiet : (a c : Comments) (line : List ℕ) (all : List (List ℕ)) → is_comment line ≡ false → Heard a c all → Heard a c (line ∷ all)
heard_quiet a c line all quiet h = record {
  notes = h.notes ∙ ap (λ (note : Option Note). map plain_note a.notes.items ++ cons_option note (notes_of all)) (sym (quiet_note line quiet));
  added = h.added ∙ ap (λ (said : Option ℕ). added_of (unwrap_or said a.added) all) (sym (quiet_added line quiet));
}

-- ---- the lines of a text

not_comment : (line : List ℕ) → says_nothing line ≡ false → is_comment line ≡ false
not_comment line e = elim (bool_cases (is_comment line)) [
  | inl t ↦ absurd (let h : true ≡ false = rw t at e in cc)
  | inr f ↦ f
]

pub said_heard : (a b c : Comments) (rest later : List (List ℕ)) (line : List ℕ) → rest ≡ line ∷ later → Heard a b (line ∷ []) → Heard b c later → Heard a c rest
said_heard a b c rest later line cut first then = subst (Heard a c) (sym cut) (heard_then a b c line later first then)

pub header_heard : (a c : Comments) (rest later : List (List ℕ)) (line : List ℕ) → rest ≡ line ∷ later → says_nothing line ≡ false → Heard a c later → Heard a c rest
header_heard a c rest later line cut e then = subst (Heard a c) (sym cut) (heard_quiet a c line later (not_comment line e) then)

pub comment_heard : (a b c : Comments) (rest line later : List ℕ) → 0 < length rest → line ≡ first_line rest → later ≡ behind_line rest → Heard a b (line ∷ []) → Heard b c (lines later) → Heard a c (lines rest)
comment_heard a b c rest line later some l t first then = said_heard a b c (lines rest) (lines later) line (rw (l, t) (lines_first rest some)) first then

pub line_heard : (a c : Comments) (rest later : List ℕ) → 0 < length rest → is_comment rest ≡ false → later ≡ behind_line rest → Heard a c (lines later) → Heard a c (lines rest)
line_heard a c rest later some quiet t then =
    subst (Heard a c) (sym (rw t (lines_first rest some))) (heard_quiet a c (first_line rest) (lines later) (first_comment rest ∙ quiet) then)

pub all_heard : (said : Comments) (rest : List ℕ) → eqb (length rest) 0 ≡ true → Heard said said (lines rest)
all_heard said rest none = subst (Heard said said) (sym (no_lines rest none)) (heard_none said)

-- what follows of what is told beside a value
pub ok_follows : {X E A B : Type 0} (r : Result X E) → (A → B) → OnOk r A → OnOk r B
ok_follows (Ok x) f h = f h
ok_follows (Err e) f h = tt

-- ---- what is told where nothing was heard before

pub all_notes : (old new : Comments) (all : List (List ℕ)) → old.notes.items ≡ [] → Heard old new all → map plain_note new.notes.items ≡ notes_of all
all_notes old new all none h = h.notes ∙ ap (λ (items : List CellNote). map plain_note items ++ notes_of all) none

pub all_added : (old new : Comments) (all : List (List ℕ)) → old.added ≡ 0 → Heard old new all → new.added ≡ added_of 0 all
all_added old new all none h = h.added ∙ ap (λ (n : ℕ). added_of n all) none
