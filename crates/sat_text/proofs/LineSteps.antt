-- Reading a text up to the end of its first line.
use Rattle.std.proofs.Common.{◌≡◌, ℕ, ℤ, ◌<◌, ◌≤◌, ◌-◌, Bool, true, false, eqb, List, [], ◌∷◌, length, take, take_all, drop, get_or, Option, Some, None, refl, sym, ap, ◌∙◌, arith, inl, inr}
use Rattle.std.specs.Prelude.{MatchOption}
use Rattle.std.proofs.lemmas.Bool.{eqb-true}
use Rattle.cnf_core.specs.Lines.{add, delete}
use Rattle.cnf_core.specs.Literal.{Literal}
use Rattle.sat_text.specs.Clauses.{in_order}
use Rattle.sat_text.specs.Numbers.{whole_of}
use Rattle.sat_text.specs.Words.{words, first_line, behind_line, first_word, behind_word, has_no_word, says_nothing, is_between_words, is_comment}
use Rattle.sat_text.specs.Proofs.{whole_at, items_at, begins_with_d, any_literal, any_hint, positive_of, at_end, addition_at, deletion_at, behind_id}
use Rattle.sat_text.proofs.Cuts.{bool_cases}
use Rattle.sat_text.proofs.Heads.{first_comment, word_ahead, blank_ahead, others_plain, end_not_plain}

-- ---- blanks

blank_no_end : (b : ℕ) → is_between_words b ≡ true → eqb b 10 ≡ false
blank_no_end b blank = elim (bool_cases (eqb b 10)) [
  | inl t ↦ absurd (let h : true ≡ false = sym blank ∙ ap is_between_words (eqb-true b 10 t) in cc)
  | inr f ↦ f
]

-- what stands behind a blank
pub blank_passed : (rest : List ℕ) → 0 < length rest → is_between_words (get_or rest 0 0) ≡ true
    → (words (first_line (take (length rest - 1) (drop 1 rest))) ≡ words (first_line rest)) × (behind_line (take (length rest - 1) (drop 1 rest)) ≡ behind_line rest) × (length (take (length rest - 1) (drop 1 rest)) ≤ length rest)
blank_passed [] some blank = absurd (omega arith)
blank_passed (b ∷ rest) some blank =
    let n = blank_no_end b blank in
    let same : take (length (b ∷ rest) - 1) (drop 1 (b ∷ rest)) ≡ rest = take_all (length (b ∷ rest) - 1) rest (omega arith) in
    let long : length (take (length (b ∷ rest) - 1) (drop 1 (b ∷ rest))) ≡ length rest = ap length same in (
      ap (λ (xs : List ℕ). words (first_line xs)) same ∙ sym (blank_ahead b rest blank n),
      ap behind_line same ∙ rw n refl,
      omega (arith, long),
    )

-- ---- a line without words

-- what an option says, and what follows of it
pub follows : {X A B : Type 0} {P Q : X → Type 0} (r : Option X) → (A → B) → ((x : X) → P x → Q x) → MatchOption r A P → MatchOption r B Q
follows None none some h = none h
follows (Some x) none some h = some x h

pub comment_silent : (text : List ℕ) → is_comment text ≡ true → says_nothing (first_line text) ≡ true
comment_silent text told = rw (first_comment text ∙ told) refl

pub words_silent : (text : List ℕ) (b : Bool) → is_comment text ≡ false → has_no_word (words (first_line text)) ≡ b → says_nothing (first_line text) ≡ b
words_silent text b quiet e = rw (first_comment text ∙ quiet) e

-- ---- the first word of what is left

pub data Ahead (rest : List ℕ) : Type 0 where
  ended : words (first_line rest) ≡ [] → first_word rest ≡ [] → Ahead rest
  begun : words (first_line rest) ≡ first_word rest ∷ words (first_line (behind_word rest)) → Ahead rest

pub ahead : (rest : List ℕ) → (0 < length rest → is_between_words (get_or rest 0 0) ≡ false) → Ahead rest
ahead [] no_blank = ended refl refl
ahead (b ∷ rest) no_blank = elim (bool_cases (eqb b 10)) [
  | inl t ↦ ended (rw t refl) (rw (end_not_plain b t) refl)
  | inr n ↦ begun (word_ahead b rest (others_plain b (no_blank (omega arith)) n))
]

pub number_none : (rest : List ℕ) → Ahead rest → whole_of (first_word rest) ≡ None → whole_at (words (first_line rest)) ≡ None
unfolding whole_at
number_none rest (ended n f) e = rw n refl
number_none rest (begun w) e = rw (w, e) refl

pub number_some : (rest after : List ℕ) (n : ℤ) → Ahead rest → whole_of (first_word rest) ≡ Some n → after ≡ behind_word rest → whole_at (words (first_line rest)) ≡ Some (n, words (first_line after))
unfolding whole_at
number_some rest after n (ended gone f) e is = absurd (let h : ◌≡◌ {A = Option ℤ} None (Some n) = sym (ap whole_of f) ∙ e in cc)
number_some rest after n (begun w) e is = rw (w, e, is) refl

-- ---- the letter `d`

pub letter : (id : ℕ) (ws later : List (List ℕ)) → ws ≡ (100 ∷ []) ∷ later → behind_id id ws ≡ deletion_at later
unfolding behind_id
letter id ws later e = rw e refl

pub no_letter : (id : ℕ) (ws : List (List ℕ)) → begins_with_d ws ≡ false → behind_id id ws ≡ addition_at id ws
unfolding behind_id addition_at items_at
no_letter id [] e = refl
no_letter id (w ∷ ws) e = rw e refl

-- ---- words that are left

pub ends_not : {X : Type 0} (x : X) (ws : List (List ℕ)) → has_no_word ws ≡ false → at_end x ws ≡ None
ends_not x [] e = absurd cc
ends_not x (w ∷ ws) e = refl

pub addition_more : (id : ℕ) (ws rest more : List (List ℕ)) (literals : List Literal) (hints : List ℤ) → items_at any_literal ws ≡ Some (literals, rest) → items_at any_hint rest ≡ Some (hints, more) → has_no_word more ≡ false → addition_at id ws ≡ None
unfolding addition_at
addition_more id ws rest more literals hints l h e = rw (l, h) (ends_not (add id (in_order literals) hints) more e)

pub deletion_more : (ws more : List (List ℕ)) (ids : List ℕ) → items_at positive_of ws ≡ Some (ids, more) → has_no_word more ≡ false → deletion_at ws ≡ None
unfolding deletion_at
deletion_more ws more ids i e = rw i (ends_not (delete ids) more e)
