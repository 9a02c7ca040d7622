-- The first line of a text, and the first word of a line.
use Rattle.std.proofs.Common.{◌≡◌, ℕ, suc, ◌+◌, ◌<◌, ◌≤◌, Bool, true, false, not, eqb, ltb, List, [], ◌∷◌, length, take, drop, filter, Some, None, refl, sym, ap, subst, ◌∙◌, arith, inl, inr, ◌⊎◌}
use Rattle.std.specs.List.{slice_split, onto_first, position_or_len}
use Rattle.std.specs.Prelude.{position}
use Rattle.std.proofs.lemmas.Bool.{ltb-true, ltb-false}
use Rattle.std.proofs.lemmas.List.{drop_all}
use Rattle.sat_text.specs.Words.{lines, words, ended_by, is_between_words, has_bytes}

pub bool_cases : (b : Bool) → (b ≡ true) ⊎ (b ≡ false)
bool_cases true = inl refl
bool_cases false = inr refl

-- ---- the place of the first element that passes

pub place_none : {X : Type 0} (p : X → Bool) (xs : List X) → position p xs ≡ None → length xs ≤ position_or_len p xs
place_none p xs e = elim (bool_cases (ltb (position_or_len p xs) (length xs))) [
  | inl t ↦ absurd (let h : Some (position_or_len p xs) ≡ None = sym (rw t refl) ∙ e in cc)
  | inr f ↦ ltb-false _ _ f
]

pub place_some : {X : Type 0} (p : X → Bool) (xs : List X) (i : ℕ) → position p xs ≡ Some i → (i ≡ position_or_len p xs) × (i < length xs)
place_some p xs i e = elim (bool_cases (ltb (position_or_len p xs) (length xs))) [
  | inl t ↦
      let h : Some (position_or_len p xs) ≡ Some i = sym (rw t refl) ∙ e in
      let same : position_or_len p xs ≡ i = cc in
      (sym same, subst (λ (n : ℕ). n < length xs) same (ltb-true _ _ t))
  | inr f ↦ absurd (let h : None ≡ Some i = sym (rw f refl) ∙ e in cc)
]

pub place_yes : {X : Type 0} (p : X → Bool) (x : X) (xs : List X) → p x ≡ true → position_or_len p (x ∷ xs) ≡ 0
place_yes p x xs t = rw t refl

pub place_no : {X : Type 0} (p : X → Bool) (x : X) (xs : List X) → p x ≡ false → position_or_len p (x ∷ xs) ≡ suc (position_or_len p xs)
place_no p x xs f = rw f (omega arith)

-- ---- lines

ended_cut : (p : ℕ → Bool) (text : List ℕ) → position_or_len p text < length text → ended_by p text ≡ take (position_or_len p text) text ∷ ended_by p (drop (suc (position_or_len p text)) text)
ended_cut p [] lt = absurd (omega arith)
ended_cut p (b ∷ text) lt = elim (bool_cases (p b)) [
  | inl t ↦ rw (place_yes p b text t, t) refl
  | inr f ↦
      let at : position_or_len p (b ∷ text) ≡ suc (position_or_len p text) = place_no p b text f in
      let less : position_or_len p text < length text = omega (arith, at, lt) in
      rw (at, f) (ap (onto_first b) (ended_cut p text less))
]

ended_whole : (p : ℕ → Bool) (b : ℕ) (text : List ℕ) → length (b ∷ text) ≤ position_or_len p (b ∷ text) → ended_by p (b ∷ text) ≡ (b ∷ text) ∷ []
ended_whole p b [] le = elim (bool_cases (p b)) [
  | inl t ↦ absurd (omega (arith, place_yes p b [] t, le))
  | inr f ↦ rw f refl
]
ended_whole p b (d ∷ text) le = elim (bool_cases (p b)) [
  | inl t ↦ absurd (omega (arith, place_yes p b (d ∷ text) t, le))
  | inr f ↦ rw f (ap (onto_first b) (ended_whole p d text (omega (arith, place_no p b (d ∷ text) f, le))))
]

pub line_cut : (text : List ℕ) (i : ℕ) → position (λ b. eqb b 10) text ≡ Some i → lines text ≡ take i text ∷ lines (drop (i + 1) text)
line_cut text i e =
    let at = place_some (λ b. eqb b 10) text i e in
    let lt : position_or_len (λ b. eqb b 10) text < length text = subst (λ (n : ℕ). n < length text) at.0 at.1 in
    let cut = ended_cut (λ b. eqb b 10) text lt in
    let plus : i + 1 ≡ suc i = omega arith in
    rw (plus, at.0) cut

pub line_whole : (text : List ℕ) → 0 < length text → position (λ b. eqb b 10) text ≡ None → lines text ≡ text ∷ []
line_whole [] some e = absurd (omega arith)
line_whole (b ∷ text) some e = ended_whole (λ b. eqb b 10) b text (place_none (λ b. eqb b 10) (b ∷ text) e)

-- ---- words

abbrev words_by : (ℕ → Bool) → List ℕ → List (List ℕ)
words_by p line = filter has_bytes (slice_split p line)

split_yes : (p : ℕ → Bool) (b : ℕ) (line : List ℕ) → p b ≡ true → words_by p (b ∷ line) ≡ words_by p line
split_yes p b line t = rw t refl

-- no word begins before the first byte that isn't blank
words_from : (p : ℕ → Bool) (line : List ℕ) → words_by p line ≡ words_by p (drop (position_or_len (λ b. not (p b)) line) line)
words_from p [] = refl
words_from p (b ∷ line) = elim (bool_cases (p b)) [
  | inl t ↦ split_yes p b line t ∙ words_from p line ∙ ap (λ (n : ℕ). words_by p (drop n (b ∷ line))) (sym (place_no (λ x. not (p x)) b line (ap not t)))
  | inr f ↦ ap (λ (n : ℕ). words_by p (drop n (b ∷ line))) (sym (place_yes (λ x. not (p x)) b line (ap not f)))
]

-- the first byte at the place of the first one that isn't blank
first_there : (p : ℕ → Bool) (line : List ℕ) → position_or_len (λ b. not (p b)) line < length line → (b : ℕ) × (rest : List ℕ) × (drop (position_or_len (λ x. not (p x)) line) line ≡ b ∷ rest) × (p b ≡ false)
first_there p [] lt = absurd (omega arith)
first_there p (b ∷ line) lt = elim (bool_cases (p b)) [
  | inl t ↦
      let at = place_no (λ x. not (p x)) b line (ap not t) in
      let r = first_there p line (omega (arith, at, lt)) in
      (r.0, r.1, ap (λ (n : ℕ). drop n (b ∷ line)) at ∙ r.2, r.3)
  | inr f ↦ (b, line, ap (λ (n : ℕ). drop n (b ∷ line)) (place_yes (λ x. not (p x)) b line (ap not f)), f)
]

split_cut : (p : ℕ → Bool) (line : List ℕ) → position_or_len p line < length line → slice_split p line ≡ take (position_or_len p line) line ∷ slice_split p (drop (suc (position_or_len p line)) line)
split_cut p [] lt = absurd (omega arith)
split_cut p (b ∷ line) lt = elim (bool_cases (p b)) [
  | inl t ↦ rw (place_yes p b line t, t) refl
  | inr f ↦
      let at : position_or_len p (b ∷ line) ≡ suc (position_or_len p line) = place_no p b line f in
      let less : position_or_len p line < length line = omega (arith, at, lt) in
      rw (at, f) (ap (onto_first b) (split_cut p line less))
]

split_whole : (p : ℕ → Bool) (line : List ℕ) → length line ≤ position_or_len p line → slice_split p line ≡ line ∷ []
split_whole p [] le = refl
split_whole p (b ∷ line) le = elim (bool_cases (p b)) [
  | inl t ↦ absurd (omega (arith, place_yes p b line t, le))
  | inr f ↦ rw f (ap (onto_first b) (split_whole p line (omega (arith, place_no p b line f, le))))
]

pub word_none : (line : List ℕ) → position (λ b. not (is_between_words b)) line ≡ None → words line ≡ []
word_none line e =
    let past : drop (position_or_len (λ b. not (is_between_words b)) line) line ≡ [] = drop_all (position_or_len (λ b. not (is_between_words b)) line) line (place_none (λ b. not (is_between_words b)) line e) in
    words_from is_between_words line ∙ ap (words_by is_between_words) past

-- what a line has from its first word on
pub words_at : (line : List ℕ) (start : ℕ) → position (λ b. not (is_between_words b)) line ≡ Some start → words line ≡ words (drop start line)
words_at line start e = words_from is_between_words line ∙ ap (λ (n : ℕ). words (drop n line)) (sym (place_some (λ b. not (is_between_words b)) line start e).0)

starts : (line : List ℕ) (start : ℕ) → position (λ b. not (is_between_words b)) line ≡ Some start → (b : ℕ) × (rest : List ℕ) × (drop start line ≡ b ∷ rest) × (is_between_words b ≡ false)
starts line start e =
    let at = place_some (λ b. not (is_between_words b)) line start e in
    let r = first_there is_between_words line (subst (λ (n : ℕ). n < length line) at.0 at.1) in
    (r.0, r.1, ap (λ (n : ℕ). drop n line) at.0 ∙ r.2, r.3)

word_cut_at : (b : ℕ) (rest : List ℕ) (end : ℕ) → is_between_words b ≡ false → position is_between_words (b ∷ rest) ≡ Some end → words (b ∷ rest) ≡ take end (b ∷ rest) ∷ words (drop (end + 1) (b ∷ rest))
word_cut_at b rest end f e =
    let at = place_some is_between_words (b ∷ rest) end e in
    let one : end ≡ suc (position_or_len is_between_words rest) = at.0 ∙ place_no is_between_words b rest f in
    let lt : position_or_len is_between_words (b ∷ rest) < length (b ∷ rest) = subst (λ (n : ℕ). n < length (b ∷ rest)) at.0 at.1 in
    let cut : slice_split is_between_words (b ∷ rest) ≡ take end (b ∷ rest) ∷ slice_split is_between_words (drop (suc end) (b ∷ rest)) = subst (λ (n : ℕ). slice_split is_between_words (b ∷ rest) ≡ take n (b ∷ rest) ∷ slice_split is_between_words (drop (suc n) (b ∷ rest))) (sym at.0) (split_cut is_between_words (b ∷ rest) lt) in
    let plus : end + 1 ≡ suc end = omega arith in
    ap (filter has_bytes) cut ∙ rw (plus, one) refl

pub word_cut : (line : List ℕ) (start end : ℕ) → position (λ b. not (is_between_words b)) line ≡ Some start → position is_between_words (drop start line) ≡ Some end → words line ≡ take end (drop start line) ∷ words (drop (end + 1) (drop start line))
word_cut line start end s e =
    let r = starts line start s in
    words_at line start s ∙ subst (λ (rest : List ℕ). words rest ≡ take end rest ∷ words (drop (end + 1) rest)) (sym r.2) (word_cut_at r.0 r.1 end r.3 (subst (λ (rest : List ℕ). position is_between_words rest ≡ Some end) r.2 e))

pub word_whole : (line : List ℕ) (start : ℕ) → position (λ b. not (is_between_words b)) line ≡ Some start → position is_between_words (drop start line) ≡ None → words line ≡ drop start line ∷ []
word_whole line start s e =
    let r = starts line start s in
    let whole = split_whole is_between_words (drop start line) (place_none is_between_words (drop start line) e) in
    words_at line start s ∙ ap (filter has_bytes) whole ∙ rw r.2 refl

-- ---- the same of the parts that the code cuts off

pub line_taken : (text rest : List ℕ) (end : ℕ) → Some end ≡ position (λ b. eqb b 10) text → rest ≡ drop (end + 1) text → lines text ≡ take end text ∷ lines rest
line_taken text rest end e is = subst (λ (r : List ℕ). lines text ≡ take end text ∷ lines r) (sym is) (line_cut text end (sym e))

pub word_taken : (line rest later : List ℕ) (start end : ℕ) → Some start ≡ position (λ b. not (is_between_words b)) line → rest ≡ drop start line → Some end ≡ position is_between_words rest → later ≡ drop (end + 1) rest
    → words line ≡ take end rest ∷ words later
word_taken line rest later start end s r e l =
    let cut = word_cut line start end (sym s) (sym (subst (λ (xs : List ℕ). Some end ≡ position is_between_words xs) r e)) in
    rw (l, r) cut

pub word_last : (line rest : List ℕ) (start : ℕ) → Some start ≡ position (λ b. not (is_between_words b)) line → rest ≡ drop start line → None ≡ position is_between_words rest → words line ≡ rest ∷ []
word_last line rest start s r e = rw r (word_whole line start (sym s) (sym (subst (λ (xs : List ℕ). None ≡ position is_between_words xs) r e)))

pub start_within : {X : Type 0} (p : X → Bool) (xs : List X) (i : ℕ) → Some i ≡ position p xs → i < length xs
start_within p xs i e = (place_some p xs i (sym e)).1

pub some_bytes : (text : List ℕ) → false ≡ eqb (length text) 0 → 0 < length text
some_bytes [] e = absurd cc
some_bytes (b ∷ text) e = omega arith

-- ---- pieces between separators

pub piece_taken : (p : ℕ → Bool) (bytes later : List ℕ) (end : ℕ) → Some end ≡ position p bytes → later ≡ drop (end + 1) bytes → slice_split p bytes ≡ take end bytes ∷ slice_split p later
piece_taken p bytes later end e is =
    let at = place_some p bytes end (sym e) in
    let lt : position_or_len p bytes < length bytes = subst (λ (n : ℕ). n < length bytes) at.0 at.1 in
    let cut : slice_split p bytes ≡ take end bytes ∷ slice_split p (drop (suc end) bytes) = subst (λ (n : ℕ). slice_split p bytes ≡ take n bytes ∷ slice_split p (drop (suc n) bytes)) (sym at.0) (split_cut p bytes lt) in
    let plus : end + 1 ≡ suc end = omega arith in
    rw is (rw plus cut)

pub piece_last : (p : ℕ → Bool) (bytes : List ℕ) → None ≡ position p bytes → slice_split p bytes ≡ bytes ∷ []
piece_last p bytes e = split_whole p bytes (place_none p bytes (sym e))
