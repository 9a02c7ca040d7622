-- The first line of a text, and the word that it begins with.
use Rattle.std.proofs.Common.{◌≡◌, ℕ, zero, suc, ◌+◌, ◌<◌, ◌≤◌, Bool, true, false, not, ◌||◌, eqb, List, [], ◌∷◌, ◌++◌, length, take, drop, filter, get_or, Some, None, refl, sym, ap, ◌∙◌, arith, inl, inr, take_all}
use Rattle.std.specs.List.{slice_split, onto_first, position_or_len}
use Rattle.std.specs.Prelude.{position}
use Rattle.std.proofs.lemmas.List.{drop_all}
use Rattle.std.proofs.lemmas.Bool.{eqb-true}
use Rattle.std.proofs.lemmas.Bool.Decides.{nat_tests}
use Rattle.sat_text.specs.Words.{lines, words, is_between_words, is_plain, has_bytes, first_line, behind_line, first_word, behind_word, is_comment, PlacedWord, words_on, text_words}
use Rattle.sat_text.proofs.Cuts.{bool_cases, place_none, place_some, place_yes, place_no}

-- ---- lines

pub lines_first : (text : List ℕ) → 0 < length text → lines text ≡ first_line text ∷ lines (behind_line text)
lines_first [] some = absurd (omega arith)
lines_first (b ∷ []) some = elim (bool_cases (eqb b 10)) [
  | inl t ↦ rw t refl
  | inr f ↦ rw f refl
]
lines_first (b ∷ d ∷ text) some = elim (bool_cases (eqb b 10)) [
  | inl t ↦ rw t refl
  | inr f ↦ rw f (ap (onto_first b) (lines_first (d ∷ text) (omega arith)))
]

behind_short : (text : List ℕ) → length (behind_line text) ≤ length text
behind_short [] = omega arith
behind_short (b ∷ text) = elim (bool_cases (eqb b 10)) [
  | inl t ↦ rw t (omega arith)
  | inr f ↦ rw f (omega (arith, behind_short text))
]

pub behind_shorter : (text : List ℕ) → 0 < length text → length (behind_line text) < length text
behind_shorter [] some = absurd (omega arith)
behind_shorter (b ∷ text) some = elim (bool_cases (eqb b 10)) [
  | inl t ↦ rw t (omega arith)
  | inr f ↦ rw f (omega (arith, behind_short text))
]

first_at : (text : List ℕ) → first_line text ≡ take (position_or_len (λ b. eqb b 10) text) text
first_at [] = refl
first_at (b ∷ text) = elim (bool_cases (eqb b 10)) [
  | inl t ↦ rw (place_yes (λ x. eqb x 10) b text t, t) refl
  | inr f ↦ rw (place_no (λ x. eqb x 10) b text f, f) (ap (λ (xs : List ℕ). b ∷ xs) (first_at text))
]

behind_at : (text : List ℕ) → behind_line text ≡ drop (suc (position_or_len (λ b. eqb b 10) text)) text
behind_at [] = refl
behind_at (b ∷ text) = elim (bool_cases (eqb b 10)) [
  | inl t ↦ rw (place_yes (λ x. eqb x 10) b text t, t) refl
  | inr f ↦ rw (place_no (λ x. eqb x 10) b text f, f) (behind_at text)
]

pub line_front : (text : List ℕ) (end : ℕ) → Some end ≡ position (λ b. eqb b 10) text → take end text ≡ first_line text
line_front text end e =
    let at = place_some (λ b. eqb b 10) text end (sym e) in
    ap (λ (n : ℕ). take n text) at.0 ∙ sym (first_at text)

pub line_back : (text later : List ℕ) (end : ℕ) → Some end ≡ position (λ b. eqb b 10) text → later ≡ drop (end + 1) text → later ≡ behind_line text
line_back text later end e is =
    let at = place_some (λ b. eqb b 10) text end (sym e) in
    let plus : end + 1 ≡ suc (position_or_len (λ b. eqb b 10) text) = omega (arith, at.0) in
    is ∙ ap (λ (n : ℕ). drop n text) plus ∙ sym (behind_at text)

pub line_alone : (text : List ℕ) → None ≡ position (λ b. eqb b 10) text → text ≡ first_line text
line_alone text e = sym (first_at text ∙ take_all _ _ (place_none (λ b. eqb b 10) text (sym e)))

pub nothing_behind : (text : List ℕ) → None ≡ position (λ b. eqb b 10) text → [] ≡ behind_line text
nothing_behind text e = sym (behind_at text ∙ drop_all (suc (position_or_len (λ b. eqb b 10) text)) text (let le = place_none (λ b. eqb b 10) text (sym e) in omega (arith, le)))

end_no_c : (b : ℕ) → eqb b 10 ≡ true → false ≡ eqb b 99
end_no_c b t = grind (arith, nat_tests)

pub first_comment : (text : List ℕ) → is_comment (first_line text) ≡ is_comment text
first_comment [] = refl
first_comment (b ∷ text) = elim (bool_cases (eqb b 10)) [
  | inl t ↦ rw t (end_no_c b t)
  | inr f ↦ rw f refl
]

-- the words of a text begin with those of its first line, unless that is a comment
pub text_comment : (number : ℕ) (text : List ℕ) → 0 < length text → is_comment text ≡ true → text_words number (lines text) ≡ text_words (number + 1) (lines (behind_line text))
text_comment number text some told = ap (text_words number) (lines_first text some) ∙ rw (first_comment text ∙ told) refl

pub text_line : (number : ℕ) (text : List ℕ) → 0 < length text → is_comment text ≡ false → text_words number (lines text) ≡ words_on number (words (first_line text)) ++ text_words (number + 1) (lines (behind_line text))
text_line number text some quiet = ap (text_words number) (lines_first text some) ∙ rw (first_comment text ∙ quiet) refl

-- ---- words

or_end : (a : Bool) → not (a || true) ≡ false
or_end true = refl
or_end false = refl

or_none : (a : Bool) → a ≡ false → not (a || false) ≡ true
or_none a e = rw e refl

pub end_not_plain : (b : ℕ) → eqb b 10 ≡ true → is_plain b ≡ false
end_not_plain b e = rw e (or_end (is_between_words b))

blank_not_plain : (b : ℕ) → is_between_words b ≡ true → is_plain b ≡ false
blank_not_plain b e = ap (λ (a : Bool). not (a || eqb b 10)) e

pub others_plain : (b : ℕ) → is_between_words b ≡ false → eqb b 10 ≡ false → is_plain b ≡ true
others_plain b f n = ap (λ (a : Bool). not (a || eqb b 10)) f ∙ ap not n

-- the pieces of the first line: the word in front, and others that are the words behind it
record Pieces (text : List ℕ) : Type 0 where
  others : List (List ℕ)
  cut : slice_split is_between_words (first_line text) ≡ first_word text ∷ others
  words : filter has_bytes others ≡ words (first_line (behind_word text))

pieces : (text : List ℕ) → Pieces text
pieces [] = record { others = []; cut = refl; words = refl }
pieces (b ∷ text) = elim (bool_cases (eqb b 10)) [
  | inl t ↦ record { others = []; cut = rw (end_not_plain b t, t) refl; words = rw (end_not_plain b t, t) refl }
  | inr n ↦ elim (bool_cases (is_between_words b)) [
    | inl t ↦ record { others = slice_split is_between_words (first_line text); cut = rw (blank_not_plain b t, n, t) refl; words = rw (blank_not_plain b t, n, t) refl }
    | inr f ↦
        let later = pieces text in
        record {
          others = later.others;
          cut = rw (others_plain b f n, n, f) (ap (onto_first b) later.cut);
          words = rw (others_plain b f n) later.words;
        }
  ]
]

pub word_ahead : (b : ℕ) (text : List ℕ) → is_plain b ≡ true → words (first_line (b ∷ text)) ≡ first_word (b ∷ text) ∷ words (first_line (behind_word (b ∷ text)))
word_ahead b text p =
    let all = pieces (b ∷ text) in
    ap (filter has_bytes) all.cut ∙ rw p (ap (λ (ws : List (List ℕ)). (b ∷ first_word text) ∷ ws) (rw p at all.words))

pub blank_ahead : (b : ℕ) (text : List ℕ) → is_between_words b ≡ true → eqb b 10 ≡ false → words (first_line (b ∷ text)) ≡ words (first_line text)
blank_ahead b text t n = rw (n, t) refl

plain_no_end : (b : ℕ) → is_plain b ≡ true → eqb b 10 ≡ false
plain_no_end b p = elim (bool_cases (eqb b 10)) [
  | inl t ↦ absurd (let h : true ≡ false = sym p ∙ end_not_plain b t in cc)
  | inr f ↦ f
]

not_end : (b : ℕ) → (b ≡ 10 → ⊥) → eqb b 10 ≡ false
not_end b other = grind (arith, nat_tests)

-- what is read next where a word begins
pub word_next : (number : ℕ) (rest after : List ℕ) (later : List PlacedWord) → 0 < length rest → (get_or rest 0 0 ≡ 10 → ⊥) → is_between_words (get_or rest 0 0) ≡ false → after ≡ behind_word rest
    → words_on number (words (first_line rest)) ++ later ≡ record { line = number; bytes = first_word rest } ∷ (words_on number (words (first_line after)) ++ later)
word_next number [] after later some other plain is = absurd (omega arith)
word_next number (b ∷ rest) after later some other plain is =
    rw is (ap (λ (ws : List (List ℕ)). words_on number ws ++ later) (word_ahead b rest (others_plain b plain (not_end b other))))

pub line_behind_word : (text : List ℕ) → behind_line (behind_word text) ≡ behind_line text
line_behind_word [] = refl
line_behind_word (b ∷ text) = elim (bool_cases (is_plain b)) [
  | inl p ↦ rw (p, plain_no_end b p) (line_behind_word text)
  | inr f ↦ rw f refl
]

-- ---- a word byte by byte

pub in_word : (text : List ℕ) (k : ℕ) → k ≤ length (first_word text) → k < length text → is_plain (get_or text k 0) ≡ true → k < length (first_word text)
in_word [] k le lt p = absurd (omega arith)
in_word (b ∷ text) zero le lt p = rw p (omega arith)
in_word (b ∷ text) (suc k) le lt p = elim (bool_cases (is_plain b)) [
  | inl t ↦
      let le_here : suc k ≤ length (b ∷ first_word text) = rw t at le in
      rw t (omega (arith, in_word text k (omega (arith, le_here)) (omega arith) p))
  | inr f ↦
      let none : suc k ≤ 0 = rw f at le in
      absurd (omega (arith, none))
]

same_at : (text word : List ℕ) (b k : ℕ) → ((j : ℕ) → j < length word → get_or word j 0 ≡ get_or text j 0) → k < length (b ∷ word) → get_or (b ∷ word) k 0 ≡ get_or (b ∷ text) k 0
same_at text word b zero same lt = refl
same_at text word b (suc k) same lt = same k (omega arith)

pub same_byte : (text : List ℕ) (k : ℕ) → k < length (first_word text) → get_or (first_word text) k 0 ≡ get_or text k 0
same_byte [] k lt = absurd (omega arith)
same_byte (b ∷ text) k lt = elim (bool_cases (is_plain b)) [
  | inl t ↦ rw t (same_at text (first_word text) b k (same_byte text) (rw t at lt))
  | inr f ↦
      let none : k < 0 = rw f at lt in
      absurd (omega (arith, none))
]

pub word_length : (text : List ℕ) (k : ℕ) → k ≤ length (first_word text) → (k < length text → is_plain (get_or text k 0) ≡ false) → length (first_word text) ≡ k
word_length [] k le ends = omega arith
word_length (b ∷ text) zero le ends = rw (ends (omega arith)) refl
word_length (b ∷ text) (suc k) le ends = elim (bool_cases (is_plain b)) [
  | inl t ↦
      let le_here : suc k ≤ length (b ∷ first_word text) = rw t at le in
      rw t (let there = word_length text k (omega (arith, le_here)) (λ lt. ends (omega arith)) in omega (arith, there))
  | inr f ↦
      let none : suc k ≤ 0 = rw f at le in
      absurd (omega (arith, none))
]

pub word_behind : (text : List ℕ) → behind_word text ≡ drop (length (first_word text)) text
word_behind [] = refl
word_behind (b ∷ text) = elim (bool_cases (is_plain b)) [
  | inl t ↦ rw t (word_behind text)
  | inr f ↦ rw f refl
]

pub nothing_said : (number : ℕ) (rest : List ℕ) → eqb (length rest) 0 ≡ true → text_words number (lines rest) ≡ []
nothing_said number [] e = refl
nothing_said number (b ∷ rest) e = absurd (let none = eqb-true (length (b ∷ rest)) 0 e in omega (arith, none))

pub no_lines : (rest : List ℕ) → eqb (length rest) 0 ≡ true → lines rest ≡ []
no_lines [] e = refl
no_lines (b ∷ rest) e = absurd (let none = eqb-true (length (b ∷ rest)) 0 e in omega (arith, none))
