-- Texts of a list by their length, and the reserved words by theirs.
use Rattle.std.proofs.Common.{◌≡◌, ℕ, ⊎_elim, Bool, true, false, ◌&&◌, ◌||◌, List, [], ◌∷◌, ◌++◌, length, refl, sym, ap, subst, ◌∙◌, filter}
use Rattle.std.specs.Prelude.{◌==◌, nat_lt, bytes_eq}
use Rattle.std.specs.List.{list_all}
use Rattle.std.proofs.Math.Bool.{or-false}
use Rattle.std.proofs.lemmas.Bool.{cases_Bool, eqb-true, eqb-false, eq-eqb, false_from_ne_true, false≢true, and_parts, or_cases}
use Rattle.std.proofs.lemmas.List.Folds.{list_any-append}
use Rattle.std.proofs.lemmas.Slice.Eq.{bytes_eq-Decides}
use Rattle.ep_base.specs.TokenTexts.{is_one_of, is_word, reserved_words, language_name}

-- the texts of a length
abbrev pub of_length : ℕ → List (List ℕ) → List (List ℕ)
of_length n texts = filter (λ text. length text == n) texts

or_in : (l b r : Bool) → (b ≡ true → l ≡ true) → (b || (l && r)) ≡ (l && (b || r))
or_in true b r h = refl
or_in false true r h = sym (h refl)
or_in false false r h = refl

or_out : (l b r : Bool) → (l ≡ true → b ≡ false) → (l && r) ≡ (l && (b || r))
or_out true b r h = rw (h refl) refl
or_out false b r h = refl

-- equal bytes are as many
bytes_eq-length : (xs ys : List ℕ) → bytes_eq xs ys ≡ true → length xs ≡ length ys
bytes_eq-length xs ys e = ap length ((bytes_eq-Decides xs ys).0 e)

-- a text stands among the texts of a length exactly where it has that length and stands among them all
pub is_one_of-of_length : (n : ℕ) (texts : List (List ℕ)) (text : List ℕ) → is_one_of (of_length n texts) text ≡ (length text == n && is_one_of texts text)
is_one_of-of_length n [] text = elim (length text == n) as (λ b. false ≡ (b && false)) [ true ↦ refl | false ↦ refl ]
is_one_of-of_length n (t ∷ ts) text =
    let again = is_one_of-of_length n ts text in
    ⊎_elim
    (λ (e : (length t == n) ≡ true). rw e (rw again (or_in (length text == n) (bytes_eq t text) (is_one_of ts text) (λ same. eq-eqb _ _ (sym (bytes_eq-length t text same) ∙ eqb-true _ _ e)))))
    (λ (e : (length t == n) ≡ false). rw e (rw again (or_out (length text == n) (bytes_eq t text) (is_one_of ts text) (λ long. false_from_ne_true _ (λ same. eqb-false _ _ e (bytes_eq-length t text same ∙ eqb-true _ _ long))))))
    (cases_Bool (length t == n))

-- a text that stands in a list passes each test that all texts of the list pass
pub is_one_of-passes : (passes : List ℕ → Bool) (texts : List (List ℕ)) (text : List ℕ) → list_all passes texts ≡ true → is_one_of texts text ≡ true → passes text ≡ true
is_one_of-passes passes [] text all e = absurd (false≢true e)
is_one_of-passes passes (t ∷ ts) text all e =
    let parts = and_parts (passes t) (list_all passes ts) all in
    ⊎_elim
    (λ (same : bytes_eq t text ≡ true). subst (λ x. passes x ≡ true) ((bytes_eq-Decides t text).0 same) parts.0)
    (λ (later : is_one_of ts text ≡ true). is_one_of-passes passes ts text parts.1 later)
    (or_cases (bytes_eq t text) (is_one_of ts text) e)

-- so one that fails the test doesn't stand there
pub is_one_of-fails : (passes : List ℕ → Bool) (texts : List (List ℕ)) (text : List ℕ) → list_all passes texts ≡ true → passes text ≡ false → is_one_of texts text ≡ false
is_one_of-fails passes texts text all e =
    false_from_ne_true _ (λ found. false≢true (sym e ∙ is_one_of-passes passes texts text all found))

-- the reserved words and the name of the language
abbrev pub words : List (List ℕ)
words = reserved_words ++ language_name ∷ []

pub is_word-is : (text : List ℕ) → is_word text ≡ is_one_of words text
unfolding is_word
is_word-is text =
    let e = list_any-append (λ word. bytes_eq word text) reserved_words (language_name ∷ []) in
    rw e (ap (λ b. is_one_of reserved_words text || b) (sym (or-false (bytes_eq language_name text))))

-- a text is a word exactly where it is one of the words of its length
pub is_word-of_length : (n : ℕ) (text : List ℕ) (r : Bool) → length text ≡ n → r ≡ is_one_of (of_length n words) text → r ≡ is_word text
is_word-of_length n text r long e =
    e ∙ is_one_of-of_length n words text ∙ ap (λ b. b && is_one_of words text) (eq-eqb _ _ long) ∙ sym (is_word-is text)

-- each word has from two to ten bytes
abbrev pub has_word_length : List ℕ → Bool
has_word_length text = nat_lt 1 (length text) && nat_lt (length text) 11

pub no_word-of_length : (text : List ℕ) → has_word_length text ≡ false → is_word text ≡ false
no_word-of_length text e = is_word-is text ∙ is_one_of-fails has_word_length words text refl e
