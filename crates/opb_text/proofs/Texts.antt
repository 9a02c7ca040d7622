-- A text whose words are those of another one, and then further ones.
use Rattle.std.proofs.Common.{◌≡◌, ℕ, ◌+◌, Bool, true, false, not, eqb, List, [], ◌∷◌, ◌++◌, refl, sym, ap, subst, ◌∙◌, inl, inr}
use Rattle.std.proofs.lemmas.List.{append-nil}
use Rattle.std.proofs.lemmas.List.Concat.{flat_map-cons}
use Rattle.std.specs.List.{list_all, flat_map, slice_split, onto_first}
use Rattle.sat_text.specs.Words.{lines, is_between_words, is_plain, PlacedWord, words_on}
use Rattle.sat_text.proofs.Cuts.{bool_cases}
use Rattle.sat_text.proofs.Again.{and_parts, and_both, joined, IsLine, line_again, plain_line, plain_not_blank, all_append}
use Rattle.opb_text.specs.Grammar.{bare_words}
use Rattle.opb_text.specs.Words.{block_words, with_byte, joins, line_words, is_opb_comment, said_opb_words, opb_text_words, placed_opb_words}

-- a word without blanks and line ends, which isn't cut
pub record IsClean (word : List ℕ) : Type 0 where
  pub plain : list_all is_plain word ≡ true
  pub alone : block_words word ≡ word ∷ []

unfoldable pub AreClean : List (List ℕ) → Type 0
AreClean [] = Unit {0}
AreClean (word ∷ words) = IsClean word × AreClean words

-- ---- what all of some lists have

AllAre : (ℕ → Bool) → List (List ℕ) → Type 0
AllAre p [] = Unit {0}
AllAre p (part ∷ parts) = (list_all p part ≡ true) × AllAre p parts

all_onto : (p : ℕ → Bool) (b : ℕ) (parts : List (List ℕ)) → p b ≡ true → AllAre p parts → AllAre p (onto_first b parts)
unfolding AllAre
all_onto p b [] is all = (and_both (p b) true is refl, tt)
all_onto p b (part ∷ parts) is all = (and_both (p b) (list_all p part) is all.0, all.1)

-- a line has no line end
lines_are : (text : List ℕ) → AllAre (λ b. not (eqb b 10)) (lines text)
unfolding AllAre
lines_are [] = tt
lines_are (b ∷ text) = elim (bool_cases (eqb b 10)) [
  | inl is ↦ subst (AllAre (λ c. not (eqb c 10))) (let e : [] ∷ lines text ≡ lines (b ∷ text) = rw is refl in e) (refl, lines_are text)
  | inr isnt ↦ subst (AllAre (λ c. not (eqb c 10))) (let e : onto_first b (lines text) ≡ lines (b ∷ text) = rw isnt refl in e) (all_onto (λ c. not (eqb c 10)) b (lines text) (ap not isnt) (lines_are text))
]

plain_by : (b : ℕ) → is_between_words b ≡ false → not (eqb b 10) ≡ true → is_plain b ≡ true
plain_by b blank end = rw blank end

-- a block of a line has no blank either
blocks_are : (line : List ℕ) → list_all (λ b. not (eqb b 10)) line ≡ true → AllAre is_plain (slice_split is_between_words line)
unfolding AllAre
blocks_are [] e = (refl, tt)
blocks_are (b ∷ line) e =
    let both = and_parts (not (eqb b 10)) (list_all (λ c. not (eqb c 10)) line) e in
    elim (bool_cases (is_between_words b)) [
      | inl is ↦ subst (AllAre is_plain) (let h : [] ∷ slice_split is_between_words line ≡ slice_split is_between_words (b ∷ line) = rw is refl in h) (refl, blocks_are line both.1)
      | inr isnt ↦ subst (AllAre is_plain) (let h : onto_first b (slice_split is_between_words line) ≡ slice_split is_between_words (b ∷ line) = rw isnt refl in h) (all_onto is_plain b (slice_split is_between_words line) (plain_by b isnt both.0) (blocks_are line both.1))
    ]

-- ---- words are clean

byte_clean : (b : ℕ) → is_plain b ≡ true → IsClean (b ∷ [])
byte_clean b is = record { plain = and_both (is_plain b) true is refl; alone = refl }

with_byte_clean : (b : ℕ) (words : List (List ℕ)) → is_plain b ≡ true → AreClean words → AreClean (with_byte b words)
unfolding AreClean
with_byte_clean b [] is all = (byte_clean b is, tt)
with_byte_clean b (word ∷ later) is all = elim (bool_cases (joins b word)) [
  | inl joined ↦
      let both : AreClean ((b ∷ word) ∷ later) = (
        record {
          plain = and_both (is_plain b) (list_all is_plain word) is all.0.plain;
          alone = ap (with_byte b) all.0.alone ∙ rw joined refl;
        },
        all.1,
      ) in
      rw joined both
  | inr apart ↦
      let both : AreClean ((b ∷ []) ∷ word ∷ later) = (byte_clean b is, all) in
      rw apart both
]

block_clean : (bytes : List ℕ) → list_all is_plain bytes ≡ true → AreClean (block_words bytes)
unfolding AreClean
block_clean [] e = tt
block_clean (b ∷ bytes) e =
    let both = and_parts (is_plain b) (list_all is_plain bytes) e in with_byte_clean b (block_words bytes) both.0 (block_clean bytes both.1)

pub clean_append : (xs ys : List (List ℕ)) → AreClean xs → AreClean ys → AreClean (xs ++ ys)
unfolding AreClean
clean_append [] ys a b = b
clean_append (x ∷ xs) ys a b = (a.0, clean_append xs ys a.1 b)

pub clean_front : (xs ys : List (List ℕ)) → AreClean (xs ++ ys) → AreClean xs
unfolding AreClean
clean_front [] ys a = tt
clean_front (x ∷ xs) ys a = (a.0, clean_front xs ys a.1)

blocks_clean : (blocks : List (List ℕ)) → AllAre is_plain blocks → AreClean (flat_map block_words blocks)
unfolding AllAre AreClean
blocks_clean [] all = tt
blocks_clean (block ∷ blocks) all =
    subst AreClean (sym (flat_map-cons block_words block blocks)) (clean_append (block_words block) (flat_map block_words blocks) (block_clean block all.0) (blocks_clean blocks all.1))

said_clean : (line : List ℕ) → list_all (λ b. not (eqb b 10)) line ≡ true → AreClean (said_opb_words line)
unfolding AreClean
said_clean line e = elim (bool_cases (is_opb_comment line)) [
  | inl is ↦ let none : AreClean [] = tt in rw is none
  | inr isnt ↦ rw isnt (blocks_clean (slice_split is_between_words line) (blocks_are line e))
]

pub bare_append : (xs ys : List PlacedWord) → bare_words (xs ++ ys) ≡ bare_words xs ++ bare_words ys
bare_append [] ys = refl
bare_append (x ∷ xs) ys = ap (λ (ws : List (List ℕ)). x.bytes ∷ ws) (bare_append xs ys)

pub bare_on : (number : ℕ) (words : List (List ℕ)) → bare_words (words_on number words) ≡ words
bare_on number [] = refl
bare_on number (word ∷ words) = ap (λ (ws : List (List ℕ)). word ∷ ws) (bare_on number words)

lines_clean : (number : ℕ) (ls : List (List ℕ)) → AllAre (λ b. not (eqb b 10)) ls → AreClean (bare_words (opb_text_words number ls))
unfolding AllAre AreClean
lines_clean number [] all = tt
lines_clean number (line ∷ ls) all =
    subst AreClean (sym (bare_append (words_on number (said_opb_words line)) (opb_text_words (number + 1) ls)))
    (clean_append (bare_words (words_on number (said_opb_words line))) (bare_words (opb_text_words (number + 1) ls))
    (subst AreClean (sym (bare_on number (said_opb_words line))) (said_clean line all.0)) (lines_clean (number + 1) ls all.1))

-- the words of a text are clean
pub text_clean : (text : List ℕ) → AreClean (bare_words (placed_opb_words text))
text_clean text = lines_clean 1 (lines text) (lines_are text)

-- ---- a text of these words

-- these words on one line, with a space before each
abbrev pub made_text : List (List ℕ) → List ℕ
made_text words = joined words ++ 10 ∷ []

made_line : (words : List (List ℕ)) → AreClean words → IsLine (joined words)
unfolding AreClean
made_line [] clean = refl
made_line (word ∷ words) clean =
    subst IsLine (sym (flat_map-cons (λ w. 32 ∷ w) word words))
    (all_append (λ b. not (eqb b 10)) (32 ∷ word) (joined words) (plain_line word clean.0.plain) (made_line words clean.1))

front_split : (word rest later : List ℕ) (parts : List (List ℕ)) → list_all is_plain word ≡ true → slice_split is_between_words rest ≡ [] ∷ parts → slice_split is_between_words (word ++ rest) ≡ word ∷ parts
front_split [] rest later parts plain e = e
front_split (b ∷ word) rest later parts plain e =
    let both = and_parts (is_plain b) (list_all is_plain word) plain in
    let isnt : is_between_words b ≡ false = plain_not_blank b both.0 in
    rw isnt (ap (onto_first b) (front_split word rest later parts both.1 e))

made_blocks : (words : List (List ℕ)) → AreClean words → slice_split is_between_words (joined words) ≡ [] ∷ words
unfolding AreClean
made_blocks [] clean = refl
made_blocks (word ∷ words) clean =
    ap (slice_split is_between_words) (flat_map-cons (λ w. 32 ∷ w) word words)
    ∙ ap (λ (parts : List (List ℕ)). [] ∷ parts) (front_split word (joined words) [] words clean.0.plain (made_blocks words clean.1))

uncut : (words : List (List ℕ)) → AreClean words → flat_map block_words words ≡ words
unfolding AreClean
uncut [] clean = refl
uncut (word ∷ words) clean =
    flat_map-cons block_words word words
    ∙ ap (λ (ws : List (List ℕ)). ws ++ flat_map block_words words) clean.0.alone
    ∙ ap (λ (ws : List (List ℕ)). word ∷ ws) (uncut words clean.1)

made_words : (words : List (List ℕ)) → AreClean words → line_words (joined words) ≡ words
made_words words clean =
    ap (flat_map block_words) (made_blocks words clean) ∙ flat_map-cons block_words [] words ∙ uncut words clean

no_comment : (words : List (List ℕ)) → is_opb_comment (joined words) ≡ false
no_comment [] = refl
no_comment (word ∷ words) = ap is_opb_comment (flat_map-cons (λ w. 32 ∷ w) word words)

-- clean words are the words of a text
pub made_text_has : (words : List (List ℕ)) → AreClean words → bare_words (placed_opb_words (made_text words)) ≡ words
made_text_has words clean =
    let one : lines (made_text words) ≡ joined words ∷ [] = line_again (joined words) [] (made_line words clean) in
    let said : said_opb_words (joined words) ≡ words = rw (no_comment words) (made_words words clean) in
    ap (λ (ls : List (List ℕ)). bare_words (opb_text_words 1 ls)) one
    ∙ ap (λ (ws : List (List ℕ)). bare_words (words_on 1 ws ++ [])) said
    ∙ ap bare_words (append-nil (words_on 1 words))
    ∙ bare_on 1 words
