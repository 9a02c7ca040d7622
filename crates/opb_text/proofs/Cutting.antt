-- The first word of a line, and what stands behind it.
use Rattle.std.proofs.Common.{◌≡◌, ℕ, suc, zero, ◌+◌, ◌-◌, ◌<◌, ◌≤◌, Bool, true, false, not, eqb, ltb, cond, ◌&&◌, ◌||◌, List, [], ◌∷◌, ◌++◌, length, take, drop, Some, None, refl, sym, ap, subst, ◌∙◌, arith, inl, inr}
use Rattle.std.specs.List.{slice_split, position_or_len, flat_map}
use Rattle.std.specs.Prelude.{position}
use Rattle.std.proofs.lemmas.Bool.{eqb-true, cases_lt}
use Rattle.std.proofs.lemmas.Bool.Decides.{nat_tests}
use Rattle.sat_text.proofs.Again.{and_parts}
use Rattle.std.proofs.lemmas.List.{take-append-drop, take_all, drop_all, length-drop}
use Rattle.std.proofs.lemmas.List.Concat.{flat_map-cons}
use Rattle.sat_text.specs.Words.{is_between_words}
use Rattle.sat_text.proofs.Cuts.{bool_cases, place_none, place_some, place_yes, place_no}
use Rattle.opb_text.specs.Words.{BeginsWord, HasWord, block_words, with_byte, joins, line_words, is_sign_byte, is_whole_sign, is_equals, sign_length, ends_word}

-- ---- tests

pub or_false : (a b : Bool) → (a || b) ≡ false → (a ≡ false) × (b ≡ false)
or_false true b e = absurd cc
or_false false b e = (refl, e)

pub or_none : (a b : Bool) → a ≡ false → b ≡ false → (a || b) ≡ false
or_none true b e f = absurd cc
or_none false b e f = f

-- ---- a line's blocks

-- a line begins with a block, which may be empty
pub record Blocks (line first : List ℕ) (later : List (List ℕ)) : Type 0 where
  pub split : slice_split is_between_words line ≡ first ∷ later

blocks_onto : (b : ℕ) (line first : List ℕ) (later : List (List ℕ)) → is_between_words b ≡ false → Blocks line first later → Blocks (b ∷ line) (b ∷ first) later
blocks_onto b line first later isnt blocks = record { split = rw (isnt, blocks.split) refl }

blocks_after : (b : ℕ) (line : List ℕ) → is_between_words b ≡ true → Blocks (b ∷ line) [] (slice_split is_between_words line)
blocks_after b line is = record { split = rw is refl }

blocks_of : (line : List ℕ) → (first : List ℕ) × (later : List (List ℕ)) × Blocks line first later
blocks_of [] = ([], [], record { split = refl })
blocks_of (b ∷ line) = elim (bool_cases (is_between_words b)) [
  | inl is ↦ ([], slice_split is_between_words line, blocks_after b line is)
  | inr isnt ↦ let r = blocks_of line in (b ∷ r.0, r.1, blocks_onto b line r.0 r.1 isnt r.2)
]

words_by_blocks : (line first : List ℕ) (later : List (List ℕ)) → Blocks line first later → line_words line ≡ block_words first ++ flat_map block_words later
words_by_blocks line first later blocks = ap (flat_map block_words) blocks.split ∙ flat_map-cons block_words first later

pub words_behind_blank : (b : ℕ) (line : List ℕ) → is_between_words b ≡ true → line_words (b ∷ line) ≡ line_words line
words_behind_blank b line is = words_by_blocks (b ∷ line) [] (slice_split is_between_words line) (blocks_after b line is)

-- ---- signs

equals_61 : (b : ℕ) → is_sign_byte b ≡ true → eqb b 62 ≡ false
equals_61 b e = grind (arith, nat_tests)

sign_apart : (b : ℕ) (words : List (List ℕ)) → is_sign_byte b ≡ true → with_byte b words ≡ (b ∷ []) ∷ words
sign_apart b [] e = refl
sign_apart b (word ∷ later) e = let isnt : eqb b 62 ≡ false = equals_61 b e in rw (isnt, e) refl

-- `;` and `=` are words by themselves
sign_word : (b : ℕ) (bytes : List ℕ) → is_sign_byte b ≡ true → block_words (b ∷ bytes) ≡ (b ∷ []) ∷ block_words bytes
sign_word b bytes e = sign_apart b (block_words bytes) e

-- and so is `>=`
pair_word : (bytes : List ℕ) → block_words (62 ∷ 61 ∷ bytes) ≡ (62 ∷ 61 ∷ []) ∷ block_words bytes
pair_word bytes = ap (with_byte 62) (sign_word 61 bytes refl)

-- ---- other words

-- a word that isn't a sign goes on with the first of these bytes
pub record Goes (b : ℕ) (rest : List ℕ) : Type 0 where
  pub no_blank : is_between_words b ≡ false
  pub no_sign : sign_length (b ∷ rest) ≡ 0

no_length : (n : ℕ) → ltb 0 n ≡ false → n ≡ 0
no_length n e = grind (arith, nat_tests)

pub goes_from : (b : ℕ) (rest : List ℕ) → ends_word (b ∷ rest) ≡ false → Goes b rest
goes_from b rest e =
    let both = or_false (is_between_words b) (ltb 0 (sign_length (b ∷ rest))) e in
    record { no_blank = both.0; no_sign = no_length (sign_length (b ∷ rest)) both.1 }

-- all bytes of a word go on, in front of these
abbrev pub Run : List ℕ → List ℕ → Type 0
Run [] rest = Unit {0}
Run (b ∷ word) rest = Goes b (word ++ rest) × Run word rest

chosen_zero : (p : Bool) (n : ℕ) → cond p 1 n ≡ 0 → (p ≡ false) × (n ≡ 0)
chosen_zero true n e = absurd (omega (arith, e))
chosen_zero false n e = (refl, e)

chosen_two : (p : Bool) → ◌≡◌ {A = ℕ} (cond p 2 0) 0 → p ≡ false
chosen_two true e = absurd (omega (arith, e))
chosen_two false e = refl

byte_alone : (b : ℕ) (rest : List ℕ) → sign_length (b ∷ rest) ≡ 0 → is_sign_byte b ≡ false
byte_alone b [] e = (chosen_zero (is_sign_byte b) 0 e).0
byte_alone b (c ∷ rest) e = (chosen_zero (is_sign_byte b) _ e).0

no_pair : (b c : ℕ) (rest : List ℕ) → sign_length (b ∷ c ∷ rest) ≡ 0 → (eqb b 62 && eqb c 61) ≡ false
no_pair b c rest e = chosen_two (eqb b 62 && eqb c 61) (chosen_zero (is_sign_byte b) _ e).1

-- a word whose bytes go on is no sign
run_no_sign : (word rest : List ℕ) → Run word rest → is_whole_sign word ≡ false
run_no_sign [] rest run = refl
run_no_sign (b ∷ []) rest run =
    let both = or_false (eqb b 59) (eqb b 61) (byte_alone b rest run.0.no_sign) in rw (both.0, both.1) refl
run_no_sign (b ∷ c ∷ []) rest run =
    let isnt : (eqb b 62 && eqb c 61) ≡ false = no_pair b c rest run.0.no_sign in rw isnt refl
run_no_sign (b ∷ c ∷ d ∷ word) rest run = refl

-- where a word ends: the block there, whose first word stays apart from a byte that goes on in front of it
pub record Cut (rest : List ℕ) : Type 0 where
  pub first : List ℕ
  pub later : List (List ℕ)
  pub blocks : Blocks rest first later
  pub apart : (b : ℕ) → Goes b rest → with_byte b (block_words first) ≡ (b ∷ []) ∷ block_words first

sign_is : (c : ℕ) → is_sign_byte c ≡ true → is_whole_sign (c ∷ []) ≡ true
sign_is c e = elim (bool_cases (eqb c 59)) [
  | inl is ↦ rw is refl
  | inr isnt ↦
      let other : eqb c 61 ≡ true = sym (ap (λ (p : Bool). p || eqb c 61) isnt) ∙ e in
      rw (isnt, other) refl
]

sign_not_blank : (c : ℕ) → is_sign_byte c ≡ true → is_between_words c ≡ false
sign_not_blank c e = grind (arith, nat_tests)

or_right : (a b : Bool) → b ≡ true → (a || b) ≡ true
or_right true b e = refl
or_right false b e = e

and_no : (a : Bool) → (a && false) ≡ false
and_no true = refl
and_no false = refl

-- a byte and a sign behind it that doesn't join it
not_joined : (b : ℕ) (word : List ℕ) → is_whole_sign word ≡ true → (eqb b 62 && is_equals word) ≡ false → joins b word ≡ false
not_joined b word sign pair = rw (pair, or_right (is_sign_byte b) (is_whole_sign word) sign) refl

cut_at_end : Cut []
cut_at_end = record { first = []; later = []; blocks = record { split = refl }; apart = λ b goes. refl }

cut_at_blank : (c : ℕ) (rest : List ℕ) → is_between_words c ≡ true → Cut (c ∷ rest)
cut_at_blank c rest is = record {
  first = [];
  later = slice_split is_between_words rest;
  blocks = blocks_after c rest is;
  apart = λ b goes. refl;
}

cut_at_sign : (c : ℕ) (rest : List ℕ) → is_sign_byte c ≡ true → Cut (c ∷ rest)
cut_at_sign c rest is =
    let r = blocks_of rest in
    record {
      first = c ∷ r.0;
      later = r.1;
      blocks = blocks_onto c rest r.0 r.1 (sign_not_blank c is) r.2;
      apart = λ b goes.
          let words = sign_word c r.0 is in
          let isnt : joins b (c ∷ []) ≡ false = not_joined b (c ∷ []) (sign_is c is) (no_pair b c rest goes.no_sign) in
          ap (with_byte b) words ∙ rw isnt refl ∙ ap (λ (ws : List (List ℕ)). (b ∷ []) ∷ ws) (sym words);
    }

cut_at_pair : (rest : List ℕ) → Cut (62 ∷ 61 ∷ rest)
cut_at_pair rest =
    let r = blocks_of rest in
    record {
      first = 62 ∷ 61 ∷ r.0;
      later = r.1;
      blocks = blocks_onto 62 (61 ∷ rest) (61 ∷ r.0) r.1 refl (blocks_onto 61 rest r.0 r.1 refl r.2);
      apart = λ b goes.
          let words = pair_word r.0 in
          let isnt : joins b (62 ∷ 61 ∷ []) ≡ false = not_joined b (62 ∷ 61 ∷ []) refl (and_no (eqb b 62)) in
          ap (with_byte b) words ∙ rw isnt refl ∙ ap (λ (ws : List (List ℕ)). (b ∷ []) ∷ ws) (sym words);
    }

bytes_are : (c d : ℕ) → (eqb c 62 && eqb d 61) ≡ true → (c ≡ 62) × (d ≡ 61)
bytes_are c d e =
    let both = and_parts (eqb c 62) (eqb d 61) e in (eqb-true c 62 both.0, eqb-true d 61 both.1)

cut_at_bytes : (c d : ℕ) (rest : List ℕ) → c ≡ 62 → d ≡ 61 → Cut (c ∷ d ∷ rest)
cut_at_bytes c d rest ec ed =
    subst (λ (x : ℕ). Cut (x ∷ d ∷ rest)) (sym ec) (subst (λ (y : ℕ). Cut (62 ∷ y ∷ rest)) (sym ed) (cut_at_pair rest))

true_not_false : {A : Type 0} (b : Bool) → b ≡ true → b ≡ false → A
true_not_false true e f = absurd cc
true_not_false false e f = absurd cc

-- what ends a word is the end of the line, a blank or a sign
cut_at_one : (c : ℕ) → ends_word (c ∷ []) ≡ true → is_between_words c ≡ false → is_sign_byte c ≡ false → Cut (c ∷ [])
cut_at_one c e blank sign = true_not_false (ends_word (c ∷ [])) e (rw (blank, sign) refl)

cut_at_two : (c d : ℕ) (rest : List ℕ) → ends_word (c ∷ d ∷ rest) ≡ true → is_between_words c ≡ false → is_sign_byte c ≡ false → Cut (c ∷ d ∷ rest)
cut_at_two c d rest e blank sign = elim (bool_cases (eqb c 62 && eqb d 61)) [
  | inl pair ↦ let both = bytes_are c d pair in cut_at_bytes c d rest both.0 both.1
  | inr isnt ↦ true_not_false (ends_word (c ∷ d ∷ rest)) e (rw (blank, sign, isnt) refl)
]

cut_at_other : (c : ℕ) (rest : List ℕ) → ends_word (c ∷ rest) ≡ true → is_between_words c ≡ false → is_sign_byte c ≡ false → Cut (c ∷ rest)
cut_at_other c [] e blank sign = cut_at_one c e blank sign
cut_at_other c (d ∷ rest) e blank sign = cut_at_two c d rest e blank sign

cut_at : (rest : List ℕ) → ends_word rest ≡ true → Cut rest
cut_at [] e = cut_at_end
cut_at (c ∷ rest) e = elim (bool_cases (is_between_words c)) [
  | inl is ↦ cut_at_blank c rest is
  | inr blank ↦ elim (bool_cases (is_sign_byte c)) [
    | inl is ↦ cut_at_sign c rest is
    | inr sign ↦ cut_at_other c rest e blank sign
  ]
]

-- a byte in front of a word that goes on
joined_to : (b : ℕ) (word rest : List ℕ) → Goes b (word ++ rest) → Run word rest → joins b word ≡ true
joined_to b word rest goes run =
    let byte : is_sign_byte b ≡ false = byte_alone b (word ++ rest) goes.no_sign in
    let isnt : is_whole_sign word ≡ false = run_no_sign word rest run in
    or_right (eqb b 62 && is_equals word) (not (is_sign_byte b || is_whole_sign word)) (rw (byte, isnt) refl)

-- the block that begins with a word whose bytes go on
record Front (b : ℕ) (word rest : List ℕ) (cut : Cut rest) : Type 0 where
  pub blocks : Blocks (b ∷ word ++ rest) (b ∷ word ++ cut.first) cut.later
  pub words : block_words (b ∷ word ++ cut.first) ≡ (b ∷ word) ∷ block_words cut.first

front_of : (b : ℕ) (word rest : List ℕ) (cut : Cut rest) → Run (b ∷ word) rest → Front b word rest cut
front_of b [] rest cut run = record {
  blocks = blocks_onto b rest cut.first cut.later run.0.no_blank cut.blocks;
  words = cut.apart b run.0;
}
front_of b (c ∷ word) rest cut run =
    let inner = front_of c word rest cut run.1 in
    let joins_it : joins b (c ∷ word) ≡ true = joined_to b (c ∷ word) rest run.0 run.1 in
    record {
      blocks = blocks_onto b (c ∷ word ++ rest) (c ∷ word ++ cut.first) cut.later run.0.no_blank inner.blocks;
      words = ap (with_byte b) inner.words ∙ rw joins_it refl;
    }

word_here : (b : ℕ) (word rest : List ℕ) → Run (b ∷ word) rest → ends_word rest ≡ true → line_words (b ∷ word ++ rest) ≡ (b ∷ word) ∷ line_words rest
word_here b word rest run e =
    let cut = cut_at rest e in
    let front = front_of b word rest cut run in
    words_by_blocks (b ∷ word ++ rest) (b ∷ word ++ cut.first) cut.later front.blocks
    ∙ ap (λ (ws : List (List ℕ)). ws ++ flat_map block_words cut.later) front.words
    ∙ ap (λ (ws : List (List ℕ)). (b ∷ word) ∷ ws) (sym (words_by_blocks rest cut.first cut.later cut.blocks))

-- ---- the word that stands first

word_at_sign : (c : ℕ) (rest : List ℕ) → is_sign_byte c ≡ true → HasWord (c ∷ rest) 1
word_at_sign c rest is =
    let r = blocks_of rest in
    let blocks = blocks_onto c rest r.0 r.1 (sign_not_blank c is) r.2 in
    record {
      some = omega arith;
      within = omega arith;
      words = words_by_blocks (c ∷ rest) (c ∷ r.0) r.1 blocks
          ∙ ap (λ (ws : List (List ℕ)). ws ++ flat_map block_words r.1) (sign_word c r.0 is)
          ∙ ap (λ (ws : List (List ℕ)). (c ∷ []) ∷ ws) (sym (words_by_blocks rest r.0 r.1 r.2));
    }

word_at_pair : (rest : List ℕ) → HasWord (62 ∷ 61 ∷ rest) 2
word_at_pair rest =
    let r = blocks_of rest in
    let blocks = blocks_onto 62 (61 ∷ rest) (61 ∷ r.0) r.1 refl (blocks_onto 61 rest r.0 r.1 refl r.2) in
    record {
      some = omega arith;
      within = omega arith;
      words = words_by_blocks (62 ∷ 61 ∷ rest) (62 ∷ 61 ∷ r.0) r.1 blocks
          ∙ ap (λ (ws : List (List ℕ)). ws ++ flat_map block_words r.1) (pair_word r.0)
          ∙ ap (λ (ws : List (List ℕ)). (62 ∷ 61 ∷ []) ∷ ws) (sym (words_by_blocks rest r.0 r.1 r.2));
    }

word_at_bytes : (c d : ℕ) (rest : List ℕ) → c ≡ 62 → d ≡ 61 → HasWord (c ∷ d ∷ rest) 2
word_at_bytes c d rest ec ed =
    subst (λ (x : ℕ). HasWord (x ∷ d ∷ rest) 2) (sym ec) (subst (λ (y : ℕ). HasWord (62 ∷ y ∷ rest) 2) (sym ed) (word_at_pair rest))

-- the sign that stands first is a word
pub sign_has_word : (rest : List ℕ) → 0 < sign_length rest → HasWord rest (sign_length rest)
sign_has_word [] some = absurd (omega arith)
sign_has_word (c ∷ []) some = elim (bool_cases (is_sign_byte c)) [
  | inl is ↦ subst (HasWord (c ∷ [])) (let e : 1 ≡ sign_length (c ∷ []) = rw is refl in e) (word_at_sign c [] is)
  | inr isnt ↦ absurd (let e : sign_length (c ∷ []) ≡ 0 = rw isnt refl in omega (arith, e, some))
]
sign_has_word (c ∷ d ∷ rest) some = elim (bool_cases (is_sign_byte c)) [
  | inl is ↦ subst (HasWord (c ∷ d ∷ rest)) (let e : 1 ≡ sign_length (c ∷ d ∷ rest) = rw is refl in e) (word_at_sign c (d ∷ rest) is)
  | inr isnt ↦ elim (bool_cases (eqb c 62 && eqb d 61)) [
    | inl pair ↦
        let both = bytes_are c d pair in
        subst (HasWord (c ∷ d ∷ rest)) (let e : 2 ≡ sign_length (c ∷ d ∷ rest) = rw (isnt, pair) refl in e) (word_at_bytes c d rest both.0 both.1)
    | inr not_pair ↦ absurd (let e : sign_length (c ∷ d ∷ rest) ≡ 0 = rw (isnt, not_pair) refl in omega (arith, e, some))
  ]
]

pub goes_at_first : (rest : List ℕ) → BeginsWord rest → sign_length rest ≡ 0 → ends_word rest ≡ false
goes_at_first [] begins none = absurd begins
goes_at_first (b ∷ rest) begins none = rw (begins, none) refl

-- bytes that go on, up to a place
run_up_to : (n : ℕ) (rest : List ℕ) → n ≤ length rest → ((i : ℕ) → i < n → ends_word (drop i rest) ≡ false) → Run (take n rest) (drop n rest)
run_up_to zero rest within on = tt
run_up_to (suc n) [] within on = absurd (omega arith)
run_up_to (suc n) (b ∷ rest) within on =
    let here : ends_word (b ∷ rest) ≡ false = on 0 (omega arith) in
    let whole : take n rest ++ drop n rest ≡ rest = take-append-drop n rest in
    (subst (Goes b) (sym whole) (goes_from b rest here), run_up_to n rest (omega (arith, within)) (λ i lt. on (suc i) (omega arith)))

word_up_to : (n : ℕ) (rest : List ℕ) → n < length rest → ((i : ℕ) → i < suc n → ends_word (drop i rest) ≡ false) → ends_word (drop (suc n) rest) ≡ true → line_words rest ≡ take (suc n) rest ∷ line_words (drop (suc n) rest)
word_up_to n [] within on e = absurd (omega arith)
word_up_to n (b ∷ rest) within on e =
    let run = run_up_to (suc n) (b ∷ rest) (omega (arith, within)) on in
    let whole : take n rest ++ drop n rest ≡ rest = take-append-drop n rest in
    ap (λ (r : List ℕ). line_words (b ∷ r)) (sym whole) ∙ word_here b (take n rest) (drop n rest) run e

-- where bytes go on up to a place, and there a word ends, these bytes are the first word
pub other_has_word : (n : ℕ) (rest : List ℕ) → 0 < n → n ≤ length rest → ((i : ℕ) → i < n → ends_word (drop i rest) ≡ false) → ends_word (drop n rest) ≡ true → HasWord rest n
other_has_word zero rest some within on e = absurd (omega arith)
other_has_word (suc n) rest some within on e = record {
  some = some;
  within = within;
  words = word_up_to n rest (omega arith) on e;
}

-- ---- the place where a word begins

abbrev starts : ℕ → Bool
starts b = not (is_between_words b)

words_from : (line : List ℕ) → line_words line ≡ line_words (drop (position_or_len starts line) line)
words_from [] = refl
words_from (b ∷ line) = elim (bool_cases (is_between_words b)) [
  | inl is ↦ words_behind_blank b line is ∙ words_from line ∙ ap (λ (n : ℕ). line_words (drop n (b ∷ line))) (sym (place_no starts b line (ap not is)))
  | inr isnt ↦ ap (λ (n : ℕ). line_words (drop n (b ∷ line))) (sym (place_yes starts b line (ap not isnt)))
]

-- where no word begins there is none
pub no_word : (line : List ℕ) → None ≡ position starts line → [] ≡ line_words line
no_word line e =
    let past : drop (position_or_len starts line) line ≡ [] = drop_all (position_or_len starts line) line (place_none starts line (sym e)) in
    sym (words_from line ∙ ap line_words past)

first_there : (line : List ℕ) → position_or_len starts line < length line → (b : ℕ) × (rest : List ℕ) × (drop (position_or_len starts line) line ≡ b ∷ rest) × (is_between_words b ≡ false)
first_there [] lt = absurd (omega arith)
first_there (b ∷ line) lt = elim (bool_cases (is_between_words b)) [
  | inl is ↦
      let at = place_no starts b line (ap not is) in
      let r = first_there line (omega (arith, at, lt)) in
      (r.0, r.1, ap (λ (n : ℕ). drop n (b ∷ line)) at ∙ r.2, r.3)
  | inr isnt ↦ (b, line, ap (λ (n : ℕ). drop n (b ∷ line)) (place_yes starts b line (ap not isnt)), isnt)
]

-- what stands from the first byte of a word on
pub record Starts (line rest : List ℕ) : Type 0 where
  pub byte : ℕ
  pub later : List ℕ
  pub is : rest ≡ byte ∷ later
  pub no_blank : is_between_words byte ≡ false
  pub words : line_words line ≡ line_words rest

pub starts_at : (line rest : List ℕ) (start : ℕ) → Some start ≡ position starts line → rest ≡ drop start line → Starts line rest
starts_at line rest start e is =
    let at = place_some starts line start (sym e) in
    let r = first_there line (subst (λ (n : ℕ). n < length line) at.0 at.1) in
    record {
      byte = r.0;
      later = r.1;
      is = is ∙ ap (λ (n : ℕ). drop n line) at.0 ∙ r.2;
      no_blank = r.3;
      words = words_from line ∙ ap (λ (n : ℕ). line_words (drop n line)) (sym at.0) ∙ ap line_words (sym is);
    }

pub begins_word : (line rest : List ℕ) → Starts line rest → BeginsWord rest
begins_word line rest starts = subst BeginsWord (sym starts.is) starts.no_blank

-- a word with what stands before and behind it
pub next_cuts : (line rest word later : List ℕ) (end : ℕ) → Starts line rest → HasWord rest end → word ≡ take end rest → later ≡ drop end rest → line_words line ≡ word ∷ line_words later
next_cuts line rest word later end starts has is behind = starts.words ∙ has.words ∙ rw (is, behind) refl

-- ---- the bytes of the word that stands first

pub begins_some : (rest : List ℕ) → BeginsWord rest → 0 < length rest
begins_some [] begins = absurd begins
begins_some (b ∷ rest) begins = omega arith

pub first_goes : (rest : List ℕ) → BeginsWord rest → sign_length rest ≡ 0 → (i : ℕ) → i < 1 → ends_word (drop i rest) ≡ false
first_goes rest begins none zero lt = goes_at_first rest begins none
first_goes rest begins none (suc i) lt = absurd (omega arith)

-- the code's rest from a place on
pub from_place : (n : ℕ) (rest : List ℕ) → take (length rest - n) (drop n rest) ≡ drop n rest
from_place n rest = let long : length (drop n rest) ≡ length rest - n = length-drop n rest in take_all (length rest - n) (drop n rest) (omega (arith, long))

pub more_goes : (n : ℕ) (rest : List ℕ) (ends : Bool) → ((i : ℕ) → i < n → ends_word (drop i rest) ≡ false) → ends ≡ ends_word (take (length rest - n) (drop n rest)) → ends ≡ false
    → (i : ℕ) → i < n + 1 → ends_word (drop i rest) ≡ false
more_goes n rest ends on is goes i lt = elim (cases_lt i n) [
  | inl before ↦ on i before
  | inr here ↦
      let same : n ≡ i = omega (arith, lt, here) in
      subst (λ (k : ℕ). ends_word (drop k rest) ≡ false) same (ap ends_word (sym (from_place n rest)) ∙ sym is ∙ goes)
]

pub ends_here : (n : ℕ) (rest : List ℕ) (ends : Bool) → ends ≡ ends_word (take (length rest - n) (drop n rest)) → ends ≡ true → ends_word (drop n rest) ≡ true
ends_here n rest ends is e = ap ends_word (sym (from_place n rest)) ∙ sym is ∙ e

pub ends_at_end : (n : ℕ) (rest : List ℕ) → length rest ≤ n → ends_word (drop n rest) ≡ true
ends_at_end n rest le = ap ends_word (drop_all n rest le)
