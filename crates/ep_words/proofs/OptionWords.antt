-- What `clap` sees in a word.
use Rattle.std.proofs.Common.{◌≡◌, ◌≢◌, ℕ, suc, ◌+◌, ◌==◌, Bool, true, false, [], ◌∷◌, ◌++◌, take, drop, Option, Some, None, inl, inr, refl, sym, ap, ap₂, ◌∙◌, arith, subst, ◌⊎◌, cond}
use Rattle.std.specs.List.{after_first, before_first, position_or_len}
use Rattle.std.specs.Str.{bytes_eq}
use Rattle.std.proofs.lemmas.Bool.{cases_Bool, false≢true, true≢false, eqb-true, eqb-false}
use Rattle.clap.specs.Lexer.{has_byte, long_of, name_and_value, short_of}
use Rattle.ep_words.specs.Settings.{BeginsWithDash, Text, option_word}
use Rattle.ep_words.proofs.Splits.{HasNoEquals}
use Rattle.ep_words.specs.Options.{is_fit}

-- ---- a text, cut at its first `=`

abbrev is_equals : ℕ → Bool
is_equals byte = byte == 61

other_byte : (byte : ℕ) → byte ≢ 61 → is_equals byte ≡ false
other_byte byte other =
    elim (cases_Bool (byte == 61)) [
      | inl e ↦ absurd (other (eqb-true byte 61 e))
      | inr e ↦ e
    ]

before_other : (byte : ℕ) (bytes : Text) → is_equals byte ≡ false → before_first is_equals (byte ∷ bytes) ≡ byte ∷ before_first is_equals bytes
before_other byte bytes other =
    let place : position_or_len is_equals (byte ∷ bytes) ≡ suc (position_or_len is_equals bytes) = rw other (omega arith) in
    ap (λ n. take n (byte ∷ bytes)) place

before_none : (text : Text) → HasNoEquals text → before_first is_equals text ≡ text
before_none [] lacks = refl
before_none (byte ∷ bytes) lacks = before_other byte bytes (other_byte byte lacks.0) ∙ ap (λ bs. byte ∷ bs) (before_none bytes lacks.1)

has_none : (text : Text) → HasNoEquals text → has_byte 61 text ≡ false
has_none [] lacks = refl
has_none (byte ∷ bytes) lacks = rw (other_byte byte lacks.0) (has_none bytes lacks.1)

before_one : (name value : Text) → HasNoEquals name → before_first is_equals (name ++ 61 ∷ value) ≡ name
before_one [] value lacks = refl
before_one (byte ∷ bytes) value lacks = before_other byte (bytes ++ 61 ∷ value) (other_byte byte lacks.0) ∙ ap (λ bs. byte ∷ bs) (before_one bytes value lacks.1)

has_one : (name value : Text) → HasNoEquals name → has_byte 61 (name ++ 61 ∷ value) ≡ true
has_one [] value lacks = refl
has_one (byte ∷ bytes) value lacks = rw (other_byte byte lacks.0) (has_one bytes value lacks.1)

after_other : (byte : ℕ) (bytes : Text) → is_equals byte ≡ false → after_first is_equals (byte ∷ bytes) ≡ after_first is_equals bytes
after_other byte bytes other =
    let place : position_or_len is_equals (byte ∷ bytes) + 1 ≡ suc (position_or_len is_equals bytes + 1) = rw other (omega arith) in
    ap (λ n. drop n (byte ∷ bytes)) place

after_one : (name value : Text) → HasNoEquals name → after_first is_equals (name ++ 61 ∷ value) ≡ value
after_one [] value lacks = refl
after_one (byte ∷ bytes) value lacks = after_other byte (bytes ++ 61 ∷ value) (other_byte byte lacks.0) ∙ after_one bytes value lacks.1

abbrev parts_by : Text → Text → Bool → Text × Option Text
parts_by before after has = (before, cond has (Some after) None)

-- a name without a `=`
pub parts_alone : (name : Text) → HasNoEquals name → name_and_value name ≡ (name, None)
parts_alone name lacks =
    ap₂ (λ before has. parts_by before (after_first is_equals name) has) (before_none name lacks) (has_none name lacks)

-- a name before a `=`
pub parts_given : (name value : Text) → HasNoEquals name → name_and_value (name ++ 61 ∷ value) ≡ (name, Some value)
parts_given name value lacks =
    ap₂ (λ before has. parts_by before (after_first is_equals (name ++ 61 ∷ value)) has) (before_one name value lacks) (has_one name value lacks)
    ∙ ap (λ after. parts_by name after true) (after_one name value lacks)

-- what a text without a `=`, or with one, is made of
whole_alone : (text : Text) → has_byte 61 text ≡ false → text ≡ before_first is_equals text
whole_alone [] none = refl
whole_alone (byte ∷ bytes) none =
    elim (cases_Bool (is_equals byte)) [
      | inl e ↦ absurd (true≢false (rw e at none))
      | inr e ↦ ap (λ bs. byte ∷ bs) (whole_alone bytes (rw e at none)) ∙ sym (before_other byte bytes e)
    ]

whole_given : (text : Text) → has_byte 61 text ≡ true → text ≡ before_first is_equals text ++ 61 ∷ after_first is_equals text
whole_given [] one = absurd (false≢true one)
whole_given (byte ∷ bytes) one =
    elim (cases_Bool (is_equals byte)) [
      | inl e ↦ rw e (ap (λ b. b ∷ bytes) (eqb-true byte 61 e))
      | inr e ↦
          let rest = whole_given bytes (rw e at one) in
          ap (λ bs. byte ∷ bs) rest ∙ ap₂ (λ b a. b ++ 61 ∷ a) (sym (before_other byte bytes e)) (sym (after_other byte bytes e))
    ]

-- the text is the name, or the name, a `=` and the value
abbrev pub IsWhole : Text → Text → Option Text → Type 0
IsWhole text name None = text ≡ name
IsWhole text name (Some value) = text ≡ name ++ 61 ∷ value

own_parts : (text : Text) → IsWhole text (name_and_value text).0 (name_and_value text).1
own_parts text =
    elim (cases_Bool (has_byte 61 text)) [
      | inl e ↦ rw e (whole_given text e)
      | inr e ↦ rw e (whole_alone text e)
    ]

pub parts_whole : (text name : Text) (given : Option Text) → name_and_value text ≡ (name, given) → IsWhole text name given
parts_whole text name given parts = subst (λ (p : Text × Option Text). IsWhole text p.0 p.1) parts (own_parts text)

-- ---- words

-- a word that doesn't begin with `-`
pub record IsPlain (word : Text) : Type 0 where
  pub long : long_of word ≡ None
  pub short : short_of word ≡ None
  pub alone : bytes_eq word (45 ∷ 45 ∷ []) ≡ false
  pub bare : ¬ BeginsWithDash word

-- a word that begins with `--` and goes on
pub record IsLong (word : Text) : Type 0 where
  pub first : ℕ
  pub rest : Text
  pub is : word ≡ option_word (first ∷ rest)

plain_is : (byte : ℕ) (bytes : Text) → (byte == 45) ≡ false → IsPlain (byte ∷ bytes)
plain_is byte bytes other = record {
  long = rw other refl;
  short = rw other refl;
  alone = rw other refl;
  bare = eqb-false byte 45 other;
}

long_is : (first second third : ℕ) (rest : Text) → first ≡ 45 → second ≡ 45 → IsLong (first ∷ second ∷ third ∷ rest)
long_is first second third rest one two = record { first = third; rest = rest; is = ap₂ (λ a b. a ∷ b ∷ third ∷ rest) one two }

pub fit_is : (word : Text) → is_fit word ≡ true → IsPlain word ⊎ IsLong word
fit_is [] fit = inl (record { long = refl; short = refl; alone = refl; bare = λ none. none })
fit_is (first ∷ []) fit =
    elim (cases_Bool (first == 45)) [
      | inl e ↦ absurd (false≢true (rw e at fit))
      | inr e ↦ inl (plain_is first [] e)
    ]
fit_is (first ∷ second ∷ []) fit =
    elim (cases_Bool (first == 45)) [
      | inl e ↦ absurd (false≢true (rw e at fit))
      | inr e ↦ inl (plain_is first (second ∷ []) e)
    ]
fit_is (first ∷ second ∷ third ∷ rest) fit =
    elim (cases_Bool (first == 45)) [
      | inl e ↦ inr (long_is first second third rest (eqb-true first 45 e) (eqb-true second 45 (rw e at fit)))
      | inr e ↦ inl (plain_is first (second ∷ third ∷ rest) e)
    ]

other_than_dash : (byte : ℕ) → (byte ≡ 45 → ⊥) → (byte == 45) ≡ false
other_than_dash byte other =
    elim (cases_Bool (byte == 45)) [
      | inl e ↦ absurd (other (eqb-true byte 45 e))
      | inr e ↦ e
    ]

pub plain_fits : (word : Text) → ¬ BeginsWithDash word → is_fit word ≡ true
plain_fits [] bare = refl
plain_fits (first ∷ []) bare = rw (other_than_dash first bare) refl
plain_fits (first ∷ second ∷ []) bare = rw (other_than_dash first bare) refl
plain_fits (first ∷ second ∷ third ∷ rest) bare = rw (other_than_dash first bare) refl
