-- The name of a cell has no blank and no line end.
use Rattle.std.proofs.Common.{◌≡◌, ℕ, suc, ◌+◌, ◌<◌, Bool, true, false, ◌&&◌, not, eqb, List, [], ◌∷◌, length, take, drop, get_or, Option, Some, None, refl, sym, subst, ◌∙◌, arith, inl, inr}
use Rattle.std.specs.Prelude.{position, is_some}
use Rattle.std.specs.Option.{option_map}
use Rattle.std.specs.List.{list_all, slice_split, onto_first}
use Rattle.std.specs.Char.{is_ascii_digit}
use Rattle.std.proofs.lemmas.Bool.{eqb-true}
use Rattle.std.proofs.lemmas.List.{take-append-drop, drop_all}
use Rattle.std.proofs.lemmas.List.Quantifiers.{position-Some}
use Rattle.std.proofs.Math.Seq.{drop-cons}
use Rattle.ep_base.specs.TokenTexts.{begins_name, continues_name, is_name, is_word}
use Rattle.sat_text.specs.Words.{is_plain}
use Rattle.sat_text.specs.Numbers.{are_digits, natural_of, whole_of}
use Rattle.sat_text.specs.Notes.{is_free_name, are_wholes, are_indices, is_cell_at, is_cell}
use Rattle.sat_text.proofs.Cuts.{bool_cases}
use Rattle.sat_text.proofs.Again.{and_parts, and_both, all_append}

not_byte : (p : ℕ → Bool) (b c : ℕ) → p c ≡ false → p b ≡ true → eqb b c ≡ false
not_byte p b c fails passes = elim (bool_cases (eqb b c)) [
  | inl t ↦ absurd (let both : p c ≡ true = subst (λ (x : ℕ). p x ≡ true) (eqb-true _ _ t) passes in let none : true ≡ false = sym both ∙ fails in cc)
  | inr f ↦ f
]

-- a test that fails at the blanks and at the line end passes plain bytes alone
plain_by : (p : ℕ → Bool) → p 32 ≡ false → p 9 ≡ false → p 13 ≡ false → p 10 ≡ false → (b : ℕ) → p b ≡ true → is_plain b ≡ true
plain_by p space tab carriage end b h = rw (not_byte p b 32 space h, not_byte p b 9 tab h, not_byte p b 13 carriage h, not_byte p b 10 end h) refl

all_by : {X : Type 0} (p q : X → Bool) → ((x : X) → p x ≡ true → q x ≡ true) → (xs : List X) → list_all p xs ≡ true → list_all q xs ≡ true
all_by p q h [] e = refl
all_by p q h (x ∷ xs) e =
    let parts = and_parts (p x) (list_all p xs) e in
    and_both (q x) (list_all q xs) (h x parts.0) (all_by p q h xs parts.1)

name_plain : (word : List ℕ) → is_free_name word ≡ true → list_all is_plain word ≡ true
name_plain [] e = refl
name_plain (b ∷ word) e =
    let formed = and_parts (is_name (b ∷ word)) (not (is_word (b ∷ word))) e in
    let parts = and_parts (begins_name b) (list_all continues_name word) formed.0 in
    and_both (is_plain b) (list_all is_plain word) (plain_by begins_name refl refl refl refl b parts.0)
    (all_by continues_name is_plain (plain_by continues_name refl refl refl refl) word parts.1)

some_map : {X Y : Type 0} (f : X → Y) (o : Option X) → is_some (option_map f o) ≡ is_some o
some_map f None = refl
some_map f (Some x) = refl

digits_some : (word : List ℕ) → is_some (natural_of word) ≡ true → list_all is_ascii_digit word ≡ true
digits_some word e = elim (bool_cases (are_digits word)) [
  | inl t ↦ (and_parts (list_all is_ascii_digit word) _ t).0
  | inr f ↦ absurd (let none : false ≡ true = rw f at e in cc)
]

-- what is true of digits, of `-` and of `,` is true of the bytes of whole numbers between commas
record HoldsOfNumbers (q : ℕ → Bool) : Type 0 where
  digits : (b : ℕ) → is_ascii_digit b ≡ true → q b ≡ true
  minus : q 45 ≡ true
  comma : q 44 ≡ true

whole_by : (q : ℕ → Bool) → HoldsOfNumbers q → (piece : List ℕ) → is_some (whole_of piece) ≡ true → list_all q piece ≡ true
whole_by q holds [] e = refl
whole_by q holds (b ∷ word) e = elim (bool_cases (eqb b 45)) [
  | inl t ↦
      let here : is_some (natural_of word) ≡ true = sym (some_map _ (natural_of word)) ∙ rw t at e in
      and_both (q b) (list_all q word) (subst (λ (x : ℕ). q x ≡ true) (sym (eqb-true _ _ t)) holds.minus) (all_by is_ascii_digit q holds.digits word (digits_some word here))
  | inr f ↦
      let here : is_some (natural_of (b ∷ word)) ≡ true = sym (some_map _ (natural_of (b ∷ word))) ∙ rw f at e in
      all_by is_ascii_digit q holds.digits (b ∷ word) (digits_some (b ∷ word) here)
]

onto_by : (q : ℕ → Bool) (b : ℕ) (pieces : List (List ℕ)) → list_all (list_all q) (onto_first b pieces) ≡ true → (q b ≡ true) × (list_all (list_all q) pieces ≡ true)
onto_by q b [] e = ((and_parts (q b) true (and_parts (q b && true) true e).0).0, refl)
onto_by q b (piece ∷ pieces) e =
    let outer = and_parts (q b && list_all q piece) (list_all (list_all q) pieces) e in
    let inner = and_parts (q b) (list_all q piece) outer.0 in
    (inner.0, and_both (list_all q piece) (list_all (list_all q) pieces) inner.1 outer.1)

pieces_by : (q : ℕ → Bool) → HoldsOfNumbers q → (bytes : List ℕ) → list_all (list_all q) (slice_split (λ b. eqb b 44) bytes) ≡ true → list_all q bytes ≡ true
pieces_by q holds [] e = refl
pieces_by q holds (b ∷ bytes) e = elim (bool_cases (eqb b 44)) [
  | inl t ↦ and_both (q b) (list_all q bytes) (subst (λ (x : ℕ). q x ≡ true) (sym (eqb-true _ _ t)) holds.comma) (pieces_by q holds bytes (rw t at e))
  | inr f ↦
      let parts = onto_by q b (slice_split (λ c. eqb c 44) bytes) (rw f at e) in
      and_both (q b) (list_all q bytes) parts.0 (pieces_by q holds bytes parts.1)
]

wholes_by : (q : ℕ → Bool) → HoldsOfNumbers q → (bytes : List ℕ) → are_wholes (slice_split (λ b. eqb b 44) bytes) ≡ true → list_all q bytes ≡ true
wholes_by q holds bytes e = pieces_by q holds bytes (all_by (λ piece. is_some (whole_of piece)) (list_all q) (whole_by q holds) (slice_split (λ b. eqb b 44) bytes) e)

plain_numbers : HoldsOfNumbers is_plain
plain_numbers = record { digits = plain_by is_ascii_digit refl refl refl refl; minus = refl; comma = refl }

pub whole_plain : (piece : List ℕ) → is_some (whole_of piece) ≡ true → list_all is_plain piece ≡ true
whole_plain piece e = whole_by is_plain plain_numbers piece e

wholes_plain : (bytes : List ℕ) → are_wholes (slice_split (λ b. eqb b 44) bytes) ≡ true → list_all is_plain bytes ≡ true
wholes_plain bytes e = wholes_by is_plain plain_numbers bytes e

-- ---- bytes that a name and an index don't have

-- no name has an opening bracket
pub name_without : (word : List ℕ) → is_free_name word ≡ true → list_all (λ b. not (eqb b 91)) word ≡ true
name_without [] e = refl
name_without (b ∷ word) e =
    let formed = and_parts (is_name (b ∷ word)) (not (is_word (b ∷ word))) e in
    let parts = and_parts (begins_name b) (list_all continues_name word) formed.0 in
    and_both (not (eqb b 91)) (list_all (λ x. not (eqb x 91)) word) (rw (not_byte begins_name b 91 refl parts.0) refl)
    (all_by continues_name (λ x. not (eqb x 91)) (λ x h. rw (not_byte continues_name x 91 refl h) refl) word parts.1)

-- no index has a closing bracket
pub wholes_without : (bytes : List ℕ) → are_wholes (slice_split (λ b. eqb b 44) bytes) ≡ true → list_all (λ b. not (eqb b 93)) bytes ≡ true
wholes_without bytes e =
    wholes_by (λ b. not (eqb b 93)) (record { digits = λ b h. rw (not_byte is_ascii_digit b 93 refl h) refl; minus = refl; comma = refl }) bytes e

-- what stands before a byte, the byte, and what stands behind it
cut_plain : (c : ℕ) (bytes : List ℕ) (place : ℕ) → position (λ b. eqb b c) bytes ≡ Some place → is_plain c ≡ true → list_all is_plain (take place bytes) ≡ true → list_all is_plain (drop (place + 1) bytes) ≡ true
    → list_all is_plain bytes ≡ true
cut_plain c bytes place there plain front back =
    let found = position-Some (λ b. eqb b c) bytes place 0 there in
    let within : place < length bytes = found.0 in
    let byte : get_or bytes place 0 ≡ c = eqb-true _ _ found.1 in
    let next : suc place ≡ place + 1 = omega arith in
    let cut : drop place bytes ≡ get_or bytes place 0 ∷ drop (place + 1) bytes
    = subst (λ (k : ℕ). drop place bytes ≡ get_or bytes place 0 ∷ drop k bytes) next (drop-cons bytes place 0 within) in
    let rest : list_all is_plain (drop place bytes) ≡ true
    = subst (λ (bs : List ℕ). list_all is_plain bs ≡ true) (sym cut)
    (and_both (is_plain (get_or bytes place 0)) (list_all is_plain (drop (place + 1) bytes)) (subst (λ (x : ℕ). is_plain x ≡ true) (sym byte) plain) back) in
    subst (λ (bs : List ℕ). list_all is_plain bs ≡ true) (take-append-drop place bytes) (all_append is_plain (take place bytes) (drop place bytes) front rest)

indices_plain : (end : Option ℕ) (bytes : List ℕ) → end ≡ position (λ b. eqb b 93) bytes → are_indices end bytes ≡ true → list_all is_plain bytes ≡ true
indices_plain None bytes is e = absurd cc
indices_plain (Some end) bytes is e =
    let parts = and_parts (eqb (end + 1) (length bytes)) (are_wholes (slice_split (λ b. eqb b 44) (take end bytes))) e in
    let size : end + 1 ≡ length bytes = eqb-true _ _ parts.0 in
    cut_plain 93 bytes end (sym is) refl (wholes_plain (take end bytes) parts.1)
    (subst (λ (bs : List ℕ). list_all is_plain bs ≡ true) (sym (drop_all (end + 1) bytes (omega arith))) refl)

cell_at_plain : (start : Option ℕ) (bytes : List ℕ) → start ≡ position (λ b. eqb b 91) bytes → is_cell_at start bytes ≡ true → list_all is_plain bytes ≡ true
cell_at_plain None bytes is e = name_plain bytes e
cell_at_plain (Some start) bytes is e =
    let rest = drop (start + 1) bytes in
    let parts = and_parts (is_free_name (take start bytes)) (are_indices (position (λ b. eqb b 93) rest) rest) e in
    cut_plain 91 bytes start (sym is) refl (name_plain (take start bytes) parts.0) (indices_plain (position (λ b. eqb b 93) rest) rest refl parts.1)

pub cell_plain : (cell : List ℕ) → is_cell cell ≡ true → list_all is_plain cell ≡ true
cell_plain cell e = cell_at_plain (position (λ b. eqb b 91) cell) cell refl e
