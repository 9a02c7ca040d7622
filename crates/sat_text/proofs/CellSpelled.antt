-- The test of a cell's name passes what its grammar spells.
use Rattle.std.proofs.Common.{◌≡◌, ℕ, suc, ◌+◌, Bool, true, false, not, eqb, ltb, List, [], ◌∷◌, ◌++◌, length, take, drop, get_or, Option, Some, None, refl, sym, ap, subst, ◌∙◌, length-append, arith, inl, inr}
use Rattle.std.proofs.lemmas.Bool.Decides.{nat_tests}
use Rattle.std.specs.Prelude.{position}
use Rattle.std.specs.List.{list_all, slice_split, position_or_len}
use Rattle.std.proofs.lemmas.Bool.{eqb-true}
use Rattle.std.proofs.lemmas.List.{take-append-drop, drop_all}
use Rattle.std.proofs.lemmas.List.Quantifiers.{position-Some}
use Rattle.std.proofs.Math.Seq.{drop-cons}
use Rattle.sat_text.specs.Notes.{is_free_name, are_wholes, are_indices, is_cell_at, is_cell}
use Rattle.sat_text.specs.NoteGrammar.{IsCell}
use Rattle.sat_text.proofs.Cuts.{place_yes, place_no}
use Rattle.sat_text.proofs.Again.{and_parts, and_both}
use Rattle.sat_text.proofs.CellPlain.{name_without, wholes_without}

-- ---- what passes is spelled

cut : (c : ℕ) (bytes : List ℕ) (place : ℕ) → position (λ b. eqb b c) bytes ≡ Some place → bytes ≡ take place bytes ++ c ∷ drop (place + 1) bytes
cut c bytes place there =
    let found = position-Some (λ b. eqb b c) bytes place 0 there in
    let byte : get_or bytes place 0 ≡ c = eqb-true _ _ found.1 in
    let next : suc place ≡ place + 1 = omega arith in
    let behind : drop place bytes ≡ get_or bytes place 0 ∷ drop (place + 1) bytes
    = subst (λ (k : ℕ). drop place bytes ≡ get_or bytes place 0 ∷ drop k bytes) next (drop-cons bytes place 0 found.0) in
    sym (take-append-drop place bytes) ∙ ap (λ (bs : List ℕ). take place bytes ++ bs) (behind ∙ ap (λ (b : ℕ). b ∷ drop (place + 1) bytes) byte)

indices_sound : (end : Option ℕ) (rest : List ℕ) → end ≡ position (λ b. eqb b 93) rest → are_indices end rest ≡ true → (indices : List ℕ) × (rest ≡ indices ++ 93 ∷ []) × (are_wholes (slice_split (λ b. eqb b 44) indices) ≡ true)
indices_sound None rest is e = absurd cc
indices_sound (Some end) rest is e =
    let parts = and_parts (eqb (end + 1) (length rest)) (are_wholes (slice_split (λ b. eqb b 44) (take end rest))) e in
    let size : end + 1 ≡ length rest = eqb-true _ _ parts.0 in
    (take end rest, cut 93 rest end (sym is) ∙ ap (λ (bs : List ℕ). take end rest ++ 93 ∷ bs) (drop_all (end + 1) rest (omega arith)), parts.1)

at_sound : (start : Option ℕ) (bytes : List ℕ) → start ≡ position (λ b. eqb b 91) bytes → is_cell_at start bytes ≡ true → IsCell bytes
at_sound None bytes is e = inl e
at_sound (Some start) bytes is e =
    let rest = drop (start + 1) bytes in
    let parts = and_parts (is_free_name (take start bytes)) (are_indices (position (λ b. eqb b 93) rest) rest) e in
    let i = indices_sound (position (λ b. eqb b 93) rest) rest refl parts.1 in
    inr
    (record {
      name = take start bytes;
      indices = i.0;
      parts = cut 91 bytes start (sym is) ∙ ap (λ (bs : List ℕ). take start bytes ++ 91 ∷ bs) i.1;
      named = parts.0;
      wholes = i.2;
    })

pub cell_sound : (bytes : List ℕ) → is_cell bytes ≡ true → IsCell bytes
cell_sound bytes e = at_sound (position (λ b. eqb b 91) bytes) bytes refl e

-- ---- what is spelled passes

place_after : (p : ℕ → Bool) (xs : List ℕ) (y : ℕ) (ys : List ℕ) → list_all (λ b. not (p b)) xs ≡ true → p y ≡ true → position_or_len p (xs ++ y ∷ ys) ≡ length xs
place_after p [] y ys all here = place_yes p y ys here
place_after p (x ∷ xs) y ys all here =
    let parts = and_parts (not (p x)) (list_all (λ b. not (p b)) xs) all in
    place_no p x (xs ++ y ∷ ys) (negated (p x) parts.0) ∙ ap suc (place_after p xs y ys parts.1 here)
  where
    negated : (b : Bool) → not b ≡ true → b ≡ false
    negated true e = absurd cc
    negated false e = refl

no_place : (p : ℕ → Bool) (xs : List ℕ) → list_all (λ b. not (p b)) xs ≡ true → position_or_len p xs ≡ length xs
no_place p [] all = refl
no_place p (x ∷ xs) all =
    let parts = and_parts (not (p x)) (list_all (λ b. not (p b)) xs) all in
    place_no p x xs (negated (p x) parts.0) ∙ ap suc (no_place p xs parts.1)
  where
    negated : (b : Bool) → not b ≡ true → b ≡ false
    negated true e = absurd cc
    negated false e = refl

position_after : (p : ℕ → Bool) (xs : List ℕ) (y : ℕ) (ys : List ℕ) → list_all (λ b. not (p b)) xs ≡ true → p y ≡ true → position p (xs ++ y ∷ ys) ≡ Some (length xs)
position_after p xs y ys all here =
    let at = place_after p xs y ys all here in
    let size : length (xs ++ y ∷ ys) ≡ length xs + length (y ∷ ys) = length-append xs (y ∷ ys) in
    let lt : ltb (position_or_len p (xs ++ y ∷ ys)) (length (xs ++ y ∷ ys)) ≡ true = grind (arith, nat_tests, at, size) in
    rw lt (ap (λ (n : ℕ). Some n) at)

no_position : (p : ℕ → Bool) (xs : List ℕ) → list_all (λ b. not (p b)) xs ≡ true → position p xs ≡ None
no_position p xs all =
    let at = no_place p xs all in
    let not_lt : ltb (position_or_len p xs) (length xs) ≡ false = grind (arith, nat_tests, at) in
    rw not_lt refl

take_front : (xs ys : List ℕ) → take (length xs) (xs ++ ys) ≡ xs
take_front [] ys = refl
take_front (x ∷ xs) ys = ap (λ (zs : List ℕ). x ∷ zs) (take_front xs ys)

drop_behind : (xs : List ℕ) (y : ℕ) (ys : List ℕ) → drop (length xs + 1) (xs ++ y ∷ ys) ≡ ys
drop_behind [] y ys = refl
drop_behind (x ∷ xs) y ys =
    let next : suc (length xs) + 1 ≡ suc (length xs + 1) = omega arith in
    ap (λ (n : ℕ). drop n (x ∷ (xs ++ y ∷ ys))) next ∙ drop_behind xs y ys

indices_complete : (indices : List ℕ) → are_wholes (slice_split (λ b. eqb b 44) indices) ≡ true → are_indices (position (λ b. eqb b 93) (indices ++ 93 ∷ [])) (indices ++ 93 ∷ []) ≡ true
indices_complete indices wholes =
    let at = position_after (λ b. eqb b 93) indices 93 [] (wholes_without indices wholes) refl in
    let size : eqb (length indices + 1) (length (indices ++ 93 ∷ [])) ≡ true = grind (arith, nat_tests, length-append indices (93 ∷ [])) in
    let inside : are_wholes (slice_split (λ b. eqb b 44) (take (length indices) (indices ++ 93 ∷ []))) ≡ true = ap (λ (bs : List ℕ). are_wholes (slice_split (λ b. eqb b 44) bs)) (take_front indices (93 ∷ [])) ∙ wholes in
    ap (λ (o : Option ℕ). are_indices o (indices ++ 93 ∷ [])) at ∙ and_both _ _ size inside

pub cell_complete : (bytes : List ℕ) → IsCell bytes → is_cell bytes ≡ true
cell_complete bytes (inl e) = ap (λ (o : Option ℕ). is_cell_at o bytes) (no_position (λ b. eqb b 91) bytes (name_without bytes e)) ∙ e
cell_complete bytes (inr m) =
    let rest = m.indices ++ 93 ∷ [] in
    let whole = m.name ++ 91 ∷ rest in
    let at = position_after (λ b. eqb b 91) m.name 91 rest (name_without m.name m.named) refl in
    let named : is_free_name (take (length m.name) whole) ≡ true = ap is_free_name (take_front m.name (91 ∷ rest)) ∙ m.named in
    let indexed : are_indices (position (λ b. eqb b 93) (drop (length m.name + 1) whole)) (drop (length m.name + 1) whole) ≡ true
    = ap (λ (bs : List ℕ). are_indices (position (λ b. eqb b 93) bs) bs) (drop_behind m.name 91 rest) ∙ indices_complete m.indices m.wholes in
    ap is_cell m.parts ∙ ap (λ (o : Option ℕ). is_cell_at o whole) at ∙ and_both _ _ named indexed
