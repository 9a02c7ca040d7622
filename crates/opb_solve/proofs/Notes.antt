-- The notes of variables, and what they tell.
use Rattle.std.proofs.Common.{◌≡◌, ◌↔◌, ℕ, zero, suc, ◌<◌, ◌^◌, ℤ, pos, Bool, true, false, List, [], ◌∷◌, ◌++◌, length, map, drop, refl, sym, ap, subst, ◌∙◌, arith, slice_index_or}
use Rattle.std.specs.Prelude.{unsigned_abs}
use Rattle.std.specs.List.{All, Contains}
use Rattle.std.proofs.lemmas.Int.{ints}
use Rattle.std.proofs.lemmas.List.{append-nil}
use Rattle.std.proofs.lemmas.List.Concat.{flat_map-cons}
use Rattle.std.proofs.lemmas.List.Elements.{All-cons, All-head, All-nil, All-tail}
use Rattle.cnf_core.specs.Events.{Note}
use Rattle.enc_var.specs.Decoding.{VariableLiterals, literal_of_note}
use Rattle.enc_var.specs.Layouts.{literals_at}
use Rattle.enc_var.specs.Notes.{cell_notes, cell_text, indices_text, notes_of_cell}
use Rattle.ep_answer.specs.Answered.{AllTell}
use Rattle.ep_base.specs.Numbers.{of_bool}
use Rattle.ep_ground.specs.declared.cells.Cell.{Cell}
use Rattle.opb_solve.specs.Logged.{TellTruths, both_values, noted_pair, named_values_of, variable_name}
use Rattle.opb_solve.specs.Meant.{AreCellsOf, IsCellOf, numbers_in}
use Rattle.opb_text.specs.Flats.{truth_domains, truth_numbers}
use Rattle.sat_text.specs.NoteGrammar.{IsCell}
use Rattle.sat_text.specs.Writing.{IsReadableNote}

-- ---- notes

-- the note that a variable has a value, where this is the place of its flat variable
pub note_at : List VariableLiterals → ℕ → ℕ → ℤ → Note
note_at layout var x v = record { cell = variable_name var; value = v; lit = literal_of_note (literals_at layout x) v }

-- the notes of variables, where these are the places of their flat variables
pub two_each : List VariableLiterals → List ℕ → List ℕ → List Note
two_each layout [] xs = []
two_each layout (var ∷ vars) [] = []
two_each layout (var ∷ vars) (x ∷ xs) = note_at layout var x (pos 0) ∷ note_at layout var x (pos 1) ∷ two_each layout vars xs

cell_is : (var : ℕ) (one : Cell) → IsCellOf var one → cell_text one ≡ variable_name var
unfolding cell_text indices_text
cell_is var one h = ap (λ (ns : List ℤ). one.name ++ indices_text ns) h.indices ∙ append-nil one.name ∙ h.name

cell_noted : (layout : List VariableLiterals) (var : ℕ) (one : Cell) (x : ℕ) → IsCellOf var one → notes_of_cell layout one x ≡ note_at layout var x (pos 0) ∷ note_at layout var x (pos 1) ∷ []
unfolding notes_of_cell note_at
cell_noted layout var one x h =
    ap (λ (vs : List ℤ). map {B = Note} (λ v. record { cell = cell_text one; value = v; lit = literal_of_note (literals_at layout x) v }) vs) h.values
    ∙ ap (λ (name : List ℕ). map {B = Note} (λ v. record { cell = name; value = v; lit = literal_of_note (literals_at layout x) v }) truth_numbers) (cell_is var one h)

pub notes_are : (layout : List VariableLiterals) (vars : List ℕ) (ones : List Cell) (xs : List ℕ) → AreCellsOf vars ones → length xs ≡ length vars → cell_notes layout ones xs ≡ two_each layout vars xs
unfolding cell_notes two_each note_at
notes_are layout [] [] xs are long = refl
notes_are layout [] (one ∷ ones) xs are long = absurd are
notes_are layout (var ∷ vars) [] xs are long = absurd are
notes_are layout (var ∷ vars) (one ∷ ones) [] are long = absurd (omega (arith, long))
notes_are layout (var ∷ vars) (one ∷ ones) (x ∷ xs) are long =
    ap (λ (ns : List Note). ns ++ cell_notes layout ones xs) (cell_noted layout var one x are.0)
    ∙ ap (λ (ns : List Note). note_at layout var x (pos 0) ∷ note_at layout var x (pos 1) ∷ ns) (notes_are layout vars ones xs are.1 (omega (arith, long)))

pub two_named : (layout : List VariableLiterals) (vars xs : List ℕ) → length xs ≡ length vars → map noted_pair (two_each layout vars xs) ≡ named_values_of vars
unfolding two_each note_at
two_named layout [] xs long = refl
two_named layout (var ∷ vars) [] long = absurd (omega (arith, long))
two_named layout (var ∷ vars) (x ∷ xs) long =
    ap (λ (ns : List (List ℕ × ℤ)). (variable_name var, pos 0) ∷ (variable_name var, pos 1) ∷ ns) (two_named layout vars xs (omega (arith, long)))
    ∙ sym (flat_map-cons both_values var vars)

-- ---- what notes tell

truth_false : (b : Bool) → (pos 0 ≡ of_bool b) ↔ (b ≡ false)
unfolding of_bool
truth_false true = (λ e. absurd (omega (arith, ints, e)), λ e. absurd cc)
truth_false false = (λ e. refl, λ e. refl)

truth_true : (b : Bool) → (pos 1 ≡ of_bool b) ↔ (b ≡ true)
unfolding of_bool
truth_true true = (λ e. refl, λ e. refl)
truth_true false = (λ e. absurd (omega (arith, ints, e)), λ e. absurd cc)

iff_through : {P Q R : Type 0} → P ↔ Q → Q ↔ R → P ↔ R
iff_through a b = (λ p. b.0 (a.0 p), λ r. a.1 (b.1 r))

pub two_tell : (s : ℕ → Bool) (layout : List VariableLiterals) (vars xs : List ℕ) (truths : ℕ → Bool) → All (λ x. (literals_at layout x).domain ≡ truth_numbers) xs → AllTell s layout xs (numbers_in vars truths)
    → TellTruths s (two_each layout vars xs) vars truths
unfolding TellTruths two_each note_at
two_tell s layout [] xs truths domains tell = refl
two_tell s layout (var ∷ vars) [] truths domains tell = absurd tell
two_tell s layout (var ∷ vars) (x ∷ xs) truths domains tell =
    let same = All-head (λ y. (literals_at layout y).domain ≡ truth_numbers) x xs domains in
    let there : (v : ℤ) → Contains truth_numbers v → Contains (literals_at layout x).domain v = λ v c. subst (λ (d : List ℤ). Contains d v) (sym same) c in (
      iff_through (tell.0.literals (pos 0) (there (pos 0) (0, omega arith, refl))) (truth_false (truths var)),
      iff_through (tell.0.literals (pos 1) (there (pos 1) (1, omega arith, refl))) (truth_true (truths var)),
      two_tell s layout vars xs truths (All-tail (λ y. (literals_at layout y).domain ≡ truth_numbers) x xs domains) tell.1,
    )

domain_at : (layout : List VariableLiterals) (x : ℕ) → x < length layout → slice_index_or (map (λ e. e.domain) layout) x [] ≡ (literals_at layout x).domain
domain_at [] x below = absurd (omega (arith, below))
domain_at (e ∷ layout) zero below = refl
domain_at (e ∷ layout) (suc x) below = domain_at layout x (omega (arith, below))

pub domains_are : (layout : List VariableLiterals) (vars xs : List ℕ) → All (λ x. x < length layout) xs → map (λ x. slice_index_or (map (λ e. e.domain) layout) x []) xs ≡ truth_domains vars
    → All (λ x. (literals_at layout x).domain ≡ truth_numbers) xs
domains_are layout vars [] below same = All-nil (λ x. (literals_at layout x).domain ≡ truth_numbers)
domains_are layout [] (x ∷ xs) below same = absurd (omega (arith, ap length same))
domains_are layout (var ∷ vars) (x ∷ xs) below same =
    All-cons (λ y. (literals_at layout y).domain ≡ truth_numbers) x xs
    (sym (domain_at layout x (All-head (λ y. y < length layout) x xs below)) ∙ ap (λ ds. slice_index_or ds 0 []) same)
    (domains_are layout vars xs (All-tail (λ y. y < length layout) x xs below) (ap (drop 1) same))

-- ---- what can be read again

readable_at : (layout : List VariableLiterals) (var x : ℕ) (v : ℤ) → IsCell (variable_name var) → unsigned_abs v < 10 ^ 18 → IsReadableNote (note_at layout var x v)
unfolding note_at
readable_at layout var x v named short = record { named = named; short = short }

pub readable_notes : (layout : List VariableLiterals) (vars : List ℕ) (ones : List Cell) (xs : List ℕ) → AreCellsOf vars ones → All IsReadableNote (two_each layout vars xs)
unfolding two_each
readable_notes layout [] ones xs are = All-nil IsReadableNote
readable_notes layout (var ∷ vars) [] xs are = absurd are
readable_notes layout (var ∷ vars) (one ∷ ones) [] are = All-nil IsReadableNote
readable_notes layout (var ∷ vars) (one ∷ ones) (x ∷ xs) are =
    let named : IsCell (variable_name var) = subst IsCell are.0.name are.0.readable in
    All-cons IsReadableNote (note_at layout var x (pos 0)) (note_at layout var x (pos 1) ∷ two_each layout vars xs) (readable_at layout var x (pos 0) named (omega arith))
    (All-cons IsReadableNote (note_at layout var x (pos 1)) (two_each layout vars xs) (readable_at layout var x (pos 1) named (omega arith)) (readable_notes layout vars ones xs are.1))
