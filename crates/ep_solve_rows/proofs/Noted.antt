-- Variables that stand for cells, and notes that tell what a cell is, and near misses of both.
use Rattle.std.proofs.Common.{◌≡◌, ◌↔◌, inl, inr, ℕ, ◌<◌, ℤ, pos, negsuc, Bool, true, false, List, [], ◌∷◌, ◌++◌, length, None, refl, sym, ap, ◌∙◌, arith}
use Rattle.std.specs.Prelude.{codes, map, nat_eq, slice_index_or, take}
use Rattle.std.specs.Fmt.{signed_decimal}
use Rattle.std.specs.Ordering.{int_eq}
use Rattle.std.proofs.lemmas.Bool.{false≢true}
use Rattle.std.proofs.lemmas.Cmp.{int_eq_equiv}
use Rattle.std.proofs.lemmas.Map.Views.{list_any-from_Contains}
use Rattle.std.proofs.lemmas.List.Elements.{All-from_recursion, All-head, All-nil, All-tail}
use Rattle.cnf_core.proofs.Members.{Contains-cases, none_in_nil}
use Rattle.cnf_core.specs.Clauses.{IsTrueUnder, SatisfiesClause}
use Rattle.cnf_core.specs.Events.{LogEvent, LogState, Note, givens, is_given}
use Rattle.enc_var.specs.Decoding.{no, literal_of_note, place_literal, values_below, yes}
use Rattle.enc_var.specs.Notes.{cell_notes, cell_text, indices_text, joined_numbers, notes_of_cell}
use Rattle.ep_flat.specs.Flats.{StandForCells}
use Rattle.ep_ground.specs.declared.cells.Cell.{Cell}
use Rattle.ep_solve.specs.Logged.{AreTold, AreWanted, Stands, TellNumber, TellNumbers, named_values}
use Rattle.ep_tree.specs.declared.values.Mode.{Mode}
use Rattle.ep_unroll.specs.Cells.{find_cells, found_numbers, index_lists, instance_cells, is_truth}
use Rattle.ep_solve_rows.proofs.TwoValues.{bare, bare_measured, both, cell, found, is, neither, note, notes, one_is_not_two, one_or_two, solves-1, tell_solutions, tells_number-1, tells_number-2, without_clauses}

-- ---- variables that stand for cells

-- the domains of two variables: 0 to 3, and 1 and 2
abbrev two_domains : List (List ℤ)
two_domains = (pos 0 ∷ pos 1 ∷ pos 2 ∷ pos 3 ∷ []) ∷ one_or_two ∷ []

-- the second stands for a cell of 1 and 2, and the first for one of 0 to 3
stand : StandForCells (one_or_two ∷ (pos 0 ∷ pos 1 ∷ pos 2 ∷ pos 3 ∷ []) ∷ []) two_domains (1 ∷ 0 ∷ [])
stand = record { there = All-from_recursion (λ x. x < 2) (1 ∷ 0 ∷ []) (omega arith, (omega arith, tt)); domains = refl }

-- the first doesn't stand for a cell of 1 and 2, though its domain has both
wider : StandForCells (one_or_two ∷ []) two_domains (0 ∷ []) → ⊥
wider w = absurd (number_is w.domains)
  where
    number_is : (pos 0 ∷ pos 1 ∷ pos 2 ∷ pos 3 ∷ []) ∷ [] ≡ one_or_two ∷ [] → ⊥
    number_is e = cc

-- no variable that isn't there stands for a cell, also for one without a value
not_there : StandForCells ([] ∷ []) two_domains (2 ∷ []) → ⊥
not_there n = omega (arith, All-head (λ x. x < 2) 2 [] n.there)

-- ---- notes of cells

-- the name of a cell is that of its decision variable, with its indices
names : map cell_text (cell ∷ record { name = codes "x"; indices = pos 1 ∷ negsuc 1 ∷ []; truth = false; values = [] } ∷ []) ≡ codes "x" ∷ (codes "x[" ++ ((signed_decimal (pos 1) ++ (codes "," ++ signed_decimal (negsuc 1))) ++ codes "]")) ∷ []
unfolding cell_text indices_text joined_numbers
names = refl

-- the notes of a cell of 1 and 2 whose literals begin at the variable 1
made : cell_notes (record { domain = one_or_two; first = 1 } ∷ []) (cell ∷ []) (0 ∷ []) ≡ notes
unfolding cell_notes notes_of_cell cell_text indices_text literal_of_note place_literal values_below
made = refl

-- the notes tell 1 where the variable 1 is false
tells_one : TellNumber (λ v. false) notes cell (pos 1)
tells_one = tells_number-1 (λ v. false) refl

-- the notes tell 2 where the variable 1 is true
tells_two : TellNumber (λ v. true) notes cell (pos 2)
tells_two = tells_number-2 (λ v. true) refl

-- they don't tell 2 where the variable is false
tells_other : TellNumber (λ v. false) notes cell (pos 2) → ⊥
tells_other t = one_is_not_two (first.0 refl)
  where
    first : (false ≡ false) ↔ (pos 1 ≡ pos 2)
    first = All-head (λ (n : Note). IsTrueUnder (λ v. false) n.lit ↔ (n.value ≡ pos 2)) (note (pos 1) (no 1)) (note (pos 2) (yes 1) ∷ []) t.literals

-- nor do they tell anything of a cell that has a further value
cell_of_three : (s : ℕ → Bool) (n : ℤ) → TellNumber s notes (record { name = codes "x"; indices = []; truth = false; values = pos 1 ∷ pos 2 ∷ pos 3 ∷ [] }) n → ⊥
cell_of_three s n t = omega (arith, ap (λ (ns : List ℤ). length ns) t.values)

-- the cell of y, of 1 and 2 too
abbrev y : Cell
y = record { name = codes "y"; indices = []; truth = false; values = one_or_two }

-- the notes of y over the variable 2
abbrev y_notes : List Note
y_notes = record { cell = codes "y"; value = pos 1; lit = no 2 } ∷ record { cell = codes "y"; value = pos 2; lit = yes 2 } ∷ []

-- under which the variable 2 alone is true
abbrev second : ℕ → Bool
second v = nat_eq v 2

-- they tell 2 where the variable 2 is true
y_is_two : TellNumber second y_notes y (pos 2)
unfolding cell_text indices_text
y_is_two = record {
  among = (1, omega arith, refl);
  cells = All-from_recursion (λ (n : Note). n.cell ≡ cell_text y) y_notes (refl, (refl, tt));
  values = refl;
  literals = All-from_recursion (λ (n : Note). IsTrueUnder second n.lit ↔ (n.value ≡ pos 2)) y_notes (neither (λ t. false≢true (sym t)) one_is_not_two, (both refl refl, tt));
}

-- the notes of both cells, one after the other, tell that x is 1 and y is 2
tell_both : TellNumbers second (notes ++ y_notes) (cell ∷ y ∷ []) (pos 1 ∷ pos 2 ∷ [])
unfolding TellNumbers
tell_both = (tells_number-1 second refl, (y_is_two, refl))

-- they tell nothing where the notes of y come first
tell_other_cells : (s : ℕ → Bool) (m n : ℤ) → TellNumbers s (y_notes ++ notes) (cell ∷ y ∷ []) (m ∷ n ∷ []) → ⊥
unfolding TellNumbers cell_text indices_text
tell_other_cells s m n t =
    let e : codes "y" ≡ codes "x" = All-head (λ (k : Note). k.cell ≡ cell_text cell) (record { cell = codes "y"; value = pos 1; lit = no 2 }) (record { cell = codes "y"; value = pos 2; lit = yes 2 } ∷ []) t.0.cells in
    false≢true (sym (ap (λ name. nat_eq 121 (slice_index_or name 0 0)) e))

-- nor where a number is left out
tell_fewer : (s : ℕ → Bool) (n : ℤ) → TellNumbers s (notes ++ y_notes) (cell ∷ y ∷ []) (n ∷ []) → ⊥
unfolding TellNumbers
tell_fewer s n t = t.1

-- nor where a note is left over
tell_more : (s : ℕ → Bool) (n : ℤ) → TellNumbers s (notes ++ y_notes) (cell ∷ []) (n ∷ []) → ⊥
unfolding TellNumbers
tell_more s n t = absurd cc

-- ---- notes of an instance

-- the log of the instance of x alone, without a given, since each number of x is a solution
abbrev log_with : List Note → LogState
log_with noted = record { events = []; notes = noted; base = 0 }

-- it stands for the instance
stands : Stands Mode.Relational bare (log_with notes)
unfolding named_values cell_text indices_text instance_cells find_cells index_lists is_truth
stands = record {
  base = record { there = omega arith; givens = All-nil (λ e. is_given e ≡ true) };
  notes = refl;
  told = tell_solutions None bare_measured (λ f. Unit {0}) [] (record {
    from-1 = λ s holds out. tt;
    from-2 = λ s holds out. tt;
    at-1 = λ w. without_clauses false;
    at-2 = λ w. without_clauses true;
  });
}

-- both notes over one literal
abbrev alike : List Note
alike = note (pos 1) (yes 1) ∷ note (pos 2) (yes 1) ∷ []

-- such notes tell no number, under any assignment
alike_tell_nothing : (s : ℕ → Bool) (n : ℤ) → TellNumber s alike cell n → ⊥
alike_tell_nothing s n t = elim (Contains-cases (pos 1) (pos 2 ∷ []) n t.among) [
  | inl one ↦ one_is_not_two (one ∙ sym (second.0 (first.1 one)))
  | inr later ↦ elim (Contains-cases (pos 2) [] n later) [
    | inl two ↦ one_is_not_two (first.0 (second.1 two) ∙ sym two)
    | inr none ↦ none_in_nil n none
  ]
]
  where
    first : (s 1 ≡ true) ↔ (pos 1 ≡ n)
    first = All-head (λ (m : Note). IsTrueUnder s m.lit ↔ (m.value ≡ n)) (note (pos 1) (yes 1)) (note (pos 2) (yes 1) ∷ []) t.literals

    second : (s 1 ≡ true) ↔ (pos 2 ≡ n)
    second = All-head (λ (m : Note). IsTrueUnder s m.lit ↔ (m.value ≡ n)) (note (pos 2) (yes 1)) [] (All-tail (λ (m : Note). IsTrueUnder s m.lit ↔ (m.value ≡ n)) (note (pos 1) (yes 1)) (note (pos 2) (yes 1) ∷ []) t.literals)

-- they don't tell 7 either, which is none of the cell's values, though no literal says that it is another
seven : TellNumber (λ v. false) alike cell (pos 7) → ⊥
seven t = false≢true (list_any-from_Contains int_eq_equiv (pos 7) one_or_two t.among)

-- such notes tell no numbers of the instance's cells
no_numbers : (s : ℕ → Bool) (numbers : List ℤ) → TellNumbers s alike (instance_cells bare) numbers → ⊥
unfolding TellNumbers instance_cells find_cells index_lists is_truth
no_numbers s [] t = t
no_numbers s (n ∷ []) t = alike_tell_nothing s n t.0
no_numbers s (n ∷ m ∷ ns) t = t.1

-- so no log with such notes stands for the instance, whatever its events are
alike_are_refused : (events : List LogEvent) (base : ℕ) → Stands Mode.Relational bare (record { events = events; notes = alike; base = base }) → ⊥
alike_are_refused events base stands =
    let told : AreTold bare alike (givens (take base events)) (found_numbers (found (pos 1))) = stands.told.complete (is (pos 1)) (solves-1 None (bare_measured (pos 1))) tt in
    no_numbers told.assignment (found_numbers (found (pos 1))) told.tell

-- notes over two variables which no given ties
abbrev untied : List Note
untied = note (pos 1) (yes 1) ∷ note (pos 2) (yes 2) ∷ []

-- where both variables are false they tell no number
untied_tell_nothing : (n : ℤ) → TellNumber (λ v. false) untied cell n → ⊥
untied_tell_nothing n t = elim (Contains-cases (pos 1) (pos 2 ∷ []) n t.among) [
  | inl one ↦ false≢true (first.1 one)
  | inr later ↦ elim (Contains-cases (pos 2) [] n later) [
    | inl two ↦ false≢true (last.1 two)
    | inr none ↦ none_in_nil n none
  ]
]
  where
    first : (false ≡ true) ↔ (pos 1 ≡ n)
    first = All-head (λ (m : Note). IsTrueUnder (λ v. false) m.lit ↔ (m.value ≡ n)) (note (pos 1) (yes 1)) (note (pos 2) (yes 2) ∷ []) t.literals

    last : (false ≡ true) ↔ (pos 2 ≡ n)
    last = All-head (λ (m : Note). IsTrueUnder (λ v. false) m.lit ↔ (m.value ≡ n)) (note (pos 2) (yes 2)) [] (All-tail (λ (m : Note). IsTrueUnder (λ v. false) m.lit ↔ (m.value ≡ n)) (note (pos 1) (yes 1)) (note (pos 2) (yes 2) ∷ []) t.literals)

-- nor any numbers of the instance's cells
untied_no_numbers : (numbers : List ℤ) → TellNumbers (λ v. false) untied (instance_cells bare) numbers → ⊥
unfolding TellNumbers instance_cells find_cells index_lists is_truth
untied_no_numbers [] t = t
untied_no_numbers (n ∷ []) t = untied_tell_nothing n t.0
untied_no_numbers (n ∷ m ∷ ns) t = t.1

-- so the log with them and no given doesn't stand for the instance, though they can tell each solution
untied_are_refused : Stands Mode.Relational bare (log_with untied) → ⊥
untied_are_refused stands =
    let told : (numbers : List ℤ) × TellNumbers (λ v. false) untied (instance_cells bare) numbers × AreWanted Mode.Relational bare (λ f. Unit {0}) numbers = stands.told.sound (λ v. false) (All-nil (SatisfiesClause (λ v. false))) in
    untied_no_numbers told.0 told.1

-- no log stands for the instance whose notes name another cell
other_name : Stands Mode.Relational bare (log_with (record { cell = codes "y"; value = pos 1; lit = no 1 } ∷ note (pos 2) (yes 1) ∷ [])) → ⊥
unfolding named_values cell_text indices_text instance_cells find_cells index_lists is_truth
other_name s = false≢true (sym (ap (λ named. nat_eq 121 (slice_index_or (slice_index_or {A = List ℕ × ℤ} named 0 ([], pos 0)).0 0 0)) s.notes))

-- nor one whose notes name the values in another order
other_order : Stands Mode.Relational bare (log_with (note (pos 2) (yes 1) ∷ note (pos 1) (no 1) ∷ [])) → ⊥
unfolding named_values cell_text indices_text instance_cells find_cells index_lists is_truth
other_order s = false≢true (sym (ap (λ named. int_eq (pos 2) (slice_index_or {A = List ℕ × ℤ} named 0 ([], pos 0)).1) s.notes))

-- nor one whose notes leave out a value
one_missing : Stands Mode.Relational bare (log_with (note (pos 2) (yes 1) ∷ [])) → ⊥
unfolding named_values cell_text indices_text instance_cells find_cells index_lists is_truth
one_missing s = absurd cc
