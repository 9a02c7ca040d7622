-- Rows: number by number, and among others.
use Rattle.std.proofs.Common.{◌≡◌, inl, inr, ℕ, zero, suc, ◌+◌, ◌<◌, ◌≤◌, ◌==◌, ℤ, pos, Bool, true, false, not, ◌&&◌, ◌||◌, IsTrue, List, [], ◌∷◌, ◌++◌, length, map, drop, Option, Some, None, unwrap_or, refl, sym, ap, subst, ◌∙◌, arith, get_or, if◌then◌else◌}
use Rattle.std.specs.List.{list_all, list_any}
use Rattle.std.specs.Ordering.{int_eq}
use Rattle.std.proofs.lemmas.Bool.{eqb-true}
use Rattle.std.proofs.lemmas.List.{append-nil, append_assoc, drop_all, drop_more, get_or_default, length-map}
use Rattle.std.proofs.lemmas.List.Elements.{All-cons, All-head, All-nil, All-tail}
use Rattle.std.proofs.lemmas.List.Folds.{list_all_at, list_any_at, list_any_none}
use Rattle.cnf_core.specs.Formula.{Cnf}
use Rattle.ep_base.specs.Numbers.{is_row_of, same_numbers}
use Rattle.ep_flat.specs.Cons.{is_as_said, number_at, numbers_of_vars}
use Rattle.enc_atoms.proofs.Adding.{adds_both, adds_like}
use Rattle.enc_atoms.specs.Atoms.{Adds, atom_holds, clause_holds, test_holds}
use Rattle.enc_atoms.specs.declared.atoms.Atom.{Atom}
use Rattle.enc_atoms.proofs.Guards.{unless_like}
use Rattle.enc_atoms.proofs.Meanings.{decided, either, not_false, other_test, same, same_test}
use Rattle.enc_atoms.proofs.Naming.{fails_as}
use Rattle.enc_atoms.specs.Steps.{AreAtomsOf, AreOf, IsTruth, Unless, is, is_not}
use Rattle.enc_var.specs.Decoding.{VariableLiterals}
use Rattle.enc_var.specs.Layouts.{IsLayoutOf}
use Rattle.enc_table.specs.Rows.{AllFit, IsRow, IsRowWhere, others_of}

-- a row fits where all do
pub fits_at : (rows : List (List ℤ)) (count k : ℕ) (d : List ℤ) → k < length rows → AllFit rows count → length (get_or rows k d) ≡ count
fits_at rows count k d low fit = elim (either (length (get_or rows k d) == count)) as (λ _. length (get_or rows k d) ≡ count) [
  | inl on ↦ eqb-true (length (get_or rows k d)) count on
  | inr off ↦ not_false (list_all (λ row. length row == count) rows) fit (list_all_at (λ row. length row == count) rows k d low off)
]

and_both : (a b : Bool) → a ≡ true → b ≡ true → (a && b) ≡ true
and_both true b e h = h
and_both false b e h = not_false false e refl

and_first : (a b : Bool) → (a && b) ≡ true → a ≡ true
and_first true b e = refl
and_first false b e = not_false false e refl

and_second : (a b : Bool) → (a && b) ≡ true → b ≡ true
and_second true b e = e
and_second false b e = not_false false e refl

-- a row is the variables exactly where it is each of them
is_row : (values : List ℤ) (vars : List ℕ) (row : List ℤ) → length row ≡ length vars → ((k : ℕ) → k < length row → number_at values (get_or vars k 0) ≡ get_or row k (pos 0)) → same_numbers row (numbers_of_vars values vars) ≡ true
unfolding same_numbers numbers_of_vars
is_row values [] [] long each = refl
is_row values [] (v ∷ row) long each = absurd (omega (arith, long))
is_row values (x ∷ vars) [] long each = absurd (omega (arith, long))
is_row values (x ∷ vars) (v ∷ row) long each =
    and_both (int_eq v (number_at values x)) (same_numbers row (map (number_at values) vars)) (same_test v (number_at values x) (sym (each 0 (omega arith))))
    (is_row values vars row (omega (arith, long)) (λ k low. each (suc k) (omega (arith, low))))

pub row_is : (values : List ℤ) (vars : List ℕ) (row : List ℤ) → same_numbers row (numbers_of_vars values vars) ≡ true → (k : ℕ) → k < length row → number_at values (get_or vars k 0) ≡ get_or row k (pos 0)
unfolding same_numbers numbers_of_vars
row_is values vars [] same_row k low = absurd (omega (arith, low))
row_is values [] (v ∷ row) same_row k low = not_false false same_row refl
row_is values (x ∷ vars) (v ∷ row) same_row zero low = sym (same v (number_at values x) (and_first (int_eq v (number_at values x)) (same_numbers row (map (number_at values) vars)) same_row))
row_is values (x ∷ vars) (v ∷ row) same_row (suc k) low = row_is values vars row (and_second (int_eq v (number_at values x)) (same_numbers row (map (number_at values) vars)) same_row) k (omega (arith, low))

pub row_whole : (L : List VariableLiterals) (f g : Cnf) (guard : List Atom) (vars : List ℕ) (row : List ℤ) (k : ℕ) → IsLayoutOf L f → length row ≡ length vars → k ≡ length row
    → Adds L f L g (λ values. (j : ℕ) → j < k → Unless guard (λ vs. number_at vs (get_or vars j 0) ≡ get_or row j (pos 0)) values) → Adds L f L g (Unless guard (IsRow vars row))
row_whole L f g guard vars row k is_layout long whole adds =
    adds_like L f L g (λ values. (j : ℕ) → j < k → Unless guard (λ vs. number_at vs (get_or vars j 0) ≡ get_or row j (pos 0)) values) (Unless guard (IsRow vars row)) is_layout adds
    (λ values among. (
      λ h off. is_row values vars row long (λ j low. h j (omega (arith, low, whole)) off),
      λ h j low off. row_is values vars row (h off) j (omega (arith, low, whole)),
    ))

turned : (a b : ℤ) → int_eq a b ≡ int_eq b a
turned a b = elim (either (int_eq a b)) as (λ _. int_eq a b ≡ int_eq b a) [
  | inl on ↦ on ∙ sym (same_test b a (sym (same a b on)))
  | inr off ↦ off ∙ sym (other_test b a (λ back. not_false (int_eq a b) (same_test a b (sym back)) off))
]

-- a clause of "it isn't" for each number of a row
others_say : (values : List ℤ) (vars : List ℕ) (row : List ℤ) → length row ≡ length vars → clause_holds values (others_of vars row) ≡ not (same_numbers row (numbers_of_vars values vars))
unfolding clause_holds others_of same_numbers numbers_of_vars atom_holds test_holds
others_say values [] [] long = refl
others_say values [] (v ∷ row) long = absurd (omega (arith, long))
others_say values (x ∷ vars) [] long = absurd (omega (arith, long))
others_say values (x ∷ vars) (v ∷ row) long =
    ap (λ b. not b || list_any (atom_holds values) (others_of vars row)) (turned (number_at values x) v)
    ∙ ap (λ b. not (int_eq v (number_at values x)) || b) (others_say values vars row (omega (arith, long)))
    ∙ not_both (int_eq v (number_at values x)) (same_numbers row (map (number_at values) vars))
  where
    not_both : (a b : Bool) → (not a || not b) ≡ not (a && b)
    not_both true b = refl
    not_both false b = refl

pub others_clause : (L : List VariableLiterals) (f g : Cnf) (guard atoms : List Atom) (vars : List ℕ) (row : List ℤ) → IsLayoutOf L f → length row ≡ length vars → atoms ≡ others_of vars row → Adds L f L g (Unless guard (λ values. IsTrue (clause_holds values atoms))) → Adds L f L g (Unless guard (λ values. same_numbers row (numbers_of_vars values vars) ≡ false))
others_clause L f g guard atoms vars row is_layout long are adds =
    unless_like L f L g guard (λ values. IsTrue (clause_holds values atoms)) (λ values. same_numbers row (numbers_of_vars values vars) ≡ false) is_layout adds
    (λ values among. (
      λ h. was_false (same_numbers row (numbers_of_vars values vars)) (sym (others_say values vars row long) ∙ ap (clause_holds values) (sym are) ∙ h),
      λ h. ap (clause_holds values) are ∙ others_say values vars row long ∙ ap not h,
    ))
  where
    was_false : (b : Bool) → not b ≡ true → b ≡ false
    was_false true e = not_false false e refl
    was_false false e = refl

pub others_within : (L : List VariableLiterals) (vars : List ℕ) (row : List ℤ) → AreOf L vars → AreAtomsOf L (others_of vars row)
unfolding others_of
others_within L [] row low = All-nil (λ (a : Atom). a.var < length L)
others_within L (x ∷ vars) [] low = All-nil (λ (a : Atom). a.var < length L)
others_within L (x ∷ vars) (v ∷ row) low = All-cons (λ (a : Atom). a.var < length L) (is_not x v) (others_of vars row) (All-head (λ y. y < length L) x vars low) (others_within L vars row (All-tail (λ y. y < length L) x vars low))

-- one more atom of a row
pub others_step : (items new whole : List Atom) (vars : List ℕ) (row : List ℤ) (k : ℕ) (atom : Atom) → k < length row → length row ≡ length vars → items ++ others_of (drop k vars) (drop k row) ≡ whole → atom ≡ is_not (get_or vars k 0) (get_or row k (pos 0)) → new ≡ items ++ atom ∷ []
    → new ++ others_of (drop (k + 1) vars) (drop (k + 1) row) ≡ whole
unfolding others_of
others_step items new whole vars row k atom low long so_far atom_is pushed =
    ap (λ those. those ++ others_of (drop (k + 1) vars) (drop (k + 1) row)) (pushed ∙ ap (λ a. items ++ a ∷ []) atom_is)
    ∙ append_assoc items (is_not (get_or vars k 0) (get_or row k (pos 0)) ∷ []) (others_of (drop (k + 1) vars) (drop (k + 1) row))
    ∙ ap (λ xs. items ++ others_of xs (get_or row k (pos 0) ∷ drop (k + 1) row)) (sym (drop_more vars k 0 (omega (arith, low, long))))
    ∙ ap (λ vs. items ++ others_of (drop k vars) vs) (sym (drop_more row k (pos 0) low))
    ∙ so_far

pub others_end : (items whole : List Atom) (vars : List ℕ) (row : List ℤ) (k : ℕ) → length row ≤ k → length row ≡ length vars → items ++ others_of (drop k vars) (drop k row) ≡ whole → items ≡ whole
unfolding others_of
others_end items whole vars row k low long so_far =
    sym (append-nil items) ∙ ap (λ xs. items ++ others_of xs (drop k row)) (sym (drop_all k vars (omega (arith, low, long)))) ∙ so_far

-- none of the rows
pub none_whole : (L : List VariableLiterals) (f g : Cnf) (guard : List Atom) (vars : List ℕ) (rows : List (List ℤ)) (k : ℕ) → IsLayoutOf L f → k ≡ length rows
    → Adds L f L g (λ values. (j : ℕ) → j < k → Unless guard (λ vs. same_numbers (get_or rows j []) (numbers_of_vars vs vars) ≡ false) values)
    → Adds L f L g (Unless guard (λ values. list_any (λ row. same_numbers row (numbers_of_vars values vars)) rows ≡ false))
none_whole L f g guard vars rows k is_layout whole adds =
    adds_like L f L g (λ values. (j : ℕ) → j < k → Unless guard (λ vs. same_numbers (get_or rows j []) (numbers_of_vars vs vars) ≡ false) values) (Unless guard (λ values. list_any (λ row. same_numbers row (numbers_of_vars values vars)) rows ≡ false)) is_layout adds
    (λ values among. (
      λ h off. list_any_none (λ row. same_numbers row (numbers_of_vars values vars)) rows (λ j d low. ap (λ r. same_numbers r (numbers_of_vars values vars)) (get_or_default rows j d [] low) ∙ h j (omega (arith, low, whole)) off),
      λ h j low off. elim (either (same_numbers (get_or rows j []) (numbers_of_vars values vars))) as (λ _. same_numbers (get_or rows j []) (numbers_of_vars values vars) ≡ false) [
        | inl on ↦ not_false (list_any (λ row. same_numbers row (numbers_of_vars values vars)) rows) (list_any_at (λ row. same_numbers row (numbers_of_vars values vars)) rows j [] (omega (arith, low, whole)) on) (h off)
        | inr none ↦ none
      ],
    ))

length_numbers : (values : List ℤ) (xs : List ℕ) → length (numbers_of_vars values xs) ≡ length xs
unfolding numbers_of_vars
length_numbers values xs = length-map xs (number_at values)

-- where a row doesn't fit, no numbers are a row
pub row_of_fit : (rows : List (List ℤ)) (values : List ℤ) (vars : List ℕ) (b : Bool) → b ≡ list_all (λ row. length row == length vars) rows → b ≡ true → unwrap_or (is_row_of rows (numbers_of_vars values vars)) false ≡ list_any (λ row. same_numbers row (numbers_of_vars values vars)) rows
unfolding is_row_of
row_of_fit rows values vars b is on =
    ap (λ n. unwrap_or (if list_all (λ row. length row == n) rows then Some (list_any (λ row. same_numbers row (numbers_of_vars values vars)) rows) else None) false) (length_numbers values vars)
    ∙ ap (λ t. unwrap_or (if t then Some (list_any (λ row. same_numbers row (numbers_of_vars values vars)) rows) else None) false) (sym is ∙ on)

pub row_of_none : (rows : List (List ℤ)) (values : List ℤ) (vars : List ℕ) (b : Bool) → b ≡ list_all (λ row. length row == length vars) rows → b ≡ false → unwrap_or (is_row_of rows (numbers_of_vars values vars)) false ≡ false
unfolding is_row_of
row_of_none rows values vars b is off =
    ap (λ n. unwrap_or (if list_all (λ row. length row == n) rows then Some (list_any (λ row. same_numbers row (numbers_of_vars values vars)) rows) else None) false) (length_numbers values vars)
    ∙ ap (λ t. unwrap_or (if t then Some (list_any (λ row. same_numbers row (numbers_of_vars values vars)) rows) else None) false) (sym is ∙ off)

-- a constraint in other words
pub said_like : (L : List VariableLiterals) (f : Cnf) (L1 : List VariableLiterals) (g : Cnf) (truth : Option ℕ) (K J : List ℤ → Bool) → IsLayoutOf L f → ((values : List ℤ) → J values ≡ K values) → Adds L f L1 g (λ values. IsTrue (is_as_said values truth (K values))) → Adds L f L1 g (λ values. IsTrue (is_as_said values truth (J values)))
said_like L f L1 g truth K J is_layout same_word adds =
    adds_like L f L1 g (λ values. IsTrue (is_as_said values truth (K values))) (λ values. IsTrue (is_as_said values truth (J values))) is_layout adds
    (λ values among. (λ h. ap (is_as_said values truth) (same_word values) ∙ h, λ h. ap (is_as_said values truth) (sym (same_word values)) ∙ h))

-- a row where a variable is 1
pub row_where : (L : List VariableLiterals) (f g : Cnf) (guard : List Atom) (t : ℕ) (vars : List ℕ) (row other_row : List ℤ) → IsLayoutOf L f → guard ≡ is_not t (pos 1) ∷ [] → row ≡ other_row → Adds L f L g (Unless guard (IsRow vars row)) → Adds L f L g (IsRowWhere t vars other_row)
row_where L f g guard t vars row other_row is_layout are same_row adds =
    adds_like L f L g (Unless guard (IsRow vars row)) (IsRowWhere t vars other_row) is_layout adds
    (λ values among. (
      λ h one. ap (λ r. same_numbers r (numbers_of_vars values vars)) (sym same_row) ∙ h ((fails_as t (pos 1) guard are values).1 one),
      λ h off. ap (λ r. same_numbers r (numbers_of_vars values vars)) same_row ∙ h ((fails_as t (pos 1) guard are values).0 off),
    ))

-- the atom of a guard is of the layout
pub guard_of : (L : List VariableLiterals) (t : ℕ) (v : ℤ) (atom : Atom) → atom ≡ is_not t v → t < length L → AreAtomsOf L (atom ∷ [])
guard_of L t v atom are low = All-cons (λ (a : Atom). a.var < length L) atom [] (subst (λ (a : Atom). a.var < length L) (sym are) low) (All-nil (λ (a : Atom). a.var < length L))

-- a constraint with its truth value, where what is said of 0 stands first
pub decided_other : (L : List VariableLiterals) (f f1 f2 : Cnf) (L3 : List VariableLiterals) (f3 : Cnf) (t : ℕ) (on off : List Atom) (K : List ℤ → Bool) → IsLayoutOf L f → on ≡ is_not t (pos 1) ∷ [] → off ≡ is_not t (pos 0) ∷ []
    → Adds L f L f1 (λ values. IsTruth (number_at values t)) → Adds L f1 L f2 (Unless off (λ values. K values ≡ false)) → Adds L f2 L3 f3 (Unless on (λ values. K values ≡ true))
    → Adds L f L3 f3 (λ values. IsTrue (is_as_said values (Some t) (K values)))
decided_other L f f1 f2 L3 f3 t on off K is_layout on_is off_is one two three =
    adds_like L f L3 f3 (λ values. (IsTruth (number_at values t) × Unless off (λ vs. K vs ≡ false) values) × Unless on (λ vs. K vs ≡ true) values) (λ values. IsTrue (is_as_said values (Some t) (K values))) is_layout
    (adds_both L f f2 L3 f3 (λ values. IsTruth (number_at values t) × Unless off (λ vs. K vs ≡ false) values) (Unless on (λ vs. K vs ≡ true)) is_layout
    (adds_both L f f1 L f2 (λ values. IsTruth (number_at values t)) (Unless off (λ vs. K vs ≡ false)) is_layout one two) three)
    (λ values among. (
      λ h. (decided values t (K values)).0 (h.0.0, λ at. h.1 ((fails_as t (pos 1) on on_is values).1 at), λ at. h.0.1 ((fails_as t (pos 0) off off_is values).1 at)),
      λ h. let d = (decided values t (K values)).1 h in ((d.0, λ no. d.2 ((fails_as t (pos 0) off off_is values).0 no)), λ no. d.1 ((fails_as t (pos 1) on on_is values).0 no)),
    ))
