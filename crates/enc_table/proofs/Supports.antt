-- Supports: each variable's number is that of a row that is chosen.
use Rattle.std.proofs.Common.{◌≡◌, ◌↔◌, ℕ, zero, suc, ◌+◌, ◌<◌, ◌≤◌, ℤ, pos, Bool, true, false, ◌||◌, IsTrue, List, [], ◌∷◌, ◌++◌, length, map, take, drop, refl, sym, ap, subst, ◌∙◌, arith, get_or, if◌then◌else◌}
use Rattle.std.specs.List.{All, Contains, list_any}
use Rattle.std.specs.Ordering.{int_eq}
use Rattle.std.proofs.lemmas.List.{append-nil, append_assoc, drop_all, drop_more, get_or-map, get_or_default}
use Rattle.std.proofs.lemmas.List.Elements.{All-cons, All-contains, All-head, All-nil, All-tail, All-weaker}
use Rattle.std.proofs.lemmas.List.Folds.{Any-from_list_any, list_any-append}
use Rattle.std.proofs.lemmas.Bool.{or_right}
use Rattle.cnf_core.specs.Formula.{Cnf}
use Rattle.ep_base.specs.Numbers.{has_number, of_bool, same_numbers}
use Rattle.ep_flat.specs.Cons.{number_at, numbers_of_vars}
use Rattle.enc_atoms.proofs.Adding.{adds_all, adds_both, adds_like}
use Rattle.enc_atoms.proofs.Decoded.{length_among, number_among}
use Rattle.enc_atoms.specs.Atoms.{Adds, atom_holds, clause_holds}
use Rattle.enc_atoms.specs.declared.atoms.Atom.{Atom}
use Rattle.enc_atoms.proofs.Choosing.{choosing, guard_kept, number_kept, numbers_kept, truth_at}
use Rattle.enc_atoms.proofs.Guards.{unless_all, unless_like}
use Rattle.enc_atoms.proofs.Meanings.{are_all_says, clause_one, is_not_fails, not_false, same_test}
use Rattle.enc_atoms.proofs.Naming.{one_is_says}
use Rattle.enc_atoms.proofs.NewTruths.{adds_truths, length-numbers_from, numbers_from_at}
use Rattle.enc_atoms.specs.Steps.{AreAtomsOf, AreOf, HasTruths, SomeTruths, Unless, are_all, is_not, numbers_from}
use Rattle.enc_var.specs.Decoding.{VariableLiterals}
use Rattle.enc_var.specs.Layouts.{IsLayoutOf, literals_at}
use Rattle.enc_table.proofs.RowLemmas.{fits_at, row_is}
use Rattle.enc_table.specs.Rows.{AllFit, IsRowWhere, IsSupported, truths_having}

one_bit : (b : Bool) → b ≡ true → of_bool b ≡ pos 1
unfolding of_bool
one_bit true e = refl
one_bit false e = not_false false e refl

neither : (a b : Bool) → (a || b) ≡ false → (a ≡ false) × (b ≡ false)
neither true b e = not_false true refl e
neither false b e = (refl, e)

none : (a b : Bool) → a ≡ false → b ≡ false → (a || b) ≡ false
none true b e g = not_false true refl e
none false b e g = g

-- where a guard with one more atom "it isn't" doesn't hold
closed_fails : (values : List ℤ) (guard : List Atom) (x : ℕ) (v : ℤ) → (clause_holds values (guard ++ is_not x v ∷ []) ≡ false) ↔ ((clause_holds values guard ≡ false) × (number_at values x ≡ v))
unfolding clause_holds
closed_fails values guard x v = (
  λ h.
      let both = neither (list_any (atom_holds values) guard) (list_any (atom_holds values) (is_not x v ∷ [])) (sym (list_any-append (atom_holds values) guard (is_not x v ∷ [])) ∙ h) in
      (both.0, (is_not_fails values x v).0 (sym (clause_one values (is_not x v)) ∙ both.1)),
  λ h. list_any-append (atom_holds values) guard (is_not x v ∷ [])
      ∙ none (list_any (atom_holds values) guard) (list_any (atom_holds values) (is_not x v ∷ [])) h.0 (clause_one values (is_not x v) ∙ (is_not_fails values x v).1 h.1),
)

pub one_where : (L : List VariableLiterals) (f g : Cnf) (guard closed atoms : List Atom) (atom : Atom) (chosen : List ℕ) (x : ℕ) (v : ℤ) → IsLayoutOf L f → closed ≡ guard ++ atom ∷ [] → atom ≡ is_not x v → atoms ≡ are_all chosen (pos 1)
    → Adds L f L g (Unless closed (λ values. IsTrue (clause_holds values atoms))) → Adds L f L g (Unless guard (λ values. number_at values x ≡ v → IsTrue (has_number (numbers_of_vars values chosen) (pos 1))))
one_where L f g guard closed atoms atom chosen x v is_layout closed_is atom_is atoms_are adds =
    adds_like L f L g (Unless closed (λ values. IsTrue (clause_holds values atoms))) (Unless guard (λ values. number_at values x ≡ v → IsTrue (has_number (numbers_of_vars values chosen) (pos 1)))) is_layout adds
    (λ values among.
    let is_closed : closed ≡ guard ++ is_not x v ∷ [] = closed_is ∙ ap (λ a. guard ++ a ∷ []) atom_is in (
      λ h off at. (one_is_says values chosen (pos 1)).0 (ap (clause_holds values) (sym atoms_are) ∙ h (ap (clause_holds values) is_closed ∙ (closed_fails values guard x v).1 (off, at))),
      λ h off_closed.
          let both = (closed_fails values guard x v).0 (ap (clause_holds values) (sym is_closed) ∙ off_closed) in
          ap (clause_holds values) atoms_are ∙ (one_is_says values chosen (pos 1)).1 (h both.0 both.1),
    ))

-- the variables of the rows that have a number at a place, so far
pub having_more : (items new whole truths : List ℕ) (rows : List (List ℤ)) (k place : ℕ) (number : ℤ) → k < length rows → length truths ≡ length rows → items ++ truths_having (drop k truths) (drop k rows) place number ≡ whole
    → int_eq (get_or (get_or rows k []) place (pos 0)) number ≡ true → new ≡ items ++ get_or truths k 0 ∷ [] → new ++ truths_having (drop (k + 1) truths) (drop (k + 1) rows) place number ≡ whole
unfolding truths_having
having_more items new whole truths rows k place number low many so_far on pushed =
    let rest : List ℕ = truths_having (drop (k + 1) truths) (drop (k + 1) rows) place number in
    ap (λ those. those ++ rest) pushed
    ∙ append_assoc items (get_or truths k 0 ∷ []) rest
    ∙ ap (λ b. items ++ (if b then get_or truths k 0 ∷ rest else rest)) (sym on)
    ∙ ap (λ rs. items ++ truths_having (get_or truths k 0 ∷ drop (k + 1) truths) rs place number) (sym (drop_more rows k [] low))
    ∙ ap (λ ts. items ++ truths_having ts (drop k rows) place number) (sym (drop_more truths k 0 (omega (arith, low, many))))
    ∙ so_far

pub having_same : (items whole truths : List ℕ) (rows : List (List ℤ)) (k place : ℕ) (number : ℤ) → k < length rows → length truths ≡ length rows → items ++ truths_having (drop k truths) (drop k rows) place number ≡ whole
    → int_eq (get_or (get_or rows k []) place (pos 0)) number ≡ false → items ++ truths_having (drop (k + 1) truths) (drop (k + 1) rows) place number ≡ whole
unfolding truths_having
having_same items whole truths rows k place number low many so_far off =
    let rest : List ℕ = truths_having (drop (k + 1) truths) (drop (k + 1) rows) place number in
    ap (λ b. items ++ (if b then get_or truths k 0 ∷ rest else rest)) (sym off)
    ∙ ap (λ rs. items ++ truths_having (get_or truths k 0 ∷ drop (k + 1) truths) rs place number) (sym (drop_more rows k [] low))
    ∙ ap (λ ts. items ++ truths_having ts (drop k rows) place number) (sym (drop_more truths k 0 (omega (arith, low, many))))
    ∙ so_far

pub having_end : (items whole truths : List ℕ) (rows : List (List ℤ)) (k place : ℕ) (number : ℤ) → length rows ≤ k → length truths ≡ length rows → items ++ truths_having (drop k truths) (drop k rows) place number ≡ whole → items ≡ whole
unfolding truths_having
having_end items whole truths rows k place number low many so_far =
    sym (append-nil items) ∙ ap (λ ts. items ++ truths_having ts (drop k rows) place number) (sym (drop_all k truths (omega (arith, low, many)))) ∙ so_far

pub having_within : (L : List VariableLiterals) (truths : List ℕ) (rows : List (List ℤ)) (place : ℕ) (number : ℤ) → AreOf L truths → AreOf L (truths_having truths rows place number)
unfolding truths_having
having_within L [] rows place number low = All-nil (λ x. x < length L)
having_within L (t ∷ ts) [] place number low = All-nil (λ x. x < length L)
having_within L (t ∷ ts) (row ∷ rows) place number low =
    by (int_eq (get_or row place (pos 0)) number) (having_within L ts rows place number (All-tail (λ x. x < length L) t ts low))
  where
    by : (b : Bool) → AreOf L (truths_having ts rows place number) → AreOf L (if b then t ∷ truths_having ts rows place number else truths_having ts rows place number)
    by true rest = All-cons (λ x. x < length L) t (truths_having ts rows place number) (All-head (λ x. x < length L) t ts low) rest
    by false rest = rest

having_there : (values : List ℤ) (truths : List ℕ) (rows : List (List ℤ)) (place : ℕ) (number : ℤ) (r : ℕ) → length truths ≡ length rows → r < length rows → int_eq (get_or (get_or rows r []) place (pos 0)) number ≡ true → number_at values (get_or truths r 0) ≡ pos 1
    → has_number (numbers_of_vars values (truths_having truths rows place number)) (pos 1) ≡ true
unfolding truths_having has_number numbers_of_vars
having_there values truths [] place number r many low on one = absurd (omega (arith, low))
having_there values [] (row ∷ rows) place number r many low on one = absurd (omega (arith, many))
having_there values (t ∷ ts) (row ∷ rows) place number zero many low on one =
    ap (λ b. has_number (numbers_of_vars values (if b then t ∷ truths_having ts rows place number else truths_having ts rows place number)) (pos 1)) on
    ∙ ap (λ b. b || has_number (numbers_of_vars values (truths_having ts rows place number)) (pos 1)) (same_test (pos 1) (number_at values t) (sym one))
having_there values (t ∷ ts) (row ∷ rows) place number (suc r) many low on one =
    by (int_eq (get_or row place (pos 0)) number) (having_there values ts rows place number r (omega (arith, many)) (omega (arith, low)) on one)
  where
    by : (b : Bool) → has_number (numbers_of_vars values (truths_having ts rows place number)) (pos 1) ≡ true → has_number (numbers_of_vars values (if b then t ∷ truths_having ts rows place number else truths_having ts rows place number)) (pos 1) ≡ true
    by true rest = or_right (int_eq (pos 1) (number_at values t)) (has_number (numbers_of_vars values (truths_having ts rows place number)) (pos 1)) rest
    by false rest = rest

-- supports for each number of a variable
pub supports_whole : (L : List VariableLiterals) (f g : Cnf) (guard : List Atom) (truths : List ℕ) (rows : List (List ℤ)) (place x : ℕ) (numbers : List ℤ) (k : ℕ) → IsLayoutOf L f → x < length L → numbers ≡ (literals_at L x).domain → length numbers ≤ k
    → Adds L f L g (λ values. All (λ v. Unless guard (λ vs. number_at vs x ≡ v → IsTrue (has_number (numbers_of_vars vs (truths_having truths rows place v)) (pos 1))) values) (take k numbers)) → Adds L f L g (Unless guard (IsSupported truths rows place x))
supports_whole L f g guard truths rows place x numbers k is_layout low are long adds =
    unless_like L f L g guard (λ values. All (λ v. number_at values x ≡ v → IsTrue (has_number (numbers_of_vars values (truths_having truths rows place v)) (pos 1))) numbers) (IsSupported truths rows place x) is_layout
    (unless_all L f L g guard (λ values v. number_at values x ≡ v → IsTrue (has_number (numbers_of_vars values (truths_having truths rows place v)) (pos 1))) numbers is_layout
    (adds_all L f L g (λ values v. Unless guard (λ vs. number_at vs x ≡ v → IsTrue (has_number (numbers_of_vars vs (truths_having truths rows place v)) (pos 1))) values) numbers k long adds))
    (λ values among. (
      λ h. All-contains (λ v. number_at values x ≡ v → IsTrue (has_number (numbers_of_vars values (truths_having truths rows place v)) (pos 1))) numbers (number_at values x) h (subst (λ ns. Contains ns (number_at values x)) (sym are) (number_among L values x among low)) refl,
      λ h k' d below at. subst (λ (v : ℤ). IsTrue (has_number (numbers_of_vars values (truths_having truths rows place v)) (pos 1))) at h,
    ))

-- one of the rows is chosen
pub some_whole : (L : List VariableLiterals) (f : Cnf) (L1 : List VariableLiterals) (f1 f2 f3 f4 : Cnf) (guard atoms : List Atom) (vars truths : List ℕ) (rows : List (List ℤ)) (count : ℕ) → IsLayoutOf L f → AreOf L vars → AllFit rows (length vars) → AreAtomsOf L guard → HasTruths L f L1 f1 count → count ≡ length rows → truths ≡ numbers_from (length L) count → atoms ≡ are_all truths (pos 1)
    → Adds L1 f1 L1 f2 (λ values. (k : ℕ) → k < length rows → IsRowWhere (get_or truths k 0) vars (get_or rows k []) values)
    → Adds L1 f2 L1 f3 (λ values. (k : ℕ) → k < length vars → Unless guard (IsSupported truths rows k (get_or vars k 0)) values) → Adds L1 f3 L1 f4 (Unless guard (λ values. IsTrue (clause_holds values atoms)))
    → Adds L f L1 f4 (Unless guard (λ values. list_any (λ row. same_numbers row (numbers_of_vars values vars)) rows ≡ true))
some_whole L f L1 f1 f2 f3 f4 guard atoms vars truths rows count is_layout low fit guard_low new many truths_are_from atoms_are one two three =
    adds_like L f L1 f4 (λ values. SomeTruths count (λ bits. Q (values ++ bits))) (Unless guard (λ values. list_any (λ row. same_numbers row (numbers_of_vars values vars)) rows ≡ true)) is_layout
    (adds_truths L f L1 f1 L1 f4 count Q is_layout new
    (adds_both L1 f1 f3 L1 f4 (λ values. ((k : ℕ) → k < length rows → IsRowWhere (get_or truths k 0) vars (get_or rows k []) values) × ((k : ℕ) → k < length vars → Unless guard (IsSupported truths rows k (get_or vars k 0)) values)) (Unless guard (λ values. IsTrue (clause_holds values atoms))) new.goes_on.is_layout
    (adds_both L1 f1 f2 L1 f3 (λ values. (k : ℕ) → k < length rows → IsRowWhere (get_or truths k 0) vars (get_or rows k []) values) (λ values. (k : ℕ) → k < length vars → Unless guard (IsSupported truths rows k (get_or vars k 0)) values) new.goes_on.is_layout one two) three))
    (λ values among.
    let long : length values ≡ length L = length_among L values among in
    let guard_below : All (λ (a : Atom). a.var < length values) guard = All-weaker (λ (a : Atom). a.var < length L) (λ (a : Atom). a.var < length values) (λ a below. omega (arith, below, long)) guard guard_low in
    let vars_below : All (λ (x : ℕ). x < length values) vars = All-weaker (λ (x : ℕ). x < length L) (λ (x : ℕ). x < length values) (λ x below. omega (arith, below, long)) vars low in
    let chosen = choosing values (length L) guard rows [] (λ row. same_numbers row (numbers_of_vars values vars)) (λ bits. (k : ℕ) → k < length vars → Unless guard (IsSupported truths rows k (get_or vars k 0)) (values ++ bits)) long guard_below (supported values long guard_below vars_below) in (
      λ h off. chosen.0 (record {
        truths = h.truths;
        many = h.many ∙ many;
        each = h.each;
        holds_there = (
          λ k below one_is. ap (same_numbers (get_or rows k [])) (sym (numbers_kept values h.truths vars vars_below)) ∙ h.holds_there.0.0 k below (ap (number_at (values ++ h.truths)) (at_truth k below) ∙ one_is),
          λ off_there. sym (clause_is (values ++ h.truths)) ∙ h.holds_there.1 off_there,
          h.holds_there.0.1,
        );
      }) off,
      λ h.
          let some = chosen.1 h in
          record {
            truths = some.truths;
            many = some.many ∙ sym many;
            each = some.each;
            holds_there = (
              (λ k below one_is. ap (same_numbers (get_or rows k [])) (numbers_kept values some.truths vars vars_below) ∙ some.holds_there.0 k below (sym (ap (number_at (values ++ some.truths)) (at_truth k below)) ∙ one_is), some.holds_there.2),
              λ off_there. clause_is (values ++ some.truths) ∙ some.holds_there.1 off_there,
            );
          },
    ))
  where
    Q : List ℤ → Type 0
    Q values =
        (((k : ℕ) → k < length rows → IsRowWhere (get_or truths k 0) vars (get_or rows k []) values) × ((k : ℕ) → k < length vars → Unless guard (IsSupported truths rows k (get_or vars k 0)) values))
        × Unless guard (λ vs. IsTrue (clause_holds vs atoms)) values

    at_truth : (k : ℕ) → k < length rows → get_or truths k 0 ≡ length L + k
    at_truth k below = ap (λ ts. get_or ts k 0) truths_are_from ∙ numbers_from_at (length L) count k 0 (omega (arith, below, many))

    clause_is : (vs : List ℤ) → clause_holds vs atoms ≡ has_number (numbers_of_vars vs (numbers_from (length L) (length rows))) (pos 1)
    clause_is vs = ap (clause_holds vs) (atoms_are ∙ ap (λ ts. are_all ts (pos 1)) (truths_are_from ∙ ap (numbers_from (length L)) many)) ∙ are_all_says vs (numbers_from (length L) (length rows)) (pos 1)

    supported : (values : List ℤ) → length values ≡ length L → All (λ (a : Atom). a.var < length values) guard → All (λ (x : ℕ). x < length values) vars → Unless guard (λ vs. list_any (λ row. same_numbers row (numbers_of_vars values vars)) rows ≡ true) values
        → (k : ℕ) → k < length vars → Unless guard (IsSupported truths rows k (get_or vars k 0)) (values ++ map (λ row. of_bool (same_numbers row (numbers_of_vars values vars))) rows)
    supported values long guard_below vars_below h k below off_there =
        let B : List ℤ = map (λ row. of_bool (same_numbers row (numbers_of_vars values vars))) rows in
        let at = Any-from_list_any (λ row. same_numbers row (numbers_of_vars values vars)) rows (h (sym (guard_kept values B guard guard_below) ∙ off_there)) in
        let r : ℕ = at.0 in
        let within : r < length rows = at.2 in
        let passes : same_numbers (get_or rows r []) (numbers_of_vars values vars) ≡ true = ap (λ row. same_numbers row (numbers_of_vars values vars)) (get_or_default rows r [] at.1 at.2 ∙ at.3) ∙ at.4 in
        let bit : number_at (values ++ B) (get_or truths r 0) ≡ pos 1 =
        ap (number_at (values ++ B)) (at_truth r within) ∙ truth_at values B (length L) r long ∙ get_or-map (λ row. of_bool (same_numbers row (numbers_of_vars values vars))) rows r [] (pos 0) within ∙ one_bit (same_numbers (get_or rows r []) (numbers_of_vars values vars)) passes in
        let is_there : number_at (values ++ B) (get_or vars k 0) ≡ get_or (get_or rows r []) k (pos 0) =
        number_kept values B (get_or vars k 0) (vars_below k 0 below) ∙ row_is values vars (get_or rows r []) passes k (omega (arith, below, fits_at rows (length vars) r [] within fit)) in
        having_there (values ++ B) truths rows k (number_at (values ++ B) (get_or vars k 0)) r (ap length truths_are_from ∙ length-numbers_from (length L) count ∙ many) within
        (same_test (get_or (get_or rows r []) k (pos 0)) (number_at (values ++ B) (get_or vars k 0)) (sym is_there)) bit
