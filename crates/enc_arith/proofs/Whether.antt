-- What clauses say of a variable which tells whether a number is the least or greatest one.
use Rattle.std.proofs.Common.{◌≡◌, ◌↔◌, ℕ, ℤ, pos, Bool, true, false, IsTrue, not, ◌||◌, ◌&&◌, List, [], ◌∷◌, refl, sym, ap, subst, ◌∙◌}
use Rattle.std.specs.Prelude.{None, Option, Some}
use Rattle.std.specs.Ordering.{int_eq}
use Rattle.std.specs.List.{list_all, list_any}
use Rattle.std.proofs.Math.Bool.{or-false}
use Rattle.cnf_core.specs.Formula.{Cnf}
use Rattle.ep_base.specs.Numbers.{compare_holds, contrary_comparison, of_bool}
use Rattle.ep_base.specs.declared.operators.CompareOp.{CompareOp}
use Rattle.ep_flat.specs.Cons.{is_as_said, number_at, numbers_of_vars}
use Rattle.enc_atoms.proofs.Adding.{adds_both, adds_like}
use Rattle.enc_atoms.specs.Atoms.{Adds, atom_holds, clause_holds, test_holds}
use Rattle.enc_atoms.specs.declared.atoms.Atom.{Atom}
use Rattle.enc_var.specs.Decoding.{VariableLiterals}
use Rattle.enc_arith.proofs.Cases.{is_atom, is_not_atom, same_test}
use Rattle.enc_arith.specs.Extremes.{all_compare, any_compares, is_extreme, reached_of, within_of}
use Rattle.enc_arith.specs.Saying.{IsReady, or_is_not, says}
use Rattle.enc_arith.specs.declared.sides.Side.{Side}
use Rattle.ep_base.proofs.Contraries.{contrary_holds}

or_not : (a b : Bool) → (not a || not b) ≡ not (a && b)
or_not true b = refl
or_not false b = refl

and_not : (a b : Bool) → (not a && not b) ≡ not (a || b)
and_not true b = refl
and_not false b = refl

any_contrary : (op : CompareOp) (ns : List ℤ) (w : ℤ) → any_compares (contrary_comparison op) ns w ≡ not (all_compare op ns w)
unfolding any_compares all_compare
any_contrary op [] w = refl
any_contrary op (n ∷ ns) w =
    ap (λ b. b || list_any (λ m. compare_holds (contrary_comparison op) m w) ns) (contrary_holds op n w)
    ∙ ap (λ b. not (compare_holds op n w) || b) (any_contrary op ns w)
    ∙ or_not (compare_holds op n w) (list_all (λ m. compare_holds op m w) ns)

all_contrary : (op : CompareOp) (ns : List ℤ) (w : ℤ) → all_compare (contrary_comparison op) ns w ≡ not (any_compares op ns w)
unfolding any_compares all_compare
all_contrary op [] w = refl
all_contrary op (n ∷ ns) w =
    ap (λ b. b && list_all (λ m. compare_holds (contrary_comparison op) m w) ns) (contrary_holds op n w)
    ∙ ap (λ b. not (compare_holds op n w) && b) (all_contrary op ns w)
    ∙ and_not (compare_holds op n w) (list_any (λ m. compare_holds op m w) ns)

-- three clauses with a variable that is 1 where both parts hold, and else 0
three_told : (c a b : Bool) (x : ℤ)
    → (IsTrue ((c || int_eq x (pos 0)) || a) × IsTrue ((c || int_eq x (pos 0)) || b) × IsTrue (((c || int_eq x (pos 1)) || not a) || not b))
    ↔ IsTrue (c || int_eq x (of_bool (a && b)))
unfolding of_bool
three_told true a b x = (λ h. refl, λ h. (refl, refl, refl))
three_told false true true x = (λ h. one (int_eq x (pos 1)) h.2, λ h. (yes (int_eq x (pos 0)), yes (int_eq x (pos 0)), two (int_eq x (pos 1)) h))
  where
    one : (o : Bool) → IsTrue ((o || false) || false) → IsTrue o
    one true h = refl
    one false h = h

    two : (o : Bool) → IsTrue o → IsTrue ((o || false) || false)
    two true h = refl
    two false h = h

    yes : (z : Bool) → IsTrue (z || true)
    yes true = refl
    yes false = refl
three_told false true false x = (λ h. one (int_eq x (pos 0)) h.1, λ h. (yes (int_eq x (pos 0)), two (int_eq x (pos 0)) h, yes (int_eq x (pos 1) || false)))
  where
    one : (o : Bool) → IsTrue (o || false) → IsTrue o
    one true h = refl
    one false h = h

    two : (o : Bool) → IsTrue o → IsTrue (o || false)
    two true h = refl
    two false h = h

    yes : (z : Bool) → IsTrue (z || true)
    yes true = refl
    yes false = refl
three_told false false b x = (λ h. one (int_eq x (pos 0)) h.0, λ h. (two (int_eq x (pos 0)) false h, two (int_eq x (pos 0)) b h, yes (int_eq x (pos 1)) (not b)))
  where
    one : (o : Bool) → IsTrue (o || false) → IsTrue o
    one true h = refl
    one false h = h

    two : (o k : Bool) → IsTrue o → IsTrue (o || k)
    two true k h = refl
    two false k h = absurd (let e : false ≡ true = h in cc)

    yes : (o k : Bool) → IsTrue ((o || true) || k)
    yes true k = refl
    yes false k = refl

two_atoms : (values : List ℤ) (a b : Atom) → clause_holds values (a ∷ b ∷ []) ≡ (atom_holds values a || atom_holds values b)
unfolding clause_holds
two_atoms values a b = ap (λ e. atom_holds values a || e) (or-false (atom_holds values b))

said : (values : List ℤ) (r t : ℕ) (w : ℤ) (b : Bool) → (not (int_eq (number_at values r) w) || int_eq (number_at values t) (of_bool b)) ≡ says values (or_is_not [] r w) (Some t) b
unfolding says is_as_said clause_holds atom_holds test_holds
said values r t w b = ap (λ e. e || int_eq (number_at values t) (of_bool b)) (sym (or-false (not (int_eq (number_at values r) w))))

atoms_told : (values : List ℤ) (r t : ℕ) (w v : ℤ) → clause_holds values (is_not_atom r w ∷ is_atom t v ∷ []) ≡ (not (int_eq (number_at values r) w) || int_eq (number_at values t) v)
unfolding atom_holds test_holds
atoms_told values r t w v = two_atoms values (is_not_atom r w) (is_atom t v)

-- whether a number is the least or greatest one, by two facts about it
pub whether_told : (side : Side) (values : List ℤ) (xs : List ℕ) (r t : ℕ) (w : ℤ) (fails holds beyond : List Atom) → fails ≡ is_not_atom r w ∷ is_atom t (pos 0) ∷ [] → holds ≡ is_not_atom r w ∷ is_atom t (pos 1) ∷ []
    → clause_holds values beyond ≡ (clause_holds values holds || any_compares (contrary_comparison (within_of side)) (numbers_of_vars values xs) w)
    → (IsTrue (clause_holds values fails || all_compare (within_of side) (numbers_of_vars values xs) w) × IsTrue (clause_holds values fails || any_compares (reached_of side) (numbers_of_vars values xs) w)
    × IsTrue (clause_holds values beyond || all_compare (contrary_comparison (reached_of side)) (numbers_of_vars values xs) w))
    ↔ IsTrue (says values (or_is_not [] r w) (Some t) (is_extreme side (numbers_of_vars values xs) w))
unfolding is_extreme
whether_told side values xs r t w fails holds beyond is_fails is_holds is_beyond =
    let c : Bool = not (int_eq (number_at values r) w) in
    let x : ℤ = number_at values t in
    let A : Bool = all_compare (within_of side) (numbers_of_vars values xs) w in
    let B : Bool = any_compares (reached_of side) (numbers_of_vars values xs) w in
    let f : clause_holds values fails ≡ (c || int_eq x (pos 0)) = ap (clause_holds values) is_fails ∙ atoms_told values r t w (pos 0) in
    let b : clause_holds values beyond ≡ ((c || int_eq x (pos 1)) || not A) =
    is_beyond ∙ ap (λ e. e || any_compares (contrary_comparison (within_of side)) (numbers_of_vars values xs) w) (ap (clause_holds values) is_holds ∙ atoms_told values r t w (pos 1))
    ∙ ap (λ e. (c || int_eq x (pos 1)) || e) (any_contrary (within_of side) (numbers_of_vars values xs) w) in
    let one : (clause_holds values fails || A) ≡ ((c || int_eq x (pos 0)) || A) = ap (λ e. e || A) f in
    let two : (clause_holds values fails || B) ≡ ((c || int_eq x (pos 0)) || B) = ap (λ e. e || B) f in
    let three : (clause_holds values beyond || all_compare (contrary_comparison (reached_of side)) (numbers_of_vars values xs) w) ≡ (((c || int_eq x (pos 1)) || not A) || not B) =
    ap (λ e. e || all_compare (contrary_comparison (reached_of side)) (numbers_of_vars values xs) w) b ∙ ap (λ e. ((c || int_eq x (pos 1)) || not A) || e) (all_contrary (reached_of side) (numbers_of_vars values xs) w) in
    let h = three_told c A B x in
    let s : (c || int_eq x (of_bool (A && B))) ≡ says values (or_is_not [] r w) (Some t) (A && B) = said values r t w (A && B) in (
      λ p. subst IsTrue s (h.0 (subst IsTrue one p.0, subst IsTrue two p.1, subst IsTrue three p.2)),
      λ k. let q = h.1 (subst IsTrue (sym s) k) in (subst IsTrue (sym one) q.0, subst IsTrue (sym two) q.1, subst IsTrue (sym three) q.2),
    )

pub adds_is_extreme : (L : List VariableLiterals) (f f1 f2 g : Cnf) (side : Side) (xs : List ℕ) (r t : ℕ) (w n : ℤ) (fails holds beyond : List Atom) (a b d : CompareOp) → IsReady L f → n ≡ w
    → fails ≡ is_not_atom r w ∷ is_atom t (pos 0) ∷ [] → holds ≡ is_not_atom r w ∷ is_atom t (pos 1) ∷ []
    → a ≡ within_of side → b ≡ reached_of side → d ≡ contrary_comparison (reached_of side)
    → ((values : List ℤ) → clause_holds values beyond ≡ (clause_holds values holds || any_compares (contrary_comparison (within_of side)) (numbers_of_vars values xs) w))
    → Adds L f L f1 (λ values. IsTrue (clause_holds values fails || all_compare a (numbers_of_vars values xs) n))
    → Adds L f1 L f2 (λ values. IsTrue (clause_holds values fails || any_compares b (numbers_of_vars values xs) n))
    → Adds L f2 L g (λ values. IsTrue (clause_holds values beyond || all_compare d (numbers_of_vars values xs) n))
    → Adds L f L g (λ values. IsTrue (says values (or_is_not [] r w) (Some t) (is_extreme side (numbers_of_vars values xs) w)))
adds_is_extreme L f f1 f2 g side xs r t w n fails holds beyond a b d ready same is_fails is_holds is_a is_b is_d is_beyond one two three =
    let P : List ℤ → Type 0 = λ values. IsTrue (clause_holds values fails || all_compare (within_of side) (numbers_of_vars values xs) w) in
    let Q : List ℤ → Type 0 = λ values. IsTrue (clause_holds values fails || any_compares (reached_of side) (numbers_of_vars values xs) w) in
    let R : List ℤ → Type 0 = λ values. IsTrue (clause_holds values beyond || all_compare (contrary_comparison (reached_of side)) (numbers_of_vars values xs) w) in
    let p : Adds L f L f1 P =
    subst (λ v. Adds L f L f1 (λ values. IsTrue (clause_holds values fails || all_compare (within_of side) (numbers_of_vars values xs) v))) same
    (subst (λ o. Adds L f L f1 (λ values. IsTrue (clause_holds values fails || all_compare o (numbers_of_vars values xs) n))) is_a one) in
    let q : Adds L f1 L f2 Q =
    subst (λ v. Adds L f1 L f2 (λ values. IsTrue (clause_holds values fails || any_compares (reached_of side) (numbers_of_vars values xs) v))) same
    (subst (λ o. Adds L f1 L f2 (λ values. IsTrue (clause_holds values fails || any_compares o (numbers_of_vars values xs) n))) is_b two) in
    let s : Adds L f2 L g R =
    subst (λ v. Adds L f2 L g (λ values. IsTrue (clause_holds values beyond || all_compare (contrary_comparison (reached_of side)) (numbers_of_vars values xs) v))) same
    (subst (λ o. Adds L f2 L g (λ values. IsTrue (clause_holds values beyond || all_compare o (numbers_of_vars values xs) n))) is_d three) in
    let PQ : List ℤ → Type 0 = λ values. P values × Q values in
    let whole : Adds L f L g (λ values. PQ values × R values) = adds_both L f f2 L g PQ R ready.is_layout (adds_both L f f1 L f2 P Q ready.is_layout p q) s in
    adds_like L f L g (λ values. PQ values × R values) (λ values. IsTrue (says values (or_is_not [] r w) (Some t) (is_extreme side (numbers_of_vars values xs) w))) ready.is_layout whole
    (λ values among. let h = whether_told side values xs r t w fails holds beyond is_fails is_holds (is_beyond values) in
    (λ e. h.0 (e.0.0, e.0.1, e.1), λ k. let m = h.1 k in ((m.0, m.1), m.2)))

-- the same of a number that is told in other words
pub adds_told : (L : List VariableLiterals) (f g : Cnf) (truth : Option ℕ) (b d : List ℤ → Bool) → IsReady L f → ((values : List ℤ) → b values ≡ d values)
    → Adds L f L g (λ values. IsTrue (says values [] truth (b values))) → Adds L f L g (λ values. IsTrue (says values [] truth (d values)))
adds_told L f g truth b d ready same adds =
    adds_like L f L g (λ values. IsTrue (says values [] truth (b values))) (λ values. IsTrue (says values [] truth (d values))) ready.is_layout adds
    (λ values among. same_test _ _ (ap (says values [] truth) (same values)))

alone : (values : List ℤ) (b : Bool) → says values [] None b ≡ b
unfolding says is_as_said clause_holds
alone values b = refl

-- without a variable that says whether
pub adds_alone : (L : List VariableLiterals) (f g : Cnf) (truth : Option ℕ) (b : List ℤ → Bool) → IsReady L f → truth ≡ None
    → Adds L f L g (λ values. IsTrue (b values)) → Adds L f L g (λ values. IsTrue (says values [] truth (b values)))
adds_alone L f g truth b ready none adds =
    adds_like L f L g (λ values. IsTrue (b values)) (λ values. IsTrue (says values [] truth (b values))) ready.is_layout adds
    (λ values among. same_test _ _ (sym (ap (λ t. says values [] t (b values)) none ∙ alone values (b values))))
