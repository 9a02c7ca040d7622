-- Clauses behind a guard.
use Rattle.std.proofs.Common.{Some, pos, ◌≡◌, ◌↔◌, ℤ, Bool, true, false, ◌||◌, IsTrue, List, [], ◌∷◌, ◌++◌, refl, sym, ap, ◌∙◌, ℕ, ◌+◌, ◌<◌, nat_lt, subst, arith}
use Rattle.std.specs.List.{All, list_any}
use Rattle.std.proofs.lemmas.List.Folds.{list_any-append}
use Rattle.cnf_core.specs.Formula.{Cnf}
use Rattle.enc_atoms.proofs.Adding.{adds_both, adds_like, adds_nothing}
use Rattle.enc_var.proofs.Places.{lt_back, lt_back_false}
use Rattle.enc_atoms.specs.Atoms.{Adds, AreOfDomains, atom_holds, clause_holds}
use Rattle.enc_atoms.specs.declared.atoms.Atom.{Atom}
use Rattle.enc_var.specs.Decoding.{VariableLiterals}
use Rattle.enc_var.specs.Layouts.{IsLayoutOf}
use Rattle.enc_atoms.proofs.Meanings.{decided, guard_fails}
use Rattle.enc_atoms.specs.Steps.{IsTruth, Unless, is_not}
use Rattle.ep_flat.specs.Cons.{is_as_said, number_at}

after_false : (a b : Bool) → (a || b) ≡ true → a ≡ false → b ≡ true
after_false true b h e = absurd (bad e)
  where
    bad : true ≡ false → ⊥
    bad x = cc
after_false false b h e = h

or_from : (a b : Bool) → (a ≡ false → b ≡ true) → (a || b) ≡ true
or_from true b h = refl
or_from false b h = h refl

-- a clause of a guard and others
pub unless_clause : (values : List ℤ) (guard atoms : List Atom) → IsTrue (clause_holds values (guard ++ atoms)) ↔ Unless guard (λ vs. IsTrue (clause_holds vs atoms)) values
unfolding clause_holds
unless_clause values guard atoms = (
  λ h no. after_false (list_any (atom_holds values) guard) (list_any (atom_holds values) atoms) (sym (list_any-append (atom_holds values) guard atoms) ∙ h) no,
  λ h. list_any-append (atom_holds values) guard atoms ∙ or_from (list_any (atom_holds values) guard) (list_any (atom_holds values) atoms) h,
)

pub adds_clause : (L : List VariableLiterals) (f g : Cnf) (guard atoms all : List Atom) → IsLayoutOf L f → all ≡ guard ++ atoms → Adds L f L g (λ values. IsTrue (clause_holds values all)) → Adds L f L g (Unless guard (λ values. IsTrue (clause_holds values atoms)))
adds_clause L f g guard atoms all is_layout is adds =
    adds_like L f L g (λ values. IsTrue (clause_holds values all)) (Unless guard (λ values. IsTrue (clause_holds values atoms))) is_layout adds
    (λ values among. (
      λ h. (unless_clause values guard atoms).0 (ap (clause_holds values) (sym is) ∙ h),
      λ h. ap (clause_holds values) is ∙ (unless_clause values guard atoms).1 h,
    ))

-- what holds behind a guard, in other words
pub unless_like : (L : List VariableLiterals) (f : Cnf) (L1 : List VariableLiterals) (g : Cnf) (guard : List Atom) (P R : List ℤ → Type 0) → IsLayoutOf L f → Adds L f L1 g (Unless guard P) → ((values : List ℤ) → AreOfDomains L values → P values ↔ R values) → Adds L f L1 g (Unless guard R)
unless_like L f L1 g guard P R is_layout adds same =
    adds_like L f L1 g (Unless guard P) (Unless guard R) is_layout adds
    (λ values among. (λ h no. (same values among).0 (h no), λ h no. (same values among).1 (h no)))

-- two things behind one guard
pub unless_both : (L : List VariableLiterals) (f f1 : Cnf) (L2 : List VariableLiterals) (f2 : Cnf) (guard : List Atom) (P R : List ℤ → Type 0) → IsLayoutOf L f → Adds L f L f1 (Unless guard P) → Adds L f1 L2 f2 (Unless guard R) → Adds L f L2 f2 (Unless guard (λ values. P values × R values))
unless_both L f f1 L2 f2 guard P R is_layout one two =
    adds_like L f L2 f2 (λ values. Unless guard P values × Unless guard R values) (Unless guard (λ values. P values × R values)) is_layout
    (adds_both L f f1 L2 f2 (Unless guard P) (Unless guard R) is_layout one two)
    (λ values among. (λ h no. (h.0 no, h.1 no), λ h. (λ no. (h no).0, λ no. (h no).1)))

-- all of many things behind one guard
pub unless_all : {X : Type 0} (L : List VariableLiterals) (f : Cnf) (L1 : List VariableLiterals) (g : Cnf) (guard : List Atom) (H : List ℤ → X → Type 0) (xs : List X) → IsLayoutOf L f → Adds L f L1 g (λ values. All (λ x. Unless guard (λ vs. H vs x) values) xs) → Adds L f L1 g (Unless guard (λ values. All (H values) xs))
unless_all L f L1 g guard H xs is_layout adds =
    adds_like L f L1 g (λ values. All (λ x. Unless guard (λ vs. H vs x) values) xs) (Unless guard (λ values. All (H values) xs)) is_layout adds
    (λ values among. (λ h no k d low. h k d low no, λ h k d low no. h no k d low))

-- each of the numbers below none
pub adds_below_none : (L : List VariableLiterals) (f : Cnf) (H : List ℤ → ℕ → Type 0) → IsLayoutOf L f → IsTrue f.from_new → Adds L f L f (λ values. (j : ℕ) → j < 0 → H values j)
adds_below_none L f H is_layout from_new =
    adds_like L f L f (λ values. Unit {0}) (λ values. (j : ℕ) → j < 0 → H values j) is_layout (adds_nothing L f is_layout from_new)
    (λ values among. (λ any j low. absurd (omega (arith, low)), λ all. tt))

-- each of the numbers below one more
pub adds_below_more : (L : List VariableLiterals) (f f1 : Cnf) (L2 : List VariableLiterals) (f2 : Cnf) (H : List ℤ → ℕ → Type 0) (k : ℕ) → IsLayoutOf L f → Adds L f L f1 (λ values. (j : ℕ) → j < k → H values j) → Adds L f1 L2 f2 (λ values. H values k) → Adds L f L2 f2 (λ values. (j : ℕ) → j < k + 1 → H values j)
adds_below_more L f f1 L2 f2 H k is_layout one two =
    adds_like L f L2 f2 (λ values. ((j : ℕ) → j < k → H values j) × H values k) (λ values. (j : ℕ) → j < k + 1 → H values j) is_layout
    (adds_both L f f1 L2 f2 (λ values. (j : ℕ) → j < k → H values j) (λ values. H values k) is_layout one two)
    (λ values among. (λ h. below_more k (H values) h.0 h.1, λ h. (λ j low. h j (omega (arith, low)), h k (omega arith))))
  where
    below_more : (k : ℕ) (P : ℕ → Type 0) → ((j : ℕ) → j < k → P j) → P k → (j : ℕ) → j < k + 1 → P j
    below_more k P before here j low = by (nat_lt j k) refl
      where
        by : (t : Bool) → nat_lt j k ≡ t → P j
        by true e = before j (lt_back j k e)
        by false e = let is : k ≡ j = omega (arith, low, lt_back_false j k e) in subst P is here

-- a clause of these atoms behind a guard, in other words
pub unless_says : (L : List VariableLiterals) (f g : Cnf) (guard real atoms : List Atom) (P : List ℤ → Type 0) → IsLayoutOf L f → real ≡ atoms → ((values : List ℤ) → IsTrue (clause_holds values atoms) ↔ P values) → Adds L f L g (Unless guard (λ values. IsTrue (clause_holds values real))) → Adds L f L g (Unless guard P)
unless_says L f g guard real atoms P is_layout are says adds =
    unless_like L f L g guard (λ values. IsTrue (clause_holds values real)) P is_layout adds
    (λ values among. (λ h. (says values).0 (ap (clause_holds values) (sym are) ∙ h), λ h. ap (clause_holds values) are ∙ (says values).1 h))

-- the same without a guard
pub clause_says : (L : List VariableLiterals) (f g : Cnf) (real atoms : List Atom) (P : List ℤ → Type 0) → IsLayoutOf L f → real ≡ atoms → ((values : List ℤ) → IsTrue (clause_holds values atoms) ↔ P values) → Adds L f L g (λ values. IsTrue (clause_holds values real)) → Adds L f L g P
clause_says L f g real atoms P is_layout are says adds =
    adds_like L f L g (λ values. IsTrue (clause_holds values real)) P is_layout adds
    (λ values among. (λ h. (says values).0 (ap (clause_holds values) (sym are) ∙ h), λ h. ap (clause_holds values) are ∙ (says values).1 h))

-- A constraint with its truth value: 0 or 1, with 1 it holds and with 0 not.
pub adds_decided : (L : List VariableLiterals) (f f1 f2 : Cnf) (L3 : List VariableLiterals) (f3 : Cnf) (t : ℕ) (on off : List Atom) (K : List ℤ → Bool) → IsLayoutOf L f → on ≡ is_not t (pos 1) ∷ [] → off ≡ is_not t (pos 0) ∷ []
    → Adds L f L f1 (λ values. IsTruth (number_at values t)) → Adds L f1 L f2 (Unless on (λ values. K values ≡ true)) → Adds L f2 L3 f3 (Unless off (λ values. K values ≡ false))
    → Adds L f L3 f3 (λ values. IsTrue (is_as_said values (Some t) (K values)))
adds_decided L f f1 f2 L3 f3 t on off K is_layout on_is off_is one two three =
    adds_like L f L3 f3 (λ values. (IsTruth (number_at values t) × Unless on (λ vs. K vs ≡ true) values) × Unless off (λ vs. K vs ≡ false) values) (λ values. IsTrue (is_as_said values (Some t) (K values))) is_layout
    (adds_both L f f2 L3 f3 (λ values. IsTruth (number_at values t) × Unless on (λ vs. K vs ≡ true) values) (Unless off (λ vs. K vs ≡ false)) is_layout
    (adds_both L f f1 L f2 (λ values. IsTruth (number_at values t)) (Unless on (λ vs. K vs ≡ true)) is_layout one two) three)
    (λ values among. (
      λ h. (decided values t (K values)).0 (h.0.0, λ at. h.0.1 (fails values on (pos 1) on_is at), λ at. h.1 (fails values off (pos 0) off_is at)),
      λ h. let d = (decided values t (K values)).1 h in ((d.0, λ no. d.1 (failed values on (pos 1) on_is no)), λ no. d.2 (failed values off (pos 0) off_is no)),
    ))
  where
    fails : (values : List ℤ) (guard : List Atom) (v : ℤ) → guard ≡ is_not t v ∷ [] → number_at values t ≡ v → clause_holds values guard ≡ false
    fails values guard v are at = ap (clause_holds values) are ∙ (guard_fails values t v).1 at

    failed : (values : List ℤ) (guard : List Atom) (v : ℤ) → guard ≡ is_not t v ∷ [] → clause_holds values guard ≡ false → number_at values t ≡ v
    failed values guard v are off_there = (guard_fails values t v).0 (ap (clause_holds values) (sym are) ∙ off_there)
