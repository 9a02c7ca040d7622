-- Constraints: which variables they name, and what keeps one.
use Rattle.std.proofs.Common.{◌≡◌, refl, pos, ℕ, ◌<◌, ℤ, Bool, false, IsTrue, List, [], ◌∷◌, ◌++◌, length, Option, Some, None, sym, ap, subst, ◌∙◌, arith}
use Rattle.std.proofs.lemmas.List.Elements.{All-contains, All-head, All-map, All-weaker, Contains-append_right}
use Rattle.cnf_core.proofs.Keeping.{keeps_like}
use Rattle.cnf_core.proofs.Members.{All-from_contains}
use Rattle.cnf_core.specs.Formula.{Cnf, Keeps}
use Rattle.ep_base.specs.Numbers.{has_number, of_bool}
use Rattle.ep_flat.specs.Cons.{FlatCon, FlatKind, con_holds, con_variables, is_as_said, kind_holds, kind_variables, numbers_of_vars}
use Rattle.ep_flat.specs.Flats.{NamesBelow}
use Rattle.enc_atoms.proofs.Adding.{adds_like}
use Rattle.enc_atoms.specs.Atoms.{Adds, clause_holds}
use Rattle.enc_atoms.specs.declared.atoms.Atom.{Atom}
use Rattle.enc_atoms.proofs.Meanings.{are_all_says, clause_none, guard_fails, is_clause, not_false, same, same_test}
use Rattle.enc_atoms.proofs.NewTruths.{length-numbers_from, length_later, numbers_from_at}
use Rattle.enc_atoms.specs.Steps.{AreAtomsOf, AreOf, HasTruth, HasTruths, Unless, are_all, is, is_not, numbers_from}
use Rattle.enc_var.specs.Decoding.{VariableLiterals}
use Rattle.enc_var.specs.Layouts.{HoldsUnder, IsLayoutOf, decoded_values}
use Rattle.ep_flat.specs.Cons.{number_at}
use Rattle.std.proofs.Common.{◌↔◌}

-- the variable of a constraint's truth value is of the layout
pub truth_named : (L : List VariableLiterals) (truth : Option ℕ) (kind : FlatKind) → NamesBelow (length L) (record { truth = truth; kind = kind }) → HasTruth L truth
unfolding con_variables
truth_named L None kind names = tt
truth_named L (Some t) kind names = All-head (λ x. x < length L) t (kind_variables kind) names

-- the variables of its kind are of the layout
pub kind_named : (L : List VariableLiterals) (truth : Option ℕ) (kind : FlatKind) → NamesBelow (length L) (record { truth = truth; kind = kind }) → AreOf L (kind_variables kind)
unfolding con_variables
kind_named L None kind names = names
kind_named L (Some t) kind names = All-from_contains (λ x. x < length L) (kind_variables kind) (λ x found. All-contains (λ y. y < length L) ((t ∷ []) ++ kind_variables kind) x names (Contains-append_right (t ∷ []) (kind_variables kind) x found))

-- what adds a constraint keeps it
pub keeps_con : (L : List VariableLiterals) (f : Cnf) (L1 : List VariableLiterals) (g : Cnf) (con : FlatCon) (K : List ℤ → Bool) → ((values : List ℤ) → kind_holds values con.kind ≡ K values)
    → Adds L f L1 g (λ values. IsTrue (is_as_said values con.truth (K values))) → Keeps f g (HoldsUnder L con)
unfolding con_holds
keeps_con L f L1 g con K says adds =
    keeps_like f g (λ s. IsTrue (is_as_said (decoded_values L s) con.truth (K (decoded_values L s)))) (HoldsUnder L con) adds.keeps
    (λ s met. (
      λ h. ap (is_as_said (decoded_values L s) con.truth) (says (decoded_values L s)) ∙ h,
      λ h. ap (is_as_said (decoded_values L s) con.truth) (sym (says (decoded_values L s))) ∙ h,
    ))

-- a constraint without a truth value, behind no guard
pub adds_plain : (L : List VariableLiterals) (f : Cnf) (L1 : List VariableLiterals) (g : Cnf) (truth : Option ℕ) (guard : List Atom) (K : List ℤ → Bool) → IsLayoutOf L f → truth ≡ None → guard ≡ [] → Adds L f L1 g (Unless guard (λ values. IsTrue (K values))) → Adds L f L1 g (λ values. IsTrue (is_as_said values truth (K values)))
unfolding is_as_said
adds_plain L f L1 g truth guard K is_layout none empty adds =
    adds_like L f L1 g (Unless guard (λ values. IsTrue (K values))) (λ values. IsTrue (is_as_said values truth (K values))) is_layout adds
    (λ values among. (
      λ h. ap (λ o. is_as_said values o (K values)) none ∙ h (ap (clause_holds values) empty ∙ clause_none values),
      λ h off. ap (λ o. is_as_said values o (K values)) (sym none) ∙ h,
    ))

-- a constraint with a truth value, which is named otherwise
pub adds_some : (L : List VariableLiterals) (f : Cnf) (L1 : List VariableLiterals) (g : Cnf) (truth : Option ℕ) (t : ℕ) (K : List ℤ → Bool) → truth ≡ Some t → Adds L f L1 g (λ values. IsTrue (is_as_said values (Some t) (K values))) → Adds L f L1 g (λ values. IsTrue (is_as_said values truth (K values)))
adds_some L f L1 g truth t K is_some adds = subst (λ (o : Option ℕ). Adds L f L1 g (λ values. IsTrue (is_as_said values o (K values)))) (sym is_some) adds

-- atoms of variables of the layout
pub atoms_of : (L : List VariableLiterals) (vars : List ℕ) (v : ℤ) (atoms : List Atom) → atoms ≡ are_all vars v → AreOf L vars → AreAtomsOf L atoms
unfolding are_all
atoms_of L vars v atoms are low = subst (λ (those : List Atom). AreAtomsOf L those) (sym are) (All-map (λ (a : Atom). a.var < length L) (λ x. is x v) vars low)

-- a clause which says that one of some variables is a number
pub one_is_says : (values : List ℤ) (vars : List ℕ) (v : ℤ) → IsTrue (clause_holds values (are_all vars v)) ↔ IsTrue (has_number (numbers_of_vars values vars) v)
one_is_says values vars v = (λ h. sym (are_all_says values vars v) ∙ h, λ h. are_all_says values vars v ∙ h)

-- where the guard of one atom fails
pub fails_as : (t : ℕ) (v : ℤ) (guard : List Atom) → guard ≡ is_not t v ∷ [] → (values : List ℤ) → (clause_holds values guard ≡ false) ↔ (number_at values t ≡ v)
fails_as t v guard are values = (
  λ off. (guard_fails values t v).0 (ap (clause_holds values) (sym are) ∙ off),
  λ at. ap (clause_holds values) are ∙ (guard_fails values t v).1 at,
)

-- new variables are of the new layout
pub truths_within : (L : List VariableLiterals) (f : Cnf) (L1 : List VariableLiterals) (g : Cnf) (count : ℕ) (truths : List ℕ) → HasTruths L f L1 g count → truths ≡ numbers_from (length L) count → AreOf L1 truths
truths_within L f L1 g count truths new are = subst (λ ts. AreOf L1 ts) (sym are) (λ k d low.
    let within : k < count = omega (arith, low, length-numbers_from (length L) count) in
    omega (arith, numbers_from_at (length L) count k d within, length_later L f L1 g count new, within))

-- variables of a layout are of one that goes on from it
pub later_vars : (L : List VariableLiterals) (f : Cnf) (L1 : List VariableLiterals) (g : Cnf) (count : ℕ) (vars : List ℕ) → HasTruths L f L1 g count → AreOf L vars → AreOf L1 vars
later_vars L f L1 g count vars new low = All-weaker (λ x. x < length L) (λ x. x < length L1) (λ x below. omega (arith, below, length_later L f L1 g count new)) vars low

pub later_guard : (L : List VariableLiterals) (f : Cnf) (L1 : List VariableLiterals) (g : Cnf) (count : ℕ) (guard : List Atom) → HasTruths L f L1 g count → AreAtomsOf L guard → AreAtomsOf L1 guard
later_guard L f L1 g count guard new low = All-weaker (λ (a : Atom). a.var < length L) (λ (a : Atom). a.var < length L1) (λ a below. omega (arith, below, length_later L f L1 g count new)) guard low

-- a clause which says that a constraint never holds
pub never_none : (L : List VariableLiterals) (f g : Cnf) (truth : Option ℕ) (atoms : List Atom) → IsLayoutOf L f → truth ≡ None → atoms ≡ [] → Adds L f L g (λ values. IsTrue (clause_holds values atoms)) → Adds L f L g (λ values. IsTrue (is_as_said values truth false))
unfolding is_as_said
never_none L f g truth atoms is_layout none empty adds =
    adds_like L f L g (λ values. IsTrue (clause_holds values atoms)) (λ values. IsTrue (is_as_said values truth false)) is_layout adds
    (λ values among. (
      λ h. not_false (clause_holds values atoms) h (ap (clause_holds values) empty ∙ clause_none values),
      λ h. not_false false (ap (λ o. is_as_said values o false) (sym none) ∙ h) refl,
    ))

pub never_some : (L : List VariableLiterals) (f g : Cnf) (truth : Option ℕ) (t : ℕ) (atoms : List Atom) → IsLayoutOf L f → truth ≡ Some t → atoms ≡ is t (pos 0) ∷ [] → Adds L f L g (λ values. IsTrue (clause_holds values atoms)) → Adds L f L g (λ values. IsTrue (is_as_said values truth false))
unfolding is_as_said of_bool
never_some L f g truth t atoms is_layout some are adds =
    adds_like L f L g (λ values. IsTrue (clause_holds values atoms)) (λ values. IsTrue (is_as_said values truth false)) is_layout adds
    (λ values among. (
      λ h. ap (λ o. is_as_said values o false) some ∙ same_test (number_at values t) (pos 0) ((is_clause values t (pos 0)).0 (ap (clause_holds values) (sym are) ∙ h)),
      λ h. ap (clause_holds values) are ∙ (is_clause values t (pos 0)).1 (same (number_at values t) (pos 0) (ap (λ o. is_as_said values o false) (sym some) ∙ h)),
    ))
