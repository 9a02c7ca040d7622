-- What rows say, and loops over them.
use Rattle.std.proofs.Common.{◌≡◌, ◌↔◌, ℕ, ℤ, Bool, true, false, ◌||◌, List, [], ◌∷◌, refl, sym, ap, ◌∙◌}
use Rattle.cnf_core.specs.Formula.{Cnf}
use Rattle.enc_atoms.proofs.Adding.{adds_like}
use Rattle.enc_atoms.specs.Atoms.{Adds, atom_holds, clause_holds}
use Rattle.enc_atoms.specs.declared.atoms.Atom.{Atom}
use Rattle.enc_atoms.proofs.Meanings.{is_not_fails}
use Rattle.enc_atoms.specs.Steps.{Implied, Unless, is_not}
use Rattle.enc_var.specs.Decoding.{VariableLiterals}
use Rattle.enc_var.specs.Layouts.{IsLayoutOf}
use Rattle.ep_flat.specs.Cons.{number_at}
use Rattle.enc_adder.specs.Bits.{Follows, Row}

both_fail : (a b : Bool) → ((a || (b || false)) ≡ false) ↔ ((a ≡ false) × (b ≡ false))
both_fail true b = (λ h. absurd (bad h), λ h. absurd (bad h.0))
  where
    bad : true ≡ false → ⊥
    bad x = cc
both_fail false true = (λ h. absurd (bad h), λ h. absurd (bad h.1))
  where
    bad : true ≡ false → ⊥
    bad x = cc
both_fail false false = (λ h. (refl, refl), λ h. refl)

guards_fail : (values : List ℤ) (x : ℕ) (v : ℤ) (y : ℕ) (w : ℤ) → (clause_holds values (is_not x v ∷ is_not y w ∷ []) ≡ false) ↔ ((number_at values x ≡ v) × (number_at values y ≡ w))
unfolding clause_holds
guards_fail values x v y w =
    let both = both_fail (atom_holds values (is_not x v)) (atom_holds values (is_not y w)) in
    let one = is_not_fails values x v in
    let two = is_not_fails values y w in
    (λ h. (one.0 (both.0 h).0, two.0 (both.0 h).1), λ h. both.1 (one.1 h.0, two.1 h.1))

pub row_adds : (L : List VariableLiterals) (f g : Cnf) (row : Row) (guard : List Atom) (given then : ℕ × ℤ) → IsLayoutOf L f → guard ≡ is_not row.0.0 row.0.1 ∷ is_not row.1.0 row.1.1 ∷ [] → given ≡ row.2 → then ≡ row.3
    → Adds L f L g (Unless guard (Implied given.0 given.1 then.0 then.1)) → Adds L f L g (λ values. Follows values row)
row_adds L f g row guard given then is_layout guards is_given is_then adds =
    adds_like L f L g (Unless guard (Implied given.0 given.1 then.0 then.1)) (λ values. Follows values row) is_layout adds
    (λ values among.
    let fails = guards_fail values row.0.0 row.0.1 row.1.0 row.1.1 in (
      λ h p q r. forth values h (ap (clause_holds values) guards ∙ fails.1 (p, q)) r,
      λ h off at. back values (h (fails.0 (sym (ap (clause_holds values) guards) ∙ off)).0 (fails.0 (sym (ap (clause_holds values) guards) ∙ off)).1) at,
    ))
  where
    forth : (values : List ℤ) → Unless guard (Implied given.0 given.1 then.0 then.1) values → clause_holds values guard ≡ false → number_at values row.2.0 ≡ row.2.1 → number_at values row.3.0 ≡ row.3.1
    forth values h off r = ap (λ (p : ℕ × ℤ). number_at values p.0) (sym is_then) ∙ h off (ap (λ (p : ℕ × ℤ). number_at values p.0) is_given ∙ r ∙ ap (λ (p : ℕ × ℤ). p.1) (sym is_given)) ∙ ap (λ (p : ℕ × ℤ). p.1) is_then

    back : (values : List ℤ) → (number_at values row.2.0 ≡ row.2.1 → number_at values row.3.0 ≡ row.3.1) → Implied given.0 given.1 then.0 then.1 values
    back values h at = ap (λ (p : ℕ × ℤ). number_at values p.0) is_then ∙ h (ap (λ (p : ℕ × ℤ). number_at values p.0) (sym is_given) ∙ at ∙ ap (λ (p : ℕ × ℤ). p.1) is_given) ∙ ap (λ (p : ℕ × ℤ). p.1) (sym is_then)
