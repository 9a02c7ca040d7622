-- What clauses under guards say, and what the variable of a truth says.
use Rattle.std.proofs.Common.{◌≡◌, ◌≢◌, ◌⊎◌, inl, inr, ◌↔◌, ℕ, ◌+◌, ◌<◌, ℤ, pos, Bool, true, false, not, ◌||◌, IsTrue, List, [], ◌∷◌, ◌++◌, length, take, get_or, refl, sym, ap, subst, ◌∙◌}
use Rattle.std.specs.List.{All, Contains, list_any}
use mathlib.Core.Bool.{beq}
use Rattle.std.specs.Ordering.{int_eq}
use Rattle.std.specs.Prelude.{Option, Some, None}
use Rattle.std.proofs.lemmas.Bool.Decides.{Decides-int_eq}
use Rattle.std.proofs.lemmas.List.Elements.{All-contains, All-push}
use Rattle.std.proofs.lemmas.List.Folds.{list_any-append}
use Rattle.cnf_core.proofs.Members.{All-from_contains}
use Rattle.ep_base.specs.Numbers.{has_number, of_bool}
use Rattle.ep_flat.specs.Cons.{is_as_said, number_at}
use Rattle.cnf_core.specs.Formula.{Cnf}
use Rattle.enc_atoms.proofs.Adding.{adds_like}
use Rattle.enc_linear.proofs.Turns.{nothing_new, one_more}
use Rattle.enc_var.proofs.Counts.{tested}
use Rattle.enc_var.specs.Decoding.{VariableLiterals}
use Rattle.enc_var.specs.Layouts.{IsLayoutOf}
use Rattle.enc_atoms.specs.Atoms.{Adds, atom_holds, clause_holds, test_holds}
use Rattle.enc_atoms.specs.declared.atoms.Atom.{Atom}
use Rattle.enc_atoms.specs.declared.atoms.Test.{Test}
use Rattle.enc_linear.specs.Guards.{IsMember, IsTruthValue, Unless}

either : (a b : Bool) → ((a || (b || false)) ≡ true) ↔ ((a ≡ true) ⊎ (b ≡ true))
either true b = (λ h. inl refl, λ h. refl)
either false true = (λ h. inr refl, λ h. refl)
either false false = (λ h. inl h, λ h. elim h as (λ _. false ≡ true) [ inl e ↦ e | inr e ↦ e ])

-- a clause with one atom more
pub with_one_more : (values : List ℤ) (guards : List Atom) (atom : Atom) → IsTrue (clause_holds values (guards ++ atom ∷ [])) ↔ (IsTrue (clause_holds values guards) ⊎ IsTrue (atom_holds values atom))
unfolding clause_holds
with_one_more values guards atom =
    let e = list_any-append (atom_holds values) guards (atom ∷ []) in
    let cases = either (list_any (atom_holds values) guards) (atom_holds values atom) in
    (λ h. cases.0 (sym e ∙ h), λ h. e ∙ cases.1 h)

-- no guard holds where there is none
pub no_guard : (values : List ℤ) → IsTrue (clause_holds values []) → ⊥
unfolding clause_holds
no_guard values h = cc

pub negated : (b : Bool) (P : Type 0) → (b ≡ true → P) × (P → b ≡ true) → (not b ≡ true) ↔ (P → ⊥)
negated true P d = (λ h. absurd (cc h), λ h. absurd (h (d.0 refl)))
negated false P d = (λ h p. absurd (cc (d.1 p)), λ h. refl)

-- "the variable isn't this number"
pub says_other : (values : List ℤ) (x : ℕ) (v : ℤ) → IsTrue (atom_holds values (record { var = x; test = Test.IsNot; value = v })) ↔ (number_at values x ≢ v)
unfolding atom_holds test_holds
says_other values x v = negated (int_eq (number_at values x) v) (number_at values x ≡ v) (Decides-int_eq (number_at values x) v)

-- "the variable is this number"
pub says_same : (values : List ℤ) (x : ℕ) (v : ℤ) → IsTrue (atom_holds values (record { var = x; test = Test.Is; value = v })) ↔ (number_at values x ≡ v)
unfolding atom_holds test_holds
says_same values x v = Decides-int_eq (number_at values x) v

-- a clause of one atom
pub one_atom : (values : List ℤ) (atom : Atom) → IsTrue (clause_holds values (atom ∷ [])) ↔ IsTrue (atom_holds values atom)
one_atom values atom =
    let cases = with_one_more values [] atom in
    (λ h. elim (cases.0 h) as (λ _. IsTrue (atom_holds values atom)) [ inl none ↦ absurd (no_guard values none) | inr holds ↦ holds ], λ h. cases.1 (inr h))

-- the clause that a truth is 0 or 1
pub says_truth : (values : List ℤ) (t : ℕ) → IsTrue (clause_holds values (record { var = t; test = Test.Is; value = pos 0 } ∷ record { var = t; test = Test.Is; value = pos 1 } ∷ [])) ↔ IsTruthValue t values
says_truth values t =
    let zero : Atom = record { var = t; test = Test.Is; value = pos 0 } in
    let one : Atom = record { var = t; test = Test.Is; value = pos 1 } in
    let cases = with_one_more values (zero ∷ []) one in (
      λ h. elim (cases.0 h) as (λ _. IsTruthValue t values) [ inl a ↦ inl ((says_same values t (pos 0)).0 ((one_atom values zero).0 a)) | inr b ↦ inr ((says_same values t (pos 1)).0 b) ],
      λ h. cases.1 (elim h as (λ _. IsTrue (clause_holds values (zero ∷ [])) ⊎ IsTrue (atom_holds values one)) [
        | inl a ↦ inl ((one_atom values zero).1 ((says_same values t (pos 0)).1 a))
        | inr b ↦ inr ((says_same values t (pos 1)).1 b)
      ]),
    )

-- what a turn over a value of the variable says
abbrev pub Passes : List Atom → ℕ → List ℤ → Bool → List ℤ → ℤ → Type 0
Passes guards x numbers inside values v = IsTrue (clause_holds values guards) ⊎ ((has_number numbers v ≡ inside) ⊎ (number_at values x ≢ v))

-- a value that is as wanted needs no clause
pub passes_by : (guards : List Atom) (x : ℕ) (numbers : List ℤ) (inside : Bool) (values : List ℤ) (v : ℤ) → has_number numbers v ≡ inside → Passes guards x numbers inside values v
passes_by guards x numbers inside values v h = inr (inl h)

-- the clause of a value that isn't
pub passes_clause : (guards : List Atom) (x : ℕ) (numbers : List ℤ) (inside : Bool) (values : List ℤ) (v : ℤ) → has_number numbers v ≢ inside
    → IsTrue (clause_holds values (guards ++ record { var = x; test = Test.IsNot; value = v } ∷ [])) ↔ Passes guards x numbers inside values v
passes_clause guards x numbers inside values v wrong =
    let atom : Atom = record { var = x; test = Test.IsNot; value = v } in
    let cases = with_one_more values guards atom in (
      λ h. elim (cases.0 h) as (λ _. Passes guards x numbers inside values v) [ inl g ↦ inl g | inr a ↦ inr (inr ((says_other values x v).0 a)) ],
      λ h. cases.1 (elim h as (λ _. IsTrue (clause_holds values guards) ⊎ IsTrue (atom_holds values atom)) [
        | inl g ↦ inl g
        | inr r ↦ elim r as (λ _. IsTrue (clause_holds values guards) ⊎ IsTrue (atom_holds values atom)) [ inl same ↦ absurd (wrong same) | inr other ↦ inr ((says_other values x v).1 other) ]
      ]),
    )

-- all values
pub passes_all : (guards : List Atom) (x : ℕ) (numbers : List ℤ) (inside : Bool) (values domain : List ℤ) → Contains domain (number_at values x)
    → All (Passes guards x numbers inside values) domain ↔ Unless guards (IsMember x numbers inside) values
passes_all guards x numbers inside values domain found = (
  λ h. elim (All-contains (Passes guards x numbers inside values) domain (number_at values x) h found) as (λ _. Unless guards (IsMember x numbers inside) values) [
    | inl g ↦ inl g
    | inr r ↦ elim r as (λ _. Unless guards (IsMember x numbers inside) values) [ inl same ↦ inr same | inr other ↦ absurd (other refl) ]
  ],
  λ h. All-from_contains (Passes guards x numbers inside values) domain (λ v among. each v h),
)
  where
    by : (v : ℤ) (b : Bool) → int_eq (number_at values x) v ≡ b → has_number numbers (number_at values x) ≡ inside → Passes guards x numbers inside values v
    by v true e m = inr (inl (subst (λ w. has_number numbers w ≡ inside) ((Decides-int_eq (number_at values x) v).0 e) m))
    by v false e m = inr (inr (λ same. absurd (cc (e, (Decides-int_eq (number_at values x) v).1 same))))

    each : (v : ℤ) → Unless guards (IsMember x numbers inside) values → Passes guards x numbers inside values v
    each v (inl g) = inl g
    each v (inr m) = by v (int_eq (number_at values x) v) refl m

-- a truth says whether something holds: it is 0 or 1, not 1 or it holds, and 1 or it doesn't
pub says_whether : (values : List ℤ) (t : ℕ) (h : Bool)
    → ((IsTruthValue t values × (IsTrue (clause_holds values (record { var = t; test = Test.IsNot; value = pos 1 } ∷ [])) ⊎ (h ≡ true)))
    × (IsTrue (clause_holds values (record { var = t; test = Test.Is; value = pos 1 } ∷ [])) ⊎ (h ≡ false)))
    ↔ IsTrue (is_as_said values (Some t) h)
unfolding is_as_said of_bool
says_whether values t true =
    let n = number_at values t in
    let non : Atom = record { var = t; test = Test.IsNot; value = pos 1 } in
    let one : Atom = record { var = t; test = Test.Is; value = pos 1 } in (
      λ c. (Decides-int_eq n (pos 1)).1 (elim c.1 as (λ _. n ≡ pos 1) [ inl a ↦ (says_same values t (pos 1)).0 ((one_atom values one).0 a) | inr e ↦ absurd (cc e) ]),
      λ s. let is : n ≡ pos 1 = (Decides-int_eq n (pos 1)).0 s in ((inr is, inr refl), inl ((one_atom values one).1 ((says_same values t (pos 1)).1 is))),
    )
says_whether values t false =
    let n = number_at values t in
    let non : Atom = record { var = t; test = Test.IsNot; value = pos 1 } in (
      λ c. (Decides-int_eq n (pos 0)).1 (elim c.0.1 as (λ _. n ≡ pos 0) [
        | inl a ↦ elim c.0.0 as (λ _. n ≡ pos 0) [ inl zero ↦ zero | inr one ↦ absurd ((says_other values t (pos 1)).0 ((one_atom values non).0 a) one) ]
        | inr e ↦ absurd (cc e)
      ]),
      λ s. let is : n ≡ pos 0 = (Decides-int_eq n (pos 0)).0 s in ((inl is, inl ((one_atom values non).1 ((says_other values t (pos 1)).1 (λ e. other is e)))), inr refl),
    )
  where
    other : number_at values t ≡ pos 0 → number_at values t ≡ pos 1 → ⊥
    other a b = let e : pos 0 ≡ pos 1 = sym a ∙ b in cc

pub told_truth : (values : List ℤ) (t : ℕ) (a b : Atom) → a ≡ record { var = t; test = Test.Is; value = pos 0 } → b ≡ record { var = t; test = Test.Is; value = pos 1 } → IsTrue (clause_holds values (a ∷ b ∷ [])) ↔ IsTruthValue t values
told_truth values t a b first second =
    let zero : Atom = record { var = t; test = Test.Is; value = pos 0 } in
    subst (λ (x : Atom). IsTrue (clause_holds values (x ∷ b ∷ [])) ↔ IsTruthValue t values) (sym first)
    (subst (λ (y : Atom). IsTrue (clause_holds values (zero ∷ y ∷ [])) ↔ IsTruthValue t values) (sym second) (says_truth values t))

-- a turn over a value, with its clause
pub member_clause : (L : List VariableLiterals) (f f1 f2 : Cnf) (guards atoms : List Atom) (atom : Atom) (x : ℕ) (numbers xs : List ℤ) (inside r : Bool) (v : ℤ) (i : ℕ) → IsLayoutOf L f → i < length xs
    → v ≡ get_or xs i (pos 0) → (IsTrue r ↔ Contains numbers v) → (r ≡ inside → ⊥)
    → atoms ≡ guards ++ atom ∷ [] → atom ≡ record { var = x; test = Test.IsNot; value = v }
    → Adds L f L f1 (λ values. All (Passes guards x numbers inside values) (take i xs)) → Adds L f1 L f2 (λ values. IsTrue (clause_holds values atoms))
    → Adds L f L f2 (λ values. All (Passes guards x numbers inside values) (take (i + 1) xs))
member_clause L f f1 f2 guards atoms atom x numbers xs inside r v i is_layout low at has wrong all is before added =
    let wrong' : has_number numbers v ≢ inside = λ e. wrong (tested r numbers v has ∙ e) in
    let fits : atoms ≡ guards ++ record { var = x; test = Test.IsNot; value = v } ∷ [] = all ∙ ap (λ a. guards ++ a ∷ []) is in
    let same : (values : List ℤ) → IsTrue (clause_holds values atoms) ↔ Passes guards x numbers inside values (get_or xs i (pos 0)) =
    λ values. subst (λ (w : ℤ). IsTrue (clause_holds values atoms) ↔ Passes guards x numbers inside values w) at
    (subst (λ (ys : List Atom). IsTrue (clause_holds values ys) ↔ Passes guards x numbers inside values v) (sym fits) (passes_clause guards x numbers inside values v wrong')) in
    one_more L f f1 f2 (Passes guards x numbers inside) xs i (pos 0) is_layout low before
    (adds_like L f1 L f2 (λ values. IsTrue (clause_holds values atoms)) (λ values. Passes guards x numbers inside values (get_or xs i (pos 0))) before.goes_on.is_layout added (λ values among. same values))

-- a turn over a value that is as wanted
pub member_none : (L : List VariableLiterals) (f f1 : Cnf) (guards : List Atom) (x : ℕ) (numbers xs : List ℤ) (inside r : Bool) (v : ℤ) (i : ℕ) → IsLayoutOf L f → i < length xs
    → v ≡ get_or xs i (pos 0) → (IsTrue r ↔ Contains numbers v) → r ≡ inside
    → Adds L f L f1 (λ values. All (Passes guards x numbers inside values) (take i xs))
    → Adds L f L f1 (λ values. All (Passes guards x numbers inside values) (take (i + 1) xs))
member_none L f f1 guards x numbers xs inside r v i is_layout low at has right before =
    let right' : has_number numbers (get_or xs i (pos 0)) ≡ inside = subst (λ (w : ℤ). has_number numbers w ≡ inside) at (sym (tested r numbers v has) ∙ right) in
    one_more L f f1 f1 (Passes guards x numbers inside) xs i (pos 0) is_layout low before
    (nothing_new L f1 (λ values. Passes guards x numbers inside values (get_or xs i (pos 0))) before.goes_on.is_layout before.goes_on.from_new (λ values among. inr (inl right')))

-- the guards and one atom more are of the layout
pub names_more : (n : ℕ) (guards atoms : List Atom) (atom : Atom) → All (λ a. a.var < n) guards → atom.var < n → atoms ≡ guards ++ atom ∷ [] → All (λ a. a.var < n) atoms
names_more n guards atoms atom names low is = subst (All (λ a. a.var < n)) (sym is) (All-push (λ a. a.var < n) guards atom names low)

pub are_same : (a b : Bool) → beq a b ≡ true → a ≡ b
are_same true true h = refl
are_same true false h = absurd (cc h)
are_same false true h = absurd (cc h)
are_same false false h = refl

pub are_other : (a b : Bool) → beq a b ≡ false → a ≡ b → ⊥
are_other true true h e = cc h
are_other true false h e = cc e
are_other false true h e = cc e
are_other false false h e = cc h

-- a constraint without a truth
pub said_always : (values : List ℤ) (truth : Option ℕ) (h : Bool) → truth ≡ None → (IsTrue (clause_holds values []) ⊎ (h ≡ true)) ↔ IsTrue (is_as_said values truth h)
unfolding is_as_said
said_always values truth h e =
    subst (λ (o : Option ℕ). (IsTrue (clause_holds values []) ⊎ (h ≡ true)) ↔ IsTrue (is_as_said values o h)) (sym e)
    (λ c. elim c as (λ _. h ≡ true) [ inl g ↦ absurd (no_guard values g) | inr is ↦ is ], λ is. inr is)

-- a constraint with a truth
pub said_by : (values : List ℤ) (truth : Option ℕ) (t : ℕ) (h : Bool) (non one : Atom) → truth ≡ Some t → non ≡ record { var = t; test = Test.IsNot; value = pos 1 } → one ≡ record { var = t; test = Test.Is; value = pos 1 }
    → ((IsTruthValue t values × (IsTrue (clause_holds values (non ∷ [])) ⊎ (h ≡ true))) × (IsTrue (clause_holds values (one ∷ [])) ⊎ (h ≡ false))) ↔ IsTrue (is_as_said values truth h)
said_by values truth t h non one e not_one is_one =
    subst (λ (o : Option ℕ). ((IsTruthValue t values × (IsTrue (clause_holds values (non ∷ [])) ⊎ (h ≡ true))) × (IsTrue (clause_holds values (one ∷ [])) ⊎ (h ≡ false))) ↔ IsTrue (is_as_said values o h)) (sym e)
    (subst (λ (a : Atom). ((IsTruthValue t values × (IsTrue (clause_holds values (a ∷ [])) ⊎ (h ≡ true))) × (IsTrue (clause_holds values (one ∷ [])) ⊎ (h ≡ false))) ↔ IsTrue (is_as_said values (Some t) h)) (sym not_one)
    (subst (λ (b : Atom). ((IsTruthValue t values × (IsTrue (clause_holds values (record { var = t; test = Test.IsNot; value = pos 1 } ∷ [])) ⊎ (h ≡ true))) × (IsTrue (clause_holds values (b ∷ [])) ⊎ (h ≡ false))) ↔ IsTrue (is_as_said values (Some t) h)) (sym is_one)
    (says_whether values t h)))

pub with_these : (values : List ℤ) (guards atoms : List Atom) (atom : Atom) → atoms ≡ guards ++ atom ∷ [] → IsTrue (clause_holds values atoms) ↔ (IsTrue (clause_holds values guards) ⊎ IsTrue (atom_holds values atom))
with_these values guards atoms atom is = subst (λ (ys : List Atom). IsTrue (clause_holds values ys) ↔ (IsTrue (clause_holds values guards) ⊎ IsTrue (atom_holds values atom))) (sym is) (with_one_more values guards atom)
