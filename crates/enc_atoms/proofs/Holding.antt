-- When clauses of atoms hold.
use Rattle.std.proofs.Common.{◌≡◌, ◌↔◌, ◌⊎◌, inl, inr, ℕ, ◌<◌, ℤ, Bool, true, false, ◌||◌, IsTrue, List, [], ◌∷◌, ◌++◌, length, take, refl, sym, ap, subst, ◌∙◌}
use Rattle.std.specs.List.{All, Contains, list_any}
use Rattle.std.proofs.lemmas.List.Elements.{All-head, All-tail, All-weaker}
use Rattle.cnf_core.proofs.Members.{passes_some}
use Rattle.enc_atoms.proofs.Decoded.{number_before, number_front}
use Rattle.enc_atoms.proofs.Gathering.{any_at}
use Rattle.enc_atoms.specs.Atoms.{atom_holds, clause_holds, test_holds}
use Rattle.enc_atoms.specs.declared.atoms.Atom.{Atom}

-- a clause holds exactly where one of its atoms does
pub clause_from : (values : List ℤ) (atoms : List Atom) (atom : Atom) → Contains atoms atom → IsTrue (atom_holds values atom) → IsTrue (clause_holds values atoms)
unfolding clause_holds
clause_from values atoms atom found holds = any_at (atom_holds values) atoms atom found holds

pub clause_gives : (values : List ℤ) (atoms : List Atom) → IsTrue (clause_holds values atoms) → (atom : Atom) × Contains atoms atom × IsTrue (atom_holds values atom)
unfolding clause_holds
clause_gives values atoms holds = passes_some (atom_holds values) atoms holds

or_either : (a b : Bool) → IsTrue (a || b) ↔ (IsTrue a ⊎ IsTrue b)
or_either true b = (λ h. inl refl, λ h. refl)
or_either false b = (λ h. inr h, λ h. elim h as (λ _. IsTrue b) [ inl never ↦ absurd (wrong never) | inr holds ↦ holds ])
  where
    wrong : false ≡ true → ⊥
    wrong h = cc

-- the first atom, or one of the others
pub clause_first : (values : List ℤ) (atom : Atom) (atoms : List Atom) → IsTrue (clause_holds values (atom ∷ atoms)) ↔ (IsTrue (atom_holds values atom) ⊎ IsTrue (clause_holds values atoms))
unfolding clause_holds
clause_first values atom atoms = or_either (atom_holds values atom) (list_any (atom_holds values) atoms)

-- no clause without an atom holds
pub clause_none : (values : List ℤ) → IsTrue (clause_holds values []) → ⊥
unfolding clause_holds
clause_none values h = cc

any_append : {X : Type 0} (p : X → Bool) (xs ys : List X) → list_any p (xs ++ ys) ≡ (list_any p xs || list_any p ys)
any_append p [] ys = refl
any_append p (x ∷ xs) ys = ap (λ b. p x || b) (any_append p xs ys) ∙ grouped (p x) (list_any p xs) (list_any p ys)
  where
    grouped : (a b c : Bool) → (a || (b || c)) ≡ ((a || b) || c)
    grouped true b c = refl
    grouped false b c = refl

-- one of the atoms of two lists
pub clause_append : (values : List ℤ) (xs ys : List Atom) → IsTrue (clause_holds values (xs ++ ys)) ↔ (IsTrue (clause_holds values xs) ⊎ IsTrue (clause_holds values ys))
unfolding clause_holds
clause_append values xs ys =
    let is = any_append (atom_holds values) xs ys in
    let either = or_either (list_any (atom_holds values) xs) (list_any (atom_holds values) ys) in
    (λ h. either.0 (subst IsTrue is h), λ h. subst IsTrue (sym is) (either.1 h))

-- Numbers of which the atoms' variables have the same.
pub clause_same : (values others : List ℤ) (atoms : List Atom) → All (λ atom. atom_holds values atom ≡ atom_holds others atom) atoms → clause_holds values atoms ≡ clause_holds others atoms
unfolding clause_holds
clause_same values others [] same = refl
clause_same values others (atom ∷ atoms) same =
    let Same : Atom → Type 0 = λ a. atom_holds values a ≡ atom_holds others a in
    ap (λ b. b || list_any (atom_holds values) atoms) (All-head Same atom atoms same) ∙ ap (λ b. atom_holds others atom || b) (clause_same values others atoms (All-tail Same atom atoms same))

-- a clause on the first so many variables speaks of their numbers alone
pub clause_front : (values : List ℤ) (n : ℕ) (atoms : List Atom) → All (λ atom. atom.var < n) atoms → clause_holds values atoms ≡ clause_holds (take n values) atoms
unfolding atom_holds
clause_front values n atoms low =
    clause_same values (take n values) atoms
    (All-weaker (λ a. a.var < n) (λ a. atom_holds values a ≡ atom_holds (take n values) a) (λ a h. ap (test_holds a.test a.value) (sym (number_front values n a.var h))) atoms low)

-- and says the same with one more variable
pub clause_before : (values : List ℤ) (v : ℤ) (atoms : List Atom) → All (λ atom. atom.var < length values) atoms → clause_holds (values ++ v ∷ []) atoms ≡ clause_holds values atoms
unfolding atom_holds
clause_before values v atoms low =
    clause_same (values ++ v ∷ []) values atoms
    (All-weaker (λ a. a.var < length values) (λ a. atom_holds (values ++ v ∷ []) a ≡ atom_holds values a) (λ a h. ap (test_holds a.test a.value) (number_before values v a.var h)) atoms low)
