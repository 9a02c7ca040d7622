-- What a loop adds, turn by turn.
use Rattle.std.proofs.Common.{◌↔◌, ℕ, ◌+◌, ◌<◌, ◌≤◌, ℤ, IsTrue, List, length, take, get_or, sym, subst, arith}
use Rattle.std.specs.List.{All}
use Rattle.std.specs.Prelude.{Err, Ok, OnOk, Result}
use Rattle.std.proofs.lemmas.List.{get_or-take, length-take, take-take, take_all}
use Rattle.std.proofs.lemmas.List.Elements.{All-get_or, All-more, All-nil, All-take}
use Rattle.cnf_core.specs.Formula.{Cnf}
use Rattle.enc_var.specs.Decoding.{VariableLiterals}
use Rattle.enc_var.specs.Layouts.{IsLayoutOf}
use Rattle.enc_atoms.proofs.Adding.{adds_both, adds_nothing}
use Rattle.enc_atoms.specs.Atoms.{Adds}
use Rattle.enc_linear.proofs.Arising.{adds_like}
use Rattle.enc_linear.specs.Terms.{Arise}

-- what always holds needs no clause
pub nothing_new : (L : List VariableLiterals) (f : Cnf) (R : List ℤ → Type 0) → IsLayoutOf L f → IsTrue f.from_new → ((values : List ℤ) → Arise L f values → R values) → Adds L f L f R
nothing_new L f R is_layout from_new holds =
    adds_like L f L f (λ values. Unit {0}) R is_layout (adds_nothing L f is_layout from_new) (λ values among. (λ u. holds values among, λ h. tt))

-- no turn yet
pub begun : {X : Type 0} (L : List VariableLiterals) (f : Cnf) (Q : List ℤ → X → Type 0) (xs : List X) → IsLayoutOf L f → IsTrue f.from_new → Adds L f L f (λ values. All (Q values) (take 0 xs))
begun L f Q xs is_layout from_new = nothing_new L f (λ values. All (Q values) (take 0 xs)) is_layout from_new (λ values among. All-nil (Q values))

-- of the first turns and one more
front_and_next : {X : Type 0} (P : X → Type 0) (xs : List X) (i : ℕ) (d : X) → i < length xs → All P (take (i + 1) xs) → All P (take i xs) × P (get_or xs i d)
front_and_next P xs i d low h =
    let long : i < length (take (i + 1) xs) = omega (arith, length-take (i + 1) xs) in (
      subst (All P) (take-take i (i + 1) xs (omega arith)) (All-take P i (take (i + 1) xs) h),
      subst P (get_or-take (i + 1) xs i d (omega arith)) (All-get_or P (take (i + 1) xs) i d long h),
    )

-- one turn more
pub one_more : {X : Type 0} (L : List VariableLiterals) (f f1 f2 : Cnf) (Q : List ℤ → X → Type 0) (xs : List X) (i : ℕ) (d : X) → IsLayoutOf L f → i < length xs
    → Adds L f L f1 (λ values. All (Q values) (take i xs)) → Adds L f1 L f2 (λ values. Q values (get_or xs i d)) → Adds L f L f2 (λ values. All (Q values) (take (i + 1) xs))
one_more L f f1 f2 Q xs i d is_layout low before turn =
    adds_like L f L f2 (λ values. All (Q values) (take i xs) × Q values (get_or xs i d)) (λ values. All (Q values) (take (i + 1) xs)) is_layout
    (adds_both L f f1 L f2 (λ values. All (Q values) (take i xs)) (λ values. Q values (get_or xs i d)) is_layout before turn)
    (λ values among. (λ h. All-more (Q values) xs i d low h.0 h.1, λ h. front_and_next (Q values) xs i d low h))

-- all turns
pub all_turns : {X : Type 0} (L : List VariableLiterals) (f f1 : Cnf) (Q : List ℤ → X → Type 0) (R : List ℤ → Type 0) (xs : List X) (n : ℕ) → IsLayoutOf L f → length xs ≤ n
    → Adds L f L f1 (λ values. All (Q values) (take n xs)) → ((values : List ℤ) → Arise L f values → All (Q values) xs ↔ R values) → Adds L f L f1 R
all_turns L f f1 Q R xs n is_layout long added same =
    let whole = take_all n xs long in
    adds_like L f L f1 (λ values. All (Q values) (take n xs)) R is_layout added
    (λ values among. (λ h. (same values among).0 (subst (All (Q values)) whole h), λ r. subst (All (Q values)) (sym whole) ((same values among).1 r)))

-- what was added beside turns, before the first one
pub begun_beside : {X : Type 0} (L : List VariableLiterals) (f f1 : Cnf) (A : List ℤ → Type 0) (Q : List ℤ → X → Type 0) (xs : List X) → IsLayoutOf L f → Adds L f L f1 A → Adds L f L f1 (λ values. A values × All (Q values) (take 0 xs))
begun_beside L f f1 A Q xs is_layout added =
    adds_like L f L f1 A (λ values. A values × All (Q values) (take 0 xs)) is_layout added (λ values among. (λ a. (a, All-nil (Q values)), λ h. h.0))

-- one turn more beside what was added
pub one_more_beside : {X : Type 0} (L : List VariableLiterals) (f f1 f2 : Cnf) (A : List ℤ → Type 0) (Q : List ℤ → X → Type 0) (xs : List X) (i : ℕ) (d : X) → IsLayoutOf L f → i < length xs
    → Adds L f L f1 (λ values. A values × All (Q values) (take i xs)) → Adds L f1 L f2 (λ values. Q values (get_or xs i d)) → Adds L f L f2 (λ values. A values × All (Q values) (take (i + 1) xs))
one_more_beside L f f1 f2 A Q xs i d is_layout low before turn =
    adds_like L f L f2 (λ values. (A values × All (Q values) (take i xs)) × Q values (get_or xs i d)) (λ values. A values × All (Q values) (take (i + 1) xs)) is_layout
    (adds_both L f f1 L f2 (λ values. A values × All (Q values) (take i xs)) (λ values. Q values (get_or xs i d)) is_layout before turn)
    (λ values among. (λ h. (h.0.0, All-more (Q values) xs i d low h.0.1 h.1), λ h. let p = front_and_next (Q values) xs i d low h.1 in ((h.0, p.0), p.1)))

-- a turn that what was added beside says already
pub passed_beside : {X : Type 0} (L : List VariableLiterals) (f f1 : Cnf) (A : List ℤ → Type 0) (Q : List ℤ → X → Type 0) (xs : List X) (i : ℕ) (d : X) → IsLayoutOf L f → i < length xs
    → Adds L f L f1 (λ values. A values × All (Q values) (take i xs)) → ((values : List ℤ) → Arise L f values → A values → Q values (get_or xs i d))
    → Adds L f L f1 (λ values. A values × All (Q values) (take (i + 1) xs))
passed_beside L f f1 A Q xs i d is_layout low before holds =
    adds_like L f L f1 (λ values. A values × All (Q values) (take i xs)) (λ values. A values × All (Q values) (take (i + 1) xs)) is_layout before
    (λ values among. (λ h. (h.0, All-more (Q values) xs i d low h.1 (holds values among h.0)), λ h. (h.0, (front_and_next (Q values) xs i d low h.1).0)))

-- all turns beside what was added
pub all_turns_beside : {X : Type 0} (L : List VariableLiterals) (f f1 : Cnf) (A : List ℤ → Type 0) (Q : List ℤ → X → Type 0) (R : List ℤ → Type 0) (xs : List X) (n : ℕ) → IsLayoutOf L f → length xs ≤ n
    → Adds L f L f1 (λ values. A values × All (Q values) (take n xs)) → ((values : List ℤ) → Arise L f values → (A values × All (Q values) xs) ↔ R values) → Adds L f L f1 R
all_turns_beside L f f1 A Q R xs n is_layout long added same =
    let whole = take_all n xs long in
    adds_like L f L f1 (λ values. A values × All (Q values) (take n xs)) R is_layout added
    (λ values among. (λ h. (same values among).0 (h.0, subst (All (Q values)) whole h.1), λ r. let h = (same values among).1 r in (h.0, subst (All (Q values)) (sym whole) h.1)))

-- the same in other words, where there is memory
pub relabelled : {T E : Type 0} (r : Result T E) (L : List VariableLiterals) (f : Cnf) (L1 : List VariableLiterals) (g : Cnf) (P R : List ℤ → Type 0) → IsLayoutOf L f
    → ((values : List ℤ) → Arise L f values → P values ↔ R values) → OnOk r (Adds L f L1 g P) → OnOk r (Adds L f L1 g R)
relabelled (Ok x) L f L1 g P R is_layout same added = adds_like L f L1 g P R is_layout added same
relabelled (Err e) L f L1 g P R is_layout same added = tt

-- a step behind others, where there is memory
pub then_both : {T E : Type 0} (r : Result T E) (L : List VariableLiterals) (f f1 : Cnf) (g : Cnf) (P Q R : List ℤ → Type 0) → IsLayoutOf L f → Adds L f L f1 P
    → ((values : List ℤ) → Arise L f values → (P values × Q values) ↔ R values) → OnOk r (Adds L f1 L g Q) → OnOk r (Adds L f L g R)
then_both (Ok x) L f f1 g P Q R is_layout before same added = adds_like L f L g (λ values. P values × Q values) R is_layout (adds_both L f f1 L g P Q is_layout before added) same
then_both (Err e) L f f1 g P Q R is_layout before same added = tt
