-- What is read of the entry of a variable.
use Rattle.std.proofs.Common.{◌≡◌, ◌≢◌, ℕ, zero, suc, ◌<◌, ◌≤◌, Bool, true, false, cond, Some, List, [], ◌∷◌, length, get_or, take, All, Contains, refl, ap, ◌∙◌, sym, subst, arith, eqb}
use Rattle.std.specs.List.{find}
use Rattle.std.specs.Option.{option_map}
use Rattle.std.proofs.lemmas.Bool.{ne_eqb, eq-eqb}
use Rattle.std.proofs.lemmas.List.{get_or-map, length-map, take_all}
use Rattle.std.proofs.lemmas.List.Elements.{All-head, All-tail, All-contains}
use Rattle.cnf_core.specs.Literal.{Literal, negation, is_among}
use Rattle.sat_state.specs.Trail.{Entry, literals, level_of, entry_of, IsGrounded}
use Rattle.sat_state.specs.Guards.{is_false, IsTrueBy, HasTrueBy, Guards}
use Rattle.sat_state.specs.View.{IsGuarded}
use Rattle.sat_state.specs.Joined.{IsNotLow}
use Rattle.sat_state.proofs.Literals.{no_literal, Contains-from_among}
use Rattle.sat_state.proofs.Ends.{not_among}
use Rattle.sat_state.proofs.Guarded.{entry_of_literal, literal_of_entry, entry_at_place, is_true_by}

-- the first that passes is at a place that passes, where none before passes
find_at : {X : Type 0} (p : X → Bool) (xs : List X) (i : ℕ) (d : X) → i < length xs → p (get_or xs i d) ≡ true → All (λ x. p x ≡ false) (take i xs) → find p xs ≡ Some (get_or xs i d)
find_at p [] i d within passes none = absurd (omega arith)
find_at p (x ∷ xs) zero d within passes none = ap (λ (b : Bool). cond b (Some x) (find p xs)) passes
find_at p (x ∷ xs) (suc i) d within passes none =
    ap (λ (b : Bool). cond b (Some x) (find p xs)) (All-head (λ y. p y ≡ false) x (take i xs) none)
    ∙ find_at p xs i d (omega arith) passes (All-tail (λ y. p y ≡ false) x (take i xs) none)

-- the entry of the variable of a place is the one at that place
entry_found : (clauses : List (List Literal)) (trail : List Entry) (i : ℕ) (d : Entry) → IsGrounded clauses trail → i < length trail → entry_of trail (get_or trail i d).literal.var ≡ Some (get_or trail i d)
entry_found clauses trail i d grounded within =
    let v = (get_or trail i d).literal.var in
    let others : All (λ (l : Literal). l.var ≢ v) (literals (take i trail)) = no_literal (literals (take i trail)) v (grounded i d within).free in
    find_at (λ (e : Entry). eqb e.literal.var v) trail i d within (eq-eqb v v refl)
    (λ k e below.
    ne_eqb (get_or (take i trail) k e).literal.var v
    (λ same. others k e.literal (omega (arith, below, length-map (take i trail) (λ (x : Entry). x.literal)))
    (ap (λ (l : Literal). l.var) (get_or-map (λ (x : Entry). x.literal) (take i trail) k e e.literal below) ∙ same)))

level_read : (clauses : List (List Literal)) (trail : List Entry) (v n k : ℕ) (d : Entry) → IsGrounded clauses trail → option_map (λ e. e.level) (entry_of trail v) ≡ Some n → k < length trail → (get_or trail k d).literal.var ≡ v → (get_or trail k d).level ≡ n
level_read clauses trail v n k d grounded read within names =
    let found : entry_of trail v ≡ Some (get_or trail k d) = subst (λ (w : ℕ). entry_of trail w ≡ Some (get_or trail k d)) names (entry_found clauses trail k d grounded within) in
    let same : Some (get_or trail k d).level ≡ Some n = sym (ap (option_map (λ (x : Entry). x.level)) found) ∙ read in
    cc

-- a literal that isn't false isn't so by a low entry
pub not_low_free : (trail : List Entry) (l : Literal) → is_false (literals trail) l ≡ false → IsNotLow trail l
not_low_free trail l free k d h lower is =
    not_among (literals trail) (negation l) free (subst (λ (x : Literal). Contains (literals trail) x) is (literal_of_entry trail (get_or trail k d) (entry_at_place trail k d h)))

-- nor is one whose variable has its value from the trail's level
pub not_low_level : (clauses : List (List Literal)) (trail : List Entry) (l : Literal) (v n : ℕ) → IsGrounded clauses trail → v ≡ l.var → option_map (λ e. e.level) (entry_of trail v) ≡ Some n → level_of trail ≤ n → IsNotLow trail l
not_low_level clauses trail l v n grounded var read reached k d h lower is =
    let level = level_read clauses trail v n k d grounded read h (ap (λ (x : Literal). x.var) is ∙ sym var) in
    omega (arith, level, lower, reached)

-- another one is
pub low_level : (clauses : List (List Literal)) (trail : List Entry) (l : Literal) (v n : ℕ) → IsGrounded clauses trail → v ≡ l.var → option_map (λ e. e.level) (entry_of trail v) ≡ Some n → n < level_of trail → is_false (literals trail) l ≡ true
    → IsNotLow trail l → ⊥
low_level clauses trail l v n grounded var read lower falsified not_low =
    let found = entry_of_literal trail (negation l) (Contains-from_among (literals trail) (negation l) falsified) in
    let e = found.0 in
    let k = found.1.0 in
    let at : get_or trail k e ≡ e = found.1.2 in
    let is : (get_or trail k e).literal ≡ negation l = ap (λ (x : Entry). x.literal) at ∙ found.2 in
    let level = level_read clauses trail v n k e grounded read found.1.1 (ap (λ (x : Literal). x.var) is ∙ sym var) in
    not_low k e found.1.1 (omega (arith, level, lower)) is

-- ---- what became true at no higher level

pub true_by_read : (clauses : List (List Literal)) (trail : List Entry) (l : Literal) (v n level : ℕ) → IsGrounded clauses trail → v ≡ l.var → option_map (λ e. e.level) (entry_of trail v) ≡ Some n → n ≤ level → is_among (literals trail) l ≡ true
    → IsTrueBy trail l level
true_by_read clauses trail l v n level grounded var read low is =
    let found = entry_of_literal trail l (Contains-from_among (literals trail) l is) in
    let e = found.0 in
    let k = found.1.0 in
    let at : get_or trail k e ≡ e = found.1.2 in
    let names : (get_or trail k e).literal ≡ l = ap (λ (x : Entry). x.literal) at ∙ found.2 in
    let its = level_read clauses trail v n k e grounded read found.1.1 (ap (λ (x : Literal). x.var) names ∙ sym var) in
    record { entry = e; there = found.1; names = found.2; low = omega (arith, its, low, ap (λ (x : Entry). x.level) at) }

pub not_by_read : (clauses : List (List Literal)) (trail : List Entry) (l : Literal) (v n level : ℕ) → IsGrounded clauses trail → v ≡ l.var → option_map (λ e. e.level) (entry_of trail v) ≡ Some n → level < n → IsTrueBy trail l level → ⊥
not_by_read clauses trail l v n level grounded var read high t =
    let e = t.entry in
    let k = t.there.0 in
    let at : get_or trail k e ≡ e = t.there.2 in
    let names : (get_or trail k e).literal ≡ l = ap (λ (x : Entry). x.literal) at ∙ t.names in
    let its = level_read clauses trail v n k e grounded read t.there.1 (ap (λ (x : Literal). x.var) names ∙ sym var) in
    omega (arith, its, high, t.low, ap (λ (x : Entry). x.level) at)

pub not_by_open : (trail : List Entry) (l : Literal) (level : ℕ) → is_among (literals trail) l ≡ false → IsTrueBy trail l level → ⊥
not_by_open trail l level none t = not_among (literals trail) l none (is_true_by trail l level t)

-- a literal that became true no later than another became false guards that one
pub guard_by : (clauses : List (List Literal)) (trail : List Entry) (lit l : Literal) (v n : ℕ) → IsGrounded clauses trail → v ≡ lit.var → option_map (λ e. e.level) (entry_of trail v) ≡ Some n → IsTrueBy trail l n → IsGuarded trail lit l
guard_by clauses trail lit l v n grounded var read t k d h is =
    subst (λ (m : ℕ). IsTrueBy trail l m) (sym (level_read clauses trail v n k d grounded read h (ap (λ (x : Literal). x.var) is ∙ sym var))) t

-- where no literal of a clause did, the clause doesn't guard it
pub no_guard : (clauses : List (List Literal)) (trail : List Entry) (clause : List Literal) (lit : Literal) (v n : ℕ) → IsGrounded clauses trail → v ≡ lit.var → option_map (λ e. e.level) (entry_of trail v) ≡ Some n
    → All (λ x. IsTrueBy trail x n → ⊥) clause → Guards trail (length trail) lit clause → Contains (literals trail) (negation lit) → ⊥
no_guard clauses trail clause lit v n grounded var read none guards falsified =
    let found = entry_of_literal trail (negation lit) falsified in
    let e = found.0 in
    let k = found.1.0 in
    let is : (get_or trail k e).literal ≡ negation lit = ap (λ (x : Entry). x.literal) found.1.2 ∙ found.2 in
    let all = subst (All (λ (z : Entry). z.literal ≡ negation lit → HasTrueBy trail clause z.level)) (take_all (length trail) trail (omega arith)) guards in
    let t : HasTrueBy trail clause (get_or trail k e).level = all k e found.1.1 is in
    let its = level_read clauses trail v n k e grounded read found.1.1 (ap (λ (x : Literal). x.var) is ∙ sym var) in
    All-contains (λ (x : Literal). IsTrueBy trail x n → ⊥) clause t.literal none t.in_clause (subst (λ (m : ℕ). IsTrueBy trail t.literal m) its t.is_true)
