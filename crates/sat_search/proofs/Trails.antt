-- What a place of a grounded trail says.
use Rattle.std.proofs.Common.{◌≡◌, ◌≢◌, ℕ, zero, suc, ◌<◌, Bool, true, false, cond, Option, Some, None, inl, inr, List, [], ◌∷◌, length, get_or, take, All, refl, ap, ◌∙◌, sym, subst, arith, eqb}
use Rattle.std.specs.List.{find}
use Rattle.std.specs.Option.{option_map, option_map_or}
use Rattle.std.specs.Prelude.{Contains, IfSome}
use Rattle.std.proofs.lemmas.Bool.{ne_eqb, eq-eqb}
use Rattle.std.proofs.lemmas.List.{get_or-map, take-map, length-map}
use Rattle.std.proofs.lemmas.List.Elements.{All-head, All-tail}
use Rattle.cnf_core.specs.Literal.{Literal}
use Rattle.cnf_core.proofs.Members.{either, Contains-here, Contains-there}
use Rattle.sat_state.specs.Trail.{Entry, literals, trail_value, entry_of, HasReason, IsGrounded}
use Rattle.sat_state.proofs.Literals.{no_literal}
use Rattle.sat_search.specs.Analysis.{IsDecisionAt}

some_entry : Entry
some_entry = record { literal = record { var = 0; positive = true }; level = 0; reason = None }

-- the first that passes is at a place that passes, where none before passes
find_at : {X : Type 0} (p : X → Bool) (xs : List X) (i : ℕ) (d : X) → i < length xs → p (get_or xs i d) ≡ true → All (λ x. p x ≡ false) (take i xs) → find p xs ≡ Some (get_or xs i d)
find_at p [] i d within passes none = absurd (omega arith)
find_at p (x ∷ xs) zero d within passes none = ap (λ (b : Bool). cond b (Some x) (find p xs)) passes
find_at p (x ∷ xs) (suc i) d within passes none =
    ap (λ (b : Bool). cond b (Some x) (find p xs)) (All-head (λ y. p y ≡ false) x (take i xs) none)
    ∙ find_at p xs i d (omega arith) passes (All-tail (λ y. p y ≡ false) x (take i xs) none)

-- the entry of the variable of a place is the one at that place
pub entry_at_place : (clauses : List (List Literal)) (trail : List Entry) (i : ℕ) (d : Entry) → IsGrounded clauses trail → i < length trail → entry_of trail (get_or trail i d).literal.var ≡ Some (get_or trail i d)
entry_at_place clauses trail i d grounded within =
    let v = (get_or trail i d).literal.var in
    let others : All (λ (l : Literal). l.var ≢ v) (literals (take i trail)) = no_literal (literals (take i trail)) v (grounded i d within).free in
    find_at (λ (e : Entry). eqb e.literal.var v) trail i d within (eq-eqb v v refl)
    (λ k e below.
    ne_eqb (get_or (take i trail) k e).literal.var v
    (λ same. others k e.literal (omega (arith, below, length-map (take i trail) (λ (x : Entry). x.literal)))
    (ap (λ (l : Literal). l.var) (get_or-map (λ (x : Entry). x.literal) (take i trail) k e e.literal below) ∙ same)))

-- the reason that is read for the variable of a place is that of its literal
pub reason_at : (clauses : List (List Literal)) (trail : List Entry) (i : ℕ) (l : Literal) (r : Option ℕ) → IsGrounded clauses trail → i < length (literals trail) → l ≡ get_or (literals trail) i l
    → option_map (λ e. e.reason) (entry_of trail l.var) ≡ Some r → HasReason clauses (take i (literals trail)) l r
reason_at clauses trail i l r grounded within is read =
    let get = λ (e : Entry). e.literal in
    let there : i < length trail = omega (arith, within, length-map trail get) in
    let e = get_or trail i some_entry in
    let same : l ≡ e.literal = is ∙ get_or-map get trail i some_entry l there in
    let found : entry_of trail l.var ≡ Some e = ap (λ (m : Literal). entry_of trail m.var) same ∙ entry_at_place clauses trail i some_entry grounded there in
    let reason : e.reason ≡ r = cc (sym (ap (option_map (λ (x : Entry). x.reason)) found) ∙ read) in
    rw (take-map get i trail) (subst (λ (m : Literal). HasReason clauses (literals (take i trail)) m r) (sym same)
    (subst (HasReason clauses (literals (take i trail)) e.literal) reason (grounded i some_entry there).reason))

-- a place without a reason is that of a decision
pub decision_at : (clauses : List (List Literal)) (trail : List Entry) (i : ℕ) (l : Literal) → IsGrounded clauses trail → i < length (literals trail) → l ≡ get_or (literals trail) i l
    → option_map (λ e. e.reason) (entry_of trail l.var) ≡ Some None → IsDecisionAt clauses (literals trail) i
decision_at clauses trail i l grounded within is read =
    let get = λ (e : Entry). e.literal in
    let there : i < length trail = omega (arith, within, length-map trail get) in
    record {
      there = within;
      at_end = reason_at clauses trail i l None grounded within is read;
      free = λ d. rw (take-map get i trail, get_or-map get trail i some_entry d there) (grounded i some_entry there).free;
    }

-- the same of literals and a variable that were read
pub reason_read : (clauses : List (List Literal)) (trail : List Entry) (lits : List Literal) (i v : ℕ) (l : Literal) (r : Option ℕ) → IsGrounded clauses trail → lits ≡ literals trail → i < length lits → l ≡ get_or lits i l → v ≡ l.var
    → option_map (λ e. e.reason) (entry_of trail v) ≡ Some r → HasReason clauses (take i lits) l r
reason_read clauses trail lits i v l r grounded are within is var read =
    rw are (reason_at clauses trail i l r grounded (omega (arith, within, ap length are)) (is ∙ ap (λ (ls : List Literal). get_or ls i l) are)
    (ap (λ (w : ℕ). option_map (λ (e : Entry). e.reason) (entry_of trail w)) (sym var) ∙ read))

pub decision_read : (clauses : List (List Literal)) (trail : List Entry) (lits : List Literal) (i v : ℕ) (l : Literal) → IsGrounded clauses trail → lits ≡ literals trail → i < length lits → l ≡ get_or lits i l → v ≡ l.var
    → option_map (λ e. e.reason) (entry_of trail v) ≡ Some None → IsDecisionAt clauses (literals trail) i
decision_read clauses trail lits i v l grounded are within is var read =
    decision_at clauses trail i l grounded (omega (arith, within, ap length are)) (is ∙ ap (λ (ls : List Literal). get_or ls i l) are)
    (ap (λ (w : ℕ). option_map (λ (e : Entry). e.reason) (entry_of trail w)) (sym var) ∙ read)

-- the variable of a place had no value before it
pub free_at : (clauses : List (List Literal)) (trail : List Entry) (i : ℕ) (d : Literal) → IsGrounded clauses trail → i < length (literals trail) → trail_value (take i (literals trail)) (get_or (literals trail) i d).var ≡ None
free_at clauses trail i d grounded within =
    let get = λ (e : Entry). e.literal in
    let there : i < length trail = omega (arith, within, length-map trail get) in
    rw (take-map get i trail, get_or-map get trail i some_entry d there) (grounded i some_entry there).free

-- the reason that is read for a variable is that of an entry
reason_found : (p : Entry → Bool) (trail : List Entry) (r : Option ℕ) → option_map (λ e. e.reason) (find p trail) ≡ Some r → (e : Entry) × Contains trail e × (e.reason ≡ r)
reason_found p [] r read = absurd (cc)
reason_found p (x ∷ trail) r read = elim (either (p x)) [
  | inl is ↦
      let same : Some x.reason ≡ Some r = sym (ap (λ (b : Bool). option_map (λ (e : Entry). e.reason) (cond b (Some x) (find p trail))) is) ∙ read in
      (x, Contains-here x trail, cc)
  | inr isnt ↦
      let more : option_map (λ (e : Entry). e.reason) (find p trail) ≡ Some r = sym (ap (λ (b : Bool). option_map (λ (e : Entry). e.reason) (cond b (Some x) (find p trail))) isnt) ∙ read in
      let found = reason_found p trail r more in
      (found.0, Contains-there x trail found.0 found.1, found.2)
]

reason_numbers : (clauses : List (List Literal)) (trues : List Literal) (l : Literal) (r : Option ℕ) → HasReason clauses trues l r → IfSome r (λ n. n < length clauses)
reason_numbers clauses trues l None reason = tt
reason_numbers clauses trues l (Some n) reason = reason.0

-- so it is the number of a clause
pub reason_there : (clauses : List (List Literal)) (trail : List Entry) (v : ℕ) (r : Option ℕ) → IsGrounded clauses trail → option_map (λ e. e.reason) (entry_of trail v) ≡ Some r → IfSome r (λ n. n < length clauses)
reason_there clauses trail v r grounded read =
    let found = reason_found (λ (e : Entry). eqb e.literal.var v) trail r read in
    let k = found.1.0 in
    let e : get_or trail k found.0 ≡ found.0 = found.1.2 in
    subst (λ (o : Option ℕ). IfSome o (λ (n : ℕ). n < length clauses)) (ap (λ (x : Entry). x.reason) e ∙ found.2)
    (reason_numbers clauses (literals (take k trail)) (get_or trail k found.0).literal (get_or trail k found.0).reason (grounded k found.0 found.1.1).reason)

by_entry : (clauses : List (List Literal)) (trail : List Entry) (v : ℕ) (found : Option Entry) → IsGrounded clauses trail → entry_of trail v ≡ found
    → IfSome (option_map_or (λ e. e.reason) found None) (λ n. n < length clauses)
by_entry clauses trail v None grounded is = tt
by_entry clauses trail v (Some e) grounded is = reason_there clauses trail v e.reason grounded (ap (option_map (λ (x : Entry). x.reason)) is)

-- and so is that of a variable that may have no value
pub reason_in_there : (clauses : List (List Literal)) (trail : List Entry) (v : ℕ) → IsGrounded clauses trail
    → IfSome (option_map_or (λ e. e.reason) (entry_of trail v) None) (λ n. n < length clauses)
reason_in_there clauses trail v grounded = by_entry clauses trail v (entry_of trail v) grounded refl
