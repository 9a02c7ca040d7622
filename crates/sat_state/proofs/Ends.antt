-- Trails that are grounded, and propagation that is at its end.
use Rattle.std.proofs.Common.{◌≡◌, ◌≢◌, ℕ, zero, suc, ◌+◌, ◌<◌, ◌≤◌, Bool, true, false, not, Option, Some, None, IsNone, IsSome, is_none, List, [], ◌∷◌, ◌++◌, length, take, drop, get_or, All, AllPairs, Contains, refl, sym, ap, ◌∙◌, subst, inl, inr, ◌⊎◌, ⊎_elim, arith, add-one}
use Rattle.std.proofs.lemmas.Bool.{cases_order, cases_Bool, both_ways, true≢false, false≢true}
use Rattle.std.proofs.lemmas.List.{get_or_default, get_or-map, take-map, length-map, get_or-take, length-take-le, get_or_append_left, take_more, take_all, take-take, get_or-drop, length-drop, length-append}
use Rattle.std.proofs.lemmas.List.Elements.{All-nil, All-more, All-push, All-contains, All-map}
use Rattle.std.proofs.lemmas.List.Sums.{sum_by-take-le}
use Rattle.cnf_core.specs.Literal.{Literal, negation, is_among, same_literal}
use Rattle.cnf_core.specs.Clauses.{Satisfies, IsTrueUnder}
use Rattle.cnf_core.specs.Steps.{IsAtEnd, IsConsistent, HasTrueLiteral, HasTwoNotFalse, IsLastOf}
use Rattle.sat_state.specs.Trail.{Entry, literals, level_of, IsFalsified, Gives, HasReason, IsGrounded, IsForcedAt, IsOpenBelow, FollowsFromDecisions}
use Rattle.sat_state.proofs.Literals.{Contains-from_among, among_from_Contains, same_literal_is, same_literal_itself, no_literal}
use Rattle.sat_state.proofs.Tables.{Apart}
use Rattle.sat_state.proofs.Counts.{one_if}
use Rattle.sat_state.proofs.Levels.{level_push}

some_entry : Entry
some_entry = record { literal = record { var = 0; positive = true }; level = 0; reason = None }

-- the literals of a grounded trail are of different variables
pub apart_from_grounded : (clauses : List (List Literal)) (trail : List Entry) → IsGrounded clauses trail → Apart (literals trail)
apart_from_grounded clauses trail grounded k d h =
    let get = λ (e : Entry). e.literal in
    let there : k < length trail = omega (arith, h, length-map trail get) in
    rw (take-map get k trail, get_or-map get trail k some_entry d there) (grounded k some_entry there).free

clash : (trues : List Literal) → Apart trues → (i j : ℕ) (d : Literal) → i < j → j < length trues → (get_or trues i d).var ≡ (get_or trues j d).var → ⊥
clash trues apart i j d lt in_list same =
    let len = length-take-le j trues (omega arith) in
    no_literal (take j trues) (get_or trues j d).var (apart j d in_list) i d (omega (arith, len)) (ap (λ (l : Literal). l.var) (get_or-take j trues i d lt) ∙ same)

not_itself : (b : Bool) → b ≡ not b → ⊥
not_itself true h = true≢false h
not_itself false h = false≢true h

-- so none stands together with its negation
pub consistent : (trues : List Literal) → Apart trues → IsConsistent trues
consistent trues apart l (i, hi, ei) (j, hj, ej) =
    let at_j : get_or trues j l ≡ negation l = get_or_default trues j l (negation l) hj ∙ ej in
    let same : (get_or trues i l).var ≡ (get_or trues j l).var = ap (λ (x : Literal). x.var) ei ∙ sym (ap (λ (x : Literal). x.var) at_j) in
    ⊎_elim
    (λ (e : i ≡ j). not_itself l.positive (ap (λ (x : Literal). x.positive) (sym ei ∙ ap (λ (n : ℕ). get_or trues n l) e ∙ at_j)))
    (λ (ne : (i < j) ⊎ (j < i)). ⊎_elim
    (λ (lt : i < j). clash trues apart i j l lt hj same)
    (λ (gt : j < i). clash trues apart j i l gt hi (sym same))
    ne)
    (cases_order i j)

pub not_among : (trues : List Literal) (l : Literal) → is_among trues l ≡ false → Contains trues l → ⊥
not_among trues l none has = both_ways (is_among trues l) none (among_from_Contains trues l has)

pub among_none : (trues : List Literal) (l : Literal) → (Contains trues l → ⊥) → is_among trues l ≡ false
among_none trues l none = ⊎_elim (λ (e : is_among trues l ≡ true). absurd (none (Contains-from_among trues l e))) (λ (e : is_among trues l ≡ false). e) (cases_Bool (is_among trues l))

pub same_or_not : (a b : Literal) → (a ≡ b) ⊎ (a ≢ b)
same_or_not a b = ⊎_elim
    (λ (e : same_literal a b ≡ true). inl (same_literal_is a b e))
    (λ (e : same_literal a b ≡ false). inr (λ (f : a ≡ b). both_ways (same_literal a b) e (ap (same_literal a) (sym f) ∙ same_literal_itself a)))
    (cases_Bool (same_literal a b))

false_in : (trues clause : List Literal) → IsFalsified trues clause → (l : Literal) → Contains clause l → Contains trues (negation l)
false_in trues clause falsified l has = All-contains (λ (x : Literal). Contains trues (negation x)) clause l falsified has

not_falsified : (trues clause : List Literal) → IsConsistent trues → HasTrueLiteral trues clause ⊎ HasTwoNotFalse trues clause → IsFalsified trues clause → ⊥
not_falsified trues clause apart (inl (l, in_clause, is_true)) falsified = apart l is_true (false_in trues clause falsified l in_clause)
not_falsified trues clause apart (inr two) falsified = two.one_not_false (false_in trues clause falsified two.one two.one_in)

not_unit : (trues clause : List Literal) (last : Literal) → IsConsistent trues → HasTrueLiteral trues clause ⊎ HasTwoNotFalse trues clause → IsLastOf trues clause last → ⊥
not_unit trues clause last apart (inl (l, in_clause, is_true)) unit = ⊎_elim
    (λ (e : l ≡ last). unit.not_true (subst (Contains trues) e is_true))
    (λ (ne : l ≢ last). apart l is_true (unit.others l in_clause ne))
    (same_or_not l last)
not_unit trues clause last apart (inr two) unit = ⊎_elim
    (λ (e : two.one ≡ last). two.other_not_false (unit.others two.other two.other_in (λ (f : two.other ≡ last). two.two (e ∙ sym f))))
    (λ (ne : two.one ≢ last). two.one_not_false (unit.others two.one two.one_in ne))
    (same_or_not two.one last)

-- at the end of propagation no clause is falsified, and none is unit and unsatisfied
pub none_falsified : (trues : List Literal) (clauses : List (List Literal)) → IsAtEnd trues clauses → All (λ clause. IsFalsified trues clause → ⊥) clauses
none_falsified trues clauses at_end k d h = not_falsified trues (get_or clauses k d) at_end.consistent (at_end.settled k d h)

pub none_unit : (trues : List Literal) (clauses : List (List Literal)) → IsAtEnd trues clauses → All (λ clause. (l : Literal) → IsLastOf trues clause l → ⊥) clauses
none_unit trues clauses at_end k d h l unit = not_unit trues (get_or clauses k d) l at_end.consistent (at_end.settled k d h) unit

forced_by_cases : (reason : Option ℕ) → one_if (is_none reason) ≡ 0 → IsSome reason
forced_by_cases None h = absurd (omega (arith, h))
forced_by_cases (Some n) h = refl

-- what became true at a level without a decision was forced there
pub all_forced : (clauses : List (List Literal)) (old new : List Entry) → IsGrounded clauses new → take (length old) new ≡ old → level_of new ≡ level_of old
    → All (IsForcedAt (level_of old)) (drop (length old) new)
all_forced clauses old new grounded front level k d h =
    let n = length old in
    let m = n + k in
    let there : m < length new = omega (arith, h, length-drop n new) in
    let e = get_or new m d in
    let more : level_of (take (m + 1) new) ≡ level_of (take m new) + one_if (is_none e.reason) = ap level_of (take_more new m d there) ∙ level_push (take m new) e in
    let weight = λ (x : Entry). one_if (is_none x.reason) in
    let low : level_of old ≤ level_of (take m new) = omega (arith, sum_by-take-le weight (take m new) n, ap level_of (take-take n m new (omega arith) ∙ front)) in
    let high : level_of (take (m + 1) new) ≤ level_of new = sum_by-take-le weight new (m + 1) in
    let up_to : e.level ≡ level_of (take (m + 1) new) = (grounded m d there).level ∙ ap level_of (sym (take_more new m d there)) in
    let forced : IsForcedAt (level_of old) e = record {
      has_clause = forced_by_cases e.reason (omega (arith, more, low, high, level));
      at_level = omega (arith, more, low, high, level, up_to);
    } in
    subst (IsForcedAt (level_of old)) (sym (get_or-drop n new k d)) forced

reason_more : (clauses : List (List Literal)) (clause trues : List Literal) (l : Literal) (reason : Option ℕ)
    → (one_if (is_none reason) ≡ 1 → HasTrueLiteral trues clause ⊎ HasTwoNotFalse trues clause) → HasReason clauses trues l reason → HasReason (clauses ++ clause ∷ []) trues l reason
reason_more clauses clause trues l None settled has = record {
  consistent = has.consistent;
  settled = All-push (λ c. HasTrueLiteral trues c ⊎ HasTwoNotFalse trues c) clauses clause has.settled (settled refl);
}
reason_more clauses clause trues l (Some n) settled has =
    (omega (arith, has.0, length-append clauses (clause ∷ [])), subst (λ (c : List Literal). Gives trues c l) (sym (get_or_append_left clauses (clause ∷ []) [] n has.0)) has.1)

-- what isn't false by an entry below the trail's level isn't false in a front of a lower level
not_false_before : (clauses : List (List Literal)) (trail : List Entry) (k : ℕ) (l : Literal) → IsGrounded clauses trail → k ≤ length trail → level_of (take k trail) < level_of trail
    → All (λ e. e.level < level_of trail → e.literal ≢ negation l) trail → Contains (literals (take k trail)) (negation l) → ⊥
not_false_before clauses trail k l grounded within lower none (j, h, e) =
    let get = λ (x : Entry). x.literal in
    let before : j < k = omega (arith, h, length-map (take k trail) get, length-take-le k trail within) in
    let there : j < length trail = omega (arith, before, within) in
    let entry = get_or trail j some_entry in
    let up_to : entry.level ≡ level_of (take (j + 1) trail) = (grounded j some_entry there).level ∙ ap level_of (sym (take_more trail j some_entry there)) in
    let same : level_of (take (j + 1) (take k trail)) ≡ level_of (take (j + 1) trail) = ap level_of (take-take (j + 1) k trail (omega arith)) in
    let low = sum_by-take-le (λ (x : Entry). one_if (is_none x.reason)) (take k trail) (j + 1) in
    let is_negation : entry.literal ≡ negation l =
    ap get (sym (get_or-take k trail j some_entry before)) ∙ sym (get_or-map get (take k trail) j some_entry (negation l) (omega (arith, before, length-take-le k trail within))) ∙ e in
    none j some_entry there (omega (arith, up_to, same, low, lower)) is_negation

-- so a clause that is open below the trail's level is settled there
settled_before : (clauses : List (List Literal)) (clause : List Literal) (trail : List Entry) (k : ℕ) → IsGrounded clauses trail → k ≤ length trail → level_of (take k trail) < level_of trail
    → (level_of trail ≡ 0) ⊎ IsOpenBelow trail clause → HasTrueLiteral (literals (take k trail)) clause ⊎ HasTwoNotFalse (literals (take k trail)) clause
settled_before clauses clause trail k grounded within lower (inl none) = absurd (omega (arith, none, lower))
settled_before clauses clause trail k grounded within lower (inr pair) = inr (record {
  one = pair.one;
  other = pair.other;
  two = pair.two;
  one_in = pair.one_in;
  other_in = pair.other_in;
  one_not_false = not_false_before clauses trail k pair.one grounded within lower pair.one_not_false_below;
  other_not_false = not_false_before clauses trail k pair.other grounded within lower pair.other_not_false_below;
})

-- a further clause leaves a trail grounded that has no decision, or below whose level the clause is open
pub grounded_more : (clauses : List (List Literal)) (clause : List Literal) (trail : List Entry) → IsGrounded clauses trail → (level_of trail ≡ 0) ⊎ IsOpenBelow trail clause
    → IsGrounded (clauses ++ clause ∷ []) trail
grounded_more clauses clause trail grounded may k d h =
    let e = get_or trail k d in
    let stands = grounded k d h in
    let more : level_of (take (k + 1) trail) ≡ level_of (take k trail) + one_if (is_none e.reason) = ap level_of (take_more trail k d h) ∙ level_push (take k trail) e in
    let high : level_of (take (k + 1) trail) ≤ level_of trail = sum_by-take-le (λ (x : Entry). one_if (is_none x.reason)) trail (k + 1) in
    record {
      free = stands.free;
      level = stands.level;
      reason = reason_more clauses clause (literals (take k trail)) e.literal e.reason
          (λ (decided : one_if (is_none e.reason) ≡ 1). settled_before clauses clause trail k grounded (omega (arith, h)) (omega (arith, more, high, decided)) may) stands.reason;
    }

true_by_reason : (s : ℕ → Bool) (clauses : List (List Literal)) (trues : List Literal) (l : Literal) (reason : Option ℕ) → Satisfies s clauses → All (IsTrueUnder s) trues
    → HasReason clauses trues l reason → (IsNone reason → IsTrueUnder s l) → IsTrueUnder s l
true_by_reason s clauses trues l None satisfied earlier has decided = decided refl
true_by_reason s clauses trues l (Some n) satisfied earlier has decided =
    let one = satisfied n [] has.0 in
    ⊎_elim
    (λ (e : one.literal ≡ l). subst (IsTrueUnder s) e one.is_true)
    (λ (ne : one.literal ≢ l).
    let other : s one.literal.var ≡ not one.literal.positive = All-contains (IsTrueUnder s) trues (negation one.literal) earlier (has.1.others_false one.literal one.in_clause ne) in
    absurd (not_itself one.literal.positive (sym one.is_true ∙ other)))
    (same_or_not one.literal l)

true_up_to : (s : ℕ → Bool) (clauses : List (List Literal)) (trail : List Entry) → IsGrounded clauses trail → Satisfies s clauses
    → All (λ e. IsNone e.reason → IsTrueUnder s e.literal) trail → (n : ℕ) → n ≤ length trail → All (λ e. IsTrueUnder s e.literal) (take n trail)
true_up_to s clauses trail grounded satisfied decided zero h = All-nil (λ (e : Entry). IsTrueUnder s e.literal)
true_up_to s clauses trail grounded satisfied decided (suc n) h =
    let earlier = true_up_to s clauses trail grounded satisfied decided n (omega (arith, h)) in
    let there : n < length trail = omega (arith, h) in
    let e = get_or trail n some_entry in
    let literals_true = All-map (IsTrueUnder s) (λ (x : Entry). x.literal) (take n trail) earlier in
    subst (λ (m : ℕ). All (λ (x : Entry). IsTrueUnder s x.literal) (take m trail)) (add-one n)
    (All-more (λ (x : Entry). IsTrueUnder s x.literal) trail n some_entry there earlier
    (true_by_reason s clauses (literals (take n trail)) e.literal e.reason satisfied literals_true (grounded n some_entry there).reason (decided n some_entry there)))

-- an assignment that satisfies the clauses and makes the decisions true makes the trail true
pub follows : (clauses : List (List Literal)) (trail : List Entry) → IsGrounded clauses trail → FollowsFromDecisions clauses trail
follows clauses trail grounded s satisfied decided =
    subst (λ (es : List Entry). All (λ (x : Entry). IsTrueUnder s x.literal) es) (take_all (length trail) trail (omega arith))
    (true_up_to s clauses trail grounded satisfied decided (length trail) (omega arith))

-- no variable stands twice in a grounded trail
pub distinct : (clauses : List (List Literal)) (trail : List Entry) → IsGrounded clauses trail → AllPairs (λ a b. a.literal.var ≢ b.literal.var) trail
distinct clauses trail grounded i j d before in_list same =
    let get = λ (e : Entry). e.literal in
    let len = length-map trail get in
    let at = λ (k : ℕ) (h : k < length trail). ap (λ (l : Literal). l.var) (get_or-map get trail k d d.literal h) in
    clash (literals trail) (apart_from_grounded clauses trail grounded) i j d.literal before (omega (arith, len, in_list))
    (at i (omega arith) ∙ same ∙ sym (at j in_list))

-- levels never fall along a grounded trail
pub levels_rise : (clauses : List (List Literal)) (trail : List Entry) → IsGrounded clauses trail → AllPairs (λ a b. a.level ≤ b.level) trail
levels_rise clauses trail grounded i j d before in_list =
    let there : i < length trail = omega arith in
    let up_to = λ (k : ℕ) (h : k < length trail). (grounded k d h).level ∙ ap level_of (sym (take_more trail k d h)) in
    let first : (get_or trail i d).level ≡ level_of (take (i + 1) trail) = up_to i there in
    let second : (get_or trail j d).level ≡ level_of (take (j + 1) trail) = up_to j in_list in
    let same : level_of (take (i + 1) (take (j + 1) trail)) ≡ level_of (take (i + 1) trail) = ap level_of (take-take (i + 1) (j + 1) trail (omega arith)) in
    omega (arith, first, second, same, sum_by-take-le (λ (x : Entry). one_if (is_none x.reason)) (take (j + 1) trail) (i + 1))
