-- Where the clauses force nothing more, propagation finds nothing.
use Rattle.std.proofs.Common.{◌≡◌, ℕ, ◌+◌, ◌<◌, ◌≤◌, true, false, Option, Some, None, IsSome, IsNone, List, [], ◌∷◌, length, take, drop, get_or, All, Contains, refl, sym, ap, ◌∙◌, subst, ⊎_elim, arith}
use Rattle.std.specs.Prelude.{Bool, nat_eq, ◌&&◌}
use Rattle.std.specs.Option.{IfSome}
use Rattle.std.proofs.lemmas.Bool.{cases_lt, eq-eqb}
use Rattle.std.proofs.lemmas.List.{take_all, get_or-drop, length-drop}
use Rattle.cnf_core.specs.Literal.{Literal, negation}
use Rattle.cnf_core.specs.Steps.{IsAtEnd, IsLastOf}
use Rattle.sat_state.specs.Trail.{Entry, literals, level_of, trail_value, HasReason, Gives, StandsOn, IsGrounded, NamesFalsified}
use Rattle.sat_state.specs.Joined.{some_entry, IsAllSeen}
use Rattle.sat_state.specs.declared.parts.Parts.{Parts}
use Rattle.sat_state.proofs.Literals.{not_true, not_false}
use Rattle.sat_state.proofs.Ends.{all_forced, none_falsified, none_unit, not_among}

unit_of : (trues clause : List Literal) (l : Literal) → Gives trues clause l → trail_value trues l.var ≡ None → IsLastOf trues clause l
unit_of trues clause l gives free = record {
  in_clause = gives.in_clause;
  others = gives.others_false;
  not_true = not_among trues l (not_true trues l free);
  not_false = not_among trues (negation l) (not_false trues l free);
}

no_reason : (clauses : List (List Literal)) (trues : List Literal) (l : Literal) (reason : Option ℕ) → IsAtEnd trues clauses → IsSome reason → HasReason clauses trues l reason → trail_value trues l.var ≡ None → ⊥
no_reason clauses trues l None ends some has free = cc some
no_reason clauses trues l (Some n) ends some has free = none_unit trues clauses ends n [] has.0 l (unit_of trues (get_or clauses n []) l has.1 free)

-- nothing becomes true
pub no_more : (clauses : List (List Literal)) (old new : List Entry) → IsGrounded clauses new → take (length old) new ≡ old → level_of new ≡ level_of old → IsAtEnd (literals old) clauses → new ≡ old
no_more clauses old new grounded front level ends = ⊎_elim
    (λ (more : length old < length new).
    let k = length old in
    let e = get_or new k some_entry in
    let there : 0 < length (drop k new) = omega (arith, length-drop k new, more) in
    let at : get_or (drop k new) 0 some_entry ≡ e = get_or-drop k new 0 some_entry ∙ ap (λ (n : ℕ). get_or new n some_entry) (let same : k + 0 ≡ k = omega arith in same) in
    let forced = all_forced clauses old new grounded front level 0 some_entry there in
    let some : IsSome e.reason = ap (λ (x : Entry). Rattle.std.proofs.Common.is_some x.reason) (sym at) ∙ forced.has_clause in
    let stands : StandsOn clauses old e = subst (λ (t : List Entry). StandsOn clauses t e) front (grounded k some_entry more) in
    absurd (no_reason clauses (literals old) e.literal e.reason ends some stands.reason stands.free))
    (λ (all : length new ≤ length old). sym (take_all (length old) new all) ∙ front)
    (cases_lt (length old) (length new))

-- nor is a clause falsified
pub no_conflict : (found : Option ℕ) (clauses : List (List Literal)) (trail : List Entry) → IsAtEnd (literals trail) clauses → IfSome found (NamesFalsified clauses trail) → IsNone found
no_conflict None clauses trail ends named = refl
no_conflict (Some n) clauses trail ends named = absurd (none_falsified (literals trail) clauses ends n [] named.there named.falsified)

-- where all was looked at, the state is seen to be at its end
pub seen_at_end : (p : Parts) → IsAllSeen p → (nat_eq p.queue.checked (length p.clauses.lists) && nat_eq p.queue.head (length p.assigned.trail) && nat_eq p.queue.far (length p.assigned.trail)) ≡ true
seen_at_end p seen =
    rw (eq-eqb p.queue.checked (length p.clauses.lists) seen.checked, eq-eqb p.queue.head (length p.assigned.trail) (seen.head false), eq-eqb p.queue.far (length p.assigned.trail) (seen.head true)) refl

both_true : (a b : Bool) → (a && b) ≡ true → (a ≡ true) × (b ≡ true)
both_true true b e = (refl, e)
both_true false b e = absurd (Rattle.std.proofs.lemmas.Bool.false≢true e)

-- where the state is seen to be at its end, all was looked at
pub all_seen : (p : Parts) → (nat_eq p.queue.checked (length p.clauses.lists) && nat_eq p.queue.head (length p.assigned.trail) && nat_eq p.queue.far (length p.assigned.trail)) ≡ true → IsAllSeen p
all_seen p e =
    let first = both_true (nat_eq p.queue.checked (length p.clauses.lists) && nat_eq p.queue.head (length p.assigned.trail)) (nat_eq p.queue.far (length p.assigned.trail)) e in
    let rest = both_true (nat_eq p.queue.checked (length p.clauses.lists)) (nat_eq p.queue.head (length p.assigned.trail)) first.0 in
    record {
      checked = Rattle.std.proofs.lemmas.Bool.eqb-true p.queue.checked (length p.clauses.lists) rest.0;
      head = by_part (Rattle.std.proofs.lemmas.Bool.eqb-true p.queue.head (length p.assigned.trail) rest.1) (Rattle.std.proofs.lemmas.Bool.eqb-true p.queue.far (length p.assigned.trail) first.1);
    }
  where
    by_part : p.queue.head ≡ length p.assigned.trail → p.queue.far ≡ length p.assigned.trail → (far : Bool) → Rattle.sat_state.specs.Joined.place_in_queue p.queue far ≡ length p.assigned.trail
    by_part near others true = others
    by_part near others false = near
