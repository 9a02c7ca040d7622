-- What the entries of a trail stand on, as the trail gets longer or shorter.
use Rattle.std.proofs.Common.{◌≡◌, ℕ, ◌<◌, ◌≤◌, Option, None, is_none, List, [], ◌∷◌, ◌++◌, length, take, sym, ⊎_elim, arith}
use Rattle.std.proofs.lemmas.Bool.{cases_lt}
use Rattle.std.proofs.lemmas.List.{take-append-le, take_at, get_or_append_left, get_or_push, get_or-take, take-take, length_push, length-take-le, map_push}
use Rattle.std.proofs.lemmas.List.Sums.{sum_by_push}
use Rattle.cnf_core.specs.Literal.{Literal}
use Rattle.sat_state.specs.Trail.{Entry, literals, next_level, trail_value, HasReason, StandsOn, IsGrounded}
use Rattle.sat_state.proofs.Counts.{one_if}

-- an entry that stands on the trail is appended
pub grounded_push : (clauses : List (List Literal)) (trail : List Entry) (e : Entry) → IsGrounded clauses trail → StandsOn clauses trail e → IsGrounded clauses (trail ++ e ∷ [])
grounded_push clauses trail e grounded stands k d h = ⊎_elim
    (λ (lt : k < length trail). rw (take-append-le k trail (e ∷ []) (omega arith), get_or_append_left trail (e ∷ []) d k lt) (grounded k d lt))
    (λ (ge : length trail ≤ k).
    let at_end : length trail ≡ k = omega (arith, length_push trail e, h) in
    rw (take_at trail (e ∷ []) k at_end, get_or_push trail e d k at_end) stands)
    (cases_lt k (length trail))

-- a front of the trail stands by itself
pub grounded_take : (clauses : List (List Literal)) (trail : List Entry) (n : ℕ) → n ≤ length trail → IsGrounded clauses trail → IsGrounded clauses (take n trail)
grounded_take clauses trail n within grounded k d h =
    let lt : k < n = omega (arith, length-take-le n trail within, h) in
    rw (take-take k n trail (omega arith), get_or-take n trail k d lt) (grounded k d (omega arith))

-- the next entry stands on the trail where it has its reason there
pub next_stands : (clauses : List (List Literal)) (trail : List Entry) (l : Literal) (reason : Option ℕ) → trail_value (literals trail) l.var ≡ None → HasReason clauses (literals trail) l reason
    → StandsOn clauses trail (record { literal = l; level = next_level trail reason; reason = reason })
next_stands clauses trail l reason free has = record {
  free = free;
  level = sym (sum_by_push (λ (e : Entry). one_if (is_none e.reason)) trail (record { literal = l; level = next_level trail reason; reason = reason }));
  reason = has;
}

pub literals_push : (trail : List Entry) (e : Entry) → literals (trail ++ e ∷ []) ≡ literals trail ++ e.literal ∷ []
literals_push trail e = map_push (λ (x : Entry). x.literal) trail e
