-- The levels along a trail, and what is left when entries are taken back.
use Rattle.std.proofs.Common.{◌≡◌, ℕ, ◌+◌, ◌-◌, ◌<◌, ◌≤◌, Bool, true, false, cond, Option, Some, None, is_none, List, [], ◌∷◌, ◌++◌, length, take, get_or, filter, nat_le, All, refl, sym, ap, ◌∙◌, arith}
use Rattle.std.proofs.lemmas.Bool.{le-leb, lt-leb}
use Rattle.std.proofs.lemmas.List.{take_more, take_all, take-take, length-take-le, append-nil}
use Rattle.std.proofs.lemmas.List.Elements.{All-head, All-tail, filter-append}
use Rattle.std.proofs.lemmas.List.Sums.{sum_by_push, sum_by-take-le}
use Rattle.cnf_core.specs.Literal.{Literal}
use Rattle.cnf_core.specs.Steps.{IsAtEnd}
use Rattle.sat_state.specs.Trail.{Entry, literals, level_of, HasReason, IsGrounded}
use Rattle.sat_state.proofs.Counts.{one_if}

one_or_none : (b : Bool) → 1 ≤ one_if b → one_if b ≡ 1
one_or_none true h = refl
one_or_none false h = absurd (omega (arith, h))

at_most_one : (b : Bool) → one_if b ≤ 1
at_most_one true = omega arith
at_most_one false = omega arith

pub level_push : (trail : List Entry) (e : Entry) → level_of (trail ++ e ∷ []) ≡ level_of trail + one_if (is_none e.reason)
level_push trail e = sum_by_push (λ (x : Entry). one_if (is_none x.reason)) trail e

-- the trail is all but its last entry, and that one
pub last_split : (trail : List Entry) (d : Entry) → 0 < length trail → trail ≡ take (length trail - 1) trail ++ get_or trail (length trail - 1) d ∷ []
last_split trail d some =
    sym (take_all (length trail - 1 + 1) trail (omega arith)) ∙ take_more trail (length trail - 1) d (omega arith)

-- no entry has a level over the trail's
pub levels_within : (clauses : List (List Literal)) (trail : List Entry) → IsGrounded clauses trail → All (λ e. e.level ≤ level_of trail) trail
levels_within clauses trail grounded k d h =
    let up_to : (get_or trail k d).level ≡ level_of (take (k + 1) trail) = (grounded k d h).level ∙ ap level_of (sym (take_more trail k d h)) in
    omega (arith, up_to, sum_by-take-le (λ (x : Entry). one_if (is_none x.reason)) trail (k + 1))

pub filter_all : {X : Type 0} (p : X → Bool) (xs : List X) → All (λ x. p x ≡ true) xs → filter p xs ≡ xs
filter_all p [] all = refl
filter_all p (x ∷ xs) all =
    ap (λ (b : Bool). cond b (x ∷ filter p xs) (filter p xs)) (All-head (λ y. p y ≡ true) x xs all) ∙ ap (λ ys. x ∷ ys) (filter_all p xs (All-tail (λ y. p y ≡ true) x xs all))

-- the entries of levels up to that of the trail are all
pub kept_all : (clauses : List (List Literal)) (trail : List Entry) (level : ℕ) → IsGrounded clauses trail → level_of trail ≤ level → filter (λ e. nat_le e.level level) trail ≡ trail
kept_all clauses trail level grounded reached =
    filter_all (λ (e : Entry). nat_le e.level level) trail (λ k d h. le-leb (get_or trail k d).level level (omega (arith, levels_within clauses trail grounded k d h)))

-- the last entry is of the trail's level
pub last_level : (clauses : List (List Literal)) (trail : List Entry) (d : Entry) → IsGrounded clauses trail → 0 < length trail → (get_or trail (length trail - 1) d).level ≡ level_of trail
last_level clauses trail d grounded some = (grounded (length trail - 1) d (omega arith)).level ∙ ap level_of (sym (last_split trail d some))

-- an entry above the level isn't kept
pub kept_without_last : (clauses : List (List Literal)) (trail : List Entry) (d : Entry) (level : ℕ) → IsGrounded clauses trail → 0 < length trail → level < level_of trail
    → filter (λ e. nat_le e.level level) trail ≡ filter (λ e. nat_le e.level level) (take (length trail - 1) trail)
kept_without_last clauses trail d level grounded some above =
    let p = λ (e : Entry). nat_le e.level level in
    let last = get_or trail (length trail - 1) d in
    let out : nat_le last.level level ≡ false = lt-leb last.level level (omega (arith, last_level clauses trail d grounded some)) in
    ap (filter p) (last_split trail d some) ∙ filter-append p (take (length trail - 1) trail) (last ∷ [])
    ∙ ap (λ (b : Bool). filter p (take (length trail - 1) trail) ++ cond b (last ∷ []) []) out ∙ append-nil (filter p (take (length trail - 1) trail))

at_end_by : (clauses : List (List Literal)) (trues : List Literal) (l : Literal) (reason : Option ℕ) → HasReason clauses trues l reason → one_if (is_none reason) ≡ 1 → IsAtEnd trues clauses
at_end_by clauses trues l None has one = has
at_end_by clauses trues l (Some n) has one = absurd (omega (arith, one))

-- where the last entry was the first of its level, propagation was at its end before it
pub at_end_below : (clauses : List (List Literal)) (trail : List Entry) (d : Entry) → IsGrounded clauses trail → 0 < length trail
    → level_of (take (length trail - 1) trail) < level_of trail → IsAtEnd (literals (take (length trail - 1) trail)) clauses
at_end_below clauses trail d grounded some lower =
    let front = take (length trail - 1) trail in
    let last = get_or trail (length trail - 1) d in
    let levels : level_of trail ≡ level_of front + one_if (is_none last.reason) = ap level_of (last_split trail d some) ∙ level_push front last in
    at_end_by clauses (literals front) last.literal last.reason (grounded (length trail - 1) d (omega arith)).reason (one_or_none (is_none last.reason) (omega (arith, levels)))

-- all but the last entry is a level lower at most
pub level_below : (trail : List Entry) (d : Entry) → 0 < length trail → level_of trail ≤ level_of (take (length trail - 1) trail) + 1
level_below trail d some =
    let front = take (length trail - 1) trail in
    let last = get_or trail (length trail - 1) d in
    omega (arith, ap level_of (last_split trail d some) ∙ level_push front last, at_most_one (is_none last.reason))

-- the front of a front
pub front_below : (first trail : List Entry) → take (length trail) first ≡ trail → 0 < length trail → take (length (take (length trail - 1) trail)) first ≡ take (length trail - 1) trail
front_below first trail front some =
    let n = length trail - 1 in
    ap (λ (k : ℕ). take k first) (length-take-le n trail (omega arith)) ∙ sym (take-take n (length trail) first (omega arith)) ∙ ap (take n) front
