-- Two cubes that one variable tells apart are refuted together, down to the empty step.
use Rattle.std.proofs.Common.{◌≡◌, ℕ, ◌+◌, ◌*◌, ◌/◌, ◌%◌, ◌^◌, ◌<◌, ◌==◌, Bool, true, false, inl, inr, Result, Ok, Err, OnOk, List, [], ◌∷◌, ◌++◌, length, get_or, refl, ap, ◌∙◌, sym, subst, arith}
use Rattle.std.specs.Prelude.{All, Contains, map}
use Rattle.ep_base.specs.declared.errors.Memory.{Memory}
use Rattle.std.proofs.lemmas.Bool.{cases_lt}
use Rattle.std.proofs.lemmas.Bool.Decides.{nat_tests}
use Rattle.std.proofs.lemmas.List.{length-map, length_push, get_or_append_left, get_or_push}
use Rattle.std.proofs.lemmas.List.Elements.{All-contains, All-tail, All-cons, All-nil, All-head, All-get_or, All-from_get_or}
use Rattle.cnf_core.specs.Literal.{Literal, negation, IsClause, IsOrdered, IsVariable, HaveSameLiterals}
use Rattle.cnf_core.specs.Events.{LogEvent, LogState, step, clause_of, clauses_of}
use Rattle.cnf_core.specs.Reading.{is_shown_by}
use Rattle.cnf_core.specs.Steps.{clauses_at, IsValidStep}
use Rattle.cnf_core.proofs.Members.{Contains-here, Contains-there, Contains-cases, none_in_nil, negation-negation}
use Rattle.cnf_core.proofs.Readings.{reading_goes_on, reading_ends, shown_by_reading}
use Rattle.sat_search.specs.Logs.{EndsWithEmptyStep, with_step}
use Rattle.sat_split.specs.Cubes.{IsNamed, cube_literals, IsFalseIn}
use Rattle.sat_split.proofs.Cubes.{pairs_tail, twice_as_many}
use Rattle.sat_join.specs.Joins.{clause_at, IsRefutedAt, IsLogOfClauses, RefutesCubes, IsClosing, KeepsNew, Divides, Refutes}
use Rattle.sat_join.proofs.Wider.{Contains-map}
use Rattle.sat_join.proofs.Events.{joined_step, new_step}
use Rattle.sat_join.proofs.Refuting.{IsRefuting, refuting}

abbrev sign : ℕ → Bool → Literal
sign v p = record { var = v; positive = p }

even_cube : (c v : ℕ) (vars : List ℕ) → cube_literals (2 * c) (v ∷ vars) ≡ sign v false ∷ cube_literals c vars
even_cube c v vars =
    let half : 2 * c / 2 ≡ c = omega arith in
    let bit : (2 * c % 2 == 1) ≡ false = grind (arith, nat_tests) in
    ap (λ (n : ℕ). sign v (2 * c % 2 == 1) ∷ cube_literals n vars) half ∙ ap (λ (p : Bool). sign v p ∷ cube_literals c vars) bit

odd_cube : (c v : ℕ) (vars : List ℕ) → cube_literals (2 * c + 1) (v ∷ vars) ≡ sign v true ∷ cube_literals c vars
odd_cube c v vars =
    let half : (2 * c + 1) / 2 ≡ c = omega arith in
    let bit : ((2 * c + 1) % 2 == 1) ≡ true = grind (arith, nat_tests) in
    ap (λ (n : ℕ). sign v ((2 * c + 1) % 2 == 1) ∷ cube_literals n vars) half ∙ ap (λ (p : Bool). sign v p ∷ cube_literals c vars) bit

-- what refutes two cubes that the first variable tells apart shows what refutes both
pair_shown : (c v : ℕ) (vars : List ℕ) (one other wide : List Literal) → IsOrdered one → IsOrdered other
    → IsFalseIn (cube_literals (2 * c) (v ∷ vars)) one → IsFalseIn (cube_literals (2 * c + 1) (v ∷ vars)) other
    → HaveSameLiterals wide (map negation (cube_literals c vars)) → is_shown_by wide (one ∷ other ∷ []) ≡ true
pair_shown c v vars one other wide first second one_false other_false same =
    let x = sign v true in
    let T = map negation wide in
    let in_cube : (q : Literal) → Contains (cube_literals c vars) q → Contains T q =
    λ q found. subst (Contains T) (negation-negation q) (Contains-map wide (negation q)
    (All-contains (Contains wide) (map negation (cube_literals c vars)) (negation q) same.from_second (Contains-map (cube_literals c vars) q found))) in
    let one_cases : (m : Literal) → Contains one m → Contains (sign v false ∷ cube_literals c vars) (negation m) =
    λ m found. subst (λ (ls : List Literal). Contains ls (negation m)) (even_cube c v vars) (All-contains (λ l. Contains (cube_literals (2 * c) (v ∷ vars)) (negation l)) one m one_false found) in
    let other_cases : (m : Literal) → Contains other m → Contains (x ∷ cube_literals c vars) (negation m) =
    λ m found. subst (λ (ls : List Literal). Contains ls (negation m)) (odd_cube c v vars) (All-contains (λ l. Contains (cube_literals (2 * c + 1) (v ∷ vars)) (negation l)) other m other_false found) in
    shown_by_reading wide (one ∷ other ∷ [])
    (reading_goes_on T one (other ∷ []) x first (second, tt)
    (λ m found differs. elim (Contains-cases (sign v false) (cube_literals c vars) (negation m) (one_cases m found)) [
      | inl is ↦ absurd (differs (sym (negation-negation m) ∙ sym (ap negation is)))
      | inr there ↦ in_cube (negation m) there
    ])
    (reading_ends (x ∷ T) other [] (λ m found. elim (Contains-cases x (cube_literals c vars) (negation m) (other_cases m found)) [
      | inl is ↦ subst (Contains (x ∷ T)) is (Contains-here x T)
      | inr there ↦ Contains-there x T (negation m) (in_cube (negation m) there)
    ])))

pub divides_tail : (clauses : List (List Literal)) (v : ℕ) (vars : List ℕ) → Divides clauses (v ∷ vars) → Divides clauses vars
divides_tail clauses v vars divides = record {
  ascending = pairs_tail v vars divides.ascending;
  named = All-tail (IsNamed clauses) v vars divides.named;
  variables = All-tail IsVariable v vars divides.variables;
}

-- so many pairs of cubes are refuted
pub record IsHalfDone (clauses : List (List Literal)) (v : ℕ) (vars ends halves : List ℕ) (start events : List LogEvent) : Type 0 where
  pub joined : IsLogOfClauses clauses events
  pub new_steps : KeepsNew start events
  pub ends_refuted : (c : ℕ) → c < length ends → IsRefutedAt events (cube_literals c (v ∷ vars)) (get_or ends c 0)
  pub halves_refuted : (c : ℕ) → c < length halves → IsRefutedAt events (cube_literals c vars) (get_or halves c 0)

pub half_begun : (clauses : List (List Literal)) (v : ℕ) (vars ends : List ℕ) (events : List LogEvent) → IsClosing clauses (v ∷ vars) ends events → IsHalfDone clauses v vars ends [] events events
half_begun clauses v vars ends events closing = record {
  joined = closing.joined;
  new_steps = λ before. before;
  ends_refuted = closing.refuted;
  halves_refuted = λ c below. absurd (omega arith);
}

pub half_more : (clauses : List (List Literal)) (v : ℕ) (vars ends halves : List ℕ) (start : List LogEvent) (old new : LogState) (place : ℕ) → Divides clauses (v ∷ vars) → IsHalfDone clauses v vars ends halves start old.events → 2 * length halves + 1 < length ends
    → Refutes old new (cube_literals (length halves) vars) (get_or ends (2 * length halves) 0 ∷ get_or ends (2 * length halves + 1) 0 ∷ []) place → IsHalfDone clauses v vars ends (halves ++ place ∷ []) start new.events
half_more clauses v vars ends halves start old new place divides half within refutes =
    let c = length halves in
    let one = half.ends_refuted (2 * c) (omega (arith, within)) in
    let other = half.ends_refuted (2 * c + 1) within in
    let is_clause : (p : ℕ) → p < length old.events → IsClause (clause_at old.events p) =
    λ p there. All-get_or IsClause (clauses_of old.events) p [] (omega (arith, there, length-map old.events clause_of)) half.joined.are_clauses in
    let hints = get_or ends (2 * c) 0 ∷ get_or ends (2 * c + 1) 0 ∷ [] in
    let done : IsRefuting clauses (cube_literals c vars) place old.events new.events =
    refuting clauses vars c (cube_literals c vars) refl (divides_tail clauses v vars divides) hints old new place half.joined
    (λ wide same consistent. record {
      hints_are_there = All-cons (λ (h : ℕ). h < length old.events) (get_or ends (2 * c) 0) (get_or ends (2 * c + 1) 0 ∷ []) one.there
          (All-cons (λ (h : ℕ). h < length old.events) (get_or ends (2 * c + 1) 0) [] other.there (All-nil (λ (h : ℕ). h < length old.events)));
      shown = pair_shown c v vars (clause_at old.events (get_or ends (2 * c) 0)) (clause_at old.events (get_or ends (2 * c + 1) 0)) wide
          (is_clause (get_or ends (2 * c) 0) one.there).ordered (is_clause (get_or ends (2 * c + 1) 0) other.there).ordered one.is_false other.is_false same;
    })
    refutes in
    record {
      joined = done.joined;
      new_steps = λ before. done.new_steps (half.new_steps before);
      ends_refuted = λ k below. done.kept (cube_literals k (v ∷ vars)) (get_or ends k 0) (half.ends_refuted k below);
      halves_refuted = λ k below. elim (cases_lt k c) [
        | inl before ↦ subst (IsRefutedAt new.events (cube_literals k vars)) (sym (get_or_append_left halves (place ∷ []) 0 k before))
            (done.kept (cube_literals k vars) (get_or halves k 0) (half.halves_refuted k before))
        | inr after ↦
            let here : k ≡ c = omega (arith, below, after, length_push halves place) in
            subst (IsRefutedAt new.events (cube_literals k vars)) (sym (get_or_push halves place 0 k (sym here)))
            (subst (λ (n : ℕ). IsRefutedAt new.events (cube_literals n vars) place) (sym here) done.here)
      ];
    }

pub half_ended : (clauses : List (List Literal)) (v : ℕ) (vars ends halves : List ℕ) (old events : List LogEvent) → IsClosing clauses (v ∷ vars) ends old → IsHalfDone clauses v vars ends halves old events → length halves ≡ length ends / 2 → IsClosing clauses vars halves events × KeepsNew old events
half_ended clauses v vars ends halves old events closing half count = (
  record {
    joined = half.joined;
    count = let twice = twice_as_many v vars in omega (arith, count, closing.count, twice);
    refuted = half.halves_refuted;
  },
  half.new_steps,
)

-- with all cubes joined, closing begins
pub closing_begun : (clauses : List (List Literal)) (vars ends : List ℕ) (events : List LogEvent) → RefutesCubes clauses vars ends events → length ends ≡ 2 ^ length vars → IsClosing clauses vars ends events
closing_begun clauses vars ends events joint count = record { joined = joint.joined; count = count; refuted = joint.refuted }

-- the places of what refutes cubes are there
pub ends_there : (clauses : List (List Literal)) (vars ends : List ℕ) (events : List LogEvent) → IsClosing clauses vars ends events → All (λ e. e < length events) ends
ends_there clauses vars ends events closing = All-from_get_or (λ (e : ℕ). e < length events) ends 0 (λ i below. (closing.refuted i below).there)

no_literal : (clause : List Literal) → IsFalseIn [] clause → clause ≡ []
no_literal [] is_false = refl
no_literal (l ∷ clause) is_false = absurd (none_in_nil (negation l) (All-head (λ m. Contains [] (negation m)) l clause is_false))

one_end : (ends : List ℕ) → length ends ≡ 1 → ends ≡ get_or ends 0 0 ∷ []
one_end [] count = absurd (omega (arith, count))
one_end (e ∷ []) count = refl
one_end (e ∷ f ∷ ends) count = absurd (omega (arith, count))

-- once no variable is left, the empty step follows
pub closed_valid : (clauses : List (List Literal)) (ends : List ℕ) (events : List LogEvent) → IsClosing clauses [] ends events → IsValidStep events [] ends
closed_valid clauses ends events closing =
    let one : length ends ≡ 1 = omega (arith, closing.count) in
    let at = closing.refuted 0 (omega (arith, one)) in
    let none : clause_at events (get_or ends 0 0) ≡ [] = no_literal (clause_at events (get_or ends 0 0)) at.is_false in
    record {
      hints_are_there = ends_there clauses [] ends events closing;
      shown = subst (λ (es : List ℕ). is_shown_by [] (clauses_at events es) ≡ true) (sym (one_end ends one))
          (subst (λ (c : List Literal). is_shown_by [] (c ∷ []) ≡ true) (sym none) refl);
    }

nil_clause : IsClause []
nil_clause = record { ordered = λ i j d order below. absurd (omega arith); variables = All-nil (λ l. IsVariable l.var) }

pub closed_joined : (clauses : List (List Literal)) (ends : List ℕ) (events : List LogEvent) → IsClosing clauses [] ends events → IsLogOfClauses clauses (events ++ step [] ends ∷ [])
closed_joined clauses ends events closing =
    joined_step clauses events [] ends closing.joined nil_clause (closed_valid clauses ends events closing)

-- a turn of the loop over pairs
pub half_turn : (clauses : List (List Literal)) (v : ℕ) (vars ends halves : List ℕ) (start : List LogEvent) (old new : LogState) (place k : ℕ) (literals : List Literal) (hints : List ℕ) → Divides clauses (v ∷ vars) → IsHalfDone clauses v vars ends halves start old.events
    → length halves ≡ k → k < length ends / 2 → literals ≡ cube_literals k vars → hints ≡ get_or ends (2 * k) 0 ∷ get_or ends (2 * k + 1) 0 ∷ [] → Refutes old new literals hints place → IsHalfDone clauses v vars ends (halves ++ place ∷ []) start new.events
half_turn clauses v vars ends halves start old new place k literals hints divides half count within are hinted refutes =
    half_more clauses v vars ends halves start old new place divides half (omega (arith, count, within))
    (subst (λ (n : ℕ). Refutes old new (cube_literals n vars) (get_or ends (2 * n) 0 ∷ get_or ends (2 * n + 1) 0 ∷ []) place) (sym count)
    (subst (λ (ls : List Literal). Refutes old new ls (get_or ends (2 * k) 0 ∷ get_or ends (2 * k + 1) 0 ∷ []) place) are
    (subst (λ (hs : List ℕ). Refutes old new literals hs place) hinted refutes)))

pub nil_is : (clause : List Literal) → HaveSameLiterals clause [] → clause ≡ []
nil_is [] same = refl
nil_is (l ∷ clause) same = absurd (none_in_nil l (All-head (Contains []) l clause same.from_first))

pub closed_with : (clauses : List (List Literal)) (ends : List ℕ) (log new : LogState) (clause : List Literal) → IsClosing clauses [] ends log.events → clause ≡ [] → new ≡ with_step log clause ends → IsLogOfClauses clauses new.events
closed_with clauses ends log new clause closing none is =
    subst (IsLogOfClauses clauses) (sym (ap (λ (s : LogState). s.events) is ∙ ap (λ (c : List Literal). log.events ++ step c ends ∷ []) none)) (closed_joined clauses ends log.events closing)

pub closed_new : (ends : List ℕ) (log new : LogState) (clause : List Literal) → clause ≡ [] → new ≡ with_step log clause ends → KeepsNew log.events new.events
closed_new ends log new clause none is =
    subst (KeepsNew log.events) (sym (ap (λ (s : LogState). s.events) is)) (new_step log.events clause ends (λ some. absurd (omega (arith, some, ap (λ (ls : List Literal). length ls) none))))

pub ended_with : (ends : List ℕ) (log new : LogState) (clause : List Literal) → clause ≡ [] → new ≡ with_step log clause ends → EndsWithEmptyStep new.events
ended_with ends log new clause none is = record {
  before = log.events;
  hints = ends;
  events_are = ap (λ (s : LogState). s.events) is ∙ ap (λ (c : List Literal). log.events ++ step c ends ∷ []) none;
}

pub on_ok : {P Q : Type 0} (r : Result (Unit {0}) Memory) → (P → Q) → OnOk r P → OnOk r Q
on_ok (Ok x) turn p = turn p
on_ok (Err e) turn p = tt
