-- A step that says that a cube is refuted, or an earlier event that says it.
use Rattle.std.proofs.Common.{◌≡◌, ℕ, ◌≤◌, ◌⊎◌, inl, inr, List, [], ◌∷◌, ◌++◌, length, ap, sym, subst, arith}
use Rattle.std.specs.Prelude.{Contains, map}
use Rattle.std.proofs.lemmas.List.{length_push}
use Rattle.std.proofs.lemmas.List.Elements.{All-contains, Contains-push_cases}
use Rattle.cnf_core.specs.Literal.{Literal, negation, HaveSameLiterals}
use Rattle.cnf_core.specs.Events.{LogEvent, LogState, step, clauses_of}
use Rattle.cnf_core.specs.Steps.{IsConsistent, Includes, IsValidStep, StandsInGiven}
use Rattle.cnf_core.proofs.Members.{All-from_contains}
use Rattle.cnf_core.proofs.Following.{clauses_of-push}
use Rattle.sat_split.specs.Cubes.{IsNamed, cube_literals, IsFalseIn}
use Rattle.sat_split.proofs.Cubes.{cube_names, cube_apart}
use Rattle.sat_join.specs.Joins.{IsRefutedAt, IsLogOfClauses, KeepsNew, HasNegations, Divides, Refutes}
use Rattle.sat_join.proofs.Wider.{Contains-map, Contains-from_map}
use Rattle.sat_join.proofs.News.{AreApart}
use Rattle.sat_join.proofs.Events.{clause_at-push, refuted_left, givens_before, joined_step, new_step}

-- a variable that stands in the formula stands in a given of a joined log
pub named_stands : (clauses : List (List Literal)) (joined : List LogEvent) (v : ℕ) → IsLogOfClauses clauses joined → IsNamed clauses v → StandsInGiven joined v
named_stands clauses joined v is named = record {
  clause = named.clause;
  literal = named.literal;
  is_given = subst (λ (cs : List (List Literal)). Contains cs named.clause) (sym (givens_before clauses is.steps joined is.events_are is.are_steps)) named.is_there;
  in_clause = named.in_clause;
  names = named.names;
}

-- the joined log refutes a cube, and keeps what it was
pub record IsRefuting (clauses : List (List Literal)) (literals : List Literal) (place : ℕ) (old new : List LogEvent) : Type 0 where
  pub joined : IsLogOfClauses clauses new
  pub new_steps : KeepsNew old new
  pub here : IsRefutedAt new literals place
  pub kept : (others : List Literal) (other : ℕ) → IsRefutedAt old others other → IsRefutedAt new others other
  pub origins : (clause : List Literal) → Contains (clauses_of new) clause → Contains (clauses_of old) clause ⊎ HasNegations literals clause

module _ (clauses : List (List Literal)) (vars : List ℕ) (cube : ℕ) (literals : List Literal) (are : literals ≡ cube_literals cube vars) (divides : Divides clauses vars) where
  pub apart : AreApart literals
  apart q here there =
      cube_apart cube vars divides.ascending q (subst (λ (ls : List Literal). Contains ls q) are here) (subst (λ (ls : List Literal). Contains ls (negation q)) are there)

  pub cube_named : (q : Literal) → Contains literals q → IsNamed clauses q.var
  cube_named q found = All-contains (IsNamed clauses) vars q.var divides.named (cube_names cube vars q (subst (λ (ls : List Literal). Contains ls q) are found))

  pub refuting : (hints : List ℕ) (old new : LogState) (place : ℕ) → IsLogOfClauses clauses old.events
      → ((wide : List Literal) → HaveSameLiterals wide (map negation literals) → IsConsistent wide → IsValidStep old.events wide hints)
      → Refutes old new literals hints place → IsRefuting clauses literals place old.events new.events
  refuting hints old new place joined valid (inl found) =
      subst (IsRefuting clauses literals place old.events) (sym (ap (λ (s : LogState). s.events) found.0)) (record {
        joined = joined;
        new_steps = λ before. before;
        here = found.1;
        kept = λ others other at. at;
        origins = λ clause there. inl there;
      })
  refuting hints old new place joined valid (inr added) =
      let wide = added.0 in
      let negated : (l : Literal) → Contains wide l → Contains literals (negation l) =
      λ l there. Contains-from_map literals l (All-contains (Contains (map negation literals)) wide l added.4.from_first there) in
      let consistent : IsConsistent wide = λ l here there. apart (negation l) (negated l here) (negated (negation l) there) in
      let after = old.events ++ step wide hints ∷ [] in
      subst (IsRefuting clauses literals place old.events) (sym (ap (λ (s : LogState). s.events) added.1)) (record {
        joined = joined_step clauses old.events wide hints joined added.3 (valid wide added.4 consistent);
        new_steps = new_step old.events wide hints (λ some. record {
          consistent = consistent;
          variables = All-from_contains (λ (l : Literal). StandsInGiven old.events l.var) wide (λ l there. named_stands clauses old.events l.var joined (cube_named (negation l) (negated l there)));
          not_included = All-from_contains (λ other. Includes wide other → ⊥) (clauses_of old.events) (λ other there includes.
              All-contains (λ c. IsFalseIn literals c → ⊥) (clauses_of old.events) other added.5 there
              (All-from_contains (λ l. Contains literals (negation l)) other (λ l stands. negated l (All-contains (Contains wide) other l includes stands))));
        });
        here = record {
          there = omega (arith, added.2, length_push old.events (step wide hints));
          is_false = subst (IsFalseIn literals) (sym (clause_at-push old.events (step wide hints) place added.2)) (All-from_contains (λ l. Contains literals (negation l)) wide negated);
        };
        kept = λ others other at. refuted_left old.events (step wide hints) others other at;
        origins = λ clause there. elim (Contains-push_cases (clauses_of old.events) wide clause (subst (λ (cs : List (List Literal)). Contains cs clause) (clauses_of-push old.events (step wide hints)) there)) [
          | inl before ↦ inl before
          | inr is ↦ inr (subst (HasNegations literals) is (All-from_contains (λ l. Contains wide (negation l)) literals (λ l found.
              All-contains (Contains wide) (map negation literals) (negation l) added.4.from_second (Contains-map literals l found))))
        ];
      })

-- what refutes a cube leaves the rest of a log
pub refutes_grows : (old new : LogState) (literals : List Literal) (hints : List ℕ) (place : ℕ) → Refutes old new literals hints place → length old.events ≤ length new.events
refutes_grows old new literals hints place (inl found) = omega (arith, ap (λ (s : LogState). length s.events) found.0)
refutes_grows old new literals hints place (inr added) = omega (arith, ap (λ (s : LogState). length s.events) added.1, length_push old.events (step added.0 hints))

pub refutes_notes : (old new : LogState) (literals : List Literal) (hints : List ℕ) (place : ℕ) → Refutes old new literals hints place → new.notes ≡ old.notes
refutes_notes old new literals hints place (inl found) = ap (λ (s : LogState). s.notes) found.0
refutes_notes old new literals hints place (inr added) = ap (λ (s : LogState). s.notes) added.1

pub refutes_base : (old new : LogState) (literals : List Literal) (hints : List ℕ) (place : ℕ) → Refutes old new literals hints place → new.base ≡ old.base
refutes_base old new literals hints place (inl found) = ap (λ (s : LogState). s.base) found.0
refutes_base old new literals hints place (inr added) = ap (λ (s : LogState). s.base) added.1
