-- Events of a log whose literals are false, and clauses that have a literal of these.
use Rattle.std.proofs.Common.{◌≡◌, ℕ, ◌+◌, ◌<◌, true, false, List, [], length, take, ◌∙◌, sym, subst}
use Rattle.std.specs.Prelude.{All, Contains}
use Rattle.std.specs.List.{list_any, list_all}
use Rattle.std.proofs.lemmas.Bool.{false≢true}
use Rattle.std.proofs.lemmas.List.{get_or-map}
use Rattle.std.proofs.lemmas.List.Elements.{All-contains, All-push}
use Rattle.cnf_core.specs.Literal.{Literal, negation, is_among}
use Rattle.cnf_core.specs.Events.{LogEvent, clause_of, clauses_of, event_at, given}
use Rattle.cnf_core.specs.Reading.{is_false}
use Rattle.cnf_core.proofs.Members.{All-from_contains, Contains-from_test, test_from_Contains, passes_each, passes_some, all_pass}
use Rattle.sat_search.proofs.Taken.{clauses_more}
use Rattle.sat_split.specs.Cubes.{IsFalseIn}
use Rattle.sat_join.specs.Joins.{clause_at, IsRefutedAt}

pub false_from_test : (literals clause : List Literal) → list_all (is_false literals) clause ≡ true → IsFalseIn literals clause
false_from_test literals clause all =
    All-from_contains (λ l. Contains literals (negation l)) clause (λ l found. Contains-from_test literals (negation l) (passes_each (is_false literals) clause l all found))

pub not_false_from_test : (literals clause : List Literal) → list_all (is_false literals) clause ≡ false → IsFalseIn literals clause → ⊥
not_false_from_test literals clause none is =
    false≢true (sym none ∙ all_pass (is_false literals) clause (λ l found. test_from_Contains literals (negation l) (All-contains (λ m. Contains literals (negation m)) clause l is found)))

pub refuted_here : (events : List LogEvent) (literals clause : List Literal) (place : ℕ) → place < length events → clause ≡ clause_of (event_at events place) → list_all (is_false literals) clause ≡ true → IsRefutedAt events literals place
refuted_here events literals clause place below of_event all =
    let same : clause ≡ clause_at events place = of_event ∙ sym (get_or-map clause_of events place (given []) [] below) in
    record { there = below; is_false = subst (IsFalseIn literals) same (false_from_test literals clause all) }

-- none of the first events is false, nor is the next one
pub none_more : (events : List LogEvent) (literals clause : List Literal) (place : ℕ) → place < length events → clause ≡ clause_of (event_at events place) → list_all (is_false literals) clause ≡ false
    → All (λ other. IsFalseIn literals other → ⊥) (clauses_of (take place events)) → All (λ other. IsFalseIn literals other → ⊥) (clauses_of (take (place + 1) events))
none_more events literals clause place below of_event none before =
    let P : List Literal → Type 0 = λ other. IsFalseIn literals other → ⊥ in
    subst (All P) (sym (clauses_more events place clause below of_event)) (All-push P (clauses_of (take place events)) clause before (not_false_from_test literals clause none))

-- a clause has a literal of these
pub literal_from_test : (literals clause : List Literal) → list_any (is_among literals) clause ≡ true → (l : Literal) × Contains literals l × Contains clause l
literal_from_test literals clause any =
    let found = passes_some (is_among literals) clause any in
    (found.0, Contains-from_test literals found.0 found.2, found.1)
