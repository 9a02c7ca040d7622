-- Events at the end of a log, and the givens of logs that begin with givens alone.
use Rattle.std.proofs.Common.{◌≡◌, ℕ, ◌<◌, false, List, [], ◌∷◌, ◌++◌, length, get_or, refl, ap, ◌∙◌, sym, subst, arith, append_assoc}
use Rattle.std.specs.Prelude.{All, Contains}
use Rattle.std.proofs.lemmas.Bool.{false≢true}
use Rattle.std.proofs.lemmas.List.{append-nil, length-map, length_push, get_or_append_left, get_or_push}
use Rattle.std.proofs.lemmas.List.Elements.{All-head, All-tail, All-push}
use Rattle.cnf_core.specs.Literal.{Literal, negation, IsClause}
use Rattle.cnf_core.specs.Events.{LogEvent, given, step, clause_of, clauses_of, givens, is_given}
use Rattle.cnf_core.specs.Steps.{IsValidStep, IsNewStep}
use Rattle.cnf_core.proofs.Events.{EachStep-step, clauses_push}
use Rattle.cnf_core.proofs.Following.{clauses_of-push}
use Rattle.sat_split.specs.Cubes.{all_given}
use Rattle.sat_join.specs.Joins.{clause_at, IsRefutedAt, IsLogOfClauses, KeepsNew}

pub clause_at-left : (events : List LogEvent) (e : LogEvent) (place : ℕ) → place < length events → clause_at (events ++ e ∷ []) place ≡ clause_at events place
clause_at-left events e place there =
    ap (λ (cs : List (List Literal)). get_or cs place []) (clauses_of-push events e)
    ∙ get_or_append_left (clauses_of events) (clause_of e ∷ []) [] place (omega (arith, there, length-map events clause_of))

pub clause_at-push : (events : List LogEvent) (e : LogEvent) (place : ℕ) → place ≡ length events → clause_at (events ++ e ∷ []) place ≡ clause_of e
clause_at-push events e place is =
    ap (λ (cs : List (List Literal)). get_or cs place []) (clauses_of-push events e)
    ∙ get_or_push (clauses_of events) (clause_of e) [] place (length-map events clause_of ∙ sym is)

-- what is refuted stays so
pub refuted_left : (events : List LogEvent) (e : LogEvent) (literals : List Literal) (place : ℕ) → IsRefutedAt events literals place → IsRefutedAt (events ++ e ∷ []) literals place
refuted_left events e literals place at = record {
  there = omega (arith, at.there, length_push events e);
  is_false = subst (λ (c : List Literal). All (λ l. Contains literals (negation l)) c) (sym (clause_at-left events e place at.there)) at.is_false;
}

pub givens-append : (xs ys : List LogEvent) → givens (xs ++ ys) ≡ givens xs ++ givens ys
givens-append [] ys = refl
givens-append (given clause ∷ xs) ys = ap (λ (cs : List (List Literal)). clause ∷ cs) (givens-append xs ys)
givens-append (step clause hints ∷ xs) ys = givens-append xs ys

pub givens-given : (clauses : List (List Literal)) → givens (all_given clauses) ≡ clauses
givens-given [] = refl
givens-given (clause ∷ clauses) = ap (λ (cs : List (List Literal)). clause ∷ cs) (givens-given clauses)

pub clauses-given : (clauses : List (List Literal)) → clauses_of (all_given clauses) ≡ clauses
clauses-given [] = refl
clauses-given (clause ∷ clauses) = ap (λ (cs : List (List Literal)). clause ∷ cs) (clauses-given clauses)

pub no_givens : (steps : List LogEvent) → All (λ e. is_given e ≡ false) steps → givens steps ≡ []
no_givens [] all = refl
no_givens (given clause ∷ steps) all = absurd (false≢true (sym (All-head (λ e. is_given e ≡ false) (given clause) steps all)))
no_givens (step clause hints ∷ steps) all = no_givens steps (All-tail (λ e. is_given e ≡ false) (step clause hints) steps all)

-- the givens of clauses and steps
pub givens_before : (clauses : List (List Literal)) (steps events : List LogEvent) → events ≡ all_given clauses ++ steps → All (λ e. is_given e ≡ false) steps → givens events ≡ clauses
givens_before clauses steps events is are =
    ap givens is ∙ givens-append (all_given clauses) steps
    ∙ ap (λ (cs : List (List Literal)). givens (all_given clauses) ++ cs) (no_givens steps are)
    ∙ append-nil (givens (all_given clauses)) ∙ givens-given clauses

-- a new step at the end of new ones
pub new_step : (events : List LogEvent) (clause : List Literal) (hints : List ℕ) → (0 < length clause → IsNewStep events clause) → KeepsNew events (events ++ step clause hints ∷ [])
new_step events clause hints new before = EachStep-step (λ earlier c hs. 0 < length c → IsNewStep earlier c) [] events clause hints before new

-- a step at the end of a joined log
pub joined_step : (clauses : List (List Literal)) (events : List LogEvent) (clause : List Literal) (hints : List ℕ) → IsLogOfClauses clauses events → IsClause clause → IsValidStep events clause hints → IsLogOfClauses clauses (events ++ step clause hints ∷ [])
joined_step clauses events clause hints joined is valid = record {
  steps = joined.steps ++ step clause hints ∷ [];
  events_are = ap (λ (es : List LogEvent). es ++ step clause hints ∷ []) joined.events_are ∙ append_assoc (all_given clauses) joined.steps (step clause hints ∷ []);
  are_steps = All-push (λ e. is_given e ≡ false) joined.steps (step clause hints) joined.are_steps refl;
  valid = EachStep-step IsValidStep [] events clause hints joined.valid valid;
  are_clauses = clauses_push events (step clause hints) joined.are_clauses is;
}
