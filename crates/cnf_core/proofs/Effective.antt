-- Unit propagation on the events before an effective step, from its other literals' negations, meets no conflict.
use Rattle.std.proofs.Common.{◌≢◌, ℕ, ◌⊎◌, inl, inr, List, []}
use Rattle.std.specs.Prelude.{All, Contains, map}
use Rattle.std.proofs.lemmas.List.Elements.{All-contains, All-map, All-weaker, All-nil}
use Rattle.cnf_core.specs.Literal.{Literal, negation}
use Rattle.cnf_core.specs.Events.{LogEvent, clauses_of, HintsAreThere}
use Rattle.cnf_core.specs.Reading.{trues_from}
use Rattle.cnf_core.specs.Steps.{clauses_at, IsValidStep, IsEffectiveStep, HasTrueLiteral, HasTwoNotFalse, AreOtherLiterals}
use Rattle.cnf_core.proofs.Reading.{Settled, not_shown, reading_gives}
use Rattle.cnf_core.proofs.Following.{All-clauses_at}

settled_at_end : (trues clause : List Literal) → HasTrueLiteral trues clause ⊎ HasTwoNotFalse trues clause → Settled (Contains trues) clause
settled_at_end trues clause (inl found) = inl found
settled_at_end trues clause (inr two) = inr (record {
  one = two.one;
  other = two.other;
  two = two.two;
  one_in = two.one_in;
  other_in = two.other_in;
  one_open = two.one_not_false;
  other_open = two.other_not_false;
})

-- the events before an effective step are settled where its literals are true
all_settled : (earlier : List LogEvent) (clause : List Literal) (hints : List ℕ) (effective : IsEffectiveStep earlier clause) → HintsAreThere earlier hints → All (Settled (Contains effective.trues)) (clauses_at earlier hints)
all_settled earlier clause hints effective there =
    All-clauses_at (Settled (Contains effective.trues)) earlier hints there
    (All-weaker (λ c. HasTrueLiteral effective.trues c ⊎ HasTwoNotFalse effective.trues c) (Settled (Contains effective.trues)) (settled_at_end effective.trues) (clauses_of earlier) effective.at_end.settled)

-- the negations of its other literals are true there
others_false : (earlier : List LogEvent) (clause others : List Literal) (effective : IsEffectiveStep earlier clause) → AreOtherLiterals clause effective.last others → (l : Literal) → Contains (map negation others) l → Contains effective.trues l
others_false earlier clause others effective among l found =
    All-contains (Contains effective.trues) (map negation others) l
    (All-map (Contains effective.trues) negation others
    (All-weaker (λ m. Contains clause m × (m ≢ effective.last)) (λ m. Contains effective.trues (negation m)) (λ m both. effective.is_last.others m both.0 both.1) others among))
    found

-- no clause of the other literals is a valid step
pub others_not_shown : (earlier : List LogEvent) (clause others : List Literal) (hints : List ℕ) (effective : IsEffectiveStep earlier clause) → AreOtherLiterals clause effective.last others → IsValidStep earlier others hints → ⊥
others_not_shown earlier clause others hints effective among valid =
    not_shown (Contains effective.trues) effective.at_end.consistent others (clauses_at earlier hints)
    (all_settled earlier clause hints effective valid.hints_are_there) (others_false earlier clause others effective among) valid.shown

-- nor does reading give the last literal
pub last_not_given : (earlier : List LogEvent) (clause others : List Literal) (hints : List ℕ) (effective : IsEffectiveStep earlier clause) → AreOtherLiterals clause effective.last others → HintsAreThere earlier hints → Contains (trues_from (map negation others) (clauses_at earlier hints)) effective.last → ⊥
last_not_given earlier clause others hints effective among there given =
    effective.is_last.not_true
    (reading_gives (Contains effective.trues) effective.at_end.consistent (clauses_at earlier hints) (map negation others)
    (all_settled earlier clause hints effective there) (others_false earlier clause others effective among) effective.last given)

-- where the empty clause is a valid step, no step is effective
pub none_after_conflict : (earlier : List LogEvent) (clause : List Literal) (hints : List ℕ) → IsValidStep earlier [] hints → IsEffectiveStep earlier clause → ⊥
none_after_conflict earlier clause hints conflict effective =
    others_not_shown earlier clause [] hints effective (All-nil (λ l. Contains clause l × (l ≢ effective.last))) conflict
