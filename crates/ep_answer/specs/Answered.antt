-- What an answer says, over the numbers of the cells: that it is allowed, that nothing better is, or that the budget is
-- spent; and what a list of answers says.
use Rattle.std.specs.Prelude.{◌≡◌, ◌≢◌, ◌↔◌, ◌<◌, ◌≤◌, ◌-◌, ℕ, ℤ, Bool, IsTrue, IfSome, List, drop, length, Option, Some, None, option_map, slice_get}
use Rattle.std.specs.List.{All, AllPairs, AllZip, Contains}
use Rattle.cnf_core.specs.Clauses.{IsTrueUnder, SatisfiesClause}
use Rattle.cnf_core.specs.Events.{LogState, Note, givens, nonempty_steps}
use Rattle.cnf_core.specs.Literal.{Literal, negation}
use Rattle.ep_base.specs.Senses.{better_number}
use Rattle.ep_base.specs.declared.operators.Sense.{Sense}
use Rattle.enc_var.specs.Decoding.{Means, VariableLiterals, literal_of_note}
use Rattle.enc_var.specs.Layouts.{decoded_values, literals_at}
use Rattle.ep_flat.specs.Flats.{objective_number}
use Rattle.ep_answer.specs.Problems.{IsAllowed, IsLeft, ProblemState}
use Rattle.sat_search.specs.Logs.{EndsWithEmptyStep, IsSound, NoneIsEmpty}

-- One solution, the best one with its objective, none, or the budget is spent, with the best so far where there is one.
pub data FoundCells : Type 0 where
  solution : List ℤ → FoundCells
  optimum : ℤ → List ℤ → FoundCells
  no_solution : FoundCells
  unknown : Option (ℤ × List ℤ) → FoundCells

-- an objective is stated, and its number is better than this one
pub record IsBetterThan (p : ProblemState) (best : ℤ) (goal : Option ℤ) : Type 0 where
  pub sense : Sense
  pub variable : ℕ
  pub number : ℤ
  pub stated : p.variables.objective ≡ Some (sense, variable)
  pub drives : goal ≡ Some number
  pub better : IsTrue (better_number sense number best)

-- No objective is stated, and the numbers are allowed.
pub record IsSolutionFound (p : ProblemState) (log : LogState) (cells : List ℤ) : Type 0 where
  pub unstated : p.variables.objective ≡ None
  pub allowed : IsAllowed p log cells None

-- The numbers are allowed with this objective, nothing better is, and the log ends with the empty step.
pub record IsOptimumFound (p : ProblemState) (log : LogState) (number : ℤ) (cells : List ℤ) : Type 0 where
  pub allowed : IsAllowed p log cells (Some number)
  pub best : (others : List ℤ) (goal : Option ℤ) → IsAllowed p log others goal → IsBetterThan p number goal → ⊥
  pub ends : EndsWithEmptyStep log.events

-- Nothing is allowed, and the log ends with the empty step.
pub record IsNothingFound (p : ProblemState) (log : LogState) : Type 0 where
  pub none : (cells : List ℤ) (goal : Option ℤ) → IsAllowed p log cells goal → ⊥
  pub ends : EndsWithEmptyStep log.events

-- what is better than the best so far, and anything where there is none
unfoldable pub IsNumberWanted : ProblemState → Option (ℤ × List ℤ) → Option ℤ → Type 0
IsNumberWanted p None goal = Unit {0}
IsNumberWanted p (Some best) goal = IsBetterThan p best.0 goal

-- The steps with a literal are as many as the budget says, no event is empty, the best so far is allowed with its objective,
-- and what is left is exactly what is allowed and still wanted.
pub record IsBudgetSpent (p : ProblemState) (budget : ℕ) (log : LogState) (best : Option (ℤ × List ℤ)) : Type 0 where
  pub steps : nonempty_steps log.events ≡ budget
  pub none_is_empty : NoneIsEmpty log.events
  pub incumbent : IfSome best (λ one. IsAllowed p log one.1 (Some one.0))
  pub left : (cells : List ℤ) (goal : Option ℤ)
      → IsLeft p log cells goal ↔ (IsAllowed p log cells goal × IsNumberWanted p best goal)

-- when an answer is right
unfoldable pub IsRightAnswer : ProblemState → ℕ → LogState → FoundCells → Type 0
IsRightAnswer p budget log (solution cells) = IsSolutionFound p log cells
IsRightAnswer p budget log (optimum number cells) = IsOptimumFound p log number cells
IsRightAnswer p budget log no_solution = IsNothingFound p log
IsRightAnswer p budget log (unknown best) = IsBudgetSpent p budget log best

-- An answer: the log's steps are valid, those with a literal are new and effective and no more than the budget says, and the
-- answer is right.
pub record AnswersCells (p : ProblemState) (budget : ℕ) (log : LogState) (found : FoundCells) : Type 0 where
  pub sound : IsSound log.events
  pub within : nonempty_steps log.events ≤ budget
  pub right : IsRightAnswer p budget log found

-- the givens that were added to an old log
abbrev pub added_givens : LogState → LogState → List (List Literal)
added_givens old new = givens (drop (length old.events) new.events)

-- wherever the literals of the objective's variable mean what they say, this clause holds exactly where the objective is better
pub record SaysBetter (p : ProblemState) (best : ℤ) (clause : List Literal) : Type 0 where
  pub says : (s : ℕ → Bool) → IfSome p.variables.objective (λ goal. Means s (literals_at p.layout goal.1))
      → SatisfiesClause s clause ↔ IsBetterThan p best (objective_number p.variables (decoded_values p.layout s))

-- this number of the objective comes with numbers of the cells that are allowed
pub record IsReachedGoal (p : ProblemState) (log : LogState) (number : ℤ) : Type 0 where
  pub cells : List ℤ
  pub allowed : IsAllowed p log cells (Some number)

-- the objective's number in the best solution that an answer has, where it has one
unfoldable pub best_number : FoundCells → Option ℤ
best_number (solution cells) = None
best_number (optimum number cells) = Some number
best_number no_solution = None
best_number (unknown best) = option_map (λ one. one.0) best

-- How the best solution was looked for: some numbers of the objective were reached one after another, each better than those
-- before and the last the answer's own, and the givens added say one by one that the objective is better than each.
pub record Improves (p : ProblemState) (old new : LogState) (found : FoundCells) : Type 0 where
  pub bests : List ℤ
  pub reached : All (IsReachedGoal p new) bests
  pub better : AllPairs (λ earlier later. IsBetterThan p earlier (Some later)) bests
  pub last : slice_get bests (length bests - 1) ≡ best_number found
  pub said : AllZip (SaysBetter p) bests (added_givens old new)

-- how a listing ends: with all, with as many as were wanted, or with the budget
pub data ListingEnd : Type 0 where
  complete : ListingEnd
  stopped : ListingEnd
  spent : ListingEnd

-- When such an end of a listing is right. With all: they are fewer than were wanted, whatever numbers are allowed were found, and
-- the log ends with the empty step.
unfoldable pub IsRightEnd : ProblemState → ℕ → ℕ → LogState → List (List ℤ) → ListingEnd → Type 0
IsRightEnd p budget most log found complete =
    (length found < most)
    × ((cells : List ℤ) (goal : Option ℤ) → IsAllowed p log cells goal → Contains found cells)
    × EndsWithEmptyStep log.events
IsRightEnd p budget most log found stopped = length found ≡ most
IsRightEnd p budget most log found spent =
    (length found < most) × (nonempty_steps log.events ≡ budget) × NoneIsEmpty log.events

-- a literal is the negation of that of a note
pub record IsNegatedNote (log : LogState) (l : Literal) : Type 0 where
  pub note : Note
  pub noted : Contains log.notes note
  pub negated : l ≡ negation note.lit

-- The literals of a variable's values tell under an assignment that it has this number, one of its values: that of a value is true
-- exactly where the value is this number.
pub record LiteralsTell (s : ℕ → Bool) (e : VariableLiterals) (number : ℤ) : Type 0 where
  pub among : Contains e.domain number
  pub literals : (v : ℤ) → Contains e.domain v → IsTrueUnder s (literal_of_note e v) ↔ (v ≡ number)

-- the literals of some variables' values tell these numbers
abbrev pub AllTell : (ℕ → Bool) → List VariableLiterals → List ℕ → List ℤ → Type 0
AllTell s layout vars numbers = AllZip (λ x number. LiteralsTell s (literals_at layout x) number) vars numbers

-- Whatever numbers of the cells the literals of their values tell, this clause holds exactly where they are other numbers than these;
-- and each of its literals is the negation of a note's.
pub record BlocksCells (p : ProblemState) (log : LogState) (cells : List ℤ) (clause : List Literal) : Type 0 where
  pub says : (s : ℕ → Bool) (numbers : List ℤ) → AllTell s p.layout p.variables.cells numbers
      → SatisfiesClause s clause ↔ (numbers ≢ cells)
  pub literals : All (IsNegatedNote log) clause

-- A list: the numbers of the cells that were found are allowed, each time others, the givens added block them one by one, what is
-- left is exactly what is allowed and wasn't found, and the end is right.
pub record ListsCells (p : ProblemState) (budget most : ℕ) (old new : LogState) (found : List (List ℤ)) (end : ListingEnd) : Type 0 where
  pub sound : IsSound new.events
  pub within : nonempty_steps new.events ≤ budget
  pub allowed : All (λ cells. (goal : Option ℤ) × IsAllowed p new cells goal) found
  pub different : AllPairs ◌≢◌ found
  pub blocked : AllZip (BlocksCells p new) found (added_givens old new)
  pub left : (cells : List ℤ) (goal : Option ℤ)
      → IsLeft p new cells goal ↔ (IsAllowed p new cells goal × (Contains found cells → ⊥))
  pub right_end : IsRightEnd p budget most new found end
