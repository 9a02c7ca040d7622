-- What the log of a search shows of a pseudo-Boolean problem, beside its answer.
use Rattle.std.specs.Prelude.{◌≡◌, ◌↔◌, ◌≤◌, ◌<ℤ◌, ◌-◌, ℕ, ℤ, pos, Bool, true, false, List, [], ◌∷◌, codes, ◌++◌, drop, length, map, slice_get, take, Option, Some, None}
use Rattle.std.specs.Fmt.{decimal}
use Rattle.std.specs.List.{All, AllPairs, AllZip, flat_map}
use Rattle.cnf_core.specs.Clauses.{IsTrueUnder, Satisfies, SatisfiesClause}
use Rattle.cnf_core.specs.Events.{HasBase, LogState, Note, givens, nonempty_steps}
use Rattle.cnf_core.specs.Literal.{Literal}
use Rattle.opb_answer.specs.Answers.{OpbFound, no_solution, optimum, solution, truths_in, unknown}
use Rattle.opb_answer.specs.declared.answers.OpbValue.{OpbValue}
use Rattle.opb_text.specs.Contents.{OpbContent}
use Rattle.opb_text.specs.Solutions.{IsOpbSolution, objective_value}
use Rattle.opb_text.specs.Weights.{AreVariablesOf}
use Rattle.sat_search.specs.Logs.{EndsWithEmptyStep, IsSound, NoneIsEmpty}

-- ---- notes

-- the name of a variable: an `x`, and its number
abbrev pub variable_name : ℕ → List ℕ
variable_name var = codes "x" ++ decimal var

-- what a note names, and with which value
abbrev pub noted_pair : Note → List ℕ × ℤ
noted_pair n = (n.cell, n.value)

-- a variable's name with 0, which stands for false, and then with 1
abbrev pub both_values : ℕ → List (List ℕ × ℤ)
both_values var = (variable_name var, pos 0) ∷ (variable_name var, pos 1) ∷ []

-- what the notes of variables name, one variable after another
abbrev pub named_values_of : List ℕ → List (List ℕ × ℤ)
named_values_of vars = flat_map both_values vars

-- Under an assignment notes, two for each of some variables, tell truth values: the literal of the first is true exactly where
-- the variable is false, and that of the second exactly where it is true.
unfoldable pub TellTruths : (ℕ → Bool) → List Note → List ℕ → (ℕ → Bool) → Type 0
TellTruths s notes [] truths = notes ≡ []
TellTruths s [] (var ∷ vars) truths = ⊥
TellTruths s (n ∷ []) (var ∷ vars) truths = ⊥
TellTruths s (n ∷ m ∷ notes) (var ∷ vars) truths =
    (IsTrueUnder s n.lit ↔ (truths var ≡ false)) × (IsTrueUnder s m.lit ↔ (truths var ≡ true)) × TellTruths s notes vars truths

-- an assignment satisfies clauses, and notes tell these truth values under it
pub record IsOpbTold (vars : List ℕ) (notes : List Note) (clauses : List (List Literal)) (truths : ℕ → Bool) : Type 0 where
  pub assignment : ℕ → Bool
  pub satisfies : Satisfies assignment clauses
  pub tell : TellTruths assignment notes vars truths

-- By these notes each assignment that satisfies clauses tells a solution that is wanted, and each such solution is told by one.
pub record TellOpbSolutions (content : OpbContent) (vars : List ℕ) (notes : List Note) (clauses : List (List Literal)) (wanted : (ℕ → Bool) → Type 0) : Type 0 where
  pub sound : (s : ℕ → Bool) → Satisfies s clauses
      → (truths : ℕ → Bool) × TellTruths s notes vars truths × IsOpbSolution content truths × wanted truths
  pub complete : (truths : ℕ → Bool) → IsOpbSolution content truths → wanted truths → IsOpbTold vars notes clauses truths

-- ---- what a log shows

-- The log's first events are the problem's own: they are givens, its notes name each variable with both values, and by the notes
-- what satisfies the givens are exactly the solutions.
pub record StandsForOpb (content : OpbContent) (vars : List ℕ) (log : LogState) : Type 0 where
  pub base : HasBase log.events log.base
  pub notes : map noted_pair log.notes ≡ named_values_of vars
  pub told : TellOpbSolutions content vars log.notes (givens (take log.base log.events)) (λ _. Unit {0})

-- what has a smaller objective than the solution at hand, and anything where there is none
unfoldable pub IsStillSmaller : OpbContent → Option (List OpbValue) → (ℕ → Bool) → Type 0
IsStillSmaller content None truths = Unit {0}
IsStillSmaller content (Some values) truths = objective_value content truths <ℤ objective_value content (truths_in values)

-- no given stands behind those that stand for the problem
abbrev pub AddsNoGiven : LogState → Type 0
AddsNoGiven log = givens (drop log.base log.events) ≡ []

-- this is the objective of some solution
abbrev pub IsReachedOpb : OpbContent → ℤ → Type 0
IsReachedOpb content number = (truths : ℕ → Bool) × IsOpbSolution content truths × (objective_value content truths ≡ number)

-- Under each assignment that satisfies the givens which stand for the problem, the notes tell truth values, and a clause holds
-- exactly where the objective is smaller than this number under them.
pub record SaysSmaller (content : OpbContent) (vars : List ℕ) (log : LogState) (number : ℤ) (clause : List Literal) : Type 0 where
  pub says : (s : ℕ → Bool) → Satisfies s (givens (take log.base log.events))
      → (truths : ℕ → Bool) × TellTruths s log.notes vars truths
      × (SatisfiesClause s clause ↔ (objective_value content truths <ℤ number))

-- How a search came to the objective of a solution: solutions reached some numbers one after another, each smaller than those
-- before and the last one this. One given was added for each of them and no other: it says that the objective is smaller.
pub record IsOpbDrivenTo (content : OpbContent) (vars : List ℕ) (log : LogState) (values : List OpbValue) : Type 0 where
  pub numbers : List ℤ
  pub reached : All (IsReachedOpb content) numbers
  pub smaller : AllPairs (λ earlier later. later <ℤ earlier) numbers
  pub last : slice_get numbers (length numbers - 1) ≡ Some (objective_value content (truths_in values))
  pub said : AllZip (SaysSmaller content vars log) numbers (givens (drop log.base log.events))

-- what was added to what stands for the problem: nothing where no solution is at hand, and else what leads to its objective
unfoldable pub AddsForOpb : OpbContent → List ℕ → LogState → Option (List OpbValue) → Type 0
AddsForOpb content vars log None = AddsNoGiven log
AddsForOpb content vars log (Some values) = IsOpbDrivenTo content vars log values

-- What a log shows of an answer. Of a solution: nothing was added to what stands for the problem. Of an optimum: it ends with the
-- empty step, and the givens that were added lead to its objective. Of there being no solution: it ends with the empty step, and
-- nothing was added. Where the conflicts are spent: as many steps have a literal, no event is empty, what satisfies all givens are
-- exactly the solutions that are still smaller, and the givens that were added lead to the objective of the one at hand.
unfoldable pub ShowsOpb : OpbContent → List ℕ → ℕ → LogState → OpbFound → Type 0
ShowsOpb content vars budget log (solution values) = AddsNoGiven log
ShowsOpb content vars budget log (optimum values) = EndsWithEmptyStep log.events × IsOpbDrivenTo content vars log values
ShowsOpb content vars budget log no_solution = EndsWithEmptyStep log.events × AddsNoGiven log
ShowsOpb content vars budget log (unknown best) =
    (nonempty_steps log.events ≡ budget) × NoneIsEmpty log.events
    × TellOpbSolutions content vars log.notes (givens log.events) (IsStillSmaller content best)
    × AddsForOpb content vars log best

-- An answer is logged: the log stands for the problem, its steps are valid, those with a literal are new and effective and no
-- more than the budget, and it shows the answer.
pub record IsOpbLogged (content : OpbContent) (budget : ℕ) (log : LogState) (found : OpbFound) : Type 0 where
  pub vars : List ℕ
  pub variables : AreVariablesOf content vars
  pub stands : StandsForOpb content vars log
  pub sound : IsSound log.events
  pub within : nonempty_steps log.events ≤ budget
  pub shows : ShowsOpb content vars budget log found
