-- What a log shows of an instance, beside its answer: that its givens stand for the instance, and which solutions are left.
use Rattle.std.specs.Prelude.{◌≡◌, ◌↔◌, ◌≤◌, ◌+◌, ◌-◌, ℕ, ℤ, Bool, IsTrue, List, [], ◌∷◌, ◌++◌, drop, length, map, slice_get, take, Option, Some, None}
use Rattle.std.specs.List.{All, AllPairs, AllZip, Contains}
use Rattle.cnf_core.specs.Clauses.{IsTrueUnder, Satisfies, SatisfiesClause}
use Rattle.cnf_core.specs.Events.{HasBase, LogState, Note, givens, nonempty_steps}
use Rattle.cnf_core.specs.Literal.{Literal}
use Rattle.enc_var.specs.Notes.{cell_text}
use Rattle.ep_base.specs.Senses.{better_number}
use Rattle.ep_base.specs.declared.operators.Sense.{Sense}
use Rattle.ep_ground.specs.declared.cells.Cell.{Cell}
use Rattle.ep_print.specs.Answers.{AnswerTree, no_solution, optimum, solution, unknown, unknown_with}
use Rattle.ep_tree.specs.Binding.{Instance}
use Rattle.ep_tree.specs.Solutions.{Assigned, Found, IsSolution, IsWritten, goal_value}
use Rattle.ep_tree.specs.Trees.{ExprTree}
use Rattle.ep_tree.specs.declared.values.Mode.{Mode}
use Rattle.ep_unroll.specs.Cells.{found_numbers, instance_cells}
use Rattle.sat_search.specs.Logs.{EndsWithEmptyStep, IsSound}
use Rattle.ep_solve.specs.Right.{HasGoal, IsSpent}

-- ---- what notes tell

-- These notes are a cell's, one for each of its values in their order, and under an assignment the literal of a note is true
-- exactly where the note has this number.
pub record TellNumber (s : ℕ → Bool) (notes : List Note) (one : Cell) (number : ℤ) : Type 0 where
  pub among : Contains one.values number
  pub cells : All (λ n. n.cell ≡ cell_text one) notes
  pub values : map (λ n. n.value) notes ≡ one.values
  pub literals : All (λ n. IsTrueUnder s n.lit ↔ (n.value ≡ number)) notes

-- these notes are those of some cells, one cell after another, and under an assignment they tell these numbers
unfoldable pub TellNumbers : (ℕ → Bool) → List Note → List Cell → List ℤ → Type 0
TellNumbers s notes [] [] = notes ≡ []
TellNumbers s notes [] (x ∷ xs) = ⊥
TellNumbers s notes (one ∷ cells) [] = ⊥
TellNumbers s notes (one ∷ cells) (x ∷ xs) =
    TellNumber s (take (length one.values) notes) one x × TellNumbers s (drop (length one.values) notes) cells xs

-- an assignment that satisfies clauses, under which notes tell these numbers of an instance's cells
pub record AreTold (i : Instance) (notes : List Note) (clauses : List (List Literal)) (numbers : List ℤ) : Type 0 where
  pub assignment : ℕ → Bool
  pub satisfies : Satisfies assignment clauses
  pub tell : TellNumbers assignment notes (instance_cells i) numbers

-- numbers of the cells are those of a solution, and what it gives the decision variables is wanted
pub record AreWanted (mode : Mode) (i : Instance) (wanted : Found → Type 0) (numbers : List ℤ) : Type 0 where
  pub assigned : Assigned
  pub solves : IsSolution mode i assigned
  pub numbers_are : found_numbers solves.found ≡ numbers
  pub is_wanted : wanted solves.found

-- By these notes each assignment that satisfies clauses tells a solution that is wanted, and each such solution is told by one.
pub record TellSolutions (mode : Mode) (i : Instance) (notes : List Note) (clauses : List (List Literal)) (wanted : Found → Type 0) : Type 0 where
  pub sound : (s : ℕ → Bool) → Satisfies s clauses
      → (numbers : List ℤ) × TellNumbers s notes (instance_cells i) numbers × AreWanted mode i wanted numbers
  pub complete : (a : Assigned) (solves : IsSolution mode i a) → wanted solves.found
      → AreTold i notes clauses (found_numbers solves.found)

-- ---- what a log shows

-- an objective is stated, and its number is better than this one
pub record IsBetterGoal (i : Instance) (best : ℤ) (goal : Option ℤ) : Type 0 where
  pub sense : Sense
  pub e : ExprTree
  pub number : ℤ
  pub stated : i.goal ≡ Some (sense, e)
  pub has_number : goal ≡ Some number
  pub better : IsTrue (better_number sense number best)

-- what is better than the solution at hand, and anything where there is none
unfoldable pub IsStillWanted : Instance → Option ℤ → Option ℤ → Type 0
IsStillWanted i None goal = Unit {0}
IsStillWanted i (Some best) goal = IsBetterGoal i best goal

-- what a note names: a cell, and one of its values
abbrev pub noted_value : Note → List ℕ × ℤ
noted_value n = (n.cell, n.value)

-- what the notes of cells name, cell by cell: each of a cell's values in its order, with the cell's name
unfoldable pub named_values : List Cell → List (List ℕ × ℤ)
named_values [] = []
named_values (one ∷ cells) = map (λ v. (cell_text one, v)) one.values ++ named_values cells

-- The log's first events are the instance's own: they are givens, its notes name each cell of the instance with each of its values,
-- and by the notes what satisfies the givens are exactly the solutions of the instance.
pub record Stands (mode : Mode) (i : Instance) (log : LogState) : Type 0 where
  pub base : HasBase log.events log.base
  pub notes : map noted_value log.notes ≡ named_values (instance_cells i)
  pub told : TellSolutions mode i log.notes (givens (take log.base log.events)) (λ _. Unit {0})

-- what satisfies all givens of the log are exactly the solutions that are better than the one at hand
abbrev pub Leaves : Mode → Instance → LogState → Option ℤ → Type 0
Leaves mode i log best =
    TellSolutions mode i log.notes (givens log.events) (λ found. IsStillWanted i best (goal_value mode i found))

-- the givens behind those that stand for the instance
abbrev pub added_clauses : LogState → List (List Literal)
added_clauses log = givens (drop log.base log.events)

-- the givens that stand for the instance, and the first so many behind them
abbrev pub first_givens : LogState → ℕ → List (List Literal)
first_givens log count = givens (take log.base log.events) ++ take count (added_clauses log)

-- this number of the objective is that of a solution, written as the instance states it
abbrev pub IsReached : Mode → Instance → ℤ → Type 0
IsReached mode i number = (a : Assigned) × IsWritten i a × IsSolution mode i a × HasGoal mode i a number

-- Under each assignment that satisfies the givens which stand for the instance, the notes tell numbers of the cells, and a clause
-- holds exactly where they are those of a solution that is wanted.
pub record SaysOfSolutions (mode : Mode) (i : Instance) (log : LogState) (wanted : Found → Type 0) (clause : List Literal) : Type 0 where
  pub says : (s : ℕ → Bool) → Satisfies s (givens (take log.base log.events))
      → (numbers : List ℤ) × TellNumbers s log.notes (instance_cells i) numbers
      × (SatisfiesClause s clause ↔ AreWanted mode i wanted numbers)

-- what is better than this number of the objective
abbrev pub IsBetterSolution : Mode → Instance → ℤ → Found → Type 0
IsBetterSolution mode i number found = IsBetterGoal i number (goal_value mode i found)

-- How a search came to a number of the objective: solutions reached some numbers one after another, each better than those before
-- and the last one this. One given was added for each of them and no other: it says that a solution is better than the number, and
-- what satisfies the givens up to it are exactly the solutions that are better.
pub record IsDrivenTo (mode : Mode) (i : Instance) (log : LogState) (value : ℤ) : Type 0 where
  pub numbers : List ℤ
  pub reached : All (IsReached mode i) numbers
  pub better : AllPairs (λ earlier later. IsBetterGoal i earlier (Some later)) numbers
  pub last : slice_get numbers (length numbers - 1) ≡ Some value
  pub said : AllZip (λ number. SaysOfSolutions mode i log (IsBetterSolution mode i number)) numbers (added_clauses log)
  pub narrows : (k : ℕ) (number : ℤ) → slice_get numbers k ≡ Some number
      → TellSolutions mode i log.notes (first_givens log (k + 1)) (IsBetterSolution mode i number)

-- What the log shows of an answer. Of a solution: nothing was added to what stands for the instance. Of an optimum: it ends with the
-- empty step, and the givens that were added lead to the optimum's number. Of there being no solution: it ends with the empty step,
-- and nothing was added. Where the budget is spent: it has as many steps as that, none of them empty; without a solution at hand
-- nothing was added, so that all solutions are left; with one, the givens that were added lead to its number, and what is left are
-- exactly the better solutions.
unfoldable pub ShowsAnswer : Mode → Instance → ℕ → LogState → AnswerTree → Type 0
ShowsAnswer mode i budget log (solution a) = added_clauses log ≡ []
ShowsAnswer mode i budget log (optimum value a) = EndsWithEmptyStep log.events × IsDrivenTo mode i log value
ShowsAnswer mode i budget log no_solution = EndsWithEmptyStep log.events × (added_clauses log ≡ [])
ShowsAnswer mode i budget log (unknown conflicts) = IsSpent budget log.events × (added_clauses log ≡ [])
ShowsAnswer mode i budget log (unknown_with conflicts value a) =
    IsSpent budget log.events × IsDrivenTo mode i log value × Leaves mode i log (Some value)

-- An answer is logged: the log stands for the instance, its steps are valid, those with a literal are new and effective and no
-- more than the budget, and it shows the answer.
pub record IsLogged (mode : Mode) (i : Instance) (budget : ℕ) (log : LogState) (answer : AnswerTree) : Type 0 where
  pub stands : Stands mode i log
  pub sound : IsSound log.events
  pub within : nonempty_steps log.events ≤ budget
  pub shows : ShowsAnswer mode i budget log answer
