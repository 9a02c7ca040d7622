-- Which answers are right for an instance.
use Rattle.std.specs.Prelude.{◌≡◌, ℕ, ℤ, List, [], Some, None}
use Rattle.ep_print.specs.Answers.{AnswerTree, no_solution, optimum, solution, unknown, unknown_with}
use Rattle.ep_tree.specs.Binding.{Instance}
use Rattle.ep_tree.specs.Solutions.{Assigned, IsOptimal, IsSolution, IsWritten, found_of, goal_value}
use Rattle.ep_tree.specs.declared.values.Mode.{Mode}
use Rattle.cnf_core.specs.Events.{LogEvent, LogState, nonempty_steps}
use Rattle.sat_search.specs.Logs.{NoneIsEmpty}

-- the objective has this value under an assignment
abbrev pub HasGoal : Mode → Instance → Assigned → ℤ → Type 0
HasGoal mode i a value = goal_value mode i (found_of a) ≡ Some value

-- An answer is right: a solution where no objective is stated; an optimum with its objective; that no assignment is a
-- solution; or that as many conflicts were spent as might be, where what is at hand is a solution with its objective.
unfoldable pub IsRight : Mode → Instance → ℕ → AnswerTree → Type 0
IsRight mode i budget (solution a) = (i.goal ≡ None) × IsWritten i a × IsSolution mode i a
IsRight mode i budget (optimum value a) = IsWritten i a × IsOptimal mode i a × HasGoal mode i a value
IsRight mode i budget no_solution = (a : Assigned) → ¬ IsSolution mode i a
IsRight mode i budget (unknown conflicts) = conflicts ≡ budget
IsRight mode i budget (unknown_with conflicts value a) =
    (conflicts ≡ budget) × IsWritten i a × IsSolution mode i a × HasGoal mode i a value

-- so many steps of a log have a literal, and no event is empty
abbrev pub IsSpent : ℕ → List LogEvent → Type 0
IsSpent budget events = (nonempty_steps events ≡ budget) × NoneIsEmpty events

-- the log without an event
abbrev pub empty_log : LogState
empty_log = record { events = []; notes = []; base = 0 }
