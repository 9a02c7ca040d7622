-- Which lists of solutions are right for an instance, and what the log shows of them.
use Rattle.std.specs.Prelude.{◌≡◌, ◌≢◌, ◌↔◌, ◌<◌, ◌≤◌, ℕ, ℤ, Bool, List, length, map, take}
use Rattle.std.specs.List.{All, AllPairs, AllZip, Contains}
use Rattle.cnf_core.specs.Clauses.{SatisfiesClause}
use Rattle.cnf_core.specs.Events.{LogState, givens, nonempty_steps}
use Rattle.cnf_core.specs.Literal.{Literal}
use Rattle.ep_answer.specs.Answered.{IsNegatedNote}
use Rattle.ep_print.specs.Listings.{EndTree, ListingTree, complete, spent, stopped}
use Rattle.ep_tree.specs.Binding.{Instance}
use Rattle.ep_tree.specs.Solutions.{Assigned, Found, IsSolution, IsWritten, found_of}
use Rattle.ep_tree.specs.declared.values.Mode.{Mode}
use Rattle.ep_unroll.specs.Cells.{found_numbers, instance_cells}
use Rattle.sat_search.specs.Logs.{EndsWithEmptyStep, IsSound}
use Rattle.ep_solve.specs.Logged.{Stands, TellNumbers, TellSolutions, added_clauses, first_givens}
use Rattle.ep_solve.specs.Right.{IsSpent}

-- one of these assignments gives the decision variables these values
abbrev pub IsListed : List Assigned → Found → Type 0
IsListed listed found = Contains (map found_of listed) found

-- none of these assignments gives the decision variables these values
abbrev pub IsUnlisted : List Assigned → Found → Type 0
IsUnlisted listed found = IsListed listed found → ⊥

-- How a list of these solutions may end, where so many are wanted and so many conflicts may be spent. Complete: they are fewer
-- than are wanted, each solution is listed, and the log ends with the empty step. Stopped: they are as many as are wanted. Spent:
-- they are fewer, and as many conflicts were spent as might be.
unfoldable pub EndsRightly : Mode → Instance → ℕ → ℕ → LogState → List Assigned → EndTree → Type 0
EndsRightly mode i budget most log listed complete =
    (length listed < most)
    × ((a : Assigned) (solves : IsSolution mode i a) → IsListed listed solves.found)
    × EndsWithEmptyStep log.events
EndsRightly mode i budget most log listed stopped = length listed ≡ most
EndsRightly mode i budget most log listed (spent conflicts) =
    (length listed < most) × (conflicts ≡ budget) × IsSpent budget log.events

-- Whatever numbers of the cells the notes of a log tell, a clause holds exactly where they aren't those of this assignment.
pub record BlocksSolution (i : Instance) (log : LogState) (a : Assigned) (clause : List Literal) : Type 0 where
  pub blocks : (s : ℕ → Bool) (numbers : List ℤ) → TellNumbers s log.notes (instance_cells i) numbers
      → SatisfiesClause s clause ↔ (numbers ≢ found_numbers (found_of a))

-- A list of solutions is right, and the log shows it: the log stands for the instance, its steps are valid, those with a literal
-- are new and effective and no more than the budget; each assignment is a solution, written as the instance states it, and no
-- two give the decision variables the same values; one given was added for each of them, over negations of the notes' literals: it
-- holds exactly where the notes tell other numbers than those of that solution, and what satisfies the givens up to it are exactly
-- the solutions that aren't among those listed up to there; so what satisfies all givens of the log are those that weren't listed;
-- and the list ends rightly.
pub record Lists (mode : Mode) (i : Instance) (budget most : ℕ) (log : LogState) (listing : ListingTree) : Type 0 where
  pub stands : Stands mode i log
  pub sound : IsSound log.events
  pub within : nonempty_steps log.events ≤ budget
  pub solutions : All (λ a. IsWritten i a × IsSolution mode i a) listing.found
  pub different : AllPairs ◌≢◌ (map found_of listing.found)
  pub added : length (added_clauses log) ≡ length listing.found
  pub literals : All (All (IsNegatedNote log)) (added_clauses log)
  pub blocked : AllZip (BlocksSolution i log) listing.found (added_clauses log)
  pub narrows : (count : ℕ)
      → TellSolutions mode i log.notes (first_givens log count) (IsUnlisted (take count listing.found))
  pub left : TellSolutions mode i log.notes (givens log.events) (IsUnlisted listing.found)
  pub ends : EndsRightly mode i budget most log listing.found listing.ending
