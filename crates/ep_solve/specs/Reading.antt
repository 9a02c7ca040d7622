-- The values that numbers of the cells give the decision variables.
use Rattle.std.specs.Prelude.{◌≡◌, ℕ, zero, suc, ℤ, List, [], ◌∷◌, map, length, drop, Some, None}
use Rattle.ep_base.specs.Reads.{first_or_zero}
use Rattle.ep_answer.specs.Answered.{FoundCells, ListingEnd}
use Rattle.ep_answer.specs.Answered as found
use Rattle.ep_print.specs.Answers.{AnswerTree, AreTyped, no_solution, optimum, solution, unknown, unknown_with}
use Rattle.ep_print.specs.Listings.{EndTree, ListingTree, complete, spent, stopped}
use Rattle.ep_ground.specs.Grounds.{AreCellValues}
use Rattle.ep_tree.specs.Binding.{Find, Instance}
use Rattle.ep_tree.specs.Solutions.{Assigned, Fits, Found, find_type, found_of}
use Rattle.ep_tree.specs.Values.{ValueTree, as_parts, matrix, single}
use Rattle.ep_unroll.specs.Cells.{found_numbers, instance_cells}

-- so many values, each made from the first numbers of a list, and the numbers that are left
unfoldable pub parts_from : (List ℤ → ValueTree × List ℤ) → ℕ → List ℤ → List ValueTree × List ℤ
parts_from make zero numbers = ([], numbers)
parts_from make (suc more) numbers =
    let first : ValueTree × List ℤ = make numbers in
    let others : List ValueTree × List ℤ = parts_from make more first.1 in (first.0 ∷ others.0, others.1)

-- the value over index domains whose cells have the first numbers of a list, row by row, and the numbers that are left;
-- where there are too few, 0 stands in their place
unfoldable pub value_from : List (List ℤ) → List ℤ → ValueTree × List ℤ
value_from [] numbers = (single (first_or_zero numbers), drop 1 numbers)
value_from (indices ∷ inner) numbers =
    let parts : List ValueTree × List ℤ = parts_from (value_from inner) (length indices) numbers in
    (matrix indices (as_parts parts.0), parts.1)

-- the assignment in which the cells of the decision variables have these numbers
unfoldable pub assignment_from : List Find → List ℤ → Assigned
assignment_from [] numbers = []
assignment_from (f ∷ fs) numbers =
    let value : ValueTree × List ℤ = value_from f.indices numbers in
    record { name = f.name; ty = find_type f; value = value.0 } ∷ assignment_from fs value.1

-- an answer over numbers of cells as one over values, where so many conflicts might be spent
unfoldable pub answer_from : List Find → ℕ → FoundCells → AnswerTree
answer_from fs budget (found.solution cells) = solution (assignment_from fs cells)
answer_from fs budget (found.optimum number cells) = optimum number (assignment_from fs cells)
answer_from fs budget found.no_solution = no_solution
answer_from fs budget (found.unknown None) = unknown budget
answer_from fs budget (found.unknown (Some best)) = unknown_with budget best.0 (assignment_from fs best.1)

-- an end of a list over numbers of cells as one over values, where so many conflicts might be spent
unfoldable pub end_from : ℕ → ListingEnd → EndTree
end_from budget found.complete = complete
end_from budget found.stopped = stopped
end_from budget found.spent = spent budget

-- a list over numbers of cells as one over values
unfoldable pub listing_from : List Find → ℕ → List (List ℤ) → ListingEnd → ListingTree
listing_from fs budget cells end = record { found = map (assignment_from fs) cells; ending = end_from budget end }

-- the numbers of what was found are values of the cells
abbrev pub GivesNumbers : Instance → Found → Type 0
GivesNumbers i found = AreCellValues (instance_cells i) (found_numbers found)

-- The assignment with these numbers of the cells fits, its values are of their types, and its cells have these numbers.
pub record ReadsAs (i : Instance) (numbers : List ℤ) : Type 0 where
  pub fits : Fits i (assignment_from i.finds numbers) (found_of (assignment_from i.finds numbers))
  pub numbers_are : found_numbers (found_of (assignment_from i.finds numbers)) ≡ numbers
  pub typed : AreTyped (assignment_from i.finds numbers)
