-- The texts of lists of solutions: the language line, each solution with its number and a letting for each value, and a comment
-- that says how the list ends.
use Rattle.std.specs.Prelude.{ℕ, ◌+◌, List, [], ◌∷◌, ◌++◌, codes, map}
use Rattle.std.specs.Fmt.{decimal}
use Rattle.ep_tree.specs.Solutions.{Assigned}
use Rattle.ep_tree.specs.Views.{assigned}
use Rattle.ep_print.specs.Answers.{language_line, letting_texts, unknown_text}
use Rattle.ep_print.specs.declared.listings.Listing.{Listing}
use Rattle.ep_print.specs.declared.listings.ListingEnd.{ListingEnd}
use Rattle.ep_print.specs.declared.listings.ListingEnd.TheVariants.{Complete, Spent, Stopped}

-- how a list ends: with all that there are, with as many as were wanted, or with a budget of so many conflicts
pub data EndTree : Type 0 where
  complete : EndTree
  stopped : EndTree
  spent : ℕ → EndTree

-- solutions over plain values, and how their list ends
pub record ListingTree : Type 0 where
  pub found : List Assigned
  pub ending : EndTree

-- the code's end of a list, read as a plain one
unfoldable pub end_tree : ListingEnd → EndTree
end_tree Complete = complete
end_tree Stopped = stopped
end_tree (Spent conflicts) = spent conflicts

-- the code's list, read as a plain one
unfoldable pub listing_tree : Listing → ListingTree
listing_tree l = record { found = map assigned l.found.items; ending = end_tree l.end }

-- a solution with its number
unfoldable pub solution_text : ℕ → Assigned → List ℕ
solution_text number a = codes "$ solution " ++ (decimal number ++ (codes "\n" ++ letting_texts a))

-- solutions one after another, the first with this number
unfoldable pub solution_texts : ℕ → List Assigned → List ℕ
solution_texts number [] = []
solution_texts number (a ∷ rest) = solution_text number a ++ solution_texts (number + 1) rest

-- How a list ends: that there is no solution, that these are all, that the budget was spent, or nothing where as many were
-- listed as were wanted.
unfoldable pub end_text : List Assigned → EndTree → List ℕ
end_text [] complete = codes "$ no solution\n"
end_text (a ∷ rest) complete = codes "$ complete\n"
end_text found stopped = []
end_text found (spent conflicts) = unknown_text conflicts

-- the text of a list of solutions
unfoldable pub listing_text : ListingTree → List ℕ
listing_text l = language_line ++ (solution_texts 1 l.found ++ end_text l.found l.ending)
