-- What an answer promises: it is true of the texts that it is an answer to.
--
-- Faults, limits, budgets and files aren't spoken of, but that a number of more than 18 digits is no token.
use Rattle.std.specs.Prelude.{◌≡◌, ◌≢◌, ℕ, ℤ, List, [], map, Option, Some, None}
use Rattle.std.specs.List.{All, AllPairs, Contains}
use Rattle.ep_print.specs.Answers.{AnswerTree, no_solution, optimum, solution, unknown, unknown_with}
use Rattle.ep_print.specs.Listings.{EndTree, ListingTree, complete, spent, stopped}
use Rattle.ep_promise.specs.Made.{known_after_all, made_instance}
use Rattle.ep_tree.specs.Binding.{Instance}
use Rattle.ep_tree.specs.Environments.{Env}
use Rattle.ep_tree.specs.Names.{nothing_known}
use Rattle.ep_tree.specs.SolutionTexts.{with_lettings}
use Rattle.ep_tree.specs.Solutions.{Assigned, IsOptimal, IsSolution, IsWritten, found_of, goal_value}
use Rattle.ep_tree.specs.StatementSpelling.{SpellsModel, SpellsParams}
use Rattle.ep_tree.specs.Statements.{TextTree}
use Rattle.ep_tree.specs.Texts.{SpellsText}
use Rattle.ep_tree.specs.declared.values.Mode.{Mode}

-- a text of parameters spells a tree; where it is left out there are none
abbrev pub SpellsGiven : Option (List ℕ) → TextTree → Type 0
SpellsGiven None tree = tree ≡ []
SpellsGiven (Some text) tree = SpellsText SpellsParams tree text

-- A model's text and that of its parameters make an instance: both spell trees of the grammar, and these make it.
pub record Make (mode : Mode) (model : List ℕ) (params : Option (List ℕ)) (i : Instance) : Type 0 where
  pub model_tree : TextTree
  pub params_tree : TextTree
  pub model_spelled : SpellsText SpellsModel model_tree model
  pub params_spelled : SpellsGiven params params_tree
  pub made : made_instance mode model_tree params_tree ≡ Some i

-- An assignment is a solution, and the objective has this value under it, where one is stated.
pub record IsSolutionOf (mode : Mode) (i : Instance) (a : Assigned) (value : Option ℤ) : Type 0 where
  pub solution : IsSolution mode i a
  pub valued : goal_value mode i solution.found ≡ value

-- An answer is true of an instance: the assignment, written as the instance states it, is a solution of one that states no
-- objective; or it is an optimum with its objective's value; or there is no solution; or nothing is decided, and what is at hand, if
-- anything is, is a solution with its objective's value.
unfoldable pub IsTrueOf : Mode → Instance → AnswerTree → Type 0
IsTrueOf mode i (solution a) = (i.goal ≡ None) × IsWritten i a × IsSolution mode i a
IsTrueOf mode i (optimum value a) = IsWritten i a × IsOptimal mode i a × IsSolutionOf mode i a (Some value)
IsTrueOf mode i no_solution = (a : Assigned) → ¬ IsSolution mode i a
IsTrueOf mode i (unknown conflicts) = Unit {0}
IsTrueOf mode i (unknown_with conflicts value a) = IsWritten i a × IsSolutionOf mode i a (Some value)

-- where a list is said to be complete, the values of each solution are those of one that is listed
unfoldable pub LacksNone : Mode → Instance → List Assigned → EndTree → Type 0
LacksNone mode i listed complete =
    (a : Assigned) (solves : IsSolution mode i a) → Contains (map found_of listed) solves.found
LacksNone mode i listed stopped = Unit {0}
LacksNone mode i listed (spent conflicts) = Unit {0}

-- A list is true of an instance: each assignment in it, written as the instance states it, is a solution, no two have the same
-- values, and none is lacking where it is said to be complete.
pub record AreTrueOf (mode : Mode) (i : Instance) (l : ListingTree) : Type 0 where
  pub solutions : All (λ a. IsWritten i a × IsSolution mode i a) l.found
  pub different : AllPairs ◌≢◌ (map found_of l.found)
  pub none_lacks : LacksNone mode i l.found l.ending

-- A solution text gives an instance an assignment: its lettings tell what names stand for, and each decision variable whose name has
-- a value that fits its domain has that value, fitted; other names aren't looked at.
pub record GivesAssignment (mode : Mode) (i : Instance) (text : List ℕ) (a : Assigned) : Type 0 where
  pub tree : TextTree
  pub spelled : SpellsText SpellsParams tree text
  pub known : Env
  pub told : known_after_all mode nothing_known tree ≡ Some known
  pub assigned : with_lettings known i.finds ≡ a
