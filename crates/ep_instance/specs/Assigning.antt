-- What names stand for under an assignment.
use Rattle.std.specs.Prelude.{◌≡◌, ◌||◌, false, IsSome, List, ℤ, Option, Some, None, is_none, is_some, option_and_then}
use Rattle.ep_base.specs.declared.names.Name.{Name}
use Rattle.ep_base.specs.declared.operators.Sense.{Sense}
use Rattle.ep_tree.specs.Binding.{Find, Instance}
use Rattle.ep_tree.specs.Environments.{Env, has_value}
use Rattle.ep_tree.specs.Evaluation.{evaluate, first_untrue, number_in}
use Rattle.ep_tree.specs.Names.{put, put_all}
use Rattle.ep_tree.specs.SolutionTexts.{is_find}
use Rattle.ep_tree.specs.Solutions.{Assigned, Found, Judgement, find_type, fitted_find, found_values, judged_by, named_in}
use Rattle.ep_tree.specs.Trees.{ExprTree}
use Rattle.ep_tree.specs.Values.{ValueTree}
use Rattle.ep_tree.specs.declared.values.Mode.{Mode}

-- an assignment gives a decision variable a value that fits its domain
abbrev pub HasFit : Assigned → Find → Type 0
HasFit a f = IsSome (option_and_then (fitted_find f) (named_in a f.name))

-- A decision variable stands for the value that an assignment gives it, fitted into its domain.
pub record SetsFind (f : Find) (a : Assigned) (before after : Env) : Type 0 where
  pub value : ValueTree
  pub fits : option_and_then (fitted_find f) (named_in a f.name) ≡ Some value
  pub known : after ≡ put f.name (has_value (find_type f) value) before

-- Each of some decision variables stands for the value that an assignment gives it.
pub record IsUnder (fs : List Find) (a : Assigned) (before after : Env) : Type 0 where
  pub found : Found
  pub values : found_values fs a ≡ Some found
  pub known : after ≡ put_all found before

-- Each name but those of some decision variables stands for the same in two environments.
abbrev pub AgreeElsewhere : List Find → Env → Env → Type 0
AgreeElsewhere fs one other = (name : Name) → is_find fs name ≡ false → one name ≡ other name

-- the number of an objective, where one is stated
unfoldable pub goal_number : Mode → Env → Option (Sense × ExprTree) → Option ℤ
goal_number mode env goal = option_and_then (λ g. number_in (evaluate mode env g.1)) goal

-- the judgement where each clause is true
unfoldable pub judged_by_goal : Mode → Env → Option (Sense × ExprTree) → Judgement
judged_by_goal mode env goal =
    judged_by None (is_none goal || is_some (goal_number mode env goal)) (goal_number mode env goal)

-- the judgement of an instance by what names stand for
unfoldable pub judgement_in : Mode → Env → Instance → Judgement
judgement_in mode env i =
    judged_by (first_untrue mode env 1 i.clauses) (is_none i.goal || is_some (goal_number mode env i.goal))
    (goal_number mode env i.goal)
