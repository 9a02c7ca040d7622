-- Solution texts: the assignment that the lettings of a text give the decision variables of an instance.
--
-- All of this is this project's own choice.
use Rattle.std.specs.Prelude.{Bool, not, List, [], ◌∷◌, ◌++◌, is_some, if◌then◌else◌, Ok, bytes_eq, filter, Option, Result, option_map, option_to_list, option_and_then}
use Rattle.std.specs.List.{list_any}
use Rattle.ep_base.specs.declared.names.Name.{Name}
use Rattle.ep_tree.specs.Binding.{Find, Instance, Refusal, and_next, bind_params, parameter, solution_text}
use Rattle.ep_tree.specs.Environments.{Env}
use Rattle.ep_tree.specs.Faults.{lettings_of}
use Rattle.ep_tree.specs.Names.{nothing_known}
use Rattle.ep_tree.specs.Solutions.{Assigned, NamedValue, find_type, fitted_find}
use Rattle.ep_tree.specs.Statements.{TextTree, domain_letting, letting}
use Rattle.ep_tree.specs.declared.values.Mode.{Mode}

-- an assignment that fits, or the names of which one may be named where it doesn't
pub data Shaped : Type 0 where
  fits : Assigned → Shaped
  wrong_shape : List Name → Shaped

-- the names that a text gives a value or a domain
unfoldable pub letting_names : TextTree → List Name
letting_names [] = []
letting_names (letting p name at d e ∷ statements) = name ∷ letting_names statements
letting_names (domain_letting p name at d ∷ statements) = name ∷ letting_names statements
letting_names (_ ∷ statements) = letting_names statements

-- the value of a decision variable in what a text's lettings stand for, fitted into its domain
unfoldable pub fitting_letting : Env → Find → Option NamedValue
fitting_letting known f =
    option_and_then
    (λ entry.
    option_map
    (λ v. record { name = f.name; ty = find_type f; value = v })
    (fitted_find f (record { name = f.name; ty = entry.0; value = entry.1 })))
    (parameter (known f.name))

-- the decision variables without a letting that fits; a domain's letting is none
unfoldable pub without_letting : Env → List Find → List Name
without_letting known [] = []
without_letting known (f ∷ fs) =
    (if is_some (fitting_letting known f) then [] else f.name ∷ []) ++ without_letting known fs

-- the decision variables with their values, where each has one
unfoldable pub with_lettings : Env → List Find → Assigned
with_lettings known [] = []
with_lettings known (f ∷ fs) = option_to_list (fitting_letting known f) ++ with_lettings known fs

-- whether a name is that of a decision variable
unfoldable pub is_find : List Find → Name → Bool
is_find fs name = list_any (λ f. bytes_eq f.name name) fs

-- the lettings of a text that are no decision variable
unfoldable pub strangers : List Find → List Name → List Name
strangers fs names = filter (λ name. not (is_find fs name)) names

-- an assignment, if no name keeps it from having a right shape
unfoldable pub shaped : List Name → Assigned → Shaped
shaped [] a = fits a
shaped (name ∷ names) a = wrong_shape (name ∷ names)

-- the assignment of a text whose lettings stand for this, or the names that keep it from having a right shape
unfoldable pub shaped_by : List Find → Env → TextTree → Shaped
shaped_by fs known text =
    shaped (without_letting known fs ++ strangers fs (letting_names text)) (with_lettings known fs)

-- What a solution text gives an instance: its lettings are evaluated in their order, each of which sees the earlier ones
-- and nothing else; what refuses one of them is named, and else an assignment, or a wrong shape.
unfoldable pub read_solution : Mode → Instance → TextTree → Result Shaped (List Refusal)
read_solution mode i text =
    and_next (bind_params mode solution_text nothing_known (lettings_of text)) (λ known. Ok (shaped_by i.finds known text))
