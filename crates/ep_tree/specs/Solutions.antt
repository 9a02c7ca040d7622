-- Solutions of an instance: which assignments they are, which clause another one violates first, and which is better.
--
-- The meaning of a solution is that of the language's public description; that an assignment under which the objective
-- has no value is no solution is this project's own choice.
use Rattle.std.specs.Prelude.{◌≡◌, ℕ, ◌+◌, ◌*◌, Bool, true, false, ◌||◌, List, [], ◌∷◌, ◌++◌, map, length, ℤ, is_some, is_none, if◌then◌else◌, IsTrue, nat_lt, int_lt, Some, None, bytes_eq, sum_by, Option, option_map, option_to_list, option_and_then, IsPermutation}
use Rattle.ep_base.specs.Numbers.{has_number}
use Rattle.ep_base.specs.Options.{on_both}
use Rattle.ep_base.specs.Senses.{better_number}
use Rattle.ep_base.specs.Reads.{MOST_NUMBER}
use Rattle.ep_base.specs.declared.names.Name.{Name}
use Rattle.ep_base.specs.declared.operators.Limit.{Limit}
use Rattle.ep_base.specs.declared.operators.Sense.{Sense}
use Rattle.ep_tree.specs.Binding.{Find, Instance, Refusal, met_in, over_limit}
use Rattle.ep_tree.specs.Environments.{Bound, Env, has_cells, has_value, shape_type}
use Rattle.ep_tree.specs.Evaluation.{evaluate, first_untrue, number_in}
use Rattle.ep_tree.specs.Limits.{MOST_SIZE, MOST_WEIGHT}
use Rattle.ep_tree.specs.Measures.{Met, farthest_reach, size_of, weight_of}
use Rattle.ep_tree.specs.Names.{put_all}
use Rattle.ep_tree.specs.Trees.{ExprTree}
use Rattle.ep_tree.specs.Types.{scalar_of}
use Rattle.ep_tree.specs.Values.{ValueTree, fitted}
use Rattle.ep_tree.specs.declared.values.Mode.{Mode}
use Rattle.ep_tree.specs.declared.values.ValueType.{ValueType}

-- a value with its name and type
pub record NamedValue : Type 0 where
  pub name : Name
  pub ty : ValueType
  pub value : ValueTree

-- values of names
abbrev pub Assigned : Type 0
Assigned = List NamedValue

-- what an assignment gives a name
unfoldable pub named_in : Assigned → Name → Option NamedValue
named_in [] name = None
named_in (g ∷ gs) name = if bytes_eq g.name name then Some g else named_in gs name

-- a value fitted into the domain of a decision variable
unfoldable pub fitted_find : Find → NamedValue → Option ValueTree
fitted_find f g = fitted (scalar_of g.ty) f.scalar (has_number f.values) f.indices g.value

-- the type of a decision variable
abbrev pub find_type : Find → ValueType
find_type f = shape_type f.scalar f.indices

-- values of names, as an environment has them
abbrev pub Found : Type 0
Found = List (Name × Bound)

-- each decision variable with its value, fitted, in the order of the text; none where one lacks a value that fits
unfoldable pub found_values : List Find → Assigned → Option Found
found_values [] a = Some []
found_values (f ∷ fs) a =
    on_both (option_and_then (fitted_find f) (named_in a f.name)) (found_values fs a)
    (λ v rest. Some ((f.name, has_value (find_type f) v) ∷ rest))

-- the values of an assignment, as an environment has them
abbrev pub found_of : Assigned → Found
found_of a = map (λ g. (g.name, has_value g.ty g.value)) a

-- The values are written as the instance states them: in the order of the text, each with the type and the indices of its
-- domain.
abbrev pub IsWritten : Instance → Assigned → Type 0
IsWritten i a = found_values i.finds a ≡ Some (found_of a)

-- An assignment fits: it names each decision variable once and nothing else, and each value fits its domain. The
-- environment has these values.
pub record Fits (i : Instance) (a : Assigned) (found : Found) : Type 0 where
  pub same_names : IsPermutation (map (λ g. g.name) a) (map (λ f. f.name) i.finds)
  pub values : found_values i.finds a ≡ Some found

-- the environment of an instance with the values of its decision variables
abbrev pub under : Instance → Found → Env
under i found = put_all found i.env

-- the least number of a clause that an assignment violates, if it violates one
abbrev pub violated : Mode → Instance → Found → Option ℕ
violated mode i found = first_untrue mode (under i found) 1 i.clauses

-- the objective's number, where one is stated
unfoldable pub goal_value : Mode → Instance → Found → Option ℤ
goal_value mode i found =
    option_and_then (λ goal. number_in (evaluate mode (under i found) goal.1)) i.goal

-- the objective is defined where one is stated
unfoldable pub has_goal_value : Mode → Instance → Found → Bool
has_goal_value mode i found = is_none i.goal || is_some (goal_value mode i found)

-- A solution: it fits, each clause is true, and the objective has a value where one is stated.
pub record IsSolution (mode : Mode) (i : Instance) (a : Assigned) : Type 0 where
  pub found : Found
  pub fits : Fits i a found
  pub holds : violated mode i found ≡ None
  pub measured : IsTrue (has_goal_value mode i found)

-- what judging an assignment says: a solution, with its objective's number where one is stated; the least number of a
-- clause that it violates; or that the objective has no value
pub data Judgement : Type 0 where
  a_solution : Option ℤ → Judgement
  violates : ℕ → Judgement
  goal_undefined : Judgement

-- a judgement by the least clause violated, by whether the objective has a value where one is stated, and by its value
unfoldable pub judged_by : Option ℕ → Bool → Option ℤ → Judgement
judged_by (Some n) measured goal = violates n
judged_by None false goal = goal_undefined
judged_by None true goal = a_solution goal

-- the judgement of an assignment that fits; a clause that is violated comes before an objective without a value
unfoldable pub judgement : Mode → Instance → Found → Judgement
judgement mode i found =
    judged_by (violated mode i found) (has_goal_value mode i found) (goal_value mode i found)

-- One assignment is better than another: its objective is smaller, or greater where the greatest is wanted.
pub record IsBetter (mode : Mode) (i : Instance) (a b : Assigned) : Type 0 where
  pub sense : Sense
  pub e : ExprTree
  pub stated : i.goal ≡ Some (sense, e)
  pub one : Found
  pub other : Found
  pub one_fits : Fits i a one
  pub other_fits : Fits i b other
  pub x : ℤ
  pub y : ℤ
  pub one_value : goal_value mode i one ≡ Some x
  pub other_value : goal_value mode i other ≡ Some y
  pub is_better : IsTrue (better_number sense x y)

-- An optimum: a solution that no solution is better than.
pub record IsOptimal (mode : Mode) (i : Instance) (a : Assigned) : Type 0 where
  pub solution : IsSolution mode i a
  pub best : (b : Assigned) → IsSolution mode i b → IsBetter mode i b a → ⊥

-- the cells of an instance as what their names stand for
unfoldable pub cells_bound : List Find → Found
cells_bound [] = []
cells_bound (f ∷ fs) = (f.name, has_cells f.scalar f.indices f.values) ∷ cells_bound fs

-- the number of a decision variable's cells
unfoldable pub cell_count : List (List ℤ) → ℕ
cell_count [] = 1
cell_count (indices ∷ inner) = length indices * cell_count inner

-- the nodes of an instance: those of its clauses and of its objective, with the cells in their environment
unfoldable pub met_instance : Mode → Instance → List Met
met_instance mode i =
    let env : Env = put_all (cells_bound i.finds) i.env in
    met_in mode env (i.clauses ++ option_to_list (option_map (λ goal. goal.1) i.goal))

-- the size of an instance: its cells, and the nodes of its clauses and objective
unfoldable pub instance_size : Mode → Instance → ℕ
instance_size mode i = sum_by (λ f. cell_count f.indices) i.finds + size_of (met_instance mode i)

-- the weight of an instance: the values of its cells, and the weight of its nodes
unfoldable pub instance_weight : Mode → Instance → ℕ
instance_weight mode i =
    sum_by (λ f. cell_count f.indices * length f.values) i.finds + weight_of mode (met_instance mode i)

-- the greatest absolute value that a node of an instance reaches
unfoldable pub instance_reach : Mode → Instance → ℤ
instance_reach mode i = farthest_reach mode (met_instance mode i)

-- the limits of size and of reach that so many cells and some nodes pass, of which either may be named
unfoldable pub limits_passed : Mode → ℕ → List Met → List Refusal
limits_passed mode cells ms =
    (if nat_lt MOST_SIZE (cells + size_of ms) then over_limit Limit.Size ∷ [] else [])
    ++ (if int_lt MOST_NUMBER (farthest_reach mode ms) then over_limit Limit.Reach ∷ [] else [])

-- the limit of weight, which is named only where no other is passed
unfoldable pub or_weight : List Refusal → ℕ → List Refusal
or_weight [] weight = if nat_lt MOST_WEIGHT weight then over_limit Limit.Weight ∷ [] else []
or_weight (r ∷ rs) weight = r ∷ rs

-- the limits that an instance passes, of which one may be named
unfoldable pub instance_limits : Mode → Instance → List Refusal
instance_limits mode i =
    or_weight
    (limits_passed mode (sum_by (λ f. cell_count f.indices) i.finds) (met_instance mode i))
    (instance_weight mode i)
