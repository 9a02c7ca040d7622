-- The instance that a model and its parameters make together, where each letting and each domain has a value, each parameter fits,
-- and what `where` asks for is true.
--
-- Each statement sees the names that stand before it, but for `such that` and the objective, which see all. Limits aren't spoken
-- of, nor faults of names and types: what a name without meaning stands in has no value here.
use Rattle.std.specs.Prelude.{◌≡◌, List, [], ◌∷◌, if◌then◌else◌, Option, Some, None, option_and_then, option_map}
use Rattle.std.specs.List.{list_all}
use Rattle.ep_base.specs.declared.names.Name.{Name}
use Rattle.ep_base.specs.declared.operators.Limit.{Limit}
use Rattle.ep_base.specs.declared.places.Place.{Place}
use Rattle.ep_tree.specs.Binding.{Instance, Refusal, Shape, bound_finds, fitted_into, in_env, over_limit, parameter, shape_bound, shape_of, with_clauses, with_finds, with_goal}
use Rattle.ep_tree.specs.Environments.{Bound, Env, has_value, shape_type}
use Rattle.ep_tree.specs.Evaluation.{evaluate, is_true_in, type_in}
use Rattle.ep_tree.specs.Names.{nothing_known, put}
use Rattle.ep_tree.specs.Statements.{Group, StatementTree, TextTree, branching, constraints, decided, domain_letting, given, heuristic, letting, objective, requirements}
use Rattle.ep_tree.specs.Trees.{DomainTree, ExprTree}
use Rattle.ep_tree.specs.Values.{ValueTree}
use Rattle.ep_tree.specs.declared.values.Mode.{Mode}
use Rattle.ep_tree.specs.declared.values.ValueType.{ValueType}

-- a value that a name stands for, fitted into a domain
abbrev pub fitted_bound : Shape → ValueType → ValueTree → Option Bound
fitted_bound shape t v = option_map (has_value (shape_type shape.scalar shape.indices)) (fitted_into shape t v)

-- the value of a letting, fitted into the domain that it states, if it states one
unfoldable pub letting_value : Mode → Env → Option DomainTree → ExprTree → Option Bound
letting_value mode env None e = option_map (has_value (type_in env e)) (evaluate mode env e)
letting_value mode env (Some d) e =
    option_and_then (λ v. option_and_then (λ shape. fitted_bound shape (type_in env e) v) (shape_of mode env d))
    (evaluate mode env e)

-- what is known after a statement: a letting's name stands for its value, or for its domain
unfoldable pub known_after : Mode → Env → StatementTree → Option Env
known_after mode env (letting p name q d e) = option_map (λ b. put name b env) (letting_value mode env d e)
known_after mode env (domain_letting p name q d) =
    option_map (λ b. put name b env) (option_and_then shape_bound (shape_of mode env d))
known_after mode env _ = Some env

-- what is known after all statements of a text
unfoldable pub known_after_all : Mode → Env → TextTree → Option Env
known_after_all mode env [] = Some env
known_after_all mode env (s ∷ statements) =
    option_and_then (λ next. known_after_all mode next statements) (known_after mode env s)

-- what is known after names stand for their parameters, each fitted into their domain
unfoldable pub names_given : Env → Shape → List (Name × Place) → Env → Option Env
names_given params shape [] env = Some env
names_given params shape (name ∷ names) env =
    option_and_then (λ entry.
    option_and_then (λ b. names_given params shape names (put name.0 b env)) (fitted_bound shape entry.0 entry.1))
    (parameter (params name.0))

-- the same of groups of names, each with a domain
unfoldable pub groups_given : Mode → Env → List Group → Env → Option Env
groups_given mode params [] env = Some env
groups_given mode params (g ∷ groups) env =
    option_and_then (λ shape. option_and_then (groups_given mode params groups) (names_given params shape g.names env))
    (shape_of mode env g.domain)

-- What an instance becomes by a statement: a `given` and a letting tell what names stand for, a `find` adds decision variables,
-- `such that` adds clauses, and an objective is stated; what `where` asks for has to be true.
unfoldable pub instance_after : Mode → Env → Instance → StatementTree → Option Instance
instance_after mode params i (given p groups) = option_map (in_env i) (groups_given mode params groups i.env)
instance_after mode params i (decided p groups) = option_map (with_finds i) (bound_finds mode i.env groups)
instance_after mode params i (letting p name q d e) =
    option_map (in_env i) (known_after mode i.env (letting p name q d e))
instance_after mode params i (domain_letting p name q d) =
    option_map (in_env i) (known_after mode i.env (domain_letting p name q d))
instance_after mode params i (requirements p es) = if list_all (is_true_in mode i.env) es then Some i else None
instance_after mode params i (constraints p es) = Some (with_clauses i es)
instance_after mode params i (objective p sense e) = Some (with_goal i sense e)
instance_after mode params i (branching p names) = Some i
instance_after mode params i (heuristic p name) = Some i

-- the same of all statements of a model
unfoldable pub instance_after_all : Mode → Env → Instance → TextTree → Option Instance
instance_after_all mode params i [] = Some i
instance_after_all mode params i (s ∷ statements) =
    option_and_then (λ next. instance_after_all mode params next statements) (instance_after mode params i s)

-- the instance that a model and a parameter text make together
unfoldable pub made_instance : Mode → TextTree → TextTree → Option Instance
made_instance mode model params =
    option_and_then (λ known.
    instance_after_all mode known (record { finds = []; clauses = []; goal = None; env = nothing_known }) model)
    (known_after_all mode nothing_known params)

-- a refusal names a limit
abbrev pub IsOverLimit : Refusal → Type 0
IsOverLimit r = (limit : Limit) × (r ≡ over_limit limit)
