-- Binding: the instance that a model and a parameter text make together, or the refusals that may be named.
--
-- The lettings of the parameter text are evaluated in their order, and then the statements of the model in theirs. The
-- first statement at which something stands is answered; only where two limits stand at one statement may either be
-- named. The whole order is this project's own choice.
use Rattle.std.specs.Prelude.{ℕ, ◌+◌, Bool, true, false, ◌&&◌, ◌||◌, List, [], ◌∷◌, ◌++◌, map, length, ℤ, is_some, if◌then◌else◌, int_le, Some, None, Ok, Err, flat_map, Option, Result, option_map, option_and_then, option_to_list}
use Rattle.std.specs.Ordering.{int_eq}
use Rattle.ep_base.specs.Numbers.{has_number}
use Rattle.ep_base.specs.Options.{on_both, on_three}
use Rattle.ep_base.specs.declared.names.Name.{Name}
use Rattle.ep_base.specs.declared.operators.Limit.{Limit}
use Rattle.ep_base.specs.declared.operators.Sense.{Sense}
use Rattle.ep_base.specs.declared.places.Place.{Place}
use Rattle.ep_tree.specs.Domains.{set_has, truth_values}
use Rattle.ep_tree.specs.Environments.{Bound, Env, has_domain, has_value, scalar_in, shape_type}
use Rattle.ep_tree.specs.Evaluation.{domain_values, evaluate, first_untrue, number_in, type_in}
use Rattle.ep_tree.specs.Faults.{lettings_of}
use Rattle.ep_tree.specs.Limits.{limits_of_values}
use Rattle.ep_tree.specs.Measures.{Met, met, met_domain}
use Rattle.ep_tree.specs.Names.{nothing_known, put}
use Rattle.ep_tree.specs.Statements.{Group, StatementTree, TextTree, branching, constraints, decided, domain_letting, given, heuristic, letting, objective, requirements}
use Rattle.ep_tree.specs.Trees.{DomainTree, Domains, End, ExprTree, Ranges, bool, domain_and, end_at, group_domain, int, matrix_domain, named_domain, no_domains, no_end, no_ranges, one_and, ranges, set_domain, span_and}
use Rattle.ep_tree.specs.Types.{scalar_of}
use Rattle.ep_tree.specs.Values.{ValueTree, fitted}
use Rattle.ep_tree.specs.declared.values.Mode.{Mode}
use Rattle.ep_tree.specs.declared.values.Scalar.{Scalar}
use Rattle.ep_tree.specs.declared.values.ValueType.{ValueType}

-- which text a place is in
pub data TextName : Type 0 where
  model_text : TextName
  parameter_text : TextName
  solution_text : TextName

-- what refuses to bind: a limit; a letting, or the domain of a statement, without a value; a `given` without a
-- parameter; a value that doesn't fit its domain; or a `where` clause that is false
pub data Refusal : Type 0 where
  over_limit : Limit → Refusal
  undefined_at : TextName → Place → Refusal
  missing_parameter : Name → Refusal
  outside_domain : Name → Refusal
  where_false : ℕ → Refusal

-- a decision variable: its name, its scalar, its index domains, and the values of each of its cells
pub record Find : Type 0 where
  pub name : Name
  pub scalar : Scalar
  pub indices : List (List ℤ)
  pub values : List ℤ

-- What a model asks for under its parameters. The environment has the givens and the lettings.
pub record Instance : Type 0 where
  pub finds : List Find
  pub clauses : List ExprTree
  pub goal : Option (Sense × ExprTree)
  pub env : Env

-- the limits that the nodes of a statement pass by their values
unfoldable pub limits_met : Mode → List Met → List Refusal
limits_met mode ms = map over_limit (limits_of_values mode 0 ms)

-- an answer where nothing stands before it, and else what stands
unfoldable pub unless_any : {A : Type 0} → List Refusal → Result A (List Refusal) → Result A (List Refusal)
unless_any [] answer = answer
unless_any (r ∷ rs) answer = Err (r ∷ rs)

-- a value, or a refusal where there is none
unfoldable pub or_refuse : {A : Type 0} → Refusal → Option A → Result A (List Refusal)
or_refuse refusal None = Err (refusal ∷ [])
or_refuse refusal (Some x) = Ok x

-- one step and then another, which sees what it gives
unfoldable pub and_next : {A B : Type 0} → Result A (List Refusal) → (A → Result B (List Refusal)) → Result B (List Refusal)
and_next (Ok x) next = next x
and_next (Err rs) next = Err rs

-- a domain as it is bound: its scalar, its index domains, and which numbers it has; an open one has no list of them
pub record Shape : Type 0 where
  pub scalar : Scalar
  pub indices : List (List ℤ)
  pub passes : ℤ → Bool
  pub values : Option (List ℤ)

-- the index domains of a domain's name
unfoldable pub indices_bound : Option Bound → Option (List (List ℤ))
indices_bound (Some (has_domain s indices values)) = Some indices
indices_bound _ = None

-- the numbers of a domain's name, whatever its index domains
unfoldable pub numbers_bound : Option Bound → Option (List ℤ)
numbers_bound (Some (has_domain s indices values)) = Some values
numbers_bound _ = None

-- whether a number lies above an end, where one that is left out bounds nothing
unfoldable pub above_end : Mode → Env → End → Option (ℤ → Bool)
above_end mode env no_end = Some (λ x. true)
above_end mode env (end_at e) = option_map (λ n x. int_le n x) (number_in (evaluate mode env e))

-- whether a number lies below an end, where one that is left out bounds nothing
unfoldable pub below_end : Mode → Env → End → Option (ℤ → Bool)
below_end mode env no_end = Some (λ x. true)
below_end mode env (end_at e) = option_map (λ n x. int_le x n) (number_in (evaluate mode env e))

-- which numbers ranges have, of which some may be open
unfoldable pub ranges_pass : Mode → Env → Ranges → Option (ℤ → Bool)
ranges_pass mode env no_ranges = Some (λ x. false)
ranges_pass mode env (one_and e rs) =
    on_both (number_in (evaluate mode env e)) (ranges_pass mode env rs) (λ n others. Some (λ x. int_eq x n || others x))
ranges_pass mode env (span_and a b rs) =
    on_three (above_end mode env a) (below_end mode env b) (ranges_pass mode env rs)
    (λ above below others. Some (λ x. (above x && below x) || others x))

-- Which numbers a domain's elements may be: plain `int` has every number, and a range with a missing end has no bound
-- on that side.
unfoldable pub elements_pass : Mode → Env → DomainTree → Option (ℤ → Bool)
elements_pass mode env (bool _) = Some (has_number truth_values)
elements_pass mode env (int _) = Some (λ x. true)
elements_pass mode env (ranges _ rs) = ranges_pass mode env rs
elements_pass mode env (named_domain _ name) = option_map has_number (numbers_bound (env name))
elements_pass mode env (group_domain _ d) = elements_pass mode env d
elements_pass mode env (set_domain _ op c d) =
    on_both (elements_pass mode env c) (elements_pass mode env d) (λ one other. Some (λ x. set_has op (one x) (other x)))
elements_pass mode env (matrix_domain _ ds d) = elements_pass mode env d

-- the numbers of a domain's elements, sorted, where it isn't open
unfoldable pub element_values : Mode → Env → DomainTree → Option (List ℤ)
element_values mode env (matrix_domain _ ds d) = element_values mode env d
element_values mode env (group_domain _ d) = element_values mode env d
element_values mode env (named_domain _ name) = numbers_bound (env name)
element_values mode env d = domain_values mode env d

-- the values of some index domains
unfoldable pub listed_domains : Mode → Env → Domains → Option (List (List ℤ))
listed_domains mode env no_domains = Some []
listed_domains mode env (domain_and d ds) =
    on_both (domain_values mode env d) (listed_domains mode env ds) (λ xs rest. Some (xs ∷ rest))

-- the index domains of a domain: a matrix domain has its own before those of its element domain
unfoldable pub index_domains : Mode → Env → DomainTree → Option (List (List ℤ))
index_domains mode env (matrix_domain _ ds d) =
    on_both (listed_domains mode env ds) (index_domains mode env d) (λ own inner. Some (own ++ inner))
index_domains mode env (group_domain _ d) = index_domains mode env d
index_domains mode env (named_domain _ name) = indices_bound (env name)
index_domains mode env _ = Some []

-- a domain as it is bound, where each of its bounds has a value
unfoldable pub shape_of : Mode → Env → DomainTree → Option Shape
shape_of mode env d =
    on_both (index_domains mode env d) (elements_pass mode env d) (λ indices passes.
    Some (record {
      scalar = scalar_in env d;
      indices = indices;
      passes = passes;
      values = element_values mode env d;
    }))

-- a value of a type, fitted into a domain that is bound
unfoldable pub fitted_into : Shape → ValueType → ValueTree → Option ValueTree
fitted_into shape t v = fitted (scalar_of t) shape.scalar shape.passes shape.indices v

-- a name for a domain that is bound
unfoldable pub shape_bound : Shape → Option Bound
shape_bound shape = option_map (has_domain shape.scalar shape.indices) shape.values

-- the nodes met in a domain that may be left out
unfoldable pub met_stated : Mode → Env → Option DomainTree → List Met
met_stated mode env None = []
met_stated mode env (Some d) = met_domain mode env d

-- the value of a letting, fitted into the domain that it states
unfoldable pub letting_bound : Mode → Env → Refusal → Name → Option DomainTree → ExprTree → ValueTree → Result Bound (List Refusal)
letting_bound mode env refusal name None e v = Ok (has_value (type_in env e) v)
letting_bound mode env refusal name (Some d) e v =
    and_next (or_refuse refusal (shape_of mode env d)) (λ shape.
    and_next (or_refuse (outside_domain name) (fitted_into shape (type_in env e) v)) (λ fit.
    Ok (has_value (shape_type shape.scalar shape.indices) fit)))

-- a letting of a text: first the limits, then a value or a domain that isn't defined, then a value outside its domain
unfoldable pub bind_letting : Mode → TextName → Env → StatementTree → Result Env (List Refusal)
bind_letting mode text env (letting p name at d e) =
    unless_any (limits_met mode (met_stated mode env d ++ met mode env e))
    (and_next (or_refuse (undefined_at text p) (evaluate mode env e)) (λ v.
    and_next (letting_bound mode env (undefined_at text p) name d e v) (λ b. Ok (put name b env))))
bind_letting mode text env (domain_letting p name at d) =
    unless_any (limits_met mode (met_domain mode env d))
    (and_next (or_refuse (undefined_at text p) (option_and_then shape_bound (shape_of mode env d))) (λ b.
    Ok (put name b env)))
bind_letting mode text env _ = Ok env

-- lettings of a text, each of which sees the earlier ones
unfoldable pub bind_params : Mode → TextName → Env → TextTree → Result Env (List Refusal)
bind_params mode text env [] = Ok env
bind_params mode text env (s ∷ statements) =
    and_next (bind_letting mode text env s) (λ next. bind_params mode text next statements)

-- the value of a parameter; a domain's letting is none
unfoldable pub parameter : Option Bound → Option (ValueType × ValueTree)
parameter (Some (has_value t v)) = Some (t, v)
parameter _ = None

-- the first name of a group without a parameter
unfoldable pub first_missing : Env → List (Name × Place) → List Refusal
first_missing params [] = []
first_missing params (name ∷ names) =
    if is_some (parameter (params name.0)) then first_missing params names else missing_parameter name.0 ∷ []

-- a parameter fitted into a domain
unfoldable pub given_bound : Shape → Name → Option (ValueType × ValueTree) → Result Bound (List Refusal)
given_bound shape name None = Err (missing_parameter name ∷ [])
given_bound shape name (Some entry) =
    and_next (or_refuse (outside_domain name) (fitted_into shape entry.0 entry.1)) (λ v.
    Ok (has_value (shape_type shape.scalar shape.indices) v))

-- the names of a group with their parameters, fitted into the group's domain
unfoldable pub bind_names : Env → Shape → List (Name × Place) → Env → Result Env (List Refusal)
bind_names params shape [] env = Ok env
bind_names params shape (name ∷ names) env =
    and_next (given_bound shape name.0 (parameter (params name.0))) (λ b.
    bind_names params shape names (put name.0 b env))

-- The groups of a `given`, each as a statement of its own: first the limits, then a domain that isn't defined, then a
-- missing parameter, then one that doesn't fit. A domain that isn't defined is named at the whole statement.
unfoldable pub bind_givens : Mode → Place → Env → List Group → Env → Result Env (List Refusal)
bind_givens mode p params [] env = Ok env
bind_givens mode p params (g ∷ groups) env =
    unless_any (limits_met mode (met_domain mode env g.domain))
    (and_next (or_refuse (undefined_at model_text p) (shape_of mode env g.domain)) (λ shape.
    unless_any (first_missing params g.names)
    (and_next (bind_names params shape g.names env) (λ next. bind_givens mode p params groups next))))

-- the decision variables of a group whose domain is bound
unfoldable pub group_finds : Shape → List ℤ → List (Name × Place) → List Find
group_finds shape values names =
    map (λ name. record { name = name.0; scalar = shape.scalar; indices = shape.indices; values = values }) names

-- the decision variables of some groups, where each domain is defined
unfoldable pub bound_finds : Mode → Env → List Group → Option (List Find)
bound_finds mode env [] = Some []
bound_finds mode env (g ∷ groups) =
    option_and_then (λ shape.
    on_both shape.values (bound_finds mode env groups) (λ values rest. Some (group_finds shape values g.names ++ rest)))
    (shape_of mode env g.domain)

-- the refusal of the first of some `where` clauses that isn't true, where they are numbered on from a number
unfoldable pub first_false : Mode → Env → ℕ → List ExprTree → List Refusal
first_false mode env n es = option_to_list (option_map where_false (first_untrue mode env n es))

-- how far binding has come: the instance so far, and the number of the next `where` clause
pub record Progress : Type 0 where
  pub instance : Instance
  pub next_where : ℕ

-- the nodes met in the domains of some groups
unfoldable pub met_groups : Mode → Env → List Group → List Met
met_groups mode env groups = flat_map (λ g. met_domain mode env g.domain) groups

-- the nodes met in some expressions
unfoldable pub met_in : Mode → Env → List ExprTree → List Met
met_in mode env es = flat_map (met mode env) es

-- an instance in another environment
unfoldable pub in_env : Instance → Env → Instance
in_env i env = record i { env = env }

-- an instance with more decision variables
unfoldable pub with_finds : Instance → List Find → Instance
with_finds i fs = record i { finds = i.finds ++ fs }

-- an instance with more clauses
unfoldable pub with_clauses : Instance → List ExprTree → Instance
with_clauses i es = record i { clauses = i.clauses ++ es }

-- an instance with an objective
unfoldable pub with_goal : Instance → Sense → ExprTree → Instance
with_goal i sense e = record i { goal = Some (sense, e) }

-- progress with what the instance has become
unfoldable pub now_with : Progress → Instance → Progress
now_with at i = record at { instance = i }

-- a statement of a model
unfoldable pub bind_statement : Mode → Env → Progress → StatementTree → Result Progress (List Refusal)
bind_statement mode params at (given p groups) =
    and_next (bind_givens mode p params groups at.instance.env) (λ env. Ok (now_with at (in_env at.instance env)))
bind_statement mode params at (decided p groups) =
    unless_any (limits_met mode (met_groups mode at.instance.env groups))
    (and_next (or_refuse (undefined_at model_text p) (bound_finds mode at.instance.env groups)) (λ fs.
    Ok (now_with at (with_finds at.instance fs))))
bind_statement mode params at (letting p name q d e) =
    and_next (bind_letting mode model_text at.instance.env (letting p name q d e)) (λ env.
    Ok (now_with at (in_env at.instance env)))
bind_statement mode params at (domain_letting p name q d) =
    and_next (bind_letting mode model_text at.instance.env (domain_letting p name q d)) (λ env.
    Ok (now_with at (in_env at.instance env)))
bind_statement mode params at (requirements p es) =
    unless_any (limits_met mode (met_in mode at.instance.env es))
    (unless_any (first_false mode at.instance.env at.next_where es)
    (Ok (record at { next_where = at.next_where + length es })))
bind_statement mode params at (constraints p es) = Ok (now_with at (with_clauses at.instance es))
bind_statement mode params at (objective p sense e) = Ok (now_with at (with_goal at.instance sense e))
bind_statement mode params at (branching p names) = Ok at
bind_statement mode params at (heuristic p name) = Ok at

-- the statements of a model in their order
unfoldable pub bind_statements : Mode → Env → Progress → TextTree → Result Progress (List Refusal)
bind_statements mode params at [] = Ok at
bind_statements mode params at (s ∷ statements) =
    and_next (bind_statement mode params at s) (λ next. bind_statements mode params next statements)

-- where binding begins
abbrev pub nothing_bound : Progress
nothing_bound = record {
  instance = record { finds = []; clauses = []; goal = None; env = nothing_known };
  next_where = 1;
}

-- the instance of a model under a parameter text, or the refusals that may be named
unfoldable pub bind : Mode → TextTree → TextTree → Result Instance (List Refusal)
bind mode model params =
    and_next (bind_params mode parameter_text nothing_known (lettings_of params)) (λ known.
    and_next (bind_statements mode known nothing_bound model) (λ at. Ok at.instance))
