-- The steps of binding, each of which a function makes.
use Rattle.std.specs.Prelude.{◌≡◌, List, [], ◌∷◌, ◌++◌, is_some, if◌then◌else◌, Option, Result, Ok, option_map, option_and_then}
use Rattle.ep_base.specs.declared.names.Name.{Name}
use Rattle.ep_base.specs.declared.places.Place.{Place}
use Rattle.ep_tree.specs.Binding.{Find, Refusal, Shape, TextName, and_next, bind_letting, bind_names, bound_finds, first_missing, given_bound, group_finds, limits_met, met_groups, missing_parameter, model_text, or_refuse, parameter, shape_bound, shape_of, undefined_at, unless_any}
use Rattle.ep_tree.specs.Environments.{Env, context_of, has_value}
use Rattle.ep_tree.specs.Evaluation.{evaluate, type_in}
use Rattle.ep_tree.specs.Faults.{statement_faults}
use Rattle.ep_tree.specs.Measures.{met, met_domain}
use Rattle.ep_tree.specs.Names.{put}
use Rattle.ep_tree.specs.Statements.{Group, StatementTree, letting}
use Rattle.ep_tree.specs.Trees.{DomainTree, ExprTree}
use Rattle.ep_tree.specs.Types.{Context}
use Rattle.ep_tree.specs.declared.values.Mode.{Mode}
use Rattle.ep_tree_laws.specs.Deciding.{LacksDecisions}
use Rattle.ep_instance_parts.specs.Steps.{fitted_said, shape_said}

-- a name for the value of an expression
abbrev pub plain_said : Mode → Refusal → Env → Name → ExprTree → Result Env (List Refusal)
plain_said mode refusal env name e =
    unless_any (limits_met mode (met mode env e))
    (and_next (or_refuse refusal (evaluate mode env e)) (λ v. Ok (put name (has_value (type_in env e) v) env)))

-- a name for the value of an expression that is fitted into a domain
abbrev pub stated_said : Mode → Refusal → Env → Name → DomainTree → ExprTree → Result Env (List Refusal)
stated_said mode refusal env name d e =
    unless_any (limits_met mode (met_domain mode env d ++ met mode env e))
    (and_next (or_refuse refusal (evaluate mode env e)) (λ v.
    and_next (or_refuse refusal (shape_of mode env d)) (λ shape. fitted_said shape name (type_in env e) v env)))

-- a name for a domain
abbrev pub named_said : Mode → Refusal → Env → Name → DomainTree → Result Env (List Refusal)
named_said mode refusal env name d =
    unless_any (limits_met mode (met_domain mode env d))
    (and_next (or_refuse refusal (option_and_then shape_bound (shape_of mode env d))) (λ b. Ok (put name b env)))

-- a letting of a value; the place of its name says nothing
abbrev pub value_said : Mode → TextName → Place → Env → Name → Option DomainTree → ExprTree → Result Env (List Refusal)
value_said mode text p env name d e = bind_letting mode text env (letting p name p d e)

-- nothing is refused
abbrev pub nothing_refused : List Refusal → Result (Unit {0}) (List Refusal)
nothing_refused refusals = unless_any refusals (Ok tt)

-- the refusal of a name without a parameter
abbrev pub missing_name : Env → Name → List Refusal
missing_name params name = if is_some (parameter (params name)) then [] else missing_parameter name ∷ []

-- a name with its parameter, fitted into a domain
abbrev pub name_said : Env → Shape → Name → Env → Result Env (List Refusal)
name_said params shape name env =
    and_next (given_bound shape name (parameter (params name))) (λ b. Ok (put name b env))

-- one group of a `given`
abbrev pub group_said : Mode → Place → Env → Group → Env → Result Env (List Refusal)
group_said mode p params g env =
    and_next (shape_said mode (undefined_at model_text p) env g.domain) (λ shape.
    and_next (nothing_refused (first_missing params g.names)) (λ _.
    bind_names params shape g.names env))

-- the decision variables of groups
abbrev pub finds_said : Mode → Place → Env → List Group → Result (List Find) (List Refusal)
finds_said mode p env groups =
    unless_any (limits_met mode (met_groups mode env groups))
    (or_refuse (undefined_at model_text p) (bound_finds mode env groups))

-- the decision variables of one group, where its domain is defined
abbrev pub finds_of : Mode → Env → Group → Option (List Find)
finds_of mode env g =
    option_and_then (λ shape. option_map (λ values. group_finds shape values g.names) shape.values)
    (shape_of mode env g.domain)

-- A statement has no fault in a context that differs from that of an environment by decision variables alone.
pub record IsFaultless (env : Env) (s : StatementTree) : Type 0 where
  pub context : Context
  pub lacks : LacksDecisions context (context_of env)
  pub faultless : statement_faults context s ≡ []
