-- How far binding has come, as the definitions have it.
use Rattle.std.specs.Prelude.{List, Option, Ok, Result, map, option_map}
use Rattle.ep_base.specs.declared.names.Name.{Name}
use Rattle.ep_base.specs.declared.places.Place.{Place}
use Rattle.ep_tree.specs.Binding as defined
use Rattle.ep_tree.specs.Binding.{Refusal, and_next, bind_givens, in_env, model_text, now_with, undefined_at, with_finds}
use Rattle.ep_tree.specs.Environments.{Env}
use Rattle.ep_tree.specs.Statements.{Group}
use Rattle.ep_tree.specs.Trees.{DomainTree, ExprTree}
use Rattle.ep_tree.specs.Views.{expr_tree}
use Rattle.ep_tree.specs.declared.values.Mode.{Mode}
use Rattle.ep_eval.specs.Known.{env_of}
use Rattle.ep_instance_parts.specs.Instances.{find_of, goal_of}
use Rattle.ep_instance_parts.specs.Steps.{conditions_said}
use Rattle.ep_instance.specs.Steps.{finds_said, named_said, value_said}
use Rattle.ep_instance.specs.declared.statements.Progress.{Progress}

-- the instance so far, and the number of the next condition
abbrev pub progress_of : Progress → defined.Progress
progress_of p = record {
  instance = record {
    finds = map find_of p.finds.items;
    clauses = map expr_tree p.clauses.items;
    goal = option_map goal_of p.objective;
    env = env_of p.env;
  };
  next_where = p.next_where;
}

-- a `given`
abbrev pub given_progress : Mode → Env → defined.Progress → Place → List Group → Result defined.Progress (List Refusal)
given_progress mode params at p groups =
    and_next (bind_givens mode p params groups at.instance.env) (λ env. Ok (now_with at (in_env at.instance env)))

-- a `find`
abbrev pub finds_progress : Mode → defined.Progress → Place → List Group → Result defined.Progress (List Refusal)
finds_progress mode at p groups =
    and_next (finds_said mode p at.instance.env groups) (λ fs. Ok (now_with at (with_finds at.instance fs)))

-- a letting of a value
abbrev pub valued_progress : Mode → defined.Progress → Place → Name → Option DomainTree → ExprTree → Result defined.Progress (List Refusal)
valued_progress mode at p name d e =
    and_next (value_said mode model_text p at.instance.env name d e) (λ env. Ok (now_with at (in_env at.instance env)))

-- a letting of a domain
abbrev pub named_progress : Mode → defined.Progress → Place → Name → DomainTree → Result defined.Progress (List Refusal)
named_progress mode at p name d =
    and_next (named_said mode (undefined_at model_text p) at.instance.env name d) (λ env. Ok (now_with at (in_env at.instance env)))

-- conditions
abbrev pub where_progress : Mode → defined.Progress → List ExprTree → Result defined.Progress (List Refusal)
where_progress mode at es =
    and_next (conditions_said mode at.instance.env at.next_where es) (λ n. Ok (record at { next_where = n }))
