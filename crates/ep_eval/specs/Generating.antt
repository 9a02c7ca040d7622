-- What the generators of a comprehension lead to, list of numbers by list of numbers.
use Rattle.std.specs.Prelude.{◌++◌, Bool, true, false, List, [], ◌∷◌, ℕ, ℤ, length, Option, Some, None, option_map}
use Rattle.ep_base.specs.Options.{map_both}
use Rattle.ep_base.specs.declared.names.Name.{Name}
use Rattle.ep_tree.specs.Environments.{Env, scalar_in, with_number}
use Rattle.ep_tree.specs.Evaluation.{all_true, evaluate, numbered, over_names, values_of}
use Rattle.ep_tree.specs.Measures.{Met, a_generator, met, met_all, met_domain, met_names}
use Rattle.ep_tree.specs.Trees.{ExprTree, ExprTrees, Generators, generator_and, no_generators}
use Rattle.ep_tree.specs.Values.{ValueTree}
use Rattle.ep_tree.specs.Views.{domain_tree, expr_tree, expr_trees, generators_of}
use Rattle.ep_tree.specs.declared.values.Mode.{Mode}
use Rattle.ep_forms.specs.declared.forms.Listing.{Listing}
use Rattle.ep_eval.specs.declared.generating.Ranging.{Ranging}

-- the parts of some lists, one list after another, where each list is there
unfoldable pub lists_joined : {A : Type 0} → List (Option (List A)) → Option (List A)
lists_joined [] = Some []
lists_joined (o ∷ os) = map_both ◌++◌ o (lists_joined os)

-- the same, where there are any
unfoldable pub some_joined : {A : Type 0} → Option (List (Option (List A))) → Option (List A)
some_joined None = None
some_joined (Some os) = lists_joined os

-- the part that stands where conditions are true; there is no list where a condition or the part has no value
unfoldable pub part_where : Option Bool → Option ValueTree → Option (List ValueTree)
part_where None v = None
part_where (Some false) v = Some []
part_where (Some true) v = option_map (λ x. x ∷ []) v

-- what the part meets, which is evaluated where conditions are true
unfoldable pub nodes_where : Option Bool → List Met → List Met
nodes_where None ms = []
nodes_where (Some false) ms = []
nodes_where (Some true) ms = ms

-- what conditions and a part behind them meet
unfoldable pub part_nodes : Mode → ExprTree → ExprTrees → Env → List Met
part_nodes mode e conditions env =
    met_all mode env conditions ++ nodes_where (all_true (values_of mode env conditions)) (met mode env e)

-- the part behind conditions
unfoldable pub part_value : Mode → ExprTree → ExprTrees → Env → Option (List ValueTree)
part_value mode e conditions env = part_where (all_true (values_of mode env conditions)) (evaluate mode env e)

-- what generators meet with the conditions and the part behind them
unfoldable pub listed_nodes : Mode → ExprTree → ExprTrees → Generators → Env → List Met
listed_nodes mode e conditions no_generators env = part_nodes mode e conditions env
listed_nodes mode e conditions (generator_and names d gens) env =
    met_names
    (λ left inner. a_generator ∷ met_domain mode inner d)
    (numbered mode d) (λ inner. listed_nodes mode e conditions gens inner) names env

-- the parts that generators lead to, where each is there
unfoldable pub generated_values : Mode → ExprTree → ExprTrees → Generators → Env → Option (List ValueTree)
generated_values mode e conditions no_generators env = part_value mode e conditions env
generated_values mode e conditions (generator_and names d gens) env =
    over_names (numbered mode d) some_joined (λ inner. generated_values mode e conditions gens inner) names env

-- what generators of the code meet
abbrev pub nodes_of : Mode → Listing → Generators → Env → List Met
nodes_of mode l gens env = listed_nodes mode (expr_tree l.body.now) (expr_trees l.conditions.now) gens env

-- and the parts that they lead to
abbrev pub parts_of : Mode → Listing → Generators → Env → Option (List ValueTree)
parts_of mode l gens env = generated_values mode (expr_tree l.body.now) (expr_trees l.conditions.now) gens env

-- some names over a domain, with the generators behind them
abbrev pub ranging_over : Ranging → List Name → Generators
ranging_over r names = generator_and names (domain_tree r.domain.now) (generators_of r.later.now)

-- the environment in which a name stands for a number
abbrev pub ranged_env : Env → Ranging → Name → ℤ → Env
ranged_env env r name n = with_number name (scalar_in env (domain_tree r.domain.now)) n env

-- what is met where a name stands for a number
abbrev pub nodes_at : Mode → Env → Ranging → Name → List Name → ℤ → List Met
nodes_at mode env r name rest n = nodes_of mode r.listing (ranging_over r rest) (ranged_env env r name n)

-- and the parts there
abbrev pub parts_at : Mode → Env → Ranging → Name → List Name → ℤ → Option (List ValueTree)
parts_at mode env r name rest n = parts_of mode r.listing (ranging_over r rest) (ranged_env env r name n)

-- how many values there are, and none where one isn't there
unfoldable pub how_many : Option (List ValueTree) → ℕ
how_many None = 0
how_many (Some vs) = length vs
