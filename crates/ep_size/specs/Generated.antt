-- What is known of the parts that the generators of a comprehension lead to.
use Rattle.std.specs.Prelude.{ℤ, List, [], ◌∷◌, map, false, unwrap_or, if◌then◌else◌}
use Rattle.ep_base.specs.declared.names.Name.{Name}
use Rattle.ep_tree.specs.Environments.{Env}
use Rattle.ep_tree.specs.Evaluation.{all_true, chosen, values_of}
use Rattle.ep_tree.specs.Reach.{Extent, extent}
use Rattle.ep_tree.specs.Trees.{ExprTree, ExprTrees, Generators}
use Rattle.ep_tree.specs.Views.{expr_tree, expr_trees}
use Rattle.ep_tree.specs.declared.values.Mode.{Mode}
use Rattle.ep_eval.specs.Generating.{ranged_env, ranging_over}
use Rattle.ep_eval.specs.declared.generating.Ranging.{Ranging}
use Rattle.ep_forms.specs.declared.forms.Listing.{Listing}

-- what is known of a part, where conditions hold
unfoldable pub part_extents : Mode → ExprTree → ExprTrees → Env → List Extent
part_extents mode e conditions env =
    if unwrap_or (all_true (values_of mode env conditions)) false then extent mode env e ∷ [] else []

-- what is known of the parts that generators lead to
unfoldable pub listed_extents : Mode → ExprTree → ExprTrees → Generators → Env → List Extent
listed_extents mode e conditions gens env = map (λ inner. extent mode inner e) (chosen mode env gens conditions)

-- the same of generators of the code
abbrev pub known_of : Mode → Listing → Generators → Env → List Extent
known_of mode l gens env = listed_extents mode (expr_tree l.body.now) (expr_trees l.conditions.now) gens env

-- the same where a name stands for a number
abbrev pub known_at : Mode → Env → Ranging → Name → List Name → ℤ → List Extent
known_at mode env r name rest n = known_of mode r.listing (ranging_over r rest) (ranged_env env r name n)
