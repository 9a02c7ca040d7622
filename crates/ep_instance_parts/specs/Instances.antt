-- The code's instances, as the definitions have them.
use Rattle.std.specs.Prelude.{map, option_map}
use Rattle.ep_base.specs.declared.operators.Sense.{Sense}
use Rattle.ep_eval.specs.Known.{env_of}
use Rattle.ep_tree.specs.Binding as defined
use Rattle.ep_tree.specs.Trees.{ExprTree}
use Rattle.ep_tree.specs.Types.{scalar_of}
use Rattle.ep_tree.specs.Views.{expr_tree}
use Rattle.ep_tree.specs.declared.statements.Objective.{Objective}
use Rattle.ep_tree.specs.declared.values.Mode.{Mode}
use Rattle.ep_instance_parts.specs.declared.instances.Find.{Find}
use Rattle.ep_instance_parts.specs.declared.instances.Instance.{Instance}

-- a decision variable
abbrev pub find_of : Find → defined.Find
find_of f = record { name = f.name; scalar = scalar_of f.ty; indices = f.indices.items; values = f.values }

-- an objective
abbrev pub goal_of : Objective → Sense × ExprTree
goal_of o = (o.sense, expr_tree o.e)

-- an instance
abbrev pub plain_instance : Instance → defined.Instance
plain_instance i = record {
  finds = map find_of i.finds.items;
  clauses = map expr_tree i.clauses.items;
  goal = option_map goal_of i.objective;
  env = env_of i.env;
}

-- the mode in which an instance is evaluated
abbrev pub instance_mode : Instance → Mode
instance_mode i = i.env.mode
