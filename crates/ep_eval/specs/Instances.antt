-- The instances of a quantifier: what it quantifies, for each number of its domain.
use Rattle.std.specs.Prelude.{List, ℤ, Option}
use Rattle.ep_base.specs.declared.names.Name.{Name}
use Rattle.ep_base.specs.declared.places.Place.{Place}
use Rattle.ep_tree.specs.Environments.{Env, scalar_in, with_number}
use Rattle.ep_tree.specs.Evaluation.{evaluate}
use Rattle.ep_tree.specs.Measures.{Met, met}
use Rattle.ep_forms.specs.Forms.{quantified_tree}
use Rattle.ep_tree.specs.Values.{ValueTree}
use Rattle.ep_tree.specs.Views.{domain_tree}
use Rattle.ep_tree.specs.declared.values.Mode.{Mode}
use Rattle.ep_forms.specs.declared.forms.Quantifier.{Quantifier}

-- the environment in which a name stands for a number
abbrev pub instance_env : Env → Quantifier → Name → ℤ → Env
instance_env env q name n = with_number name (scalar_in env (domain_tree q.domain.now)) n env

-- what an instance gives
abbrev pub instance_value : Mode → Env → Place → Quantifier → Name → List Name → ℤ → Option ValueTree
instance_value mode env p q name rest n = evaluate mode (instance_env env q name n) (quantified_tree p q rest)

-- what an instance meets
abbrev pub instance_nodes : Mode → Env → Place → Quantifier → Name → List Name → ℤ → List Met
instance_nodes mode env p q name rest n = met mode (instance_env env q name n) (quantified_tree p q rest)
