-- What is known of the instances of a quantifier.
use Rattle.std.specs.Prelude.{◌≡◌, List, length, ℤ}
use Rattle.ep_base.specs.declared.names.Name.{Name}
use Rattle.ep_base.specs.declared.places.Place.{Place}
use Rattle.ep_tree.specs.Environments.{Env}
use Rattle.ep_tree.specs.Reach.{Span, extent, span_of}
use Rattle.ep_tree.specs.declared.values.Mode.{Mode}
use Rattle.ep_eval.specs.Instances.{instance_env}
use Rattle.ep_forms.specs.Forms.{quantified_tree}
use Rattle.ep_forms.specs.declared.forms.Quantifier.{Quantifier}
use Rattle.ep_size.specs.Sums.{Sums}
use Rattle.ep_size.specs.Totals.{capped}
use Rattle.ep_size.specs.declared.instances.Instances.{Instances}

-- instances are known: their sum, and how many they are, as far as it is told
pub record HasInstances (t : Instances) (spans : List Span) : Type 0 where
  pub sum : Sums t.sum spans
  pub count : t.count ≡ capped (length spans)

-- what is known of an instance as a number
abbrev pub instance_at : Mode → Env → Place → Quantifier → Name → List Name → ℤ → Span
instance_at mode env p q name rest n = span_of (extent mode (instance_env env q name n) (quantified_tree p q rest))
