-- The steps of binding that domains, values fitted into them and conditions make.
use Rattle.std.specs.Prelude.{◌≡◌, ℕ, ◌+◌, List, length, Some, None, Option, Result, Ok, Err}
use Rattle.ep_base.specs.declared.names.Name.{Name}
use Rattle.ep_tree.specs.Binding.{Refusal, Shape, and_next, first_false, fitted_into, limits_met, met_in, or_refuse, outside_domain, shape_of, unless_any}
use Rattle.ep_tree.specs.Environments.{Env, has_value, shape_type}
use Rattle.ep_tree.specs.Measures.{met_domain}
use Rattle.ep_tree.specs.Names.{put}
use Rattle.ep_tree.specs.Trees.{DomainTree, ExprTree}
use Rattle.ep_tree.specs.Values.{ValueTree}
use Rattle.ep_tree.specs.declared.values.Mode.{Mode}
use Rattle.ep_tree.specs.declared.values.ValueType.{ValueType}
use Rattle.ep_instance_parts.specs.Refusals.{RefusesBinding}
use Rattle.ep_instance_parts.specs.declared.errors.BindError.{BindError}

-- an answer is, by a relation, what is defined
abbrev pub StepsTo : {V A : Type 0} → (A → V → Type 0) → Result V BindError → Result A (List Refusal) → Type 0
StepsTo {V} {A} relates (Ok x) said = (y : A) × (said ≡ Ok y) × relates y x
StepsTo relates (Err e) said = RefusesBinding e said

-- a domain that is bound: first the limits, then a domain that isn't defined
abbrev pub shape_said : Mode → Refusal → Env → DomainTree → Result Shape (List Refusal)
shape_said mode refusal env d =
    unless_any (limits_met mode (met_domain mode env d)) (or_refuse refusal (shape_of mode env d))

-- a name with a value that is fitted into a domain
abbrev pub fitted_said : Shape → Name → ValueType → ValueTree → Env → Result Env (List Refusal)
fitted_said shape name t v env =
    and_next (or_refuse (outside_domain name) (fitted_into shape t v)) (λ fit.
    Ok (put name (has_value (shape_type shape.scalar shape.indices) fit) env))

-- the first of two, where it is there
unfoldable pub first_of : Option ℕ → Option ℕ → Option ℕ
first_of None other = other
first_of (Some n) other = Some n

-- conditions, numbered on from a number, and the number of the next one
abbrev pub conditions_said : Mode → Env → ℕ → List ExprTree → Result ℕ (List Refusal)
conditions_said mode env n es =
    unless_any (limits_met mode (met_in mode env es)) (unless_any (first_false mode env n es) (Ok (n + length es)))
