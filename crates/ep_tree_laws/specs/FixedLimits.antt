-- Limits where no decision variable stands: laws, as statements.
use Rattle.std.specs.Prelude.{◌≡◌, ℕ, Bool, true, false, not, List, map, IsTrue}
use Rattle.std.specs.List.{list_all}
use Rattle.ep_base.specs.declared.names.Name.{Name}
use Rattle.ep_tree.specs.Binding.{over_limit}
use Rattle.ep_tree.specs.Environments.{Env}
use Rattle.ep_tree.specs.Limits.{limits_of_values}
use Rattle.ep_tree.specs.Measures.{Met, a_generator, a_node, met, met_domain}
use Rattle.ep_tree.specs.Reach.{decisions_in, holds_decision}
use Rattle.ep_tree.specs.Solutions.{limits_passed}
use Rattle.ep_tree.specs.Trees.{DomainTree, ExprTree}
use Rattle.ep_tree.specs.declared.values.Mode.{Mode}

-- no name stands for the cells of a decision variable
abbrev pub HasNoCells : Env → Type 0
HasNoCells env = (name : Name) → decisions_in env name ≡ false

-- whether no decision variable stands in what is met
unfoldable pub is_fixed : Met → Bool
is_fixed a_generator = true
is_fixed (a_node env e) = not (holds_decision (decisions_in env) e)

-- nodes without a decision variable pass the same limits by their values as by what they reach
abbrev pub LimitsOfFixed : Type 0
LimitsOfFixed =
    (mode : Mode) (before : ℕ) (ms : List Met) → IsTrue (list_all is_fixed ms)
    → map over_limit (limits_of_values mode before ms) ≡ limits_passed mode before ms

-- in an environment without cells no decision variable stands in what an expression meets
abbrev pub MetIsFixed : Type 0
MetIsFixed = (mode : Mode) (env : Env) → HasNoCells env → (e : ExprTree) → IsTrue (list_all is_fixed (met mode env e))

-- nor in what a domain meets
abbrev pub MetDomainIsFixed : Type 0
MetDomainIsFixed =
    (mode : Mode) (env : Env) → HasNoCells env → (d : DomainTree) → IsTrue (list_all is_fixed (met_domain mode env d))
