-- The names that may stand in an expression without decision variables decide its value: laws, as statements.
use Rattle.std.specs.Prelude.{◌≡◌, Bool, false, [], Some, None, Option}
use Rattle.ep_base.specs.declared.names.Name.{Name}
use Rattle.ep_tree.specs.Environments.{Bound, Env, context_of, has_cells, has_domain, has_value}
use Rattle.ep_tree.specs.Evaluation.{domain_values, evaluate}
use Rattle.ep_tree.specs.Faults.{domain_faults, faults}
use Rattle.ep_tree.specs.Trees.{DomainTree, ExprTree}
use Rattle.ep_tree.specs.declared.values.Mode.{Mode}

-- a value or a domain that a name stands for is kept; nothing is asked of decision variables and of other names
unfoldable pub IsKeptBound : Option Bound → Option Bound → Type 0
IsKeptBound None other = Unit {0}
IsKeptBound (Some (has_cells s indices values)) other = Unit {0}
IsKeptBound (Some (has_value t v)) other = other ≡ Some (has_value t v)
IsKeptBound (Some (has_domain s indices values)) other = other ≡ Some (has_domain s indices values)

-- each name that stands for a value or a domain stands for it in another environment too
abbrev pub BoundsAreKept : Env → Env → Type 0
BoundsAreKept env other = (name : Name) → IsKeptBound (env name) (other name)

-- an expression without a fault, in which no decision variable may stand, has one value
abbrev pub NamesDecideValue : Type 0
NamesDecideValue =
    (mode : Mode) (env other : Env) → BoundsAreKept env other
    → (e : ExprTree) → faults (context_of env) false e ≡ [] → evaluate mode env e ≡ evaluate mode other e

-- a domain without a fault has one list of numbers
abbrev pub NamesDecideNumbers : Type 0
NamesDecideNumbers =
    (mode : Mode) (env other : Env) → BoundsAreKept env other
    → (may_open : Bool) (d : DomainTree) → domain_faults (context_of env) may_open d ≡ []
    → domain_values mode env d ≡ domain_values mode other d
