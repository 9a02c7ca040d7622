-- What has no fault has a type: laws, as statements.
use Rattle.std.specs.Prelude.{◌≡◌, Bool, [], Some, None, Option}
use Rattle.ep_base.specs.declared.names.Name.{Name}
use Rattle.ep_tree.specs.Environments.{Env, context_of}
use Rattle.ep_tree.specs.Faults.{domain_faults, faults}
use Rattle.ep_tree.specs.Trees.{DomainTree, ExprTree}
use Rattle.ep_tree.specs.Types.{Context, Judged, Meaning, a_domain, a_value, judge, judge_domain, typed}
use Rattle.ep_tree.specs.declared.values.ValueType.{ValueType}

-- a node has a type
abbrev pub HasType : Judged → Type 0
HasType judged = (t : ValueType) × (judged ≡ typed t)

-- what a name stands for, if anything, has a type
unfoldable pub NameHasType : Option Meaning → Type 0
NameHasType (Some (a_value None _)) = ⊥
NameHasType (Some (a_domain None)) = ⊥
NameHasType _ = Unit {0}

-- each name has a type, as those of an environment do
abbrev pub EachHasType : Context → Type 0
EachHasType context = (name : Name) → NameHasType (context name)

-- an expression without a fault has a type
abbrev pub FaultlessHasType : Type 0
FaultlessHasType =
    (context : Context) → EachHasType context
    → (decisions : Bool) (e : ExprTree) → faults context decisions e ≡ [] → HasType (judge context e)

-- a domain without a fault has a type
abbrev pub FaultlessDomainHasType : Type 0
FaultlessDomainHasType =
    (context : Context) → EachHasType context
    → (may_open : Bool) (d : DomainTree) → domain_faults context may_open d ≡ [] → HasType (judge_domain context d)

-- each name of an environment has a type
abbrev pub EnvironmentHasTypes : Type 0
EnvironmentHasTypes = (env : Env) → EachHasType (context_of env)
