-- Environments: what each name stands for where an expression has a value.
use Rattle.std.specs.Prelude.{true, false, List, [], ◌∷◌, length, ℤ, Some, None, Option, unwrap_or, option_map}
use Rattle.ep_base.specs.Runs.{IsAscending}
use Rattle.ep_base.specs.declared.names.Name.{Name}
use Rattle.ep_tree.specs.Names.{Known, put}
use Rattle.ep_tree.specs.Trees.{DomainTree}
use Rattle.ep_tree.specs.Types.{Context, Meaning, a_domain, a_value, judge_domain, of_scalar, scalar_of, type_from}
use Rattle.ep_tree.specs.Values.{ValueTree, single}
use Rattle.ep_tree.specs.declared.values.Scalar.{Scalar}
use Rattle.ep_tree.specs.declared.values.ValueType.{ValueType}

-- what a name stands for: a value of a type; the cells of a decision variable, by their scalar, the index domains and
-- the values of each; or a domain, in the same way
pub data Bound : Type 0 where
  has_value : ValueType → ValueTree → Bound
  has_cells : Scalar → List (List ℤ) → List ℤ → Bound
  has_domain : Scalar → List (List ℤ) → List ℤ → Bound

-- what names stand for
abbrev pub Env : Type 0
Env = Known Bound

-- the type of what has index domains and a scalar
unfoldable pub shape_type : Scalar → List (List ℤ) → ValueType
shape_type s [] = of_scalar s
shape_type s (indices ∷ inner) = ValueType.Matrix (length (indices ∷ inner)) s

-- what an entry says of types
unfoldable pub meaning_in : Bound → Meaning
meaning_in (has_value t v) = a_value (Some t) false
meaning_in (has_cells s indices values) = a_value (Some (shape_type s indices)) true
meaning_in (has_domain s indices values) = a_domain (Some (shape_type s indices))

-- the context of types of an environment
unfoldable pub context_of : Env → Context
context_of env name = option_map meaning_in (env name)

-- the value of a name, where it stands for one
unfoldable pub value_bound : Option Bound → Option ValueTree
value_bound None = None
value_bound (Some (has_value t v)) = Some v
value_bound (Some (has_cells s indices values)) = None
value_bound (Some (has_domain s indices values)) = None

-- the numbers of a scalar domain's name
unfoldable pub domain_bound : Option Bound → Option (List ℤ)
domain_bound None = None
domain_bound (Some (has_value t v)) = None
domain_bound (Some (has_cells s indices values)) = None
domain_bound (Some (has_domain s [] values)) = Some values
domain_bound (Some (has_domain s (indices ∷ inner) values)) = None

-- the scalar of a domain's values in an environment; Int where it has no type
unfoldable pub scalar_in : Env → DomainTree → Scalar
scalar_in env d = unwrap_or (option_map scalar_of (type_from (judge_domain (context_of env) d))) Scalar.Int

-- an environment in which a name stands for a number of a domain's scalar
unfoldable pub with_number : Name → Scalar → ℤ → Env → Env
with_number name s n env = put name (has_value (of_scalar s) (single n)) env

-- the numbers of a domain's name ascend
unfoldable pub HasAscendingDomain : Option Bound → Type 0
HasAscendingDomain (Some (has_domain s indices values)) = IsAscending values
HasAscendingDomain _ = Unit {0}
