-- Laws of domains that are bound, as statements.
use Rattle.std.specs.Prelude.{◌≡◌, Bool, List, ℤ, IsTrue, Some}
use Rattle.std.specs.List.{list_all}
use Rattle.ep_base.specs.Runs.{IsAscending}
use Rattle.ep_base.specs.declared.names.Name.{Name}
use Rattle.ep_tree.specs.Binding.{Shape, elements_pass, fitted_into, shape_bound, shape_of}
use Rattle.ep_tree.specs.Environments.{Bound, Env, HasAscendingDomain, context_of, has_value, shape_type}
use Rattle.ep_tree.specs.Trees.{DomainTree}
use Rattle.ep_tree.specs.TypedValues.{IsTypedBound, IsTypedEnv, is_number_of}
use Rattle.ep_tree.specs.Types.{judge_domain, scalar_of, typed}
use Rattle.ep_tree.specs.Values.{ValueTree}
use Rattle.ep_tree.specs.declared.values.Mode.{Mode}
use Rattle.ep_tree.specs.declared.values.ValueType.{ValueType}

-- a domain that is bound has the type that the rules give the domain
abbrev pub ShapeIsOfType : Type 0
ShapeIsOfType =
    (mode : Mode) (env : Env) (d : DomainTree) (t : ValueType) → judge_domain (context_of env) d ≡ typed t
    → (shape : Shape) → shape_of mode env d ≡ Some shape → shape_type shape.scalar shape.indices ≡ t

-- the numbers that the elements of a domain may be are of its scalar, in an environment of typed names
abbrev pub ElementsAreOfScalar : Type 0
ElementsAreOfScalar =
    (mode : Mode) (env : Env) → IsTypedEnv env
    → (d : DomainTree) (t : ValueType) → judge_domain (context_of env) d ≡ typed t
    → (passes : ℤ → Bool) → elements_pass mode env d ≡ Some passes
    → (n : ℤ) → IsTrue (passes n) → IsTrue (is_number_of (scalar_of t) n)

-- what passes a domain that is bound is of the scalar that it was bound with
abbrev pub ShapePassesItsScalar : Type 0
ShapePassesItsScalar =
    (mode : Mode) (env : Env) → IsTypedEnv env
    → (d : DomainTree) (t : ValueType) → judge_domain (context_of env) d ≡ typed t
    → (shape : Shape) → shape_of mode env d ≡ Some shape
    → (n : ℤ) → IsTrue (shape.passes n) → IsTrue (is_number_of shape.scalar n)

-- the numbers that a domain lists, once it is bound, are of the scalar that it was bound with
abbrev pub ShapeListsItsScalar : Type 0
ShapeListsItsScalar =
    (mode : Mode) (env : Env) → IsTypedEnv env
    → (d : DomainTree) (t : ValueType) → judge_domain (context_of env) d ≡ typed t
    → (shape : Shape) → shape_of mode env d ≡ Some shape
    → (values : List ℤ) → shape.values ≡ Some values → IsTrue (list_all (is_number_of shape.scalar) values)

-- a value that fits a domain that is bound is, fitted, something of its type
abbrev pub FitIsTyped : Type 0
FitIsTyped =
    (mode : Mode) (env : Env) → IsTypedEnv env
    → (d : DomainTree) (t : ValueType) → judge_domain (context_of env) d ≡ typed t
    → (shape : Shape) → shape_of mode env d ≡ Some shape
    → (own : ValueType) (v fit : ValueTree) → fitted_into shape own v ≡ Some fit
    → IsTypedBound (Some (has_value (shape_type shape.scalar shape.indices) fit))

-- a name for a domain that is bound stands for something of its scalar
abbrev pub ShapeBoundIsTyped : Type 0
ShapeBoundIsTyped =
    (mode : Mode) (env : Env) → IsTypedEnv env
    → (d : DomainTree) (t : ValueType) → judge_domain (context_of env) d ≡ typed t
    → (shape : Shape) → shape_of mode env d ≡ Some shape
    → (bound : Bound) → shape_bound shape ≡ Some bound → IsTypedBound (Some bound)

-- the numbers that a domain lists, once it is bound, ascend, where those of each domain's name do
abbrev pub ShapeListAscends : Type 0
ShapeListAscends =
    (mode : Mode) (env : Env) → ((name : Name) → HasAscendingDomain (env name))
    → (d : DomainTree) (shape : Shape) → shape_of mode env d ≡ Some shape
    → (values : List ℤ) → shape.values ≡ Some values → IsAscending values
