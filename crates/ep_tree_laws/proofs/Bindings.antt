-- What binding puts into an environment is typed, and sorted.
use Rattle.std.specs.Prelude.{◌≡◌, List, [], ◌∷◌, length, ℤ, Some, None, Option}
use Rattle.std.proofs.Common.{subst, ◌∙◌}
use Rattle.ep_base.proofs.Small.{map_is, no_some, some_is}
use Rattle.ep_base.specs.Runs.{IsAscending}
use Rattle.ep_base.specs.declared.names.Name.{Name}
use Rattle.ep_tree_laws.proofs.Shapes.{shape_lists, shape_parts, shape_passes}
use Rattle.ep_tree.proofs.SortedDomains.{domain_values-ascend}
use Rattle.ep_tree.proofs.TypedFitting.{fitted_typed}
use Rattle.ep_tree.specs.Binding.{Shape, element_values, fitted_into, numbers_bound, shape_bound, shape_of}
use Rattle.ep_tree.specs.Environments.{Bound, Env, HasAscendingDomain, context_of, has_cells, has_domain, has_value, shape_type}
use Rattle.ep_tree.specs.Trees.{DomainTree, bool, group_domain, int, matrix_domain, named_domain, ranges, set_domain}
use Rattle.ep_tree.specs.TypedValues.{IsOf, IsOfDims, IsTypedBound, IsTypedEnv}
use Rattle.ep_tree.specs.Types.{judge_domain, of_scalar, scalar_of, typed}
use Rattle.ep_tree.specs.Values.{ValueTree}
use Rattle.ep_tree.specs.declared.values.Mode.{Mode}
use Rattle.ep_tree.specs.declared.values.Scalar.{Scalar}
use Rattle.ep_tree.specs.declared.values.ValueType.{ValueType}

-- a value of a scalar and of so many dimensions is of their type
shape_is : (s : Scalar) (is : List (List ℤ)) (v : ValueTree) → IsOfDims s (length is) v → IsOf (shape_type s is) v
unfolding shape_type of_scalar
shape_is Scalar.Bool [] v h = h
shape_is Scalar.Int [] v h = h
shape_is s (i ∷ is) v h = h

pub fit_typed : (mode : Mode) (env : Env) → IsTypedEnv env → (d : DomainTree) (t : ValueType) → judge_domain (context_of env) d ≡ typed t
    → (shape : Shape) → shape_of mode env d ≡ Some shape → (own : ValueType) (v fit : ValueTree) → fitted_into shape own v ≡ Some fit
    → IsTypedBound (Some (has_value (shape_type shape.scalar shape.indices) fit))
unfolding IsTypedBound fitted_into
fit_typed mode env k d t h shape e own v fit q =
    shape_is shape.scalar shape.indices fit
    (fitted_typed (scalar_of own) shape.scalar shape.passes (shape_passes mode env k d t h shape e) shape.indices v fit q)

pub bound_typed : (mode : Mode) (env : Env) → IsTypedEnv env → (d : DomainTree) (t : ValueType) → judge_domain (context_of env) d ≡ typed t
    → (shape : Shape) → shape_of mode env d ≡ Some shape → (bound : Bound) → shape_bound shape ≡ Some bound → IsTypedBound (Some bound)
unfolding IsTypedBound shape_bound
bound_typed mode env k d t h shape e bound q =
    let p : _ = map_is (has_domain shape.scalar shape.indices) shape.values bound q in
    subst (λ b. IsTypedBound (Some b)) p.2 (shape_lists mode env k d t h shape e p.0 p.1)

named_ascends : (bound : Option Bound) (values : List ℤ) → HasAscendingDomain bound → numbers_bound bound ≡ Some values → IsAscending values
unfolding HasAscendingDomain numbers_bound
named_ascends None values h e = no_some e
named_ascends (Some (has_value t v)) values h e = no_some e
named_ascends (Some (has_cells s is vs)) values h e = no_some e
named_ascends (Some (has_domain s is vs)) values h e = subst (λ ns. IsAscending ns) (some_is e) h

values_ascend : (mode : Mode) (env : Env) → ((name : Name) → HasAscendingDomain (env name)) → (d : DomainTree) (values : List ℤ) → element_values mode env d ≡ Some values → IsAscending values
unfolding element_values
values_ascend mode env h (bool p) values e = domain_values-ascend mode env h (bool p) values e
values_ascend mode env h (int p) values e = domain_values-ascend mode env h (int p) values e
values_ascend mode env h (ranges p rs) values e = domain_values-ascend mode env h (ranges p rs) values e
values_ascend mode env h (named_domain p name) values e = named_ascends (env name) values (h name) e
values_ascend mode env h (group_domain p d) values e = values_ascend mode env h d values e
values_ascend mode env h (set_domain p op c d) values e = domain_values-ascend mode env h (set_domain p op c d) values e
values_ascend mode env h (matrix_domain p ds d) values e = values_ascend mode env h d values e

pub shape_ascends : (mode : Mode) (env : Env) → ((name : Name) → HasAscendingDomain (env name)) → (d : DomainTree) (shape : Shape) → shape_of mode env d ≡ Some shape
    → (values : List ℤ) → shape.values ≡ Some values → IsAscending values
shape_ascends mode env h d shape e values q =
    values_ascend mode env h d values ((shape_parts mode env d shape e).3 ∙ q)
