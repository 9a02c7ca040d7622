-- Rows of Booleans are of their type.
use Rattle.std.proofs.Common.{◌≡◌, List, ℤ, subst, sym, ap₂, ◌∙◌}
use Rattle.std.specs.declared.alloc.Global.{Global}
use Rattle.std.specs.declared.vec.Vec.{Vec}
use Rattle.ep_tree.specs.TypedValues.{IsOf}
use Rattle.ep_tree.specs.Values.{matrix}
use Rattle.ep_tree.specs.Views.{value_tree, values_from}
use Rattle.ep_tree.specs.declared.values.Scalar.{Scalar}
use Rattle.ep_tree.specs.declared.values.Value.{Value, Matrix}
use Rattle.ep_tree.specs.declared.values.ValueType.{ValueType}
use Rattle.ep_tree.proofs.ViewLemmas.{value_tree-matrix}

pub row_is : (indices : Vec ℤ Global) (parts : Vec Value Global) (ns : List ℤ) (vs : List Value) → indices.items ≡ ns → parts.items ≡ vs
    → IsOf (ValueType.Matrix 1 Scalar.Bool) (matrix ns (values_from vs)) → IsOf (ValueType.Matrix 1 Scalar.Bool) (value_tree (Matrix indices parts))
row_is indices parts ns vs e f typed =
    subst (IsOf (ValueType.Matrix 1 Scalar.Bool)) (sym (value_tree-matrix indices parts ∙ ap₂ (λ is xs. matrix is (values_from xs)) e f)) typed
