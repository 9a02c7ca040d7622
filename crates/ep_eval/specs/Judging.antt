-- The types of expressions where they are evaluated.
use Rattle.std.specs.Prelude.{ℕ, zero, suc, ◌+◌, ◌-◌, Bool, true, false, ◌&&◌, List, nat_le, Some, None, Option, option_map}
use Rattle.std.specs.List.{list_all}
use Rattle.ep_tree.specs.Trees.{DomainTree, ExprTree}
use Rattle.ep_tree.specs.Types.{Context, Judged, all_typed, both_scalars, has_dimensions, is_boolean, is_integer, is_matrix, is_matrix_of_bool, judge, judge_domain, left_type, list_type, of_scalar, scalar_of, type_from}
use Rattle.ep_tree.specs.declared.syntax.BinaryOp.{BinaryOp}
use Rattle.ep_tree.specs.declared.syntax.FoldOp.{FoldOp}
use Rattle.ep_tree.specs.declared.syntax.QuantOp.{QuantOp}
use Rattle.ep_tree.specs.declared.values.Scalar.{Scalar}
use Rattle.ep_tree.specs.declared.values.ValueType.{ValueType}
use Rattle.ep_eval.specs.declared.rules.Wanted.{Wanted}

-- the type of an expression that has one
abbrev pub type_at : Context → ExprTree → Option ValueType
type_at c e = type_from (judge c e)

-- whether a type is one that is wanted
unfoldable pub passes : Wanted → ValueType → Bool
passes Wanted.Integer = is_integer
passes Wanted.Boolean = is_boolean
passes Wanted.Matrix = is_matrix
passes Wanted.Booleans = is_matrix_of_bool
passes Wanted.List = has_dimensions 1
passes Wanted.Rows = has_dimensions 2

-- whether all parts have a type that is wanted; nothing is told where one has no type
abbrev pub all_pass : Wanted → List Judged → Option Bool
all_pass wanted parts = option_map (list_all (passes wanted)) (all_typed parts)

-- a type, where a condition is told and holds
unfoldable pub type_if : ValueType → Option Bool → Option ValueType
type_if t None = None
type_if t (Some false) = None
type_if t (Some true) = Some t

-- the type of a quantified name, and else that which the name has without it
unfoldable pub scalar_or : Option Scalar → Option ValueType → Option ValueType
scalar_or None t = t
scalar_or (Some s) t = Some (of_scalar s)

-- the type of a read, by that of the matrix, whether all stated indices are integer, and how many are stated and are `..`
unfoldable pub read_of : Option ValueType → Option Bool → ℕ → ℕ → Option ValueType
read_of (Some (ValueType.Matrix dims s)) (Some integer) stated slices =
    type_if (left_type (dims - stated) s) (Some (integer && nat_le (stated + slices) dims))
read_of _ _ stated slices = None

-- what the parts of an operator have to be, and the type of what it gives
unfoldable pub join_part : BinaryOp → Wanted
join_part BinaryOp.Implies = Wanted.Boolean
join_part BinaryOp.Iff = Wanted.Boolean
join_part _ = Wanted.Integer

unfoldable pub join_type : BinaryOp → ValueType
join_type BinaryOp.Implies = ValueType.Bool
join_type BinaryOp.Iff = ValueType.Bool
join_type _ = ValueType.Int

-- what a matrix that is folded has to be, and the type of what it gives
unfoldable pub fold_part : FoldOp → Wanted
fold_part FoldOp.And = Wanted.Booleans
fold_part FoldOp.Or = Wanted.Booleans
fold_part _ = Wanted.Matrix

unfoldable pub fold_type : FoldOp → ValueType
fold_type FoldOp.And = ValueType.Bool
fold_type FoldOp.Or = ValueType.Bool
fold_type _ = ValueType.Int

-- the type of the list of a matrix's parts
unfoldable pub flattened : Option ValueType → Option ValueType
flattened None = None
flattened (Some t) = type_if (ValueType.Matrix 1 (scalar_of t)) (Some (is_matrix t))

-- the type of a domain's values, where the domain has one
abbrev pub domain_type_at : Context → DomainTree → Option ValueType
domain_type_at c d = type_from (judge_domain c d)

-- the type of a set operation's values, by those of the two domains
unfoldable pub set_of_both : Option ValueType → Option ValueType → Option ValueType
set_of_both None other = None
set_of_both (Some s) None = None
set_of_both (Some s) (Some t) =
    type_if (of_scalar (both_scalars (scalar_of s) (scalar_of t))) (Some (is_integer s && is_integer t))

-- the type of a matrix domain, by that of its elements, whether its index domains are scalar, and how many they are
unfoldable pub matrix_over : Option ValueType → Option Bool → ℕ → Option ValueType
matrix_over None scalar count = None
matrix_over (Some t) None count = None
matrix_over (Some t) (Some scalar) zero = None
matrix_over (Some (ValueType.Matrix dims s)) (Some scalar) (suc more) = type_if (ValueType.Matrix (dims + suc more) s) (Some scalar)
matrix_over (Some ValueType.Bool) (Some scalar) (suc more) = type_if (ValueType.Matrix (suc more) Scalar.Bool) (Some scalar)
matrix_over (Some ValueType.Int) (Some scalar) (suc more) = type_if (ValueType.Matrix (suc more) Scalar.Int) (Some scalar)
matrix_over (Some ValueType.Empty) (Some scalar) (suc more) = type_if (ValueType.Matrix (suc more) Scalar.Bool) (Some scalar)

-- the type of a list of parts of these types, where its index domain is scalar
unfoldable pub list_of : Option (List ValueType) → Option Bool → Option ValueType
list_of None scalar = None
list_of (Some ts) None = None
list_of (Some ts) (Some false) = None
list_of (Some ts) (Some true) = type_from (list_type ts)

-- what the body of a quantifier has to be, and the type of what it gives
unfoldable pub quantified_part : QuantOp → Wanted
quantified_part QuantOp.ForAll = Wanted.Boolean
quantified_part QuantOp.Exists = Wanted.Boolean
quantified_part QuantOp.Sum = Wanted.Integer

unfoldable pub type_of_quantifier : QuantOp → ValueType
type_of_quantifier QuantOp.ForAll = ValueType.Bool
type_of_quantifier QuantOp.Exists = ValueType.Bool
type_of_quantifier QuantOp.Sum = ValueType.Int

-- the scalar of a quantified name by the type of its domain, where that is scalar
unfoldable pub name_scalar : Option ValueType → Option Scalar
name_scalar None = None
name_scalar (Some ValueType.Bool) = Some Scalar.Bool
name_scalar (Some ValueType.Int) = Some Scalar.Int
name_scalar (Some (ValueType.Matrix dims s)) = None
name_scalar (Some ValueType.Empty) = None
