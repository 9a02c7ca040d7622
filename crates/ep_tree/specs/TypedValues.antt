-- Which values are of which type.
use Rattle.std.specs.Prelude.{◌≡◌, ℕ, zero, suc, Bool, true, ◌||◌, [], length, ℤ, pos, IsTrue, Some, Option}
use Rattle.std.specs.List.{list_all}
use Rattle.std.specs.Ordering.{int_eq}
use Rattle.ep_base.specs.declared.names.Name.{Name}
use Rattle.ep_tree.specs.Environments.{Bound, Env, has_domain, has_value}
use Rattle.ep_tree.specs.Values.{ValueTree, ValueTrees, listed_values, matrix, no_values, single, value_and}
use Rattle.ep_tree.specs.declared.values.Scalar.{Scalar}
use Rattle.ep_tree.specs.declared.values.ValueType.{ValueType}

-- whether a number may be of a scalar: a Boolean is 0 or 1
unfoldable pub is_number_of : Scalar → ℤ → Bool
is_number_of Scalar.Bool n = int_eq n (pos 0) || int_eq n (pos 1)
is_number_of Scalar.Int n = true

abbrev mutual
  -- a value of so many dimensions with numbers of a scalar, and as many indices as parts in each dimension
  pub IsOfDims : Scalar → ℕ → ValueTree → Type 0
  IsOfDims s zero (single n) = IsTrue (is_number_of s n)
  IsOfDims s zero (matrix indices parts) = ⊥
  IsOfDims s (suc k) (single n) = ⊥
  IsOfDims s (suc k) (matrix indices parts) = (length indices ≡ length (listed_values parts)) × AreOfDims s k parts

  -- the same of each part of a matrix
  pub AreOfDims : Scalar → ℕ → ValueTrees → Type 0
  AreOfDims s k no_values = Unit {0}
  AreOfDims s k (value_and v vs) = IsOfDims s k v × AreOfDims s k vs

-- a value is of a type
abbrev pub IsOf : ValueType → ValueTree → Type 0
IsOf ValueType.Bool v = IsOfDims Scalar.Bool 0 v
IsOf ValueType.Int v = IsOfDims Scalar.Int 0 v
IsOf (ValueType.Matrix zero s) v = ⊥
IsOf (ValueType.Matrix (suc k) s) v = IsOfDims s (suc k) v
IsOf ValueType.Empty v = v ≡ matrix [] no_values

-- what a name stands for is of its type, and the numbers of a domain's name are of its scalar, be it that of a matrix
unfoldable pub IsTypedBound : Option Bound → Type 0
IsTypedBound (Some (has_value t v)) = IsOf t v
IsTypedBound (Some (has_domain s indices values)) = IsTrue (list_all (is_number_of s) values)
IsTypedBound _ = Unit {0}

-- each name stands for something of its type
abbrev pub IsTypedEnv : Env → Type 0
IsTypedEnv env = (name : Name) → IsTypedBound (env name)
