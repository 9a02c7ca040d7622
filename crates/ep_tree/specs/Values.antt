-- Values: a number, or a matrix with its indices and its parts. There are such matrices of other things too.
--
-- Numbers stand for Booleans, 1 for true. That a Boolean is such a number is the language's public description; how a
-- value fits a domain is this project's own choice.
use Rattle.std.specs.Prelude.{Bool, true, false, ◌&&◌, List, [], ◌∷◌, ◌++◌, map, length, ℤ, pos, if◌then◌else◌, ◌==◌, Some, None, Option, option_map, option_and_then}
use Rattle.std.specs.Ordering.{int_eq}
use Rattle.ep_base.specs.Numbers.{same_numbers}
use Rattle.ep_base.specs.Runs.{counting}
use Rattle.ep_tree.specs.declared.values.Scalar.{Scalar}

mutual
  -- one thing, or a matrix with its list of indices and its list of parts
  pub data Grid (A : Type 0) : Type 0 where
    single : A → Grid A
    matrix : List ℤ → Grids A → Grid A

  -- the parts of a matrix in their order
  pub data Grids (A : Type 0) : Type 0 where
    no_values : Grids A
    value_and : Grid A → Grids A → Grids A

-- a number, or a matrix of numbers
abbrev pub ValueTree : Type 0
ValueTree = Grid ℤ

-- the parts of a matrix of numbers
abbrev pub ValueTrees : Type 0
ValueTrees = Grids ℤ

-- the parts of a matrix as a list
unfoldable pub listed_values : {A : Type 0} → Grids A → List (Grid A)
listed_values no_values = []
listed_values (value_and v vs) = v ∷ listed_values vs

-- a list as the parts of a matrix
unfoldable pub as_parts : {A : Type 0} → List (Grid A) → Grids A
as_parts [] = no_values
as_parts (v ∷ vs) = value_and v (as_parts vs)

-- what stands in a matrix, row by row: its scalars
unfoldable mutual
  pub scalars_of : {A : Type 0} → Grid A → List A
  scalars_of (single x) = x ∷ []
  scalars_of (matrix indices parts) = scalars_of_all parts

  -- the scalars of the parts of a matrix
  pub scalars_of_all : {A : Type 0} → Grids A → List A
  scalars_of_all no_values = []
  scalars_of_all (value_and v vs) = scalars_of v ++ scalars_of_all vs

-- a function of each scalar, in place
unfoldable mutual
  pub map_grid : {A B : Type 0} → (A → B) → Grid A → Grid B
  map_grid f (single x) = single (f x)
  map_grid f (matrix indices parts) = matrix indices (map_grids f parts)

  -- the same of each part
  pub map_grids : {A B : Type 0} → (A → B) → Grids A → Grids B
  map_grids f no_values = no_values
  map_grids f (value_and v vs) = value_and (map_grid f v) (map_grids f vs)

-- a matrix over index domains with the same scalar in each place
unfoldable pub filled : {A : Type 0} → A → List (List ℤ) → Grid A
filled x [] = single x
filled x (indices ∷ inner) = matrix indices (as_parts (map (λ i. filled x inner) indices))

-- the rows of a matrix, each with its scalars
unfoldable pub rows_of : {A : Type 0} → Grid A → List (List A)
rows_of (single x) = []
rows_of (matrix indices parts) = map scalars_of (listed_values parts)

-- a list as a matrix, if its indices are as many as its parts
unfoldable pub with_indices : {A : Type 0} → List ℤ → List (Grid A) → Option (Grid A)
with_indices indices parts = if length indices == length parts then Some (matrix indices (as_parts parts)) else None

-- scalars as a matrix of one dimension, with indices from 1
unfoldable pub list_value : {A : Type 0} → List A → Grid A
list_value xs = matrix (counting (pos 1) (length xs)) (as_parts (map single xs))

-- an index of a read: one that is stated, or `..`
pub data Index : Type 0 where
  at_index : ℤ → Index
  any_index : Index

-- an index, or `..` where there is none
unfoldable pub index_in : Option ℤ → Index
index_in None = any_index
index_in (Some i) = at_index i

-- the indices of a read
abbrev pub indices_in : List (Option ℤ) → List Index
indices_in indices = map index_in indices

-- the part of a matrix with an index, where it has one
unfoldable pub part_at : {A : Type 0} → List ℤ → Grids A → ℤ → Option (Grid A)
part_at [] parts i = None
part_at (j ∷ js) no_values i = None
part_at (j ∷ js) (value_and v vs) i = if int_eq i j then Some v else part_at js vs i

-- values of which each is defined
unfoldable pub all_defined : {A : Type 0} → List (Option A) → Option (List A)
all_defined [] = Some []
all_defined (None ∷ xs) = None
all_defined (Some x ∷ xs) = option_map (λ ys. x ∷ ys) (all_defined xs)

-- What a read gives: the part with that index in each dimension, and nothing where there is none. `..` keeps a
-- dimension with its indices, and so do indices that are left out at the end.
unfoldable pub read_value : {A : Type 0} → List Index → Grid A → Option (Grid A)
read_value [] v = Some v
read_value (i ∷ is) (single x) = None
read_value (at_index i ∷ is) (matrix indices parts) = option_and_then (read_value is) (part_at indices parts i)
read_value (any_index ∷ is) (matrix indices parts) =
    option_map (λ vs. matrix indices (as_parts vs)) (all_defined (map (read_value is) (listed_values parts)))

-- whether a number of one scalar may stand where one of another is wanted: an integer is no Boolean
unfoldable pub scalar_fits : Scalar → Scalar → Bool
scalar_fits Scalar.Int Scalar.Bool = false
scalar_fits Scalar.Int Scalar.Int = true
scalar_fits Scalar.Bool wanted = true

-- A value of numbers of one scalar, fitted into a domain: of another scalar, with these index domains, and with the
-- numbers that pass a test. A number fits where it passes, and its scalar fits. A matrix fits where it has as many
-- parts as the index domain has values and each part fits, and takes these values as its indices.
unfoldable mutual
  pub fitted : Scalar → Scalar → (ℤ → Bool) → List (List ℤ) → ValueTree → Option ValueTree
  fitted own wanted passes [] (single n) = if scalar_fits own wanted && passes n then Some (single n) else None
  fitted own wanted passes (indices ∷ inner) (single n) = None
  fitted own wanted passes [] (matrix old parts) = None
  fitted own wanted passes (indices ∷ inner) (matrix old parts) =
      option_and_then (with_indices indices) (all_fitted own wanted passes inner parts)

  -- the parts of a matrix, each fitted
  pub all_fitted : Scalar → Scalar → (ℤ → Bool) → List (List ℤ) → ValueTrees → Option (List ValueTree)
  all_fitted own wanted passes inner no_values = Some []
  all_fitted own wanted passes inner (value_and v vs) =
      option_and_then
      (λ x. option_map (λ xs. x ∷ xs) (all_fitted own wanted passes inner vs)) (fitted own wanted passes inner v)

-- whether two values are equal, indices included
unfoldable mutual
  pub same_value : ValueTree → ValueTree → Bool
  same_value (single m) (single n) = int_eq m n
  same_value (single m) (matrix js ws) = false
  same_value (matrix is vs) (single n) = false
  same_value (matrix is vs) (matrix js ws) = same_numbers is js && same_values vs ws

  -- whether the parts of two matrices are equal
  pub same_values : ValueTrees → ValueTrees → Bool
  same_values no_values no_values = true
  same_values no_values (value_and w ws) = false
  same_values (value_and v vs) no_values = false
  same_values (value_and v vs) (value_and w ws) = same_value v w && same_values vs ws
