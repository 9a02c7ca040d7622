-- The indices of a read, and the part with one.
use Rattle.std.specs.Prelude.{◌≡◌, ◌++◌, ◌∷◌, [], Bool, true, false, ℤ, List, Option, Some, None, map}
use Rattle.ep_tree.specs.Values.{Index, ValueTree, any_index, at_index, matrix, part_at, single}

-- the part of a value with an index, where it has one
unfoldable pub part_under : ValueTree → ℤ → Option ValueTree
part_under (single x) i = None
part_under (matrix indices parts) i = part_at indices parts i

-- indices begin with one that is stated, and others are behind it
unfoldable pub IsStatedFirst : List (Option ℤ) → Option (ℤ × List (Option ℤ)) → Type 0
IsStatedFirst indices None = Unit {0}
IsStatedFirst indices (Some cut) = indices ≡ Some cut.0 ∷ cut.1

-- the values of some indices and of one more, which is `..` where it isn't stated
unfoldable pub with_index : Option (List (Option ℤ)) → Bool → Option ℤ → Option (List (Option ℤ))
with_index None stated number = None
with_index (Some values) false number = Some (values ++ None ∷ [])
with_index (Some values) true None = None
with_index (Some values) true (Some n) = Some (values ++ Some n ∷ [])
