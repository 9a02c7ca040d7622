-- Which domains are those of Booleans.
use Rattle.std.specs.Prelude.{Bool, false, if◌then◌else◌}
use Rattle.ep_tree.specs.Types.{Judged, is_boolean, mistyped, typed, untyped}
use Rattle.ep_tree.specs.declared.values.Scalar.{Scalar}

-- whether a domain's type is Boolean
unfoldable pub is_of_booleans : Judged → Bool
is_of_booleans (typed t) = is_boolean t
is_of_booleans mistyped = false
is_of_booleans untyped = false

-- the scalar of a domain of Booleans, or of another
abbrev pub scalar_if : Bool → Scalar
scalar_if boolean = if boolean then Scalar.Bool else Scalar.Int
