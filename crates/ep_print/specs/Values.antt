-- The texts of values.
--
-- The form `[parts; index domain]` is that of the language's public description; which form an index domain takes is
-- this project's own choice.
use Rattle.std.specs.Prelude.{ℕ, ℤ, pos, List, [], ◌∷◌, ◌++◌, map, codes, if◌then◌else◌, ◌+ℤ◌}
use Rattle.std.specs.Fmt.{signed_decimal}
use Rattle.std.specs.Ordering.{int_eq}
use Rattle.ep_tree.specs.Types.{scalar_of}
use Rattle.ep_tree.specs.Values.{ValueTree, ValueTrees, matrix, no_values, single, value_and}
use Rattle.ep_tree.specs.declared.values.Scalar.{Scalar}
use Rattle.ep_tree.specs.declared.values.ValueType.{ValueType}
use Rattle.ep_print.specs.Joining.{with_between}

-- numbers from one to another
pub record Stretch : Type 0 where
  pub first : ℤ
  pub last : ℤ

-- a number before stretches: it makes the first one longer where that goes on from it
unfoldable pub stretch_from : ℤ → List Stretch → List Stretch
stretch_from n [] = record { first = n; last = n } ∷ []
stretch_from n (s ∷ others) =
    if int_eq (n +ℤ pos 1) s.first then record { first = n; last = s.last } ∷ others
    else record { first = n; last = n } ∷ s ∷ others

-- The runs of a list: its longest stretches of numbers, each one more than the one before.
unfoldable pub runs_of : List ℤ → List Stretch
runs_of [] = []
runs_of (n ∷ ns) = stretch_from n (runs_of ns)

-- a run is written as its number, or as its first and last number
unfoldable pub run_text : Stretch → List ℕ
run_text s =
    if int_eq s.first s.last then signed_decimal s.first
    else signed_decimal s.first ++ (codes ".." ++ signed_decimal s.last)

-- the index domain of these indices; of none it is an empty range
unfoldable pub index_domain_text : List ℤ → List ℕ
index_domain_text [] = codes "int(1..0)"
index_domain_text (n ∷ ns) = codes "int(" ++ (with_between (codes ", ") (map run_text (runs_of (n ∷ ns))) ++ codes ")")

-- a number of a scalar: a Boolean is written as a word
unfoldable pub scalar_text : Scalar → ℤ → List ℕ
scalar_text Scalar.Bool n = if int_eq n (pos 1) then codes "true" else codes "false"
scalar_text Scalar.Int n = signed_decimal n

unfoldable mutual
  -- a value whose numbers are of a scalar
  pub scalar_value_text : Scalar → ValueTree → List ℕ
  scalar_value_text s (single n) = scalar_text s n
  scalar_value_text s (matrix indices no_values) = codes "[; int(1..0)]"
  scalar_value_text s (matrix indices (value_and v vs)) =
      codes "[" ++ (with_between (codes ", ") (scalar_value_text s v ∷ scalar_value_texts s vs)
      ++ (codes "; " ++ (index_domain_text indices ++ codes "]")))

  -- the parts of a matrix
  pub scalar_value_texts : Scalar → ValueTrees → List (List ℕ)
  scalar_value_texts s no_values = []
  scalar_value_texts s (value_and v vs) = scalar_value_text s v ∷ scalar_value_texts s vs

-- a value of a type
unfoldable pub value_text : ValueType → ValueTree → List ℕ
value_text t v = scalar_value_text (scalar_of t) v
