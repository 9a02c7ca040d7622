-- Least and greatest parts, as comparisons of each part, and of one of them, with a number.
use Rattle.std.specs.Prelude.{ℤ, Bool, List, ◌&&◌, ◌||◌, Option}
use Rattle.std.specs.List.{list_all, list_any}
use Rattle.ep_base.specs.Numbers.{compare_holds, contrary_comparison, greatest_of, least_of}
use Rattle.ep_base.specs.declared.operators.CompareOp.{CompareOp}
use Rattle.enc_arith.specs.declared.sides.Side.{Side}

-- the least or the greatest of some numbers
unfoldable pub extreme_of : Side → List ℤ → Option ℤ
extreme_of Side.Least ns = least_of ns
extreme_of Side.Greatest ns = greatest_of ns

-- how each number compares with the least or greatest one
unfoldable pub within_of : Side → CompareOp
within_of Side.Least = CompareOp.AtLeast
within_of Side.Greatest = CompareOp.AtMost

-- how one of the numbers compares with it
unfoldable pub reached_of : Side → CompareOp
reached_of Side.Least = CompareOp.AtMost
reached_of Side.Greatest = CompareOp.AtLeast

-- whether all of some numbers compare so with another
unfoldable pub all_compare : CompareOp → List ℤ → ℤ → Bool
all_compare op ns n = list_all (λ m. compare_holds op m n) ns

-- whether one of some numbers compares so with another
unfoldable pub any_compares : CompareOp → List ℤ → ℤ → Bool
any_compares op ns n = list_any (λ m. compare_holds op m n) ns

-- whether all of some numbers are within a number, and one of them reaches it
unfoldable pub is_extreme : Side → List ℤ → ℤ → Bool
is_extreme side ns n = all_compare (within_of side) ns n && any_compares (reached_of side) ns n

-- What a level tells of a number that is the least or greatest one: where it is within the level each of the others is, and
-- where it reaches the level one of them does.
unfoldable pub level_holds : Side → List ℤ → ℤ → ℤ → Bool
level_holds side ns n level =
    (compare_holds (contrary_comparison (within_of side)) n level || all_compare (within_of side) ns level)
    && (compare_holds (contrary_comparison (reached_of side)) n level || any_compares (reached_of side) ns level)
