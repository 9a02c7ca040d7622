-- How far the terms of a ground reach, whatever values its cells have.
use Rattle.std.specs.Prelude.{ℕ, ℤ, pos, List, [], ◌∷◌, ◌++◌, map, fold, slice_index_or}
use Rattle.std.specs.List.{All}
use Rattle.ep_base.specs.Intervals.{Interval, IsWithinReach, absolute_interval, greatest_interval, hull, least_interval, nth_power_interval, only, product_interval, quotient_interval, remainder_interval, scaled, spanned, sum_interval, truth_interval}
use Rattle.ep_base.specs.Reads.{IsWithinNumbers}
use Rattle.ep_ground.specs.Nodes.{GroundNode, constant, undefined, cell, sum, product, quotient, remainder, power, absolute, least, greatest, pick, whole, safe_quotient, safe_remainder, safe_pick, coefficients_of}
use Rattle.ep_ground.specs.Grounds.{GroundState, IsTermReached}
use Rattle.ep_ground.specs.declared.cells.Cell.{Cell}

-- The interval of a node's values, where cells have these values and each term has such an interval.
unfoldable pub node_reach : List Cell → (ℕ → Interval) → GroundNode → Interval
node_reach cells reach (constant n) = only n
node_reach cells reach undefined = only (pos 0)
node_reach cells reach (cell k) = spanned (slice_index_or (map (λ one. one.values) cells) k [])
node_reach cells reach (sum c parts) = sum_interval (only c ∷ map (λ p. scaled p.0 (reach p.1)) parts)
node_reach cells reach (product a b) = product_interval (reach a) (reach b)
node_reach cells reach (quotient a b) = quotient_interval (reach a)
node_reach cells reach (remainder a b) = remainder_interval (reach b)
node_reach cells reach (power a n) = nth_power_interval (reach a) n
node_reach cells reach (absolute a) = absolute_interval (reach a)
node_reach cells reach (least ts) = least_interval (map reach ts)
node_reach cells reach (greatest ts) = greatest_interval (map reach ts)
node_reach cells reach (pick ts keys indices) = hull (map reach ts)
node_reach cells reach (whole a ts) = reach a
node_reach cells reach (safe_quotient a b) = quotient_interval (reach a)
node_reach cells reach (safe_remainder a b) = remainder_interval (reach b)
node_reach cells reach (safe_pick ts keys indices) = hull (map reach ts)
node_reach cells reach _ = truth_interval

-- what a list says of a term, and [0, 0] of one that isn't there
unfoldable pub reach_at : List Interval → ℕ → Interval
reach_at reaches t = slice_index_or reaches t (only (pos 0))

-- the reach of a term among these nodes, over these cells
unfoldable pub term_reach : List GroundNode → List Cell → ℕ → Interval
term_reach nodes cells t =
    reach_at (fold (λ reaches node. reaches ++ node_reach cells (reach_at reaches) node ∷ []) [] nodes) t

-- Each value of a cell, and each reach and each coefficient of a term that the clauses and the objective lead to, lies
-- within the numbers that the stages compute with.
pub record IsBounded (g : GroundState) : Type 0 where
  pub cells : All (λ one. All IsWithinNumbers one.values) g.cells
  pub reaches : (t : ℕ) → IsTermReached g t → IsWithinReach (term_reach g.nodes g.cells t)
  pub coefficients : (t : ℕ) → IsTermReached g t → All IsWithinNumbers (coefficients_of (slice_index_or g.nodes t undefined))
