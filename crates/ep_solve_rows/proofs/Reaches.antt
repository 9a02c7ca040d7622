-- How far nodes of each kind reach.
use Rattle.std.proofs.Common.{◌≡◌, pos, negsuc, false, List, [], ◌∷◌, refl}
use Rattle.std.specs.Prelude.{map}
use Rattle.ep_base.specs.Intervals as intervals
use Rattle.ep_base.specs.Intervals.{Interval, from_to, only, scaled}
use Rattle.ep_base.specs.Numbers as numbers
use Rattle.ep_base.specs.declared.operators.CompareOp.{CompareOp}
use Rattle.ep_base.specs.declared.operators.LexOp.{LexOp}
use Rattle.ep_ground.specs.Bounds.{node_reach, reach_at, term_reach}
use Rattle.ep_ground.specs.Nodes.{GroundNode, constant, undefined, cell, sum, product, quotient, remainder, power, absolute, least, greatest, pick, whole, safe_quotient, safe_remainder, safe_pick, compare, lex, member, negation, all_of, any_of, same_truth, all_different, counts, at_least, at_most, table}
use Rattle.ep_ground.specs.declared.cells.Cell.{Cell}

-- a cell from -2 to 3
abbrev small : Cell
small = record { name = 120 ∷ []; indices = []; truth = false; values = negsuc 1 ∷ pos 0 ∷ pos 3 ∷ [] }

-- 7, the cell, its absolute value, the greater of both, a read of both and one of none, quotients, remainders, a power with
-- the exponent 0, and Booleans
abbrev some_nodes : List GroundNode
some_nodes =
    constant (pos 7) ∷ cell 0 ∷ absolute 1 ∷ greatest (0 ∷ 1 ∷ []) ∷ pick (0 ∷ 1 ∷ []) [] (1 ∷ []) ∷ pick [] [] (1 ∷ []) ∷ safe_quotient 1 0 ∷ safe_remainder 1 0 ∷ safe_remainder 0 1 ∷ power 1 0 ∷ power 1 3
    ∷ lex LexOp.Less (0 ∷ []) (1 ∷ []) ∷ member 1 [] ∷ negation 1 ∷ all_of [] ∷ any_of (1 ∷ []) ∷ all_different (0 ∷ []) ∷ counts [] [] [] ∷ table [] [] ∷ []

reaches : map (term_reach some_nodes (small ∷ [])) (0 ∷ 1 ∷ 2 ∷ 3 ∷ 4 ∷ 5 ∷ 6 ∷ 7 ∷ 8 ∷ 9 ∷ 10 ∷ 11 ∷ 12 ∷ 13 ∷ 14 ∷ 15 ∷ 16 ∷ 17 ∷ 18 ∷ [])
    ≡ only (pos 7) ∷ from_to (negsuc 1) (pos 3) ∷ from_to (pos 0) (pos 3) ∷ only (pos 7) ∷ from_to (negsuc 1) (pos 7) ∷ only (pos 0) ∷ from_to (negsuc 2) (pos 3) ∷ from_to (pos 0) (pos 6) ∷ from_to (negsuc 1) (pos 2) ∷ only (pos 1) ∷ from_to (negsuc 7) (pos 27)
    ∷ from_to (pos 0) (pos 1) ∷ from_to (pos 0) (pos 1) ∷ from_to (pos 0) (pos 1) ∷ from_to (pos 0) (pos 1) ∷ from_to (pos 0) (pos 1) ∷ from_to (pos 0) (pos 1) ∷ from_to (pos 0) (pos 1) ∷ from_to (pos 0) (pos 1) ∷ []
unfolding term_reach reach_at node_reach scaled intervals.spanned intervals.least_or_zero intervals.greatest_or_zero intervals.product_interval intervals.sum_interval intervals.quotient_interval intervals.remainder_interval intervals.nth_power_interval intervals.has_zero intervals.hull intervals.least_interval intervals.greatest_interval intervals.absolute_interval intervals.farthest_end numbers.least_of numbers.greatest_of numbers.sum_of numbers.nth_power numbers.absolute_of
reaches = refl

-- a cell from 2 to 3, and one from -3 to 0
abbrev high_and_low : List Cell
high_and_low =
    record { name = 120 ∷ []; indices = []; truth = false; values = pos 2 ∷ pos 3 ∷ [] }
    ∷ record { name = 121 ∷ []; indices = []; truth = false; values = negsuc 2 ∷ pos 0 ∷ [] } ∷ []

-- both cells, 5 less twice the first, a sum of no part, absolute values of what is never 0 and of what may be, and remainders by what is
-- never negative and by what is never positive
abbrev more_nodes : List GroundNode
more_nodes = cell 0 ∷ cell 1 ∷ sum (pos 5) ((negsuc 1, 0) ∷ []) ∷ sum (pos 5) [] ∷ absolute 0 ∷ absolute 1 ∷ safe_remainder 1 0 ∷ safe_remainder 0 1 ∷ []

more_reaches : map (term_reach more_nodes high_and_low) (0 ∷ 1 ∷ 2 ∷ 3 ∷ 4 ∷ 5 ∷ 6 ∷ 7 ∷ [])
    ≡ from_to (pos 2) (pos 3) ∷ from_to (negsuc 2) (pos 0) ∷ from_to (negsuc 0) (pos 1) ∷ only (pos 5) ∷ from_to (pos 2) (pos 3) ∷ from_to (pos 0) (pos 3) ∷ from_to (pos 0) (pos 2) ∷ from_to (negsuc 1) (pos 0) ∷ []
unfolding term_reach reach_at node_reach scaled intervals.spanned intervals.least_or_zero intervals.greatest_or_zero intervals.product_interval intervals.sum_interval intervals.remainder_interval intervals.absolute_interval intervals.has_zero intervals.farthest_end numbers.least_of numbers.greatest_of numbers.sum_of numbers.absolute_of
more_reaches = refl

-- both cells, and nodes of the other kinds; a cell that isn't there and what has no value reach 0 alone
abbrev other_nodes : List GroundNode
other_nodes = cell 0 ∷ cell 1 ∷ product 0 1 ∷ quotient 0 1 ∷ quotient 1 0 ∷ remainder 0 1 ∷ remainder 1 0 ∷ least (0 ∷ 1 ∷ []) ∷ least [] ∷ greatest [] ∷ whole 1 (0 ∷ []) ∷ safe_pick (0 ∷ 1 ∷ []) [] [] ∷ safe_pick [] [] (0 ∷ []) ∷ undefined ∷ cell 7 ∷ power 0 2 ∷ power 1 2 ∷ power 1 3 ∷ compare CompareOp.Less 0 1 ∷ same_truth 0 1 ∷ at_least [] [] [] ∷ at_most [] [] [] ∷ []

other_reaches : map (term_reach other_nodes high_and_low) (2 ∷ 3 ∷ 4 ∷ 5 ∷ 6 ∷ 7 ∷ 8 ∷ 9 ∷ 10 ∷ 11 ∷ 12 ∷ 13 ∷ 14 ∷ 15 ∷ 16 ∷ 17 ∷ 18 ∷ 19 ∷ 20 ∷ 21 ∷ [])
    ≡ from_to (negsuc 8) (pos 0) ∷ from_to (negsuc 2) (pos 3) ∷ from_to (negsuc 2) (pos 3) ∷ from_to (negsuc 1) (pos 0) ∷ from_to (pos 0) (pos 2) ∷ from_to (negsuc 2) (pos 0) ∷ from_to (pos 0) (pos 0) ∷ from_to (pos 0) (pos 0) ∷ from_to (negsuc 2) (pos 0) ∷ from_to (negsuc 2) (pos 3) ∷ from_to (pos 0) (pos 0) ∷ from_to (pos 0) (pos 0) ∷ from_to (pos 0) (pos 0) ∷ from_to (pos 4) (pos 9) ∷ from_to (pos 0) (pos 9) ∷ from_to (negsuc 26) (pos 0) ∷ from_to (pos 0) (pos 1) ∷ from_to (pos 0) (pos 1) ∷ from_to (pos 0) (pos 1) ∷ from_to (pos 0) (pos 1) ∷ []
unfolding term_reach reach_at node_reach scaled intervals.spanned intervals.least_or_zero intervals.greatest_or_zero intervals.product_interval intervals.sum_interval intervals.quotient_interval intervals.remainder_interval intervals.least_interval intervals.greatest_interval intervals.hull intervals.nth_power_interval intervals.has_zero intervals.farthest_end numbers.least_of numbers.greatest_of numbers.sum_of numbers.nth_power numbers.absolute_of
other_reaches = refl
