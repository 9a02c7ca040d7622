-- Worked intervals, and lists that are compared with counts and rows, computed by the checker.
use Rattle.std.proofs.Common.{◌≡◌, pos, negsuc, true, false, [], ◌∷◌, Some, None, refl}
use Rattle.std.specs.Prelude.{map}
use Rattle.ep_base.specs.Intervals.{Interval, absolute_interval, farthest_end, from_to, greatest_interval, has_zero, hull, least_interval, negated, nth_power_interval, only, power_interval, product_interval, products_interval, quotient_interval, remainder_interval, spanned, sum_cost, sum_interval, width, least_or_zero, greatest_or_zero}
use Rattle.ep_base.specs.Numbers.{absolute_of, compare_holds, counts_hold, greatest_of, is_row_of, least_of, nth_power, same_numbers, sum_of, times_in}
use Rattle.ep_base.specs.declared.operators.CompareOp.{CompareOp}

abbrev low : Interval
low = from_to (negsuc 2) (pos 2)

abbrev high : Interval
high = from_to (pos 2) (pos 4)

-- -(x), x + y, x * y, x / y, x % y, y % x, |x|, |y|, min, max, either one, and x * y * y
of_two : negated low ∷ sum_interval (low ∷ high ∷ []) ∷ product_interval low high ∷ quotient_interval low ∷ remainder_interval high ∷ remainder_interval low ∷ absolute_interval low ∷ absolute_interval high ∷ least_interval (low ∷ high ∷ []) ∷ greatest_interval (low ∷ high ∷ []) ∷ hull (low ∷ high ∷ []) ∷ products_interval (low ∷ high ∷ high ∷ []) ∷ []
    ≡ from_to (negsuc 1) (pos 3) ∷ from_to (negsuc 0) (pos 6) ∷ from_to (negsuc 11) (pos 8) ∷ from_to (negsuc 2) (pos 3) ∷ from_to (pos 0) (pos 3) ∷ from_to (negsuc 1) (pos 2) ∷ from_to (pos 0) (pos 3) ∷ from_to (pos 2) (pos 4) ∷ from_to (negsuc 2) (pos 2) ∷ from_to (pos 2) (pos 4) ∷ from_to (negsuc 2) (pos 4) ∷ from_to (negsuc 47) (pos 32) ∷ []
unfolding negated sum_interval product_interval quotient_interval remainder_interval absolute_interval least_interval greatest_interval hull products_interval spanned least_or_zero greatest_or_zero farthest_end has_zero absolute_of sum_of least_of greatest_of
of_two = refl

-- of no part: a sum, a product, the least, the greatest, either one, and a cell without a value
of_none : sum_interval [] ∷ products_interval [] ∷ least_interval [] ∷ greatest_interval [] ∷ hull [] ∷ spanned [] ∷ []
    ≡ only (pos 0) ∷ only (pos 1) ∷ only (pos 0) ∷ only (pos 0) ∷ only (pos 0) ∷ only (pos 0) ∷ []
unfolding sum_interval products_interval least_interval greatest_interval hull spanned least_or_zero greatest_or_zero sum_of least_of greatest_of
of_none = refl

-- remainders by what is never positive, and by 0 alone
remainders : remainder_interval (from_to (negsuc 4) (negsuc 1)) ∷ remainder_interval (only (pos 0)) ∷ []
    ≡ from_to (negsuc 3) (pos 0) ∷ only (pos 0) ∷ []
unfolding remainder_interval farthest_end absolute_of
remainders = refl

-- x ** 0, x ** 1, x ** 2, x ** 3 and y ** 2, and powers by -1 and by nothing
powers : map (nth_power_interval low) (0 ∷ 1 ∷ 2 ∷ 3 ∷ []) ≡ only (pos 1) ∷ low ∷ from_to (pos 0) (pos 9) ∷ from_to (negsuc 26) (pos 8) ∷ []
unfolding nth_power_interval spanned least_or_zero greatest_or_zero has_zero nth_power least_of greatest_of
powers = refl

more_powers : power_interval high (Some (pos 2)) ∷ power_interval high (Some (negsuc 0)) ∷ power_interval high None ∷ []
    ≡ from_to (pos 4) (pos 16) ∷ only (pos 0) ∷ only (pos 0) ∷ []
unfolding power_interval nth_power_interval spanned least_or_zero greatest_or_zero has_zero nth_power least_of greatest_of
more_powers = refl

widths : map width (low ∷ high ∷ only (pos 7) ∷ from_to (pos 1) (pos 0) ∷ from_to (pos 1) (negsuc 4) ∷ []) ≡ 6 ∷ 3 ∷ 1 ∷ 0 ∷ 0 ∷ []
unfolding width
widths = refl

-- a small sum costs its width times the spreads; a wide one eight times both together, and 1,024 for each part
costs : sum_cost 19 20 2 ∷ sum_cost 7 3 0 ∷ sum_cost 100000 20000 2 ∷ [] ≡ 380 ∷ 21 ∷ 962048 ∷ []
unfolding sum_cost
costs = refl

-- in 1, 1, 2: twice 1 and once 2; twice 1 and twice 2; counts missing; values missing; nothing asked
counts : counts_hold CompareOp.Equal (pos 1 ∷ pos 1 ∷ pos 2 ∷ []) (pos 1 ∷ pos 2 ∷ []) (pos 2 ∷ pos 1 ∷ [])
    ∷ counts_hold CompareOp.Equal (pos 1 ∷ pos 1 ∷ pos 2 ∷ []) (pos 1 ∷ pos 2 ∷ []) (pos 2 ∷ pos 2 ∷ [])
    ∷ counts_hold CompareOp.AtLeast (pos 1 ∷ []) (pos 1 ∷ pos 2 ∷ []) (pos 0 ∷ [])
    ∷ counts_hold CompareOp.AtMost (pos 1 ∷ []) [] (pos 0 ∷ [])
    ∷ counts_hold CompareOp.Equal (pos 1 ∷ []) [] []
    ∷ []
    ≡ Some true ∷ Some false ∷ None ∷ None ∷ Some true ∷ []
unfolding counts_hold compare_holds times_in
counts = refl

-- 1, 2 among rows: there; not there; beside a longer row; among none
rows : is_row_of ((pos 3 ∷ pos 4 ∷ []) ∷ (pos 1 ∷ pos 2 ∷ []) ∷ []) (pos 1 ∷ pos 2 ∷ [])
    ∷ is_row_of ((pos 3 ∷ pos 4 ∷ []) ∷ []) (pos 1 ∷ pos 2 ∷ [])
    ∷ is_row_of ((pos 1 ∷ pos 2 ∷ []) ∷ (pos 1 ∷ pos 2 ∷ pos 3 ∷ []) ∷ []) (pos 1 ∷ pos 2 ∷ [])
    ∷ is_row_of [] (pos 1 ∷ pos 2 ∷ [])
    ∷ []
    ≡ Some true ∷ Some false ∷ None ∷ Some false ∷ []
unfolding is_row_of same_numbers
rows = refl
