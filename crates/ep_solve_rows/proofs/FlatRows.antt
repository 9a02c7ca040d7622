-- When each kind of constraint holds, as the checker computes it.
use Rattle.std.proofs.Common.{◌≡◌, ℤ, pos, negsuc, Bool, true, false, List, [], ◌∷◌, Some, None, refl}
use Rattle.std.specs.Prelude.{map}
use Rattle.ep_base.specs.Numbers as numbers
use Rattle.ep_base.specs.Reads as reads
use Rattle.ep_base.specs.declared.operators.CompareOp.{CompareOp}
use Rattle.ep_base.specs.declared.operators.LexOp.{LexOp}
use Rattle.ep_flat.specs.Cons.{FlatKind, clause, all_of, same_truth, linear, member, product, quotient, remainder, power, absolute, least, greatest, element, all_different, counts, at_least, at_most, table, lex, con_holds, is_as_said, is_value, kind_holds, number_at, numbers_of_vars}

-- the variables 0 to 5: 7, -2, 0, 1, 5 and 2
abbrev six : List ℤ
six = pos 7 ∷ negsuc 1 ∷ pos 0 ∷ pos 1 ∷ pos 5 ∷ pos 2 ∷ []

-- whether each holds, where the variables are so
abbrev hold : List FlatKind → List Bool
hold kinds = map (λ kind. con_holds six (record { truth = None; kind = kind })) kinds

-- clauses, truth values: a variable is true where it is 1, so one that is 7 isn't
truths :
    hold (clause ((true, 0) ∷ (true, 3) ∷ []) ∷ clause ((true, 0) ∷ []) ∷ clause ((false, 0) ∷ []) ∷ clause ((false, 3) ∷ []) ∷ clause []
    ∷ all_of (3 ∷ 3 ∷ []) ∷ all_of (3 ∷ 0 ∷ []) ∷ all_of [] ∷ same_truth 0 2 ∷ same_truth 3 3 ∷ same_truth 3 0 ∷ [])
    ≡ true ∷ false ∷ true ∷ false ∷ false ∷ true ∷ false ∷ true ∷ true ∷ true ∷ false ∷ []
unfolding con_holds is_as_said is_value kind_holds number_at numbers_of_vars numbers.quotient numbers.remainder numbers.floor_over numbers.nth_power numbers.absolute_of numbers.least_of numbers.greatest_of numbers.has_number numbers.is_one numbers.of_bool numbers.same_numbers numbers.compare_holds numbers.lex_holds numbers.lex_less numbers.are_different numbers.counts_hold numbers.times_in numbers.is_row_of numbers.sum_of reads.picked reads.safe_picked reads.first_or_zero reads.safe_quotient reads.safe_remainder reads.weighted_sum reads.same_bool
truths = refl

-- sums and sets: 2 * 7 + 3 * -2 is 8; no part; no number
sums :
    hold (linear ((pos 2, 0) ∷ (pos 3, 1) ∷ []) CompareOp.Equal (pos 8) ∷ linear ((pos 2, 0) ∷ (pos 3, 1) ∷ []) CompareOp.Less (pos 8) ∷ linear ((negsuc 0, 0) ∷ []) CompareOp.AtMost (negsuc 6) ∷ linear [] CompareOp.AtMost (pos 0) ∷ linear [] CompareOp.Less (pos 0)
    ∷ member 4 (pos 3 ∷ pos 5 ∷ []) ∷ member 4 [] ∷ [])
    ≡ true ∷ false ∷ true ∷ true ∷ false ∷ true ∷ false ∷ []
unfolding con_holds is_as_said is_value kind_holds number_at numbers_of_vars numbers.quotient numbers.remainder numbers.floor_over numbers.nth_power numbers.absolute_of numbers.least_of numbers.greatest_of numbers.has_number numbers.is_one numbers.of_bool numbers.same_numbers numbers.compare_holds numbers.lex_holds numbers.lex_less numbers.are_different numbers.counts_hold numbers.times_in numbers.is_row_of numbers.sum_of reads.picked reads.safe_picked reads.first_or_zero reads.safe_quotient reads.safe_remainder reads.weighted_sum reads.same_bool
sums = refl

-- functions, the result first: products, quotients and remainders, also by 0 and by a negative number, powers with an
-- exponent, and absolute values
functions :
    map (λ kind. con_holds (negsuc 2 ∷ pos 7 ∷ negsuc 1 ∷ pos 0 ∷ pos 14 ∷ []) (record { truth = None; kind = kind }))
    (product 4 1 2 ∷ product 3 1 3 ∷ quotient 3 1 2 ∷ quotient 3 1 3 ∷ remainder 3 1 3 ∷ remainder 2 1 0 ∷ remainder 1 1 0 ∷ power 3 1 1 ∷ power 1 1 1 ∷ power 1 1 0 ∷ absolute 1 1 ∷ absolute 2 2 ∷ [])
    ≡ false ∷ true ∷ false ∷ true ∷ true ∷ true ∷ false ∷ false ∷ true ∷ false ∷ true ∷ false ∷ []
unfolding con_holds is_as_said is_value kind_holds number_at numbers_of_vars numbers.quotient numbers.remainder numbers.floor_over numbers.nth_power numbers.absolute_of numbers.least_of numbers.greatest_of numbers.has_number numbers.is_one numbers.of_bool numbers.same_numbers numbers.compare_holds numbers.lex_holds numbers.lex_less numbers.are_different numbers.counts_hold numbers.times_in numbers.is_row_of numbers.sum_of reads.picked reads.safe_picked reads.first_or_zero reads.safe_quotient reads.safe_remainder reads.weighted_sum reads.same_bool
functions = refl

-- one power with the exponent 0, and a quotient and remainders of negative numbers: (-3, 5) and (3, -5) and (-3, -5), and
-- -7 / 2
negatives :
    con_holds (pos 1 ∷ pos 0 ∷ []) (record { truth = None; kind = power 0 1 0 })
    ∷ con_holds (pos 2 ∷ negsuc 2 ∷ pos 5 ∷ []) (record { truth = None; kind = remainder 0 1 2 })
    ∷ con_holds (negsuc 1 ∷ pos 3 ∷ negsuc 4 ∷ []) (record { truth = None; kind = remainder 0 1 2 })
    ∷ con_holds (negsuc 2 ∷ negsuc 2 ∷ negsuc 4 ∷ []) (record { truth = None; kind = remainder 0 1 2 })
    ∷ con_holds (negsuc 3 ∷ negsuc 6 ∷ pos 2 ∷ []) (record { truth = None; kind = quotient 0 1 2 })
    ∷ []
    ≡ true ∷ true ∷ true ∷ true ∷ true ∷ []
unfolding con_holds is_as_said is_value kind_holds number_at numbers_of_vars numbers.quotient numbers.remainder numbers.floor_over numbers.nth_power numbers.absolute_of numbers.least_of numbers.greatest_of numbers.has_number numbers.is_one numbers.of_bool numbers.same_numbers numbers.compare_holds numbers.lex_holds numbers.lex_less numbers.are_different numbers.counts_hold numbers.times_in numbers.is_row_of numbers.sum_of reads.picked reads.safe_picked reads.first_or_zero reads.safe_quotient reads.safe_remainder reads.weighted_sum reads.same_bool
negatives = refl

-- least and greatest: of some, and of none
ends :
    hold (least 1 (0 ∷ 1 ∷ 2 ∷ []) ∷ least 2 (0 ∷ 1 ∷ 2 ∷ []) ∷ least 2 [] ∷ greatest 0 (0 ∷ 1 ∷ []) ∷ greatest 1 (0 ∷ 1 ∷ []) ∷ greatest 2 [] ∷ [])
    ≡ true ∷ false ∷ false ∷ true ∷ false ∷ false ∷ []
unfolding con_holds is_as_said is_value kind_holds number_at numbers_of_vars numbers.quotient numbers.remainder numbers.floor_over numbers.nth_power numbers.absolute_of numbers.least_of numbers.greatest_of numbers.has_number numbers.is_one numbers.of_bool numbers.same_numbers numbers.compare_holds numbers.lex_holds numbers.lex_less numbers.are_different numbers.counts_hold numbers.times_in numbers.is_row_of numbers.sum_of reads.picked reads.safe_picked reads.first_or_zero reads.safe_quotient reads.safe_remainder reads.weighted_sum reads.same_bool
ends = refl

-- elements: by a key, by no key, by a key without a part, and of no part
elements :
    hold (element 1 (0 ∷ 1 ∷ []) ((pos 5 ∷ []) ∷ (pos 2 ∷ []) ∷ []) (5 ∷ []) ∷ element 0 (0 ∷ 1 ∷ []) ((pos 5 ∷ []) ∷ (pos 2 ∷ []) ∷ []) (0 ∷ []) ∷ element 1 (0 ∷ 1 ∷ []) ((pos 5 ∷ []) ∷ (pos 2 ∷ []) ∷ []) (0 ∷ [])
    ∷ element 0 (0 ∷ []) ((pos 5 ∷ []) ∷ (pos 2 ∷ []) ∷ []) (5 ∷ []) ∷ element 2 [] [] [] ∷ element 0 [] [] [] ∷ [])
    ≡ true ∷ true ∷ false ∷ true ∷ true ∷ false ∷ []
unfolding con_holds is_as_said is_value kind_holds number_at numbers_of_vars numbers.quotient numbers.remainder numbers.floor_over numbers.nth_power numbers.absolute_of numbers.least_of numbers.greatest_of numbers.has_number numbers.is_one numbers.of_bool numbers.same_numbers numbers.compare_holds numbers.lex_holds numbers.lex_less numbers.are_different numbers.counts_hold numbers.times_in numbers.is_row_of numbers.sum_of reads.picked reads.safe_picked reads.first_or_zero reads.safe_quotient reads.safe_remainder reads.weighted_sum reads.same_bool
elements = refl

-- counts, rows and orders: right, wrong, of no part, and of other lengths
counted :
    hold (all_different (0 ∷ 1 ∷ []) ∷ all_different (0 ∷ 0 ∷ []) ∷ all_different [] ∷ counts (0 ∷ 1 ∷ []) (pos 7 ∷ pos 8 ∷ []) (3 ∷ 2 ∷ []) ∷ counts (0 ∷ 0 ∷ []) (pos 7 ∷ []) (3 ∷ []) ∷ counts (0 ∷ []) (pos 7 ∷ []) []
    ∷ at_least (0 ∷ 0 ∷ []) (pos 1 ∷ []) (pos 7 ∷ []) ∷ at_least (0 ∷ []) (pos 2 ∷ []) (pos 7 ∷ []) ∷ at_least (0 ∷ []) (pos 0 ∷ []) [] ∷ at_most (0 ∷ []) (pos 1 ∷ []) (pos 7 ∷ []) ∷ at_most (0 ∷ 0 ∷ []) (pos 1 ∷ []) (pos 7 ∷ []) ∷ at_most [] [] (pos 1 ∷ [])
    ∷ table (0 ∷ 3 ∷ []) ((pos 7 ∷ pos 1 ∷ []) ∷ []) ∷ table (0 ∷ []) ((pos 1 ∷ []) ∷ []) ∷ table (0 ∷ []) [] ∷ table (0 ∷ []) ((pos 7 ∷ []) ∷ [] ∷ []) ∷ table [] ([] ∷ [])
    ∷ lex LexOp.Less (0 ∷ []) (0 ∷ 1 ∷ []) ∷ lex LexOp.Less (0 ∷ []) (1 ∷ []) ∷ lex LexOp.AtLeast [] [] ∷ [])
    ≡ true ∷ false ∷ true ∷ true ∷ false ∷ false
    ∷ true ∷ false ∷ false ∷ true ∷ false ∷ false
    ∷ true ∷ false ∷ false ∷ false ∷ true
    ∷ true ∷ false ∷ true ∷ []
unfolding con_holds is_as_said is_value kind_holds number_at numbers_of_vars numbers.quotient numbers.remainder numbers.floor_over numbers.nth_power numbers.absolute_of numbers.least_of numbers.greatest_of numbers.has_number numbers.is_one numbers.of_bool numbers.same_numbers numbers.compare_holds numbers.lex_holds numbers.lex_less numbers.are_different numbers.counts_hold numbers.times_in numbers.is_row_of numbers.sum_of reads.picked reads.safe_picked reads.first_or_zero reads.safe_quotient reads.safe_remainder reads.weighted_sum reads.same_bool
counted = refl

-- with a variable that says whether it holds: 1 exactly where it does, else 0, and neither where it is 7
said :
    map (λ t. con_holds six (record { truth = Some t; kind = linear ((pos 1, 0) ∷ []) CompareOp.Equal (pos 7) })) (3 ∷ 2 ∷ 0 ∷ [])
    ≡ true ∷ false ∷ false ∷ []
unfolding con_holds is_as_said is_value kind_holds number_at numbers_of_vars numbers.quotient numbers.remainder numbers.floor_over numbers.nth_power numbers.absolute_of numbers.least_of numbers.greatest_of numbers.has_number numbers.is_one numbers.of_bool numbers.same_numbers numbers.compare_holds numbers.lex_holds numbers.lex_less numbers.are_different numbers.counts_hold numbers.times_in numbers.is_row_of numbers.sum_of reads.picked reads.safe_picked reads.first_or_zero reads.safe_quotient reads.safe_remainder reads.weighted_sum reads.same_bool
said = refl

not_said :
    map (λ t. con_holds six (record { truth = Some t; kind = all_different (0 ∷ 0 ∷ []) })) (3 ∷ 2 ∷ 0 ∷ [])
    ≡ false ∷ true ∷ false ∷ []
unfolding con_holds is_as_said is_value kind_holds number_at numbers_of_vars numbers.quotient numbers.remainder numbers.floor_over numbers.nth_power numbers.absolute_of numbers.least_of numbers.greatest_of numbers.has_number numbers.is_one numbers.of_bool numbers.same_numbers numbers.compare_holds numbers.lex_holds numbers.lex_less numbers.are_different numbers.counts_hold numbers.times_in numbers.is_row_of numbers.sum_of reads.picked reads.safe_picked reads.first_or_zero reads.safe_quotient reads.safe_remainder reads.weighted_sum reads.same_bool
not_said = refl

-- 2 x + 3 y = 7 with x and y over 0..3: (2, 1) alone of (2, 1), (1, 2) and (3, 0), and the variable that says so
one_equation :
    map (λ values. con_holds values (record { truth = None; kind = linear ((pos 2, 0) ∷ (pos 3, 1) ∷ []) CompareOp.Equal (pos 7) })) ((pos 2 ∷ pos 1 ∷ []) ∷ (pos 1 ∷ pos 2 ∷ []) ∷ (pos 3 ∷ pos 0 ∷ []) ∷ [])
    ≡ true ∷ false ∷ false ∷ []
unfolding con_holds is_as_said is_value kind_holds number_at numbers_of_vars numbers.quotient numbers.remainder numbers.floor_over numbers.nth_power numbers.absolute_of numbers.least_of numbers.greatest_of numbers.has_number numbers.is_one numbers.of_bool numbers.same_numbers numbers.compare_holds numbers.lex_holds numbers.lex_less numbers.are_different numbers.counts_hold numbers.times_in numbers.is_row_of numbers.sum_of reads.picked reads.safe_picked reads.first_or_zero reads.safe_quotient reads.safe_remainder reads.weighted_sum reads.same_bool
one_equation = refl
