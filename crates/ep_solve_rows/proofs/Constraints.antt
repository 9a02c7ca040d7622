-- When constraints hold, at the edges of their definitions, and with a variable that says whether they do.
use Rattle.std.proofs.Common.{◌≡◌, ℤ, pos, negsuc, Bool, true, false, List, [], ◌∷◌, ◌++◌, Some, None, refl}
use Rattle.std.specs.Prelude.{map}
use Rattle.ep_base.specs.Numbers as numbers
use Rattle.ep_base.specs.Reads as reads
use Rattle.ep_base.specs.declared.operators.CompareOp.{CompareOp}
use Rattle.ep_base.specs.declared.operators.LexOp.{LexOp}
use Rattle.ep_flat.specs.Cons.{FlatKind, clause, all_of, same_truth, linear, member, product, quotient, remainder, power, absolute, least, greatest, element, all_different, counts, at_least, at_most, table, lex, con_holds, is_as_said, is_value, kind_holds, number_at, numbers_of_vars}

-- the variables 0 to 6: 7, -2, 0, 1, -14, 49 and 2
abbrev seven : List ℤ
seven = pos 7 ∷ negsuc 1 ∷ pos 0 ∷ pos 1 ∷ negsuc 13 ∷ pos 49 ∷ pos 2 ∷ []

-- whether each holds
abbrev hold : List FlatKind → List Bool
hold kinds = map (λ kind. con_holds seven (record { truth = None; kind = kind })) kinds

-- whether the variable 3, which is 1, says rightly whether each holds; then the variable 2, which is 0; then the variable 0,
-- which is 7 and says nothing
abbrev said_true : List FlatKind → List Bool
said_true kinds = map (λ kind. con_holds seven (record { truth = Some 3; kind = kind })) kinds

abbrev said_false : List FlatKind → List Bool
said_false kinds = map (λ kind. con_holds seven (record { truth = Some 2; kind = kind })) kinds

abbrev said_nothing : List FlatKind → List Bool
said_nothing kinds = map (λ kind. con_holds seven (record { truth = Some 0; kind = kind })) kinds

-- 7 * -2 is -14, and -14 over -2 is 7 with the remainder 0; 7 to the power 2 is 49; |-2| is 2; the others are wrong
functions :
    hold (product 4 0 1 ∷ product 5 0 1 ∷ quotient 0 4 1 ∷ quotient 1 0 1 ∷ remainder 2 4 1 ∷ power 5 0 2 ∷ power 0 0 2 ∷ power 0 0 1 ∷ absolute 6 1 ∷ absolute 1 1 ∷ [])
    ≡ true ∷ false ∷ true ∷ false ∷ true ∷ true ∷ false ∷ true ∷ true ∷ false ∷ []
unfolding con_holds is_as_said is_value kind_holds number_at numbers_of_vars numbers.quotient numbers.remainder numbers.floor_over numbers.nth_power numbers.absolute_of reads.safe_quotient reads.safe_remainder
functions = refl

-- of two equal keys the first one counts
elements :
    hold (element 0 (0 ∷ 1 ∷ []) ((pos 1 ∷ []) ∷ (pos 1 ∷ []) ∷ []) (3 ∷ []) ∷ element 1 (0 ∷ 1 ∷ []) ((pos 1 ∷ []) ∷ (pos 1 ∷ []) ∷ []) (3 ∷ []) ∷ [])
    ≡ true ∷ false ∷ []
unfolding con_holds is_as_said is_value kind_holds number_at numbers_of_vars numbers.same_numbers reads.picked reads.safe_picked reads.first_or_zero
elements = refl

-- orders of lists: the first difference decides, and a list is greater than one with which it begins
orders :
    hold (lex LexOp.AtMost (1 ∷ []) (1 ∷ 0 ∷ []) ∷ lex LexOp.AtMost (1 ∷ 0 ∷ []) (1 ∷ []) ∷ lex LexOp.Greater (1 ∷ 0 ∷ []) (1 ∷ []) ∷ lex LexOp.Greater (0 ∷ []) (1 ∷ 0 ∷ []) ∷ lex LexOp.Greater (1 ∷ []) (1 ∷ []) ∷ [])
    ≡ true ∷ false ∷ true ∷ true ∷ false ∷ []
unfolding con_holds is_as_said is_value kind_holds number_at numbers_of_vars numbers.lex_holds numbers.lex_less numbers.same_numbers
orders = refl

-- a number that stands twice among the counted ones is counted for each
counted_twice :
    hold (counts (3 ∷ 0 ∷ []) (pos 1 ∷ pos 1 ∷ []) (3 ∷ 3 ∷ []) ∷ counts (3 ∷ 0 ∷ []) (pos 1 ∷ pos 1 ∷ []) (3 ∷ 2 ∷ []) ∷ [])
    ≡ true ∷ false ∷ []
unfolding con_holds is_as_said is_value kind_holds number_at numbers_of_vars numbers.counts_hold numbers.times_in numbers.compare_holds
counted_twice = refl

-- kinds that hold, and then one that doesn't
abbrev holding : List FlatKind
holding =
    clause ((false, 0) ∷ []) ∷ all_of (3 ∷ []) ∷ same_truth 0 2 ∷ linear ((pos 2, 0) ∷ []) CompareOp.Equal (pos 14) ∷ member 1 (negsuc 1 ∷ []) ∷ product 4 0 1 ∷ quotient 0 4 1 ∷ remainder 2 4 1 ∷ power 5 0 2 ∷ absolute 6 1
    ∷ least 1 (0 ∷ 1 ∷ []) ∷ greatest 0 (0 ∷ 1 ∷ []) ∷ element 0 (0 ∷ []) ((pos 1 ∷ []) ∷ []) (3 ∷ []) ∷ all_different (0 ∷ 1 ∷ []) ∷ counts (3 ∷ []) (pos 1 ∷ []) (3 ∷ []) ∷ at_least (3 ∷ []) (pos 1 ∷ []) (pos 1 ∷ []) ∷ at_most (3 ∷ []) (pos 1 ∷ []) (pos 1 ∷ []) ∷ table (0 ∷ []) ((pos 7 ∷ []) ∷ []) ∷ lex LexOp.Less (1 ∷ []) (0 ∷ []) ∷ []

abbrev failing : List FlatKind
failing =
    clause ((true, 0) ∷ []) ∷ all_of (0 ∷ []) ∷ same_truth 3 2 ∷ linear ((pos 2, 0) ∷ []) CompareOp.Equal (pos 13) ∷ member 1 [] ∷ product 5 0 1 ∷ quotient 1 0 1 ∷ remainder 3 4 1 ∷ power 0 0 2 ∷ absolute 1 1
    ∷ least 0 (0 ∷ 1 ∷ []) ∷ greatest 1 (0 ∷ 1 ∷ []) ∷ element 1 (0 ∷ []) ((pos 1 ∷ []) ∷ []) (3 ∷ []) ∷ all_different (0 ∷ 0 ∷ []) ∷ counts (3 ∷ []) (pos 1 ∷ []) (2 ∷ []) ∷ at_least (3 ∷ []) (pos 2 ∷ []) (pos 1 ∷ []) ∷ at_most (3 ∷ []) (pos 0 ∷ []) (pos 1 ∷ []) ∷ table (0 ∷ []) [] ∷ lex LexOp.Less (0 ∷ []) (1 ∷ []) ∷ []

alone : hold holding ++ hold failing
    ≡ map (λ _. true) holding ++ map (λ _. false) failing
unfolding con_holds is_as_said is_value kind_holds number_at numbers_of_vars numbers.quotient numbers.remainder numbers.floor_over numbers.nth_power numbers.absolute_of numbers.least_of numbers.greatest_of numbers.has_number numbers.is_one numbers.of_bool numbers.same_numbers numbers.compare_holds numbers.lex_holds numbers.lex_less numbers.are_different numbers.counts_hold numbers.times_in numbers.is_row_of numbers.sum_of reads.picked reads.safe_picked reads.first_or_zero reads.safe_quotient reads.safe_remainder reads.weighted_sum reads.same_bool
alone = refl

-- a variable that is 1 says rightly of those that hold, one that is 0 of those that don't, and one that is 7 of none
said : said_true holding ++ (said_true failing ++ (said_false holding ++ (said_false failing ++ (said_nothing holding ++ said_nothing failing))))
    ≡ map (λ _. true) holding ++ (map (λ _. false) failing ++ (map (λ _. false) holding ++ (map (λ _. true) failing ++ (map (λ _. false) holding ++ map (λ _. false) failing))))
unfolding con_holds is_as_said is_value kind_holds number_at numbers_of_vars numbers.quotient numbers.remainder numbers.floor_over numbers.nth_power numbers.absolute_of numbers.least_of numbers.greatest_of numbers.has_number numbers.is_one numbers.of_bool numbers.same_numbers numbers.compare_holds numbers.lex_holds numbers.lex_less numbers.are_different numbers.counts_hold numbers.times_in numbers.is_row_of numbers.sum_of reads.picked reads.safe_picked reads.first_or_zero reads.safe_quotient reads.safe_remainder reads.weighted_sum reads.same_bool
said = refl

-- an element with indices of another length than its keys is its first part, or 0 without one; counts of no number hold
edges :
    hold (element 0 (0 ∷ 1 ∷ []) ((pos 1 ∷ []) ∷ []) (3 ∷ 3 ∷ []) ∷ element 1 (0 ∷ 1 ∷ []) ((pos 1 ∷ []) ∷ []) (3 ∷ 3 ∷ []) ∷ element 2 [] ((pos 1 ∷ []) ∷ []) (3 ∷ []) ∷ element 3 [] [] [] ∷ counts (0 ∷ []) [] [] ∷ at_least (0 ∷ []) [] [] ∷ at_most (0 ∷ []) [] [] ∷ [])
    ≡ true ∷ false ∷ true ∷ false ∷ true ∷ true ∷ true ∷ []
unfolding con_holds is_as_said is_value kind_holds number_at numbers_of_vars numbers.same_numbers numbers.counts_hold numbers.times_in numbers.compare_holds reads.picked reads.safe_picked reads.first_or_zero
edges = refl

-- a variable is true where it is 1: no part holds of no clause, a variable and its contrary make one, and two that are 7 and -2 are the same
truths :
    hold (clause [] ∷ clause ((true, 3) ∷ []) ∷ clause ((true, 0) ∷ (false, 3) ∷ []) ∷ clause ((true, 0) ∷ (false, 0) ∷ []) ∷ all_of [] ∷ all_of (3 ∷ 0 ∷ []) ∷ all_of (9 ∷ []) ∷ same_truth 0 1 ∷ same_truth 3 3 ∷ same_truth 3 0 ∷ [])
    ≡ false ∷ true ∷ false ∷ true ∷ true ∷ false ∷ false ∷ true ∷ true ∷ false ∷ []
unfolding con_holds is_as_said is_value kind_holds number_at numbers_of_vars numbers.is_one reads.same_bool
truths = refl

-- all comparisons of 2 * 7 - (-2), which is 16, with 16, 17 and 15; sums of no part, and of one variable twice
sums :
    hold (linear ((pos 2, 0) ∷ (negsuc 0, 1) ∷ []) CompareOp.Equal (pos 16) ∷ linear ((pos 2, 0) ∷ (negsuc 0, 1) ∷ []) CompareOp.NotEqual (pos 16) ∷ linear ((pos 2, 0) ∷ (negsuc 0, 1) ∷ []) CompareOp.Less (pos 16) ∷ linear ((pos 2, 0) ∷ (negsuc 0, 1) ∷ []) CompareOp.AtMost (pos 16) ∷ linear ((pos 2, 0) ∷ (negsuc 0, 1) ∷ []) CompareOp.Greater (pos 16) ∷ linear ((pos 2, 0) ∷ (negsuc 0, 1) ∷ []) CompareOp.AtLeast (pos 16) ∷ linear ((pos 2, 0) ∷ (negsuc 0, 1) ∷ []) CompareOp.Equal (pos 17) ∷ linear ((pos 2, 0) ∷ (negsuc 0, 1) ∷ []) CompareOp.NotEqual (pos 17) ∷ linear ((pos 2, 0) ∷ (negsuc 0, 1) ∷ []) CompareOp.Less (pos 17) ∷ linear ((pos 2, 0) ∷ (negsuc 0, 1) ∷ []) CompareOp.AtMost (pos 17) ∷ linear ((pos 2, 0) ∷ (negsuc 0, 1) ∷ []) CompareOp.Greater (pos 17) ∷ linear ((pos 2, 0) ∷ (negsuc 0, 1) ∷ []) CompareOp.AtLeast (pos 17) ∷ linear ((pos 2, 0) ∷ (negsuc 0, 1) ∷ []) CompareOp.Equal (pos 15) ∷ linear ((pos 2, 0) ∷ (negsuc 0, 1) ∷ []) CompareOp.NotEqual (pos 15) ∷ linear ((pos 2, 0) ∷ (negsuc 0, 1) ∷ []) CompareOp.Less (pos 15) ∷ linear ((pos 2, 0) ∷ (negsuc 0, 1) ∷ []) CompareOp.AtMost (pos 15) ∷ linear ((pos 2, 0) ∷ (negsuc 0, 1) ∷ []) CompareOp.Greater (pos 15) ∷ linear ((pos 2, 0) ∷ (negsuc 0, 1) ∷ []) CompareOp.AtLeast (pos 15) ∷ linear [] CompareOp.Equal (pos 0) ∷ linear [] CompareOp.Less (pos 0) ∷ linear ((pos 1, 1) ∷ (pos 2, 1) ∷ []) CompareOp.Equal (negsuc 5) ∷ linear ((pos 0, 0) ∷ []) CompareOp.Greater (negsuc 0) ∷ [])
    ≡ true ∷ false ∷ false ∷ true ∷ false ∷ true ∷ false ∷ true ∷ true ∷ true ∷ false ∷ false ∷ false ∷ true ∷ false ∷ false ∷ true ∷ true ∷ true ∷ false ∷ true ∷ true ∷ []
unfolding con_holds is_as_said is_value kind_holds number_at numbers_of_vars numbers.sum_of numbers.compare_holds reads.weighted_sum
sums = refl

-- a number between those of a set is none of it, and a variable that isn't there is 0
members :
    hold (member 1 (negsuc 1 ∷ []) ∷ member 0 (pos 6 ∷ pos 8 ∷ []) ∷ member 1 [] ∷ member 9 (pos 0 ∷ []) ∷ [])
    ≡ true ∷ false ∷ false ∷ true ∷ []
unfolding con_holds is_as_said is_value kind_holds number_at numbers_of_vars numbers.has_number
members = refl

-- a divisor of 0 gives 0; -14 over 7 is -2; -2 over -14 is 0; 7 leaves 1 over 2 and not over -2; -2 leaves -2 over -14; 0 to the power 0 is 1
by_zero_and_below :
    hold (quotient 2 0 2 ∷ quotient 3 0 2 ∷ quotient 1 4 0 ∷ quotient 2 1 4 ∷ remainder 2 0 2 ∷ remainder 3 0 2 ∷ remainder 3 0 6 ∷ remainder 3 0 1 ∷ remainder 1 1 4 ∷ power 3 2 0 ∷ power 2 2 0 ∷ power 2 2 1 ∷ power 3 1 0 ∷ absolute 2 2 ∷ absolute 0 0 ∷ [])
    ≡ true ∷ false ∷ true ∷ true ∷ true ∷ false ∷ true ∷ false ∷ true ∷ true ∷ false ∷ true ∷ true ∷ true ∷ true ∷ []
unfolding con_holds is_as_said is_value kind_holds number_at numbers_of_vars numbers.quotient numbers.remainder numbers.floor_over numbers.nth_power numbers.absolute_of reads.safe_quotient reads.safe_remainder
by_zero_and_below = refl

-- no number is the least or the greatest of none
extremes :
    hold (least 2 [] ∷ greatest 2 [] ∷ least 1 (1 ∷ []) ∷ least 4 (0 ∷ 4 ∷ 1 ∷ []) ∷ least 0 (0 ∷ 4 ∷ 1 ∷ []) ∷ greatest 5 (5 ∷ 5 ∷ []) ∷ greatest 0 (0 ∷ 5 ∷ []) ∷ [])
    ≡ false ∷ false ∷ true ∷ true ∷ false ∷ true ∷ false ∷ []
unfolding con_holds is_as_said is_value kind_holds number_at numbers_of_vars numbers.least_of numbers.greatest_of
extremes = refl

-- counts and rows of another length don't hold; a count below 0 is reached by any list, and not kept to by any; the row of no number is that of no variable
other_lengths :
    hold (all_different [] ∷ all_different (0 ∷ []) ∷ all_different (0 ∷ 1 ∷ 0 ∷ []) ∷ counts (0 ∷ []) (pos 7 ∷ []) [] ∷ counts (0 ∷ []) [] (3 ∷ []) ∷ counts [] (pos 7 ∷ []) (2 ∷ []) ∷ at_least (0 ∷ []) (pos 1 ∷ pos 0 ∷ []) (pos 7 ∷ []) ∷ at_least [] (negsuc 0 ∷ []) (pos 7 ∷ []) ∷ at_least (0 ∷ 0 ∷ []) (pos 2 ∷ []) (pos 7 ∷ []) ∷ at_most (0 ∷ []) [] (pos 7 ∷ []) ∷ at_most (0 ∷ []) (negsuc 0 ∷ []) (pos 9 ∷ []) ∷ at_most (0 ∷ 0 ∷ []) (pos 1 ∷ []) (pos 7 ∷ []) ∷ table [] [] ∷ table [] ([] ∷ []) ∷ table (0 ∷ []) ([] ∷ []) ∷ table (0 ∷ []) ((pos 7 ∷ []) ∷ (pos 7 ∷ pos 7 ∷ []) ∷ []) ∷ table (0 ∷ 1 ∷ []) ((pos 0 ∷ pos 0 ∷ []) ∷ (pos 7 ∷ negsuc 1 ∷ []) ∷ []) ∷ table (1 ∷ 0 ∷ []) ((pos 7 ∷ negsuc 1 ∷ []) ∷ []) ∷ [])
    ≡ true ∷ true ∷ false ∷ false ∷ false ∷ true ∷ false ∷ true ∷ true ∷ false ∷ false ∷ false ∷ false ∷ true ∷ false ∷ false ∷ true ∷ false ∷ []
unfolding con_holds is_as_said is_value kind_holds number_at numbers_of_vars numbers.are_different numbers.has_number numbers.counts_hold numbers.times_in numbers.compare_holds numbers.is_row_of numbers.same_numbers
other_lengths = refl

-- orders with a list of no variable, and of a list with itself
orders_of_none :
    hold (lex LexOp.Less [] [] ∷ lex LexOp.AtMost [] [] ∷ lex LexOp.Less [] (0 ∷ []) ∷ lex LexOp.Greater [] (0 ∷ []) ∷ lex LexOp.AtLeast (0 ∷ []) [] ∷ lex LexOp.AtLeast (0 ∷ []) (0 ∷ []) ∷ lex LexOp.Less (0 ∷ []) (0 ∷ []) ∷ lex LexOp.Greater (0 ∷ 1 ∷ []) (0 ∷ 1 ∷ []) ∷ [])
    ≡ false ∷ true ∷ true ∷ false ∷ true ∷ true ∷ false ∷ false ∷ []
unfolding con_holds is_as_said is_value kind_holds number_at numbers_of_vars numbers.lex_holds numbers.lex_less
orders_of_none = refl
