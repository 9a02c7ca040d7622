-- The value of each kind of node, as the checker computes it.
use Rattle.std.proofs.Common.{◌≡◌, ℤ, pos, negsuc, List, [], ◌∷◌, ◌++◌, Option, Some, None, refl}
use Rattle.std.specs.Prelude.{map}
use Rattle.ep_base.specs.Numbers as numbers
use Rattle.ep_base.specs.Options.{on_both}
use Rattle.ep_base.specs.Reads as reads
use Rattle.ep_base.specs.declared.operators.CompareOp.{CompareOp}
use Rattle.ep_base.specs.declared.operators.LexOp.{LexOp}
use Rattle.ep_ground.specs.Nodes.{GroundNode, constant, undefined, cell, sum, product, quotient, remainder, power, absolute, least, greatest, pick, whole, safe_quotient, safe_remainder, safe_pick, compare, lex, member, negation, all_of, any_of, same_truth, all_different, counts, at_least, at_most, table}
use Rattle.ep_ground.specs.Terms.{node_value, term_value, truth, value_at, values_from, term_values_of, weighed}

-- the terms 0 to 5: 7, -2, 0, nothing, the first cell, which is 5, and 1
abbrev six : List GroundNode
six = constant (pos 7) ∷ constant (negsuc 1) ∷ constant (pos 0) ∷ undefined ∷ cell 0 ∷ constant (pos 1) ∷ []

-- the value of one more node behind these
abbrev behind_six : GroundNode → Option ℤ
behind_six node = term_value (six ++ node ∷ []) (pos 5 ∷ []) 6

abbrev behind_each : List GroundNode → List (Option ℤ)
behind_each nodes = map behind_six nodes

abbrev here : ℤ → Option ℤ
here n = Some n

-- numbers, cells that are there and not, sums, products, powers and absolute values
sums_and_products :
    behind_each (constant (pos 3) ∷ undefined ∷ cell 0 ∷ cell 1 ∷ sum (pos 4) [] ∷ sum (pos 4) ((pos 2, 0) ∷ (negsuc 0, 4) ∷ []) ∷ sum (pos 4) ((pos 2, 0) ∷ (pos 1, 3) ∷ [])
    ∷ product 0 1 ∷ product 0 3 ∷ power 1 3 ∷ power 1 0 ∷ power 3 0 ∷ absolute 1 ∷ absolute 3 ∷ [])
    ≡ here (pos 3) ∷ None ∷ here (pos 5) ∷ None ∷ here (pos 4) ∷ here (pos 13) ∷ None
    ∷ here (negsuc 13) ∷ None ∷ here (negsuc 7) ∷ here (pos 1) ∷ None ∷ here (pos 2) ∷ None ∷ []
unfolding term_value values_from value_at node_value on_both term_values_of weighed truth numbers.quotient numbers.remainder numbers.floor_over numbers.nth_power numbers.absolute_of numbers.least_of numbers.greatest_of numbers.has_number numbers.is_one numbers.of_bool numbers.same_numbers numbers.compare_holds numbers.lex_holds numbers.lex_less numbers.all_one numbers.any_one numbers.are_different numbers.counts_hold numbers.times_in numbers.is_row_of numbers.sum_of reads.all_there reads.picked reads.safe_picked reads.first_or_zero reads.safe_quotient reads.safe_remainder reads.weighted_sum reads.same_bool
sums_and_products = refl

-- quotients and remainders: by a negative number, by 0, by nothing; plain and safe
divisions :
    behind_each (quotient 0 1 ∷ quotient 0 2 ∷ quotient 0 3 ∷ remainder 0 1 ∷ remainder 1 0 ∷ remainder 0 2
    ∷ safe_quotient 0 1 ∷ safe_quotient 0 2 ∷ safe_quotient 3 2 ∷ safe_remainder 0 1 ∷ safe_remainder 0 2 ∷ safe_remainder 0 3 ∷ [])
    ≡ here (negsuc 3) ∷ None ∷ None ∷ here (negsuc 0) ∷ here (pos 5) ∷ None
    ∷ here (negsuc 3) ∷ here (pos 0) ∷ None ∷ here (negsuc 0) ∷ here (pos 0) ∷ None ∷ []
unfolding term_value values_from value_at node_value on_both term_values_of weighed truth numbers.quotient numbers.remainder numbers.floor_over numbers.nth_power numbers.absolute_of numbers.least_of numbers.greatest_of numbers.has_number numbers.is_one numbers.of_bool numbers.same_numbers numbers.compare_holds numbers.lex_holds numbers.lex_less numbers.all_one numbers.any_one numbers.are_different numbers.counts_hold numbers.times_in numbers.is_row_of numbers.sum_of reads.all_there reads.picked reads.safe_picked reads.first_or_zero reads.safe_quotient reads.safe_remainder reads.weighted_sum reads.same_bool
divisions = refl

-- least and greatest: of some parts, of none, with one that has no value
least_and_greatest :
    behind_each (least (0 ∷ 1 ∷ 4 ∷ []) ∷ least [] ∷ least (0 ∷ 3 ∷ []) ∷ greatest (1 ∷ 0 ∷ 4 ∷ []) ∷ greatest [] ∷ greatest (3 ∷ []) ∷ [])
    ≡ here (negsuc 1) ∷ None ∷ None ∷ here (pos 7) ∷ None ∷ None ∷ []
unfolding term_value values_from value_at node_value on_both term_values_of weighed truth numbers.quotient numbers.remainder numbers.floor_over numbers.nth_power numbers.absolute_of numbers.least_of numbers.greatest_of numbers.has_number numbers.is_one numbers.of_bool numbers.same_numbers numbers.compare_holds numbers.lex_holds numbers.lex_less numbers.all_one numbers.any_one numbers.are_different numbers.counts_hold numbers.times_in numbers.is_row_of numbers.sum_of reads.all_there reads.picked reads.safe_picked reads.first_or_zero reads.safe_quotient reads.safe_remainder reads.weighted_sum reads.same_bool
least_and_greatest = refl

-- the keys 1, 2 and 1
abbrev keys : List (List ℤ)
keys = (pos 1 ∷ []) ∷ (pos 0 ∷ []) ∷ (pos 1 ∷ []) ∷ []

-- picks: the first of equal keys, no key, a key without a part, indices of another length, a part and an index that have
-- no value; plain and safe, and a safe one without a part
picks :
    behind_each (pick (0 ∷ 1 ∷ 4 ∷ []) keys (5 ∷ []) ∷ pick (0 ∷ 1 ∷ 4 ∷ []) keys (0 ∷ []) ∷ pick (0 ∷ []) keys (2 ∷ []) ∷ pick (0 ∷ 1 ∷ []) keys (5 ∷ 5 ∷ []) ∷ pick (0 ∷ 3 ∷ []) keys (5 ∷ []) ∷ pick (0 ∷ []) keys (3 ∷ [])
    ∷ safe_pick (0 ∷ 1 ∷ 4 ∷ []) keys (2 ∷ []) ∷ safe_pick (0 ∷ 1 ∷ 4 ∷ []) keys (0 ∷ []) ∷ safe_pick (0 ∷ []) keys (2 ∷ []) ∷ safe_pick [] keys (5 ∷ []) ∷ safe_pick (0 ∷ 3 ∷ []) keys (5 ∷ []) ∷ safe_pick (0 ∷ []) keys (3 ∷ []) ∷ [])
    ≡ here (pos 7) ∷ None ∷ None ∷ None ∷ None ∷ None
    ∷ here (negsuc 1) ∷ here (pos 7) ∷ here (pos 7) ∷ here (pos 0) ∷ None ∷ None ∷ []
unfolding term_value values_from value_at node_value on_both term_values_of weighed truth numbers.quotient numbers.remainder numbers.floor_over numbers.nth_power numbers.absolute_of numbers.least_of numbers.greatest_of numbers.has_number numbers.is_one numbers.of_bool numbers.same_numbers numbers.compare_holds numbers.lex_holds numbers.lex_less numbers.all_one numbers.any_one numbers.are_different numbers.counts_hold numbers.times_in numbers.is_row_of numbers.sum_of reads.all_there reads.picked reads.safe_picked reads.first_or_zero reads.safe_quotient reads.safe_remainder reads.weighted_sum reads.same_bool
picks = refl

-- the first term where all the others have values, as also where there is no other
wholes : behind_each (whole 0 (1 ∷ 4 ∷ []) ∷ whole 0 (1 ∷ 3 ∷ []) ∷ whole 3 (0 ∷ []) ∷ whole 0 [] ∷ []) ≡ here (pos 7) ∷ None ∷ None ∷ here (pos 7) ∷ []
unfolding term_value values_from value_at node_value on_both term_values_of weighed truth numbers.quotient numbers.remainder numbers.floor_over numbers.nth_power numbers.absolute_of numbers.least_of numbers.greatest_of numbers.has_number numbers.is_one numbers.of_bool numbers.same_numbers numbers.compare_holds numbers.lex_holds numbers.lex_less numbers.all_one numbers.any_one numbers.are_different numbers.counts_hold numbers.times_in numbers.is_row_of numbers.sum_of reads.all_there reads.picked reads.safe_picked reads.first_or_zero reads.safe_quotient reads.safe_remainder reads.weighted_sum reads.same_bool
wholes = refl

-- comparisons, orders of lists and membership, and 0 where a part has no value
comparisons :
    behind_each (compare CompareOp.Less 1 0 ∷ compare CompareOp.Equal 0 1 ∷ compare CompareOp.NotEqual 0 3 ∷ compare CompareOp.NotEqual 0 1
    ∷ lex LexOp.Less (0 ∷ []) (0 ∷ 1 ∷ []) ∷ lex LexOp.AtLeast (0 ∷ []) (0 ∷ 1 ∷ []) ∷ lex LexOp.AtMost (0 ∷ []) (3 ∷ [])
    ∷ member 4 (pos 4 ∷ pos 5 ∷ []) ∷ member 4 (pos 4 ∷ []) ∷ member 3 (pos 4 ∷ []) ∷ [])
    ≡ here (pos 1) ∷ here (pos 0) ∷ here (pos 0) ∷ here (pos 1)
    ∷ here (pos 1) ∷ here (pos 0) ∷ here (pos 0)
    ∷ here (pos 1) ∷ here (pos 0) ∷ here (pos 0) ∷ []
unfolding term_value values_from value_at node_value on_both term_values_of weighed truth numbers.quotient numbers.remainder numbers.floor_over numbers.nth_power numbers.absolute_of numbers.least_of numbers.greatest_of numbers.has_number numbers.is_one numbers.of_bool numbers.same_numbers numbers.compare_holds numbers.lex_holds numbers.lex_less numbers.all_one numbers.any_one numbers.are_different numbers.counts_hold numbers.times_in numbers.is_row_of numbers.sum_of reads.all_there reads.picked reads.safe_picked reads.first_or_zero reads.safe_quotient reads.safe_remainder reads.weighted_sum reads.same_bool
comparisons = refl

-- connectives: a part is true where it is 1, so 7 isn't; no part; a part without a value makes all of them 0
connectives :
    behind_each (negation 5 ∷ negation 0 ∷ negation 3 ∷ all_of (5 ∷ 5 ∷ []) ∷ all_of (5 ∷ 0 ∷ []) ∷ all_of [] ∷ all_of (5 ∷ 3 ∷ [])
    ∷ any_of (2 ∷ 5 ∷ []) ∷ any_of (0 ∷ []) ∷ any_of [] ∷ any_of (5 ∷ 3 ∷ []) ∷ same_truth 5 5 ∷ same_truth 0 2 ∷ same_truth 5 0 ∷ same_truth 3 2 ∷ [])
    ≡ here (pos 0) ∷ here (pos 1) ∷ here (pos 0) ∷ here (pos 1) ∷ here (pos 0) ∷ here (pos 1) ∷ here (pos 0)
    ∷ here (pos 1) ∷ here (pos 0) ∷ here (pos 0) ∷ here (pos 0) ∷ here (pos 1) ∷ here (pos 1) ∷ here (pos 0) ∷ here (pos 0) ∷ []
unfolding term_value values_from value_at node_value on_both term_values_of weighed truth numbers.quotient numbers.remainder numbers.floor_over numbers.nth_power numbers.absolute_of numbers.least_of numbers.greatest_of numbers.has_number numbers.is_one numbers.of_bool numbers.same_numbers numbers.compare_holds numbers.lex_holds numbers.lex_less numbers.all_one numbers.any_one numbers.are_different numbers.counts_hold numbers.times_in numbers.is_row_of numbers.sum_of reads.all_there reads.picked reads.safe_picked reads.first_or_zero reads.safe_quotient reads.safe_remainder reads.weighted_sum reads.same_bool
connectives = refl

-- counts and rows: right, wrong, of other lengths, and with a part that has no value
counted :
    behind_each (all_different (0 ∷ 1 ∷ 4 ∷ []) ∷ all_different (0 ∷ 1 ∷ 0 ∷ []) ∷ all_different [] ∷ all_different (0 ∷ 3 ∷ [])
    ∷ counts (0 ∷ 1 ∷ []) (pos 7 ∷ pos 8 ∷ []) (5 ∷ 2 ∷ []) ∷ counts (0 ∷ 0 ∷ []) (pos 7 ∷ []) (5 ∷ []) ∷ counts (0 ∷ 0 ∷ []) (pos 7 ∷ []) [] ∷ counts (0 ∷ []) (pos 7 ∷ []) (3 ∷ [])
    ∷ at_least (0 ∷ 0 ∷ []) (pos 1 ∷ []) (pos 7 ∷ []) ∷ at_least (0 ∷ []) (pos 2 ∷ []) (pos 7 ∷ []) ∷ at_least (0 ∷ []) [] (pos 7 ∷ []) ∷ at_least (3 ∷ []) (pos 0 ∷ []) (pos 7 ∷ [])
    ∷ at_most (0 ∷ []) (pos 1 ∷ []) (pos 7 ∷ []) ∷ at_most (0 ∷ 0 ∷ []) (pos 1 ∷ []) (pos 7 ∷ []) ∷ at_most (0 ∷ []) (pos 1 ∷ []) [] ∷ at_most (3 ∷ []) (pos 1 ∷ []) (pos 7 ∷ [])
    ∷ table (0 ∷ 5 ∷ []) ((pos 7 ∷ pos 2 ∷ []) ∷ (pos 7 ∷ pos 1 ∷ []) ∷ []) ∷ table (0 ∷ []) ((pos 1 ∷ []) ∷ []) ∷ table (0 ∷ []) [] ∷ table (0 ∷ []) ((pos 7 ∷ []) ∷ [] ∷ []) ∷ table [] ([] ∷ []) ∷ table (3 ∷ []) ((pos 7 ∷ []) ∷ []) ∷ [])
    ≡ here (pos 1) ∷ here (pos 0) ∷ here (pos 1) ∷ here (pos 0)
    ∷ here (pos 1) ∷ here (pos 0) ∷ here (pos 0) ∷ here (pos 0)
    ∷ here (pos 1) ∷ here (pos 0) ∷ here (pos 0) ∷ here (pos 0)
    ∷ here (pos 1) ∷ here (pos 0) ∷ here (pos 0) ∷ here (pos 0)
    ∷ here (pos 1) ∷ here (pos 0) ∷ here (pos 0) ∷ here (pos 0) ∷ here (pos 1) ∷ here (pos 0) ∷ []
unfolding term_value values_from value_at node_value on_both term_values_of weighed truth numbers.quotient numbers.remainder numbers.floor_over numbers.nth_power numbers.absolute_of numbers.least_of numbers.greatest_of numbers.has_number numbers.is_one numbers.of_bool numbers.same_numbers numbers.compare_holds numbers.lex_holds numbers.lex_less numbers.all_one numbers.any_one numbers.are_different numbers.counts_hold numbers.times_in numbers.is_row_of numbers.sum_of reads.all_there reads.picked reads.safe_picked reads.first_or_zero reads.safe_quotient reads.safe_remainder reads.weighted_sum reads.same_bool
counted = refl
