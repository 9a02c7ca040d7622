-- Values of nodes at the edges of their definitions.
use Rattle.std.proofs.Common.{◌≡◌, ℤ, pos, negsuc, List, [], ◌∷◌, ◌++◌, Option, Some, None, refl}
use Rattle.std.specs.Prelude.{map}
use Rattle.ep_base.specs.Numbers as numbers
use Rattle.ep_base.specs.Options.{on_both}
use Rattle.ep_base.specs.Reads as reads
use Rattle.ep_base.specs.declared.operators.CompareOp.{CompareOp}
use Rattle.ep_base.specs.declared.operators.LexOp.{LexOp}
use Rattle.ep_ground.specs.Nodes.{GroundNode, constant, undefined, cell, sum, product, quotient, remainder, power, absolute, least, greatest, pick, whole, safe_quotient, safe_remainder, safe_pick, compare, lex, member, negation, all_of, any_of, same_truth, all_different, counts, at_least, at_most, table}
use Rattle.ep_ground.specs.Terms.{node_value, term_value, truth, value_at, values_from, term_values_of, weighed}

-- the terms 0 to 5: 7, -2, 0, nothing, the first cell, which is 5, and 1
abbrev six : List GroundNode
six = constant (pos 7) ∷ constant (negsuc 1) ∷ constant (pos 0) ∷ undefined ∷ cell 0 ∷ constant (pos 1) ∷ []

-- the values of nodes that stand behind these
abbrev behind_six : List GroundNode → List (Option ℤ)
behind_six = map (λ node. term_value (six ++ node ∷ []) (pos 5 ∷ []) 6)

abbrev yes : Option ℤ
yes = Some (pos 1)

abbrev no : Option ℤ
no = Some (pos 0)

-- without a key, and without a part, a pick has no value; a safe one has that of its first part, or 0
picks :
    behind_six (pick (0 ∷ 1 ∷ []) [] (5 ∷ []) ∷ pick [] ((pos 1 ∷ []) ∷ []) (5 ∷ []) ∷ safe_pick (0 ∷ 1 ∷ []) [] (5 ∷ []) ∷ safe_pick [] [] (5 ∷ []) ∷ [])
    ≡ None ∷ None ∷ Some (pos 7) ∷ Some (pos 0) ∷ []
unfolding term_value values_from value_at node_value on_both term_values_of weighed truth numbers.same_numbers reads.all_there reads.picked reads.safe_picked reads.first_or_zero
picks = refl

-- all six comparisons where the left part is less, equal and greater
comparisons :
    behind_six (compare CompareOp.AtMost 1 0 ∷ compare CompareOp.AtMost 2 2 ∷ compare CompareOp.AtMost 0 1
    ∷ compare CompareOp.Greater 1 0 ∷ compare CompareOp.Greater 2 2 ∷ compare CompareOp.Greater 0 1
    ∷ compare CompareOp.AtLeast 1 0 ∷ compare CompareOp.AtLeast 2 2 ∷ compare CompareOp.AtLeast 0 1
    ∷ compare CompareOp.Less 1 0 ∷ compare CompareOp.Less 2 2 ∷ compare CompareOp.Less 0 1
    ∷ compare CompareOp.Equal 1 0 ∷ compare CompareOp.Equal 2 2 ∷ compare CompareOp.NotEqual 1 0 ∷ compare CompareOp.NotEqual 2 2 ∷ [])
    ≡ yes ∷ yes ∷ no ∷ no ∷ no ∷ yes ∷ no ∷ yes ∷ yes ∷ yes ∷ no ∷ no ∷ no ∷ yes ∷ yes ∷ no ∷ []
unfolding term_value values_from value_at node_value on_both term_values_of weighed truth numbers.of_bool numbers.compare_holds
comparisons = refl

-- a comparison with a part that has no value is false, whichever part it is, and `!=` too
comparisons_without_a_value :
    behind_six (compare CompareOp.Equal 3 0 ∷ compare CompareOp.Equal 0 3 ∷ compare CompareOp.NotEqual 3 0 ∷ compare CompareOp.AtMost 3 3 ∷ [])
    ≡ no ∷ no ∷ no ∷ no ∷ []
unfolding term_value values_from value_at node_value on_both term_values_of weighed truth numbers.of_bool numbers.compare_holds
comparisons_without_a_value = refl

-- orders of lists: the first difference decides, and a list is greater than one with which it begins
orders :
    behind_six (lex LexOp.Greater (0 ∷ 1 ∷ []) (0 ∷ 2 ∷ []) ∷ lex LexOp.Greater (0 ∷ 2 ∷ []) (0 ∷ 1 ∷ []) ∷ lex LexOp.Greater (0 ∷ 1 ∷ []) (0 ∷ []) ∷ lex LexOp.Greater (0 ∷ []) (0 ∷ 1 ∷ []) ∷ lex LexOp.Greater (0 ∷ []) (0 ∷ [])
    ∷ lex LexOp.AtLeast (0 ∷ []) (0 ∷ []) ∷ lex LexOp.Less [] (0 ∷ []) ∷ lex LexOp.AtMost [] [] ∷ lex LexOp.Less [] [] ∷ lex LexOp.Greater (0 ∷ 3 ∷ []) (1 ∷ []) ∷ [])
    ≡ no ∷ yes ∷ yes ∷ no ∷ no ∷ yes ∷ yes ∷ yes ∷ no ∷ no ∷ []
unfolding term_value values_from value_at node_value on_both term_values_of weighed truth numbers.of_bool numbers.lex_holds numbers.lex_less numbers.same_numbers reads.all_there
orders = refl

-- nothing is a member of the empty set, and nothing that has no value is one of a set
members :
    behind_six (member 0 [] ∷ member 0 (pos 7 ∷ []) ∷ member 3 (pos 0 ∷ []) ∷ [])
    ≡ no ∷ yes ∷ no ∷ []
unfolding term_value values_from value_at node_value on_both term_values_of weighed truth numbers.of_bool numbers.has_number
members = refl

-- a number that stands twice among the counted ones is counted for each
counted_twice :
    behind_six (counts (5 ∷ 0 ∷ []) (pos 1 ∷ pos 1 ∷ []) (5 ∷ 5 ∷ []) ∷ counts (5 ∷ 0 ∷ []) (pos 1 ∷ pos 1 ∷ []) (5 ∷ 2 ∷ []) ∷ counts (5 ∷ 5 ∷ []) (pos 7 ∷ []) (2 ∷ []) ∷ [])
    ≡ yes ∷ no ∷ yes ∷ []
unfolding term_value values_from value_at node_value on_both term_values_of weighed truth numbers.of_bool numbers.counts_hold numbers.times_in numbers.compare_holds reads.all_there
counted_twice = refl

-- 0 to the power 0 is 1, and what has no value to the power 0 has none
powers :
    behind_six (power 2 0 ∷ power 2 1 ∷ power 1 2 ∷ power 3 0 ∷ [])
    ≡ yes ∷ no ∷ Some (pos 4) ∷ None ∷ []
unfolding term_value values_from value_at node_value on_both term_values_of weighed truth numbers.nth_power
powers = refl

-- counts of no number hold; where a counted term has no value none does; a number twice is asked for twice
counts_at_their_edges :
    behind_six (counts (0 ∷ []) [] [] ∷ at_least (0 ∷ []) [] [] ∷ at_most (0 ∷ []) [] [] ∷ counts (3 ∷ []) [] [] ∷ at_least (3 ∷ []) (pos 0 ∷ []) (pos 1 ∷ []) ∷ at_most (3 ∷ []) (pos 1 ∷ []) (pos 1 ∷ [])
    ∷ at_least (5 ∷ 0 ∷ []) (pos 1 ∷ pos 2 ∷ []) (pos 1 ∷ pos 1 ∷ []) ∷ at_most (5 ∷ 0 ∷ []) (pos 1 ∷ pos 0 ∷ []) (pos 1 ∷ pos 1 ∷ []) ∷ at_most (5 ∷ 0 ∷ []) (pos 1 ∷ pos 2 ∷ []) (pos 1 ∷ pos 1 ∷ []) ∷ [])
    ≡ yes ∷ yes ∷ yes ∷ no ∷ no ∷ no ∷ no ∷ no ∷ yes ∷ []
unfolding term_value values_from value_at node_value on_both term_values_of weighed truth numbers.of_bool numbers.counts_hold numbers.times_in numbers.compare_holds reads.all_there
counts_at_their_edges = refl

-- no row holds where there is none; the row of no number is that of no term
tables :
    behind_six (table [] [] ∷ table [] ([] ∷ []) ∷ table (0 ∷ []) ([] ∷ []) ∷ table (0 ∷ 1 ∷ []) ((pos 7 ∷ negsuc 1 ∷ []) ∷ []) ∷ all_different [] ∷ all_different (3 ∷ []) ∷ [])
    ≡ no ∷ yes ∷ no ∷ yes ∷ yes ∷ no ∷ []
unfolding term_value values_from value_at node_value on_both term_values_of weighed truth numbers.of_bool numbers.is_row_of numbers.same_numbers numbers.are_different numbers.has_number reads.all_there
tables = refl

-- a number is itself, and a cell that isn't there has no value
single_numbers :
    behind_six (constant (negsuc 4) ∷ undefined ∷ cell 0 ∷ cell 1 ∷ [])
    ≡ Some (negsuc 4) ∷ None ∷ Some (pos 5) ∷ None ∷ []
unfolding term_value values_from value_at node_value on_both term_values_of weighed truth
single_numbers = refl

-- a sum of no part is its constant, a part that stands twice counts twice, and one without a value leaves none, whatever its coefficient is
sums :
    behind_six (sum (pos 3) [] ∷ sum (pos 1) ((pos 2, 0) ∷ (negsuc 0, 1) ∷ []) ∷ sum (negsuc 0) ((pos 0, 0) ∷ []) ∷ sum (pos 0) ((pos 1, 4) ∷ (pos 1, 4) ∷ []) ∷ sum (pos 0) ((pos 0, 3) ∷ []) ∷ [])
    ≡ Some (pos 3) ∷ Some (pos 17) ∷ Some (negsuc 0) ∷ Some (pos 10) ∷ None ∷ []
unfolding term_value values_from value_at node_value on_both term_values_of weighed truth numbers.sum_of reads.weighted_sum
sums = refl

-- 0 times what has no value has none
products :
    behind_six (product 0 1 ∷ product 1 1 ∷ product 2 3 ∷ product 3 2 ∷ [])
    ≡ Some (negsuc 13) ∷ Some (pos 4) ∷ None ∷ None ∷ []
unfolding term_value values_from value_at node_value on_both term_values_of weighed truth
products = refl

-- quotients are floors on both sides of 0; a divisor of 0 leaves no value, and 0 of the safe form, where both parts have one
quotients :
    behind_six (quotient 0 1 ∷ quotient 1 0 ∷ quotient 1 1 ∷ quotient 0 2 ∷ quotient 3 2 ∷ quotient 0 3 ∷ safe_quotient 0 1 ∷ safe_quotient 1 0 ∷ safe_quotient 0 2 ∷ safe_quotient 3 2 ∷ safe_quotient 2 3 ∷ [])
    ≡ Some (negsuc 3) ∷ Some (negsuc 0) ∷ Some (pos 1) ∷ None ∷ None ∷ None ∷ Some (negsuc 3) ∷ Some (negsuc 0) ∷ Some (pos 0) ∷ None ∷ None ∷ []
unfolding term_value values_from value_at node_value on_both term_values_of weighed truth numbers.quotient numbers.floor_over reads.safe_quotient
quotients = refl

-- a remainder has the sign of its divisor; by 0 it is as a quotient by 0
remainders :
    behind_six (remainder 0 1 ∷ remainder 1 0 ∷ remainder 1 1 ∷ remainder 0 2 ∷ remainder 3 0 ∷ remainder 0 3 ∷ safe_remainder 0 1 ∷ safe_remainder 1 0 ∷ safe_remainder 0 2 ∷ safe_remainder 3 2 ∷ safe_remainder 2 3 ∷ [])
    ≡ Some (negsuc 0) ∷ Some (pos 5) ∷ Some (pos 0) ∷ None ∷ None ∷ None ∷ Some (negsuc 0) ∷ Some (pos 5) ∷ Some (pos 0) ∷ None ∷ None ∷ []
unfolding term_value values_from value_at node_value on_both term_values_of weighed truth numbers.quotient numbers.remainder numbers.floor_over reads.safe_remainder
remainders = refl

-- absolute values
absolute_values :
    behind_six (absolute 1 ∷ absolute 0 ∷ absolute 2 ∷ absolute 3 ∷ [])
    ≡ Some (pos 2) ∷ Some (pos 7) ∷ Some (pos 0) ∷ None ∷ []
unfolding term_value values_from value_at node_value on_both term_values_of weighed truth numbers.absolute_of
absolute_values = refl

-- the least and the greatest of no part, and of parts one of which has no value, have none
extremes :
    behind_six (least (0 ∷ 1 ∷ 2 ∷ []) ∷ least (1 ∷ []) ∷ least (0 ∷ 3 ∷ []) ∷ least [] ∷ greatest (1 ∷ 0 ∷ 2 ∷ []) ∷ greatest (1 ∷ 1 ∷ []) ∷ greatest (3 ∷ 0 ∷ []) ∷ greatest [] ∷ [])
    ≡ Some (negsuc 1) ∷ Some (negsuc 1) ∷ None ∷ None ∷ Some (pos 7) ∷ Some (negsuc 1) ∷ None ∷ None ∷ []
unfolding term_value values_from value_at node_value on_both term_values_of weighed truth numbers.least_of numbers.greatest_of reads.all_there
extremes = refl

-- the first key that equals the indices counts, and one of another length is passed over; at no part there is none, and the first of the safe form; a part or an index without a value leaves none, whichever part is picked
picks_by_keys :
    behind_six (pick (0 ∷ 1 ∷ []) ((pos 1 ∷ []) ∷ (pos 5 ∷ []) ∷ []) (5 ∷ []) ∷ pick (0 ∷ 1 ∷ []) ((pos 1 ∷ []) ∷ (pos 5 ∷ []) ∷ []) (4 ∷ []) ∷ pick (0 ∷ 1 ∷ []) ((pos 1 ∷ []) ∷ (pos 1 ∷ []) ∷ []) (5 ∷ []) ∷ pick (0 ∷ 1 ∷ []) ((pos 1 ∷ pos 1 ∷ []) ∷ (pos 1 ∷ []) ∷ []) (5 ∷ []) ∷ pick (0 ∷ []) ([] ∷ []) [] ∷ pick (0 ∷ []) ((pos 5 ∷ []) ∷ (pos 1 ∷ []) ∷ []) (5 ∷ []) ∷ pick (0 ∷ 3 ∷ []) ((pos 1 ∷ []) ∷ (pos 5 ∷ []) ∷ []) (5 ∷ []) ∷ pick (0 ∷ []) ((pos 1 ∷ []) ∷ []) (3 ∷ []) ∷ safe_pick (0 ∷ 1 ∷ []) ((pos 1 ∷ []) ∷ (pos 5 ∷ []) ∷ []) (4 ∷ []) ∷ safe_pick (0 ∷ 1 ∷ []) ((pos 1 ∷ []) ∷ (pos 1 ∷ []) ∷ []) (5 ∷ []) ∷ safe_pick (1 ∷ []) ((pos 5 ∷ []) ∷ (pos 1 ∷ []) ∷ []) (5 ∷ []) ∷ safe_pick (0 ∷ 3 ∷ []) ((pos 1 ∷ []) ∷ (pos 5 ∷ []) ∷ []) (5 ∷ []) ∷ safe_pick (0 ∷ []) ((pos 1 ∷ []) ∷ []) (3 ∷ []) ∷ safe_pick [] ((pos 1 ∷ []) ∷ []) (3 ∷ []) ∷ [])
    ≡ Some (pos 7) ∷ Some (negsuc 1) ∷ Some (pos 7) ∷ Some (negsuc 1) ∷ Some (pos 7) ∷ None ∷ None ∷ None ∷ Some (negsuc 1) ∷ Some (pos 7) ∷ Some (negsuc 1) ∷ None ∷ None ∷ None ∷ []
unfolding term_value values_from value_at node_value on_both term_values_of weighed truth numbers.same_numbers reads.picked reads.safe_picked reads.first_or_zero reads.all_there
picks_by_keys = refl

-- a whole is its first term, where all others have a value
wholes :
    behind_six (whole 0 [] ∷ whole 0 (1 ∷ 2 ∷ []) ∷ whole 0 (1 ∷ 3 ∷ []) ∷ whole 3 (0 ∷ []) ∷ [])
    ≡ Some (pos 7) ∷ Some (pos 7) ∷ None ∷ None ∷ []
unfolding term_value values_from value_at node_value on_both term_values_of weighed truth reads.all_there
wholes = refl

-- a part is true where it is 1, and a part without a value makes each form false, also where the others decide
truths :
    behind_six (negation 5 ∷ negation 2 ∷ negation 0 ∷ negation 3 ∷ all_of [] ∷ all_of (5 ∷ 5 ∷ []) ∷ all_of (5 ∷ 0 ∷ []) ∷ all_of (2 ∷ 3 ∷ []) ∷ any_of [] ∷ any_of (0 ∷ 2 ∷ []) ∷ any_of (0 ∷ 5 ∷ []) ∷ any_of (5 ∷ 3 ∷ []) ∷ same_truth 5 5 ∷ same_truth 0 2 ∷ same_truth 5 0 ∷ same_truth 3 3 ∷ same_truth 2 3 ∷ [])
    ≡ no ∷ yes ∷ yes ∷ no ∷ yes ∷ yes ∷ no ∷ no ∷ no ∷ no ∷ yes ∷ no ∷ yes ∷ yes ∷ no ∷ no ∷ no ∷ []
unfolding term_value values_from value_at node_value on_both term_values_of weighed truth numbers.of_bool numbers.is_one numbers.all_one numbers.any_one reads.same_bool reads.all_there
truths = refl

-- a list that goes on behind another is greater, and a part without a value makes each order false
more_orders :
    behind_six (lex LexOp.Less (0 ∷ []) (0 ∷ 1 ∷ []) ∷ lex LexOp.AtMost (0 ∷ 1 ∷ []) (0 ∷ []) ∷ lex LexOp.AtLeast (0 ∷ 1 ∷ []) (0 ∷ []) ∷ lex LexOp.AtLeast [] (0 ∷ []) ∷ lex LexOp.AtMost (1 ∷ 0 ∷ []) (0 ∷ []) ∷ lex LexOp.Less (1 ∷ []) (0 ∷ 3 ∷ []) ∷ lex LexOp.AtMost (3 ∷ []) (3 ∷ []) ∷ lex LexOp.AtLeast (3 ∷ []) [] ∷ [])
    ≡ yes ∷ no ∷ yes ∷ no ∷ yes ∷ no ∷ no ∷ no ∷ []
unfolding term_value values_from value_at node_value on_both term_values_of weighed truth numbers.of_bool numbers.lex_holds numbers.lex_less reads.all_there
more_orders = refl

-- counts and rows of another length don't hold, whatever the other ones are; a count below 0 is reached by any list
other_lengths :
    behind_six (counts (0 ∷ []) (pos 7 ∷ []) [] ∷ counts (0 ∷ []) [] (5 ∷ []) ∷ at_least (0 ∷ []) (pos 1 ∷ pos 0 ∷ []) (pos 7 ∷ []) ∷ at_least (0 ∷ []) [] (pos 7 ∷ []) ∷ at_most (0 ∷ []) (pos 1 ∷ pos 1 ∷ []) (pos 7 ∷ []) ∷ at_most (0 ∷ []) [] (pos 7 ∷ []) ∷ at_least [] (negsuc 0 ∷ []) (pos 7 ∷ []) ∷ at_most [] (negsuc 0 ∷ []) (pos 7 ∷ []) ∷ at_least (0 ∷ 0 ∷ []) (pos 2 ∷ []) (pos 7 ∷ []) ∷ at_least (0 ∷ 0 ∷ []) (pos 3 ∷ []) (pos 7 ∷ []) ∷ at_most (0 ∷ 0 ∷ []) (pos 2 ∷ []) (pos 7 ∷ []) ∷ table (0 ∷ []) ((pos 7 ∷ []) ∷ (pos 7 ∷ pos 7 ∷ []) ∷ []) ∷ table (0 ∷ 0 ∷ []) ((pos 7 ∷ []) ∷ (pos 7 ∷ pos 7 ∷ []) ∷ []) ∷ table (0 ∷ 1 ∷ []) ((pos 7 ∷ negsuc 1 ∷ []) ∷ (pos 7 ∷ negsuc 1 ∷ []) ∷ []) ∷ table (3 ∷ []) ((pos 0 ∷ []) ∷ []) ∷ table (1 ∷ 0 ∷ []) ((pos 7 ∷ negsuc 1 ∷ []) ∷ []) ∷ [])
    ≡ no ∷ no ∷ no ∷ no ∷ no ∷ no ∷ yes ∷ no ∷ yes ∷ no ∷ yes ∷ no ∷ no ∷ yes ∷ no ∷ no ∷ []
unfolding term_value values_from value_at node_value on_both term_values_of weighed truth numbers.of_bool numbers.counts_hold numbers.times_in numbers.compare_holds numbers.is_row_of numbers.same_numbers reads.all_there
other_lengths = refl

-- equal numbers in any two places are equal, and 0 and what has no value aren't different
differences :
    behind_six (all_different (0 ∷ 1 ∷ 2 ∷ []) ∷ all_different (0 ∷ 0 ∷ []) ∷ all_different (0 ∷ 1 ∷ 0 ∷ []) ∷ all_different (2 ∷ []) ∷ all_different (2 ∷ 3 ∷ []) ∷ [])
    ≡ yes ∷ no ∷ no ∷ yes ∷ no ∷ []
unfolding term_value values_from value_at node_value on_both term_values_of weighed truth numbers.of_bool numbers.are_different numbers.has_number reads.all_there
differences = refl
