-- What reading by keys and the operations with a value for all numbers give, as the checker computes it.
use Rattle.std.proofs.Common.{◌≡◌, ℤ, pos, negsuc, List, [], ◌∷◌, Option, Some, None, refl}
use Rattle.ep_base.specs.Numbers.{floor_over, quotient, remainder, same_numbers, sum_of}
use Rattle.ep_base.specs.Reads.{all_there, first_or_zero, picked, safe_picked, safe_quotient, safe_remainder, weighted_sum}

abbrev five_six : List ℤ
five_six = pos 5 ∷ pos 6 ∷ []

abbrev one_two : List (List ℤ)
one_two = (pos 1 ∷ []) ∷ (pos 2 ∷ []) ∷ []

-- by a key; by no key; by the first of equal keys; by a key without a part; by the empty key
reads : List (Option ℤ)
reads =
    picked five_six one_two (pos 2 ∷ [])
    ∷ picked five_six one_two (pos 3 ∷ [])
    ∷ picked five_six ((pos 1 ∷ []) ∷ (pos 1 ∷ []) ∷ []) (pos 1 ∷ [])
    ∷ picked (pos 5 ∷ []) one_two (pos 2 ∷ [])
    ∷ picked five_six ([] ∷ []) []
    ∷ picked five_six one_two (pos 1 ∷ pos 2 ∷ [])
    ∷ picked [] [] []
    ∷ []

reads_are : reads ≡ (Some (pos 6) ∷ None ∷ Some (pos 5) ∷ None ∷ Some (pos 5) ∷ None ∷ None ∷ [])
unfolding reads picked same_numbers
reads_are = refl

safe_reads_are : (safe_picked five_six one_two (pos 2 ∷ []) ∷ safe_picked five_six one_two (pos 3 ∷ []) ∷ safe_picked [] one_two (pos 1 ∷ []) ∷ []) ≡ (pos 6 ∷ pos 5 ∷ pos 0 ∷ [])
unfolding safe_picked picked same_numbers first_or_zero
safe_reads_are = refl

-- quotients and remainders with a negative divisor, and by 0
safe_divisions_are :
    (safe_quotient (pos 7) (negsuc 1) ∷ safe_quotient (pos 7) (pos 0) ∷ safe_remainder (pos 7) (negsuc 1) ∷ safe_remainder (negsuc 6) (pos 2) ∷ safe_remainder (pos 7) (pos 0) ∷ [])
    ≡ (negsuc 3 ∷ pos 0 ∷ negsuc 0 ∷ pos 1 ∷ pos 0 ∷ [])
unfolding safe_quotient safe_remainder quotient remainder floor_over
safe_divisions_are = refl

weighted_sums_are : (weighted_sum ((pos 2, pos 5) ∷ (negsuc 0, pos 3) ∷ []) ∷ weighted_sum [] ∷ []) ≡ (pos 7 ∷ pos 0 ∷ [])
unfolding weighted_sum sum_of
weighted_sums_are = refl

lists_are_there : (all_there (Some (pos 1) ∷ Some (pos 2) ∷ []) ∷ all_there (Some (pos 1) ∷ None ∷ []) ∷ all_there [] ∷ []) ≡ (Some (pos 1 ∷ pos 2 ∷ []) ∷ None ∷ Some [] ∷ [])
unfolding all_there
lists_are_there = refl
