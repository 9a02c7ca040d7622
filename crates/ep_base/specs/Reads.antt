-- Reading a list by keys, and operations that are given a value for all numbers.
--
-- That an operation without a value stands for 0, and a read for its first part, is this project's own choice.
use Rattle.std.specs.Prelude.{Bool, true, false, not, ◌≤ℤ◌, neg_ℤ, List, [], ◌∷◌, map, ℤ, pos, ◌*ℤ◌, Option, Some, unwrap_or, option_and_then, option_map, position, slice_get, int_lt}
use Rattle.ep_base.specs.Numbers.{absolute_of, quotient, remainder, same_numbers, sum_of}

-- the part at the place of the first key that has these indices; none where there is no such key or no such part
unfoldable pub picked : List ℤ → List (List ℤ) → List ℤ → Option ℤ
picked parts keys indices = option_and_then (slice_get parts) (position (λ key. same_numbers key indices) keys)

-- the first part, and 0 where there is none
unfoldable pub first_or_zero : List ℤ → ℤ
first_or_zero [] = pos 0
first_or_zero (x ∷ xs) = x

-- the part that is picked; where there is none the first part, or 0
unfoldable pub safe_picked : List ℤ → List (List ℤ) → List ℤ → ℤ
safe_picked parts keys indices = unwrap_or (picked parts keys indices) (first_or_zero parts)

-- the floor of the quotient, and 0 for x / 0
unfoldable pub safe_quotient : ℤ → ℤ → ℤ
safe_quotient x y = unwrap_or (quotient x y) (pos 0)

-- the remainder, and 0 for x % 0
unfoldable pub safe_remainder : ℤ → ℤ → ℤ
safe_remainder x y = unwrap_or (remainder x y) (pos 0)

-- the sum of numbers, each multiplied by its coefficient
unfoldable pub weighted_sum : List (ℤ × ℤ) → ℤ
weighted_sum parts = sum_of (map (λ p. p.0 *ℤ p.1) parts)

-- some numbers, where each is there
unfoldable pub all_there : List (Option ℤ) → Option (List ℤ)
all_there [] = Some []
all_there (x ∷ xs) = option_and_then (λ n. option_map (λ ns. n ∷ ns) (all_there xs)) x

-- the greatest absolute value of a number, and the greatest number that the stages compute with, which is 2 ^ 40
abbrev pub MOST_NUMBER : ℤ
MOST_NUMBER = pos 1099511627776

-- the number is no farther from 0 than the greatest one
abbrev pub IsWithinNumbers : ℤ → Type 0
IsWithinNumbers n = (neg_ℤ MOST_NUMBER ≤ℤ n) × (n ≤ℤ MOST_NUMBER)

-- whether a number is past the limit, on either side of 0
unfoldable pub is_too_far : ℤ → Bool
is_too_far n = int_lt MOST_NUMBER (absolute_of n)

-- whether two truth values are one
unfoldable pub same_bool : Bool → Bool → Bool
same_bool true b = b
same_bool false b = not b
