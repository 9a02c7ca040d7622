-- Intervals of whole numbers: those in which the results of operations lie, where the parts lie in intervals.
--
-- They are this project's own. An interval without a number doesn't occur: where there is no part, [0, 0] stands.
use Rattle.std.specs.Prelude.{ℕ, zero, suc, ◌+◌, ◌*◌, min, ◌&&◌, Bool, List, [], ◌∷◌, map, ℤ, pos, negsuc, ◌+ℤ◌, ◌-ℤ◌, ◌*ℤ◌, ◌≤ℤ◌, neg_ℤ, if◌then◌else◌, int_le, Some, None, fold, Option, unwrap_or}
use Rattle.std.specs.Int.{int_max, int_min}
use Rattle.ep_base.specs.Numbers.{absolute_of, greatest_of, least_of, nth_power, sum_of}
use Rattle.ep_base.specs.Reads.{IsWithinNumbers}
use Rattle.ep_base.specs.Runs.{or_zero}

-- the whole numbers from the lower end to the upper end
pub record Interval : Type 0 where
  pub low : ℤ
  pub high : ℤ

-- the interval with these ends
abbrev pub from_to : ℤ → ℤ → Interval
from_to low high = record { low = low; high = high }

-- the number lies in the interval
abbrev pub LiesIn : ℤ → Interval → Type 0
LiesIn number i = (i.low ≤ℤ number) × (number ≤ℤ i.high)

-- a number alone
abbrev pub only : ℤ → Interval
only n = from_to n n

-- the numbers of truth values
abbrev pub truth_interval : Interval
truth_interval = from_to (pos 0) (pos 1)

-- how many numbers lie in an interval
unfoldable pub width : Interval → ℕ
width i = or_zero ((i.high +ℤ pos 1) -ℤ i.low)

-- the least of some numbers, and 0 for none
unfoldable pub least_or_zero : List ℤ → ℤ
least_or_zero xs = unwrap_or (least_of xs) (pos 0)

-- the greatest of some numbers, and 0 for none
unfoldable pub greatest_or_zero : List ℤ → ℤ
greatest_or_zero xs = unwrap_or (greatest_of xs) (pos 0)

-- from the least of some numbers to the greatest
unfoldable pub spanned : List ℤ → Interval
spanned xs = from_to (least_or_zero xs) (greatest_or_zero xs)

-- the lower ends
abbrev pub lows : List Interval → List ℤ
lows is = map (λ i. i.low) is

-- the upper ends
abbrev pub highs : List Interval → List ℤ
highs is = map (λ i. i.high) is

-- `-x`: the ends are negated and swapped
unfoldable pub negated : Interval → Interval
negated i = from_to (neg_ℤ i.high) (neg_ℤ i.low)

-- a sum: the ends are added
unfoldable pub sum_interval : List Interval → Interval
sum_interval is = from_to (sum_of (lows is)) (sum_of (highs is))

-- x * y: from the least to the greatest of the four products of ends
unfoldable pub product_interval : Interval → Interval → Interval
product_interval i j = spanned ((i.low *ℤ j.low) ∷ (i.low *ℤ j.high) ∷ (i.high *ℤ j.low) ∷ (i.high *ℤ j.high) ∷ [])

-- the numbers of an interval, each multiplied by a coefficient
unfoldable pub scaled : ℤ → Interval → Interval
scaled a i = product_interval (only a) i

-- a product of many parts: from [1, 1], part by part
unfoldable pub products_interval : List Interval → Interval
products_interval is = fold product_interval (only (pos 1)) is

-- the greatest absolute value of the ends
unfoldable pub farthest_end : Interval → ℤ
farthest_end i = int_max (absolute_of i.low) (absolute_of i.high)

-- x / y: from -m to m, where m is the greatest absolute value of the ends of x
unfoldable pub quotient_interval : Interval → Interval
quotient_interval i = from_to (neg_ℤ (farthest_end i)) (farthest_end i)

-- x % y, by the interval of y: from -(k - 1) to k - 1, where k is the greater of 1 and the absolute values of its ends.
-- The lower end is 0 where y isn't negative, and the upper one where y isn't positive.
unfoldable pub remainder_interval : Interval → Interval
remainder_interval j =
    let most : ℤ = int_max (pos 1) (farthest_end j) -ℤ pos 1 in
    from_to
    (if int_le (pos 0) j.low then pos 0 else neg_ℤ most)
    (if int_le j.high (pos 0) then pos 0 else most)

-- whether 0 lies in an interval
unfoldable pub has_zero : Interval → Bool
has_zero i = int_le i.low (pos 0) && int_le (pos 0) i.high

-- x ** n for a number n: [1, 1] for 0, and else from the least to the greatest of the powers of the ends, with 0 where x
-- may be 0
unfoldable pub nth_power_interval : Interval → ℕ → Interval
nth_power_interval i zero = only (pos 1)
nth_power_interval i (suc n) =
    spanned (nth_power i.low (suc n) ∷ nth_power i.high (suc n) ∷ (if has_zero i then pos 0 ∷ [] else []))

-- x ** n, where n may have no value or be negative: [0, 0] then
unfoldable pub power_interval : Interval → Option ℤ → Interval
power_interval i None = only (pos 0)
power_interval i (Some (negsuc n)) = only (pos 0)
power_interval i (Some (pos n)) = nth_power_interval i n

-- an absolute value: from 0, or from the lesser absolute end where x is never 0, to the greater absolute end
unfoldable pub absolute_interval : Interval → Interval
absolute_interval i =
    from_to (if has_zero i then pos 0 else int_min (absolute_of i.low) (absolute_of i.high)) (farthest_end i)

-- the least of some parts: from the least lower end to the least upper end
unfoldable pub least_interval : List Interval → Interval
least_interval is = from_to (least_or_zero (lows is)) (least_or_zero (highs is))

-- the greatest of some parts: from the greatest lower end to the greatest upper end
unfoldable pub greatest_interval : List Interval → Interval
greatest_interval is = from_to (greatest_or_zero (lows is)) (greatest_or_zero (highs is))

-- one of some parts: from the least lower end to the greatest upper end
unfoldable pub hull : List Interval → Interval
hull is = from_to (least_or_zero (lows is)) (greatest_or_zero (highs is))

-- What a sum costs, of this width, where the spreads of its decided parts add up so and the parts are so many: a row of
-- order literals for each partial sum, or binary adders, whichever is less.
unfoldable pub sum_cost : ℕ → ℕ → ℕ → ℕ
sum_cost width spreads parts = min (width * spreads) (8 * (width + spreads) + 1024 * parts)

-- an interval lies within the numbers that the stages compute with
pub record IsWithinReach (i : Interval) : Type 0 where
  pub low : IsWithinNumbers i.low
  pub high : IsWithinNumbers i.high
