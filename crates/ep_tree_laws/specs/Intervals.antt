-- The results of operations lie in the intervals of the operations: laws, as statements.
use Rattle.std.specs.Prelude.{◌≡◌, List, [], ◌∷◌, ℤ, ◌*ℤ◌, neg_ℤ, Some}
use Rattle.ep_base.specs.Intervals.{Interval, LiesIn, absolute_interval, greatest_interval, least_interval, negated, power_interval, product_interval, products_interval, quotient_interval, remainder_interval, sum_interval}
use Rattle.ep_base.specs.Numbers.{absolute_of, greatest_of, least_of, power, product_of, quotient, remainder, sum_of}

-- some numbers lie in some intervals, one in each
abbrev pub LieInEach : List ℤ → List Interval → Type 0
LieInEach [] [] = Unit {0}
LieInEach [] (i ∷ is) = ⊥
LieInEach (n ∷ ns) [] = ⊥
LieInEach (n ∷ ns) (i ∷ is) = LiesIn n i × LieInEach ns is

-- `-x`
abbrev pub NegatedLies : Type 0
NegatedLies = (n : ℤ) (i : Interval) → LiesIn n i → LiesIn (neg_ℤ n) (negated i)

-- an absolute value
abbrev pub AbsoluteLies : Type 0
AbsoluteLies = (n : ℤ) (i : Interval) → LiesIn n i → LiesIn (absolute_of n) (absolute_interval i)

-- a sum
abbrev pub SumLies : Type 0
SumLies = (ns : List ℤ) (is : List Interval) → LieInEach ns is → LiesIn (sum_of ns) (sum_interval is)

-- the least of some numbers
abbrev pub LeastLies : Type 0
LeastLies =
    (ns : List ℤ) (is : List Interval) → LieInEach ns is → (n : ℤ) → least_of ns ≡ Some n → LiesIn n (least_interval is)

-- the greatest of some numbers
abbrev pub GreatestLies : Type 0
GreatestLies =
    (ns : List ℤ) (is : List Interval) → LieInEach ns is
    → (n : ℤ) → greatest_of ns ≡ Some n → LiesIn n (greatest_interval is)

-- a product of two numbers
abbrev pub ProductLies : Type 0
ProductLies = (m n : ℤ) (i j : Interval) → LiesIn m i → LiesIn n j → LiesIn (m *ℤ n) (product_interval i j)

-- a quotient, by the interval of the dividend
abbrev pub QuotientLies : Type 0
QuotientLies = (x y q : ℤ) (i : Interval) → LiesIn x i → quotient x y ≡ Some q → LiesIn q (quotient_interval i)

-- a remainder, by the interval of the divisor
abbrev pub RemainderLies : Type 0
RemainderLies = (x y r : ℤ) (j : Interval) → LiesIn y j → remainder x y ≡ Some r → LiesIn r (remainder_interval j)

-- a product of many numbers
abbrev pub ProductsLie : Type 0
ProductsLie = (ns : List ℤ) (is : List Interval) → LieInEach ns is → LiesIn (product_of ns) (products_interval is)

-- a power
abbrev pub PowerLies : Type 0
PowerLies =
    (x n p : ℤ) (i : Interval) → LiesIn x i → power x n ≡ Some p → LiesIn p (power_interval i (Some n))
