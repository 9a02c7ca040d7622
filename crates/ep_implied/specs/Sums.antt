-- Sums of variables with coefficients.
use Rattle.std.specs.Prelude.{◌≡◌, ◌<◌, int_le, true, false, ℕ, ◌+◌, ℤ, pos, ◌+ℤ◌, ◌*ℤ◌, ◌≤ℤ◌, Bool, List, [], ◌∷◌, map}
use Rattle.std.specs.List.{All}
use Rattle.ep_base.specs.Reads.{IsWithinNumbers, weighted_sum}
use Rattle.ep_base.specs.declared.operators.CompareOp.{CompareOp}
use Rattle.ep_flat.specs.Cons.{number_at}
use Rattle.ep_implied.specs.declared.sums.Within.{Within}

-- what variables from one on, each with its coefficient, add up to
abbrev pub weighed : ℕ → List ℤ → List ℤ → ℤ
weighed place [] values = pos 0
weighed place (c ∷ cs) values = (c *ℤ number_at values place) +ℤ weighed (place + 1) cs values

-- what variables with coefficients, in any order, add up to
abbrev pub parts_sum : List (ℤ × ℕ) → List ℤ → ℤ
parts_sum parts values = weighted_sum (map (λ part. (part.0, number_at values part.1)) parts)

-- what the variables add up to is at most the number
abbrev pub HoldsWithin : Within → List ℤ → Type 0
HoldsWithin sum values = weighed 0 sum.coefficients.items values ≤ℤ sum.most

-- whether a sum that compares so with a number is at most that number, both so many times
abbrev pub stays_within : CompareOp → ℤ → Bool
stays_within CompareOp.Equal times = true
stays_within CompareOp.NotEqual times = false
stays_within CompareOp.Less times = int_le (pos 0) times
stays_within CompareOp.AtMost times = int_le (pos 0) times
stays_within CompareOp.Greater times = int_le times (pos 0)
stays_within CompareOp.AtLeast times = int_le times (pos 0)

-- a coefficient, taken so many times, counts no more than another one, for a variable that is natural where that is asked
pub record IsRounded (whole unit : ℤ) (natural : Bool) (coefficient : ℤ) : Type 0 where
  pub near : IsWithinNumbers coefficient
  pub below : (value : ℤ) → (natural ≡ true → pos 0 ≤ℤ value) → (unit *ℤ (coefficient *ℤ value)) ≤ℤ (whole *ℤ value)

-- a part came to others: they add up to as much more, and name what they named and its variable
pub record TakesIn (part : ℤ × ℕ) (old new : List (ℤ × ℕ)) : Type 0 where
  pub sum : (values : List ℤ) → parts_sum new values ≡ (parts_sum old values +ℤ (part.0 *ℤ number_at values part.1))
  pub names : (count : ℕ) → All (λ p. p.1 < count) old → part.1 < count → All (λ p. p.1 < count) new
  pub small : All (λ p. IsWithinNumbers p.0) old → IsWithinNumbers part.0 → All (λ p. IsWithinNumbers p.0) new
