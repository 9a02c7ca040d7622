-- Sums of intervals.
use Rattle.std.specs.Prelude.{◌≡◌, List, ◌∷◌, map, ℤ, ◌+ℤ◌, fold}
use Rattle.std.proofs.Common.{ap, sym, ◌∙◌}
use Rattle.ep_base.specs.Intervals.{Interval, from_to, highs, lows, only, sum_interval}
use Rattle.ep_base.specs.Numbers.{sum_of}
use Rattle.ep_numbers.proofs.Ends.{high_parts, low_parts}

-- what is added up from a number on is the interval of the sum
pub summed : {A : Type 0} (g : A → Interval) (c low high : ℤ) (xs : List A) → low ≡ fold (λ b x. b +ℤ (g x).low) c xs → high ≡ fold (λ b x. b +ℤ (g x).high) c xs
    → from_to low high ≡ sum_interval (only c ∷ map g xs)
unfolding sum_interval sum_of
summed g c low high xs e f = ap (λ x. from_to x high) (e ∙ low_parts g c xs) ∙ ap (λ x. from_to (c +ℤ sum_of (lows (map g xs))) x) (f ∙ high_parts g c xs)
