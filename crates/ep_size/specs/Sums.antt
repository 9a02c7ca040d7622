-- What a running sum keeps of the numbers that were added to it.
use Rattle.std.specs.Prelude.{◌≡◌, ◌*◌, ◌<◌, ◌^◌, List, length, sum_by, pos, neg_ℤ, ◌≤ℤ◌}
use Rattle.ep_base.specs.Intervals.{highs, lows}
use Rattle.ep_base.specs.Numbers.{sum_of}
use Rattle.ep_tree.specs.Measures.{decided_parts}
use Rattle.ep_tree.specs.Reach.{Span, reaches}
use Rattle.ep_size.specs.Totals.{capped}
use Rattle.ep_size.specs.declared.sums.Summed.{Summed}

-- numbers are added: so far their ends make these sums, and their spreads and how many hold a decision variable are told
-- as far as a weight is
pub record Sums (t : Summed) (spans : List Span) : Type 0 where
  pub few : length spans < 2 ^ 64
  pub low : t.low ≡ sum_of (lows (reaches spans))
  pub high : t.high ≡ sum_of (highs (reaches spans))
  pub low_least : neg_ℤ (pos (9223372036854775808 * length spans)) ≤ℤ t.low
  pub low_most : t.low ≤ℤ pos (9223372036854775808 * length spans)
  pub high_least : neg_ℤ (pos (9223372036854775808 * length spans)) ≤ℤ t.high
  pub high_most : t.high ≤ℤ pos (9223372036854775808 * length spans)
  pub spreads : t.spreads ≡ capped (sum_by (λ s. s.spread) (decided_parts spans))
  pub parts : t.parts ≡ capped (length (decided_parts spans))
