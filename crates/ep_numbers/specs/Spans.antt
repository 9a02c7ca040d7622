-- The intervals that the code keeps.
use Rattle.std.specs.Prelude.{List, map, ℤ, pos, neg_ℤ, ◌≤ℤ◌}
use Rattle.ep_base.specs.Intervals.{Interval, from_to}
use Rattle.ep_numbers.specs.declared.spans.Span.{Span}
use Rattle.ep_numbers.specs.declared.spans.WideSpan.{WideSpan}

-- an interval as the code keeps it
abbrev pub interval_of : Span → Interval
interval_of span = from_to span.low span.high

-- the same of ends that may be far from 0
abbrev pub wide_interval : WideSpan → Interval
wide_interval wide = from_to wide.low wide.high

-- the intervals that the code keeps
abbrev pub intervals_of : List Span → List Interval
intervals_of spans = map interval_of spans

-- a number that fits a word of 128 bits with room
abbrev pub IsWide : ℤ → Type 0
IsWide n = (neg_ℤ (pos 85070591730234615865843651857942052864) ≤ℤ n) × (n ≤ℤ pos 85070591730234615865843651857942052864)
