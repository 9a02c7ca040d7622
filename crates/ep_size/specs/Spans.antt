-- What is kept of an interval.
use Rattle.std.specs.Prelude.{◌≡◌, true, false, Result, Ok, Err}
use Rattle.ep_base.specs.Intervals.{Interval, farthest_end}
use Rattle.ep_base.specs.Reads.{is_too_far}
use Rattle.ep_base.specs.declared.operators.Limit.{Limit as LimitName}
use Rattle.ep_numbers.specs.Spans.{interval_of}
use Rattle.ep_numbers.specs.declared.spans.Span.{Span}
use Rattle.ep_size.specs.declared.errors.SizeError.{SizeError}
use Rattle.ep_size.specs.declared.errors.SizeError.TheVariants.{Limit, Memory}

-- an interval is kept, where none of its ends is too far from 0, and else refused
abbrev pub Keeps : Interval → Result Span SizeError → Type 0
Keeps i (Ok span) = (interval_of span ≡ i) × (is_too_far (farthest_end i) ≡ false)
Keeps i (Err (Limit l)) = (l ≡ LimitName.Reach) × (is_too_far (farthest_end i) ≡ true)
Keeps i (Err Memory) = Unit {0}
