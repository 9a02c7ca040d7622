-- Intervals within intervals.
use Rattle.ep_base.specs.Intervals.{Interval, LiesIn}

-- both ends of an interval lie in another one
pub record IsNarrower (i j : Interval) : Type 0 where
  pub low : LiesIn i.low j
  pub high : LiesIn i.high j
