use Rattle.std.proofs.Common.{ap, ◌∙◌}
use Rattle.ep_base.specs.Intervals.{Interval, nth_power_interval}
use Rattle.ep_ground.specs.Bounds.{node_reach}
use Rattle.ep_ground.specs.Nodes as nodes
use Rattle.ep_numbers.specs.Spans.{interval_of, intervals_of, wide_interval}
use Rattle.ep_flatten.specs.Building.{span_at}
use Rattle.ep_flatten.proofs.Ends.{covered, covered_wider}
use Rattle.ep_flatten.proofs.spans.power_span.Goals as goal

pub returns-in-Some : goal.returns-in-Some
unfolding node_reach
returns-in-Some c = record {
  covers = λ cells.
      covered (nodes.power c.args.part c.args.exponent) cells (intervals_of c.args.spans.now) (wide_interval c.in-Some.whole) (interval_of c.clamped.result) c.clamped.ensures.small c.clamped.ensures.holds
      (c.in-Some.ensures ∙ ap (λ (i : Interval). nth_power_interval i c.args.exponent) c.span_of_term.ensures);
}

pub returns-in-None : goal.returns-in-None
returns-in-None c = record {
  covers = λ cells.
      covered_wider (nodes.power c.args.part c.args.exponent) cells (intervals_of c.args.spans.now) (wide_interval c.widest.result) (interval_of c.clamped-in-None.result) c.clamped-in-None.ensures.small c.clamped-in-None.ensures.holds
      (c.widest.ensures (node_reach cells (span_at (intervals_of c.args.spans.now)) (nodes.power c.args.part c.args.exponent)));
}
