use Rattle.std.proofs.Common.{ap, ◌∙◌}
use Rattle.ep_base.specs.Intervals.{remainder_interval}
use Rattle.ep_ground.specs.Bounds.{node_reach}
use Rattle.ep_ground.specs.Nodes as nodes
use Rattle.ep_numbers.specs.Spans.{interval_of, intervals_of, wide_interval}
use Rattle.ep_flatten.proofs.Ends.{covered}
use Rattle.ep_flatten.proofs.spans.remainder_span.Goals as goal

pub returns : goal.returns
unfolding node_reach
returns c = record {
  covers = λ cells. covered (nodes.safe_remainder c.args.one c.args.other) cells (intervals_of c.args.spans.now) (wide_interval c.remainder.result) (interval_of c.clamped.result) c.clamped.ensures.small c.clamped.ensures.holds
      (c.remainder.ensures ∙ ap remainder_interval c.span_of_term.ensures);
}
