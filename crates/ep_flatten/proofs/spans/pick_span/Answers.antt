use Rattle.std.proofs.Common.{rules, ◌∙◌, w64}
use Rattle.std.proofs.lemmas.Int.{to_z-of_z}
use Rattle.ep_base.specs.Intervals.{from_to, hull}
use Rattle.ep_ground.specs.Bounds.{node_reach}
use Rattle.ep_ground.specs.Nodes as nodes
use Rattle.ep_numbers.specs.Spans.{interval_of, intervals_of, wide_interval}
use Rattle.ep_flatten.proofs.Ends.{covered}
use Rattle.ep_flatten.proofs.spans.pick_span.Goals as goal

pub returns : goal.returns
unfolding node_reach hull
returns c =
    let found = c.extremes_of-found.result in
    let low = to_z-of_z w64 found.lows.low (search rules) ∙ c.extremes_of-found.ensures.least_low in
    let high = to_z-of_z w64 found.highs.high (search rules) ∙ c.extremes_of-found.ensures.greatest_high in
    record {
      covers = λ cells. covered (nodes.safe_pick c.args.parts.now c.args.keys.now c.args.indices.now) cells (intervals_of c.args.spans.now) (wide_interval c.widened.result) (interval_of c.clamped.result) c.clamped.ensures.small c.clamped.ensures.holds
          (c.widened.ensures ∙ (λ i. from_to (low i) (high i)));
    }
