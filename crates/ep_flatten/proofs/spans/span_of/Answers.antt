use Rattle.std.proofs.Common.{sym, ◌∙◌}
use Rattle.ep_ground.specs.Bounds.{node_reach}
use Rattle.ep_ground.specs.NodeViews.{plain_node}
use Rattle.ep_numbers.specs.Spans.{interval_of, intervals_of, wide_interval}
use Rattle.ep_flatten.specs.Building.{span_at}
use Rattle.ep_flatten.proofs.Adding.{covers_node}
use Rattle.ep_flatten.proofs.Ends.{covered_wider}
use Rattle.ep_flatten.proofs.spans.span_of.Goals as goal

pub returns-then-is_truth : goal.returns-then-is_truth
returns-then-is_truth c = record { covers = λ cells. covers_node (plain_node c.args.node.now) (sym c.is_truth.ensures ∙ c.if-is_truth.true) cells (intervals_of c.args.spans.now) }

pub returns-in_default : goal.returns-in_default
returns-in_default c = record {
  covers = λ cells.
      covered_wider (plain_node c.args.node.now) cells (intervals_of c.args.spans.now) (wide_interval c.widest.result) (interval_of c.clamped.result) c.clamped.ensures.small c.clamped.ensures.holds
      (c.widest.ensures (node_reach cells (span_at (intervals_of c.args.spans.now)) (plain_node c.args.node.now)));
}
