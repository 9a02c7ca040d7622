use Rattle.ep_ground.specs.GroundViews.{plain_ground}
use Rattle.ep_reach.proofs.Reaching.{Bounded}
use Rattle.ep_numbers.specs.Spans.{intervals_of}
use Rattle.ep_reach.proofs.checks.is_bounded.Given as goal

abbrev pub invariant-loop-term : goal.invariant-loop-term
invariant-loop-term l = Bounded (plain_ground l.ground).nodes (plain_ground l.ground).cells l.term (intervals_of l.spans.items)
