use Rattle.std.proofs.Common.{rules, subst, w64}
use Rattle.std.specs.Prelude.{ℤ, map, ◌∷◌}
use Rattle.std.proofs.lemmas.Int.{to_z-of_z}
use Rattle.ep_base.specs.Intervals.{only, scaled, sum_interval}
use Rattle.ep_ground.specs.Bounds.{node_reach}
use Rattle.ep_ground.specs.Nodes as nodes
use Rattle.ep_numbers.specs.Spans.{interval_of, intervals_of, wide_interval}
use Rattle.ep_flatten.specs.Building.{HasSmall, span_at}
use Rattle.ep_flatten.proofs.Ends.{covered_wider}
use Rattle.ep_flatten.proofs.spans.sum_span.Goals as goal

pub returns : goal.returns
unfolding node_reach
returns c = record {
  covers = λ cells. covered_wider (nodes.sum c.args.number c.args.parts.now) cells (intervals_of c.args.spans.now) (wide_interval c.sum_of_terms.result) (interval_of c.clamped.result) c.clamped.ensures.small c.clamped.ensures.holds
      (subst (λ (n : ℤ). HasSmall (sum_interval (only n ∷ map (λ p. scaled p.0 (span_at (intervals_of c.args.spans.now) p.1)) c.args.parts.now)) (wide_interval c.sum_of_terms.result))
      (to_z-of_z w64 c.args.number (search rules)) c.sum_of_terms.ensures);
}
