use Rattle.std.proofs.Common.{◌≡◌, drop}
use Rattle.std.specs.Prelude.{fold, ◌+ℤ◌}
use Rattle.ep_base.specs.Intervals.{scaled}
use Rattle.ep_ground.specs.Bounds.{reach_at}
use Rattle.ep_numbers.specs.Spans.{intervals_of}
use Rattle.ep_reach.specs.Reaching.{HasNearParts}
use Rattle.ep_reach.proofs.Telling.{SumWithin}
use Rattle.ep_reach.proofs.reaches.sum_of_terms.Given as goal

abbrev pub invariant-loop-part : goal.invariant-loop-part
invariant-loop-part l = record {
  low : fold (λ a p. a +ℤ (scaled p.0 (reach_at (intervals_of l.spans) p.1)).low) l.sum.low (drop l.part-index l.parts) ≡ fold (λ a p. a +ℤ (scaled p.0 (reach_at (intervals_of l.spans) p.1)).low) l.fn.number l.parts;
  high : fold (λ a p. a +ℤ (scaled p.0 (reach_at (intervals_of l.spans) p.1)).high) l.sum.high (drop l.part-index l.parts) ≡ fold (λ a p. a +ℤ (scaled p.0 (reach_at (intervals_of l.spans) p.1)).high) l.fn.number l.parts;
  within : HasNearParts (intervals_of l.spans) l.parts → SumWithin l.part-index l.sum.low l.sum.high;
}
