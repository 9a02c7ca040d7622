use Rattle.std.proofs.Common.{◌≡◌, drop}
use Rattle.std.specs.Prelude.{fold, ◌+ℤ◌}
use Rattle.ep_base.specs.Intervals.{scaled}
use Rattle.ep_numbers.specs.Spans.{intervals_of}
use Rattle.ep_flatten.specs.Building.{span_at}
use Rattle.ep_flatten.proofs.spans.sum_of_terms.Given as goal

abbrev pub invariant-loop-part : goal.invariant-loop-part
invariant-loop-part l = record {
  low : fold (λ a p. a +ℤ (scaled p.0 (span_at (intervals_of l.spans) p.1)).low) l.sum.low (drop l.part-index l.parts) ≡ fold (λ a p. a +ℤ (scaled p.0 (span_at (intervals_of l.spans) p.1)).low) l.fn.number l.parts;
  high : fold (λ a p. a +ℤ (scaled p.0 (span_at (intervals_of l.spans) p.1)).high) l.sum.high (drop l.part-index l.parts) ≡ fold (λ a p. a +ℤ (scaled p.0 (span_at (intervals_of l.spans) p.1)).high) l.fn.number l.parts;
}
