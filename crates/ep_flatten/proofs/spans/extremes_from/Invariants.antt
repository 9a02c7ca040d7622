use Rattle.std.proofs.Common.{◌≡◌, drop}
use Rattle.std.specs.Prelude.{fold}
use Rattle.std.specs.Int.{int_max, int_min}
use Rattle.ep_numbers.specs.Spans.{intervals_of}
use Rattle.ep_flatten.specs.Building.{span_at}
use Rattle.ep_flatten.proofs.spans.extremes_from.Given as goal

abbrev pub invariant-loop-term : goal.invariant-loop-term
invariant-loop-term l = record {
  least_low : fold (λ a t. int_min a (span_at (intervals_of l.spans) t).low) l.found.lows.low (drop l.term-index l.terms) ≡ fold (λ a t. int_min a (span_at (intervals_of l.spans) t).low) l.fn.first.low l.terms;
  greatest_low : fold (λ a t. int_max a (span_at (intervals_of l.spans) t).low) l.found.lows.high (drop l.term-index l.terms) ≡ fold (λ a t. int_max a (span_at (intervals_of l.spans) t).low) l.fn.first.low l.terms;
  least_high : fold (λ a t. int_min a (span_at (intervals_of l.spans) t).high) l.found.highs.low (drop l.term-index l.terms) ≡ fold (λ a t. int_min a (span_at (intervals_of l.spans) t).high) l.fn.first.high l.terms;
  greatest_high : fold (λ a t. int_max a (span_at (intervals_of l.spans) t).high) l.found.highs.high (drop l.term-index l.terms) ≡ fold (λ a t. int_max a (span_at (intervals_of l.spans) t).high) l.fn.first.high l.terms;
}
