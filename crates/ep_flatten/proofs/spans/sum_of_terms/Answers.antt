use Rattle.std.proofs.Common.{rules, sym, ap, ◌∙◌, ◌≡◌, w64}
use Rattle.std.specs.Prelude.{◌+ℤ◌}
use Rattle.std.proofs.lemmas.Int.{to_z-of_z}
use Rattle.ep_base.specs.Intervals.{Interval, scaled}
use Rattle.ep_numbers.specs.Spans.{intervals_of, wide_interval}
use Rattle.ep_flatten.specs.Building.{span_at}
use Rattle.ep_numbers.proofs.Ends.{begun, fold_all, fold_more}
use Rattle.ep_flatten.proofs.Ends.{summed}
use Rattle.ep_flatten.proofs.spans.sum_of_terms.Goals as goal

pub loop-part-init : goal.loop-part-init
loop-part-init c = record {
  low = begun (λ a p. a +ℤ (scaled p.0 (span_at (intervals_of c.args.spans.now) p.1)).low) _ _ c.args.parts.now (ap (λ (j : Interval). j.low) c.widened-sum.ensures);
  high = begun (λ a p. a +ℤ (scaled p.0 (span_at (intervals_of c.args.spans.now) p.1)).high) _ _ c.args.parts.now (ap (λ (j : Interval). j.high) c.widened-sum.ensures);
}

pub loop-part-preserved : goal.loop-part-preserved
loop-part-preserved c =
    let part = c.part-item.result in
    let number = to_z-of_z w64 part.0 (search rules) in
    let one : wide_interval c.scaled.result ≡ scaled part.0 (span_at (intervals_of c.args.spans.now) part.1) = c.scaled.ensures ∙ (λ i. scaled (number i) (c.span_of_term.ensures i)) in
    record {
      low =
          fold_more (λ a p. a +ℤ (scaled p.0 (span_at (intervals_of c.args.spans.now) p.1)).low) c.args.parts.now c.loop-part.part-index part _ c.loop-part.sum.low c.in-Some.more.low _ c.loop-part-test.true c.part-item.is
          (ap (λ (j : Interval). j.low) c.in-Some.ensures.sum ∙ ap (λ (j : Interval). c.loop-part.sum.low +ℤ j.low) one) c.loop-part.invariant.low;
      high =
          fold_more (λ a p. a +ℤ (scaled p.0 (span_at (intervals_of c.args.spans.now) p.1)).high) c.args.parts.now c.loop-part.part-index part _ c.loop-part.sum.high c.in-Some.more.high _ c.loop-part-test.true c.part-item.is
          (ap (λ (j : Interval). j.high) c.in-Some.ensures.sum ∙ ap (λ (j : Interval). c.loop-part.sum.high +ℤ j.high) one) c.loop-part.invariant.high;
    }

pub returns : goal.returns
returns c =
    let number = to_z-of_z w64 c.args.number (search rules) in
    summed (λ p. scaled p.0 (span_at (intervals_of c.args.spans.now) p.1)) c.args.number c.loop-part.sum.low c.loop-part.sum.high c.args.parts.now
    (sym (fold_all (λ a p. a +ℤ (scaled p.0 (span_at (intervals_of c.args.spans.now) p.1)).low) c.args.parts.now c.loop-part.part-index c.loop-part.sum.low c.loop-part-test.false) ∙ c.loop-part.invariant.low ∙ begun (λ a p. a +ℤ (scaled p.0 (span_at (intervals_of c.args.spans.now) p.1)).low) _ _ c.args.parts.now number)
    (sym (fold_all (λ a p. a +ℤ (scaled p.0 (span_at (intervals_of c.args.spans.now) p.1)).high) c.args.parts.now c.loop-part.part-index c.loop-part.sum.high c.loop-part-test.false) ∙ c.loop-part.invariant.high ∙ begun (λ a p. a +ℤ (scaled p.0 (span_at (intervals_of c.args.spans.now) p.1)).high) _ _ c.args.parts.now number)
