use Rattle.std.proofs.Common.{◌+◌, arith, rules, subst, sym, ap, ◌∙◌, ◌≡◌, w64}
use Rattle.std.specs.Prelude.{◌+ℤ◌}
use Rattle.std.proofs.lemmas.Int.{to_z-of_z}
use Rattle.ep_base.specs.Intervals.{Interval, scaled}
use Rattle.ep_ground.specs.Bounds.{reach_at}
use Rattle.ep_numbers.specs.Spans.{intervals_of, wide_interval}
use Rattle.ep_base.specs.Reads.{IsWithinNumbers}
use Rattle.ep_reach.proofs.Telling.{SumWithin, mapped_at, reach_near, scaled_small, sum_begun, sum_wide, sum_within_more}
use Rattle.ep_numbers.proofs.Ends.{begun, fold_all, fold_more}
use Rattle.ep_reach.proofs.Ends.{summed}
use Rattle.ep_reach.proofs.reaches.sum_of_terms.Goals as goal

pub loop-part-init : goal.loop-part-init
loop-part-init c = record {
  low = begun (λ a p. a +ℤ (scaled p.0 (reach_at (intervals_of c.args.spans.now) p.1)).low) _ _ c.args.parts.now (ap (λ (j : Interval). j.low) c.only-sum.ensures);
  high = begun (λ a p. a +ℤ (scaled p.0 (reach_at (intervals_of c.args.spans.now) p.1)).high) _ _ c.args.parts.now (ap (λ (j : Interval). j.high) c.only-sum.ensures);
  within = λ h.
      let number = to_z-of_z w64 c.args.number (search rules) in
      sum_begun c.args.number c.only-sum.result.low c.only-sum.result.high (search rules) (ap (λ (j : Interval). j.low) c.only-sum.ensures ∙ number) (ap (λ (j : Interval). j.high) c.only-sum.ensures ∙ number);
}

pub loop-part-preserved : goal.loop-part-preserved
loop-part-preserved c =
    let part = c.part-item.result in
    let number = to_z-of_z w64 part.0 (search rules) in
    let one : wide_interval c.scaled.result ≡ scaled part.0 (reach_at (intervals_of c.args.spans.now) part.1) = c.scaled.ensures ∙ (λ i. scaled (number i) (c.span_of_term.ensures i)) in
    record {
      low =
          fold_more (λ a p. a +ℤ (scaled p.0 (reach_at (intervals_of c.args.spans.now) p.1)).low) c.args.parts.now c.loop-part.part-index part _ c.loop-part.sum.low c.in-Some.more.low _ c.loop-part-test.true c.part-item.is
          (ap (λ (j : Interval). j.low) c.in-Some.ensures.sum ∙ ap (λ (j : Interval). c.loop-part.sum.low +ℤ j.low) one) c.loop-part.invariant.low;
      high =
          fold_more (λ a p. a +ℤ (scaled p.0 (reach_at (intervals_of c.args.spans.now) p.1)).high) c.args.parts.now c.loop-part.part-index part _ c.loop-part.sum.high c.in-Some.more.high _ c.loop-part-test.true c.part-item.is
          (ap (λ (j : Interval). j.high) c.in-Some.ensures.sum ∙ ap (λ (j : Interval). c.loop-part.sum.high +ℤ j.high) one) c.loop-part.invariant.high;
      within = λ h.
          let small = scaled_small part.0 (reach_at (intervals_of c.args.spans.now) part.1) (wide_interval c.scaled.result) one
          (mapped_at IsWithinNumbers (λ p. p.0) c.args.parts.now c.loop-part.part-index part part c.loop-part-test.true c.part-item.is h.coefficients)
          (reach_near (intervals_of c.args.spans.now) part.1 h.before) in
          subst (λ (j : Interval). SumWithin (c.loop-part.part-index + 1) j.low j.high) (sym c.in-Some.ensures.sum)
          (sum_within_more c.loop-part.part-index c.loop-part.sum.low c.loop-part.sum.high c.scaled.result.low c.scaled.result.high (c.loop-part.invariant.within h) small.0 small.1);
    }

pub returns-in_default-clause-told : goal.returns-in_default-clause-told
returns-in_default-clause-told c h =
    let part = c.part-item.result in
    let number = to_z-of_z w64 part.0 (search rules) in
    let one : wide_interval c.scaled.result ≡ scaled part.0 (reach_at (intervals_of c.args.spans.now) part.1) = c.scaled.ensures ∙ (λ i. scaled (number i) (c.span_of_term.ensures i)) in
    let small = scaled_small part.0 (reach_at (intervals_of c.args.spans.now) part.1) (wide_interval c.scaled.result) one
    (mapped_at IsWithinNumbers (λ p. p.0) c.args.parts.now c.loop-part.part-index part part c.loop-part-test.true c.part-item.is h.coefficients)
    (reach_near (intervals_of c.args.spans.now) part.1 h.before) in
    let more = sum_within_more c.loop-part.part-index c.loop-part.sum.low c.loop-part.sum.high c.scaled.result.low c.scaled.result.high (c.loop-part.invariant.within h) small.0 small.1 in
    let wide = sum_wide (c.loop-part.part-index + 1) (c.loop-part.sum.low +ℤ c.scaled.result.low) (c.loop-part.sum.high +ℤ c.scaled.result.high) (omega (arith, c.loop-part-test.true, h.few)) more in
    c.in_default.ensures.told wide.0 wide.1

pub returns-clause-sum : goal.returns-clause-sum
returns-clause-sum c =
    let number = to_z-of_z w64 c.args.number (search rules) in
    summed (λ p. scaled p.0 (reach_at (intervals_of c.args.spans.now) p.1)) c.args.number c.loop-part.sum.low c.loop-part.sum.high c.args.parts.now
    (sym (fold_all (λ a p. a +ℤ (scaled p.0 (reach_at (intervals_of c.args.spans.now) p.1)).low) c.args.parts.now c.loop-part.part-index c.loop-part.sum.low c.loop-part-test.false) ∙ c.loop-part.invariant.low ∙ begun (λ a p. a +ℤ (scaled p.0 (reach_at (intervals_of c.args.spans.now) p.1)).low) _ _ c.args.parts.now number)
    (sym (fold_all (λ a p. a +ℤ (scaled p.0 (reach_at (intervals_of c.args.spans.now) p.1)).high) c.args.parts.now c.loop-part.part-index c.loop-part.sum.high c.loop-part-test.false) ∙ c.loop-part.invariant.high ∙ begun (λ a p. a +ℤ (scaled p.0 (reach_at (intervals_of c.args.spans.now) p.1)).high) _ _ c.args.parts.now number)
