use Rattle.std.proofs.Common.{rules, sym, ap, ◌∙◌, w64}
use Rattle.std.specs.Int.{int_max, int_min}
use Rattle.std.proofs.lemmas.Int.{to_z-of_z}
use Rattle.ep_base.specs.Intervals.{Interval}
use Rattle.ep_ground.specs.Bounds.{reach_at}
use Rattle.ep_numbers.specs.Spans.{intervals_of}
use Rattle.ep_numbers.proofs.Ends.{begun, fold_all, fold_more}
use Rattle.ep_reach.proofs.reaches.extremes_from.Goals as goal

pub loop-term-init : goal.loop-term-init
loop-term-init c =
    let low = to_z-of_z w64 c.args.first.low (search rules) in
    let high = to_z-of_z w64 c.args.first.high (search rules) in
    record {
      least_low = begun (λ a t. int_min a (reach_at (intervals_of c.args.spans.now) t).low) _ _ c.args.terms.now low;
      greatest_low = begun (λ a t. int_max a (reach_at (intervals_of c.args.spans.now) t).low) _ _ c.args.terms.now low;
      least_high = begun (λ a t. int_min a (reach_at (intervals_of c.args.spans.now) t).high) _ _ c.args.terms.now high;
      greatest_high = begun (λ a t. int_max a (reach_at (intervals_of c.args.spans.now) t).high) _ _ c.args.terms.now high;
    }

pub loop-term-preserved : goal.loop-term-preserved
loop-term-preserved c = record {
  least_low =
      fold_more (λ a t. int_min a (reach_at (intervals_of c.args.spans.now) t).low) c.args.terms.now c.loop-term.term-index c.term-item.result _ c.loop-term.found.lows.low c.with_one-found.result.lows.low _ c.loop-term-test.true c.term-item.is
      (c.with_one-found.ensures.least_low ∙ ap (λ (j : Interval). int_min c.loop-term.found.lows.low j.low) c.span_of_term.ensures) c.loop-term.invariant.least_low;
  greatest_low =
      fold_more (λ a t. int_max a (reach_at (intervals_of c.args.spans.now) t).low) c.args.terms.now c.loop-term.term-index c.term-item.result _ c.loop-term.found.lows.high c.with_one-found.result.lows.high _ c.loop-term-test.true c.term-item.is
      (c.with_one-found.ensures.greatest_low ∙ ap (λ (j : Interval). int_max c.loop-term.found.lows.high j.low) c.span_of_term.ensures) c.loop-term.invariant.greatest_low;
  least_high =
      fold_more (λ a t. int_min a (reach_at (intervals_of c.args.spans.now) t).high) c.args.terms.now c.loop-term.term-index c.term-item.result _ c.loop-term.found.highs.low c.with_one-found.result.highs.low _ c.loop-term-test.true c.term-item.is
      (c.with_one-found.ensures.least_high ∙ ap (λ (j : Interval). int_min c.loop-term.found.highs.low j.high) c.span_of_term.ensures) c.loop-term.invariant.least_high;
  greatest_high =
      fold_more (λ a t. int_max a (reach_at (intervals_of c.args.spans.now) t).high) c.args.terms.now c.loop-term.term-index c.term-item.result _ c.loop-term.found.highs.high c.with_one-found.result.highs.high _ c.loop-term-test.true c.term-item.is
      (c.with_one-found.ensures.greatest_high ∙ ap (λ (j : Interval). int_max c.loop-term.found.highs.high j.high) c.span_of_term.ensures) c.loop-term.invariant.greatest_high;
}

pub returns-clause-least_low : goal.returns-clause-least_low
returns-clause-least_low c = sym (fold_all (λ a t. int_min a (reach_at (intervals_of c.args.spans.now) t).low) c.args.terms.now c.loop-term.term-index c.loop-term.found.lows.low c.loop-term-test.false) ∙ c.loop-term.invariant.least_low

pub returns-clause-greatest_low : goal.returns-clause-greatest_low
returns-clause-greatest_low c = sym (fold_all (λ a t. int_max a (reach_at (intervals_of c.args.spans.now) t).low) c.args.terms.now c.loop-term.term-index c.loop-term.found.lows.high c.loop-term-test.false) ∙ c.loop-term.invariant.greatest_low

pub returns-clause-least_high : goal.returns-clause-least_high
returns-clause-least_high c = sym (fold_all (λ a t. int_min a (reach_at (intervals_of c.args.spans.now) t).high) c.args.terms.now c.loop-term.term-index c.loop-term.found.highs.low c.loop-term-test.false) ∙ c.loop-term.invariant.least_high

pub returns-clause-greatest_high : goal.returns-clause-greatest_high
returns-clause-greatest_high c = sym (fold_all (λ a t. int_max a (reach_at (intervals_of c.args.spans.now) t).high) c.args.terms.now c.loop-term.term-index c.loop-term.found.highs.high c.loop-term-test.false) ∙ c.loop-term.invariant.greatest_high
