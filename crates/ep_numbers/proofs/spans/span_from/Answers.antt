use Rattle.std.proofs.Common.{ap, refl, sym, ◌∙◌, arith, w64}
use Rattle.std.proofs.lemmas.Int.{ints, to_z-of_z}
use Rattle.ep_base.specs.RunEnds.{greatest_from, least_from}
use Rattle.ep_base.proofs.RunEnds.{greatest_all, greatest_more, least_all, least_more}
use Rattle.ep_numbers.proofs.spans.span_from.Goals as goal

pub loop-run-init : goal.loop-run-init
loop-run-init c =
    let first = c.args.first in record {
      low = ap (λ x. least_from x c.args.runs.now) (to_z-of_z w64 first.lo (omega (arith, ints)));
      high = ap (λ x. greatest_from x c.args.runs.now) (to_z-of_z w64 first.hi (omega (arith, ints)));
    }

pub loop-run-preserved : goal.loop-run-preserved
loop-run-preserved c = record {
  low =
      least_more c.args.runs.now c.loop-run.run-index _ _ c.loop-run.span.low c.with_run-span.result.low _ c.loop-run-test.true refl
      c.with_run-span.ensures.low c.loop-run.invariant.low;
  high =
      greatest_more c.args.runs.now c.loop-run.run-index _ _ c.loop-run.span.high c.with_run-span.result.high _ c.loop-run-test.true refl
      c.with_run-span.ensures.high c.loop-run.invariant.high;
}

pub returns-clause-low : goal.returns-clause-low
returns-clause-low c = sym (least_all c.args.runs.now c.loop-run.run-index c.loop-run.span.low c.loop-run-test.false) ∙ c.loop-run.invariant.low

pub returns-clause-high : goal.returns-clause-high
returns-clause-high c = sym (greatest_all c.args.runs.now c.loop-run.run-index c.loop-run.span.high c.loop-run-test.false) ∙ c.loop-run.invariant.high
