use Rattle.std.proofs.Common.{pos, arith}
use Rattle.std.proofs.lemmas.Int.{ints}
use Rattle.enc_linear.specs.declared.terms.Step.{Step}
use Rattle.enc_linear.proofs.Clipping.{holds_all, holds_next}
use Rattle.enc_linear.proofs.bounds.bounds_of.Goals as goal

pub loop-step-preserved : goal.loop-step-preserved
loop-step-preserved c =
    let d : Step = record { value = pos 0; worth = pos 0 } in
    holds_next c.loop-step.bounds c.widened-bounds.result c.args.steps.now c.loop-step.step-index d _ c.loop-step-test.true c.loop-step.invariant (omega (arith, ints)) c.widened-bounds.ensures.least c.widened-bounds.ensures.greatest

pub returns : goal.returns
returns c = holds_all c.loop-step.bounds c.args.steps.now c.loop-step.step-index c.loop-step-test.false c.loop-step.invariant
