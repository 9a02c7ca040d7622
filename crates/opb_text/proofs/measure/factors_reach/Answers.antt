use Rattle.std.proofs.Common.{ap, ◌∙◌, arith}
use Rattle.std.proofs.lemmas.List.{take_all}
use Rattle.opb_text.specs.Weights.{factors_reach}
use Rattle.opb_text.proofs.Measures.{size_step}
use Rattle.opb_text.proofs.measure.factors_reach.Goals as goal

pub loop-term-preserved : goal.loop-term-preserved
loop-term-preserved c = (
  size_step c.args.terms.now c.loop-term.term-index _ c.loop-term.size c.factor_reach-size.result c.loop-term-test.true c.loop-term.invariant.0 c.factor_reach-size.ensures.value,
  omega (arith, c.loop-term.invariant.1, c.factor_reach-size.ensures.small),
)

pub overflow_add-size : goal.overflow_add-size
overflow_add-size c = omega (arith, c.loop-term.invariant.1, c.factor_reach-size.ensures.small, c.loop-term-test.true, c.well_formed.0.1)

pub returns-clause-value : goal.returns-clause-value
returns-clause-value c = c.loop-term.invariant.0 ∙ ap factors_reach (take_all c.loop-term.term-index c.args.terms.now c.loop-term-test.false)

pub returns-clause-small : goal.returns-clause-small
returns-clause-small c = omega (arith, c.loop-term.invariant.1, c.loop-term.auto.term-index-end, c.well_formed.0.1)
