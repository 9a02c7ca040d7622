use Rattle.std.proofs.Common.{◌∙◌, ◌+ℤ◌, ap, refl}
use Rattle.enc_linear.specs.declared.terms.Term.{Term}
use Rattle.enc_linear.proofs.Clipping.{bounds_next, bounds_none}
use Rattle.enc_linear.proofs.bounds.bounds_of_sum.Goals as goal

pub loop-term-init : goal.loop-term-init
loop-term-init c = bounds_none _ c.args.terms.now refl refl

pub loop-term-preserved : goal.loop-term-preserved
loop-term-preserved c =
    bounds_next c.loop-term.bounds c.in_ok-bounds.bounds c.args.terms.now c.loop-term.term-index c.term-item.result c.loop-term-test.true c.loop-term.invariant
    (c.in_ok-bounds.ensures.least ∙ ap (λ (t : Term). c.loop-term.bounds.least +ℤ t.bounds.least) c.term-item.is)
    (c.in_ok-bounds.ensures.greatest ∙ ap (λ (t : Term). c.loop-term.bounds.greatest +ℤ t.bounds.greatest) c.term-item.is)
