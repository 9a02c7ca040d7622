use Rattle.std.proofs.Common.{ap, sym, ◌∙◌, arith}
use Rattle.std.proofs.lemmas.List.{take_all}
use Rattle.ep_types.proofs.NameSteps.{behind_nothing, behind_other, behind_this}
use Rattle.ep_types.specs.Meanings.{behind_names, or_else}
use Rattle.ep_types.proofs.names.hidden_by.Goals as goal

pub loop-left-init : goal.loop-left-init
loop-left-init c = (omega arith, λ k. ap (λ xs. behind_names xs k c.args.name.now) (sym (take_all _ c.args.inner.now (omega arith))))

pub loop-left-preserved : goal.loop-left-preserved
loop-left-preserved c = (
  omega (arith, c.loop-left.invariant.0),
  λ k. c.loop-left.invariant.1 k
      ∙ behind_other c.args.inner.now c.loop-left.left _ c.args.name.now k c.loop-left-test.true c.loop-left.invariant.0 (sym c.eq.ensures ∙ c.if-eq.false),
)

pub returns-then-eq : goal.returns-then-eq
unfolding or_else
returns-then-eq c = λ k.
    c.loop-left.invariant.1 k
    ∙ behind_this c.args.inner.now c.loop-left.left _ c.args.name.now k c.loop-left-test.true c.loop-left.invariant.0 (sym c.eq.ensures ∙ c.if-eq.true)

pub returns : goal.returns
unfolding or_else
returns c = λ k. c.loop-left.invariant.1 k ∙ behind_nothing c.args.inner.now c.loop-left.left c.args.name.now k (omega (arith, c.loop-left-test.false))
