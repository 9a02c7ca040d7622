use Rattle.ep_unroll.proofs.Words.{◌≡◌, ◌+◌, ◌*◌, ◌∙◌, ℕ, arith, sym}
use Rattle.ep_unroll.proofs.TableSteps.{cells_all, cells_more, cells_none}
use Rattle.ep_unroll.proofs.blocks.cells_over.Goals as goal

pub loop-domain-init : goal.loop-domain-init
loop-domain-init c = cells_none c.args.domains.now

pub loop-domain-preserved : goal.loop-domain-preserved
loop-domain-preserved c =
    cells_more c.args.domains.now c.loop-domain.domain-index c.domain-item.result _ c.loop-domain.count c.set_length.result c.in_ok-more.more _ c.loop-domain-test.true c.domain-item.is
    c.set_length.ensures (c.in_ok-more.ensures.value ∙ turned c.set_length.result c.loop-domain.count) c.loop-domain.invariant
  where
    turned : (n count : ℕ) → 0 + n * count ≡ count * n
    turned n count = omega (arith)

pub returns-then-has_empty : goal.returns-then-has_empty
returns-then-has_empty c = sym (c.has_empty.ensures.empty c.if-has_empty.true)

pub returns : goal.returns
returns c = cells_all c.args.domains.now c.loop-domain.domain-index c.loop-domain.count c.loop-domain-test.false c.loop-domain.invariant
