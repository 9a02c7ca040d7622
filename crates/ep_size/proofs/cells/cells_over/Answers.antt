use Rattle.ep_size.proofs.Words.{◌*◌, ap, ◌∙◌, arith, capped}
use Rattle.ep_size.proofs.Caps.{cells_all, cells_begin, cells_on}
use Rattle.ep_size.proofs.cells.cells_over.Goals as goal

pub loop-set-init : goal.loop-set-init
loop-set-init c = record { whole = cells_begin c.args.indices.now; told = omega arith }

pub loop-set-preserved : goal.loop-set-preserved
loop-set-preserved c = record {
  whole =
      cells_on c.args.indices.now c.loop-set.set-index c.set-item.result _ c.loop-set.cells c.product-cells.result c.loop-set-test.true c.set-item.is
      (c.product-cells.ensures ∙ ap (λ n. capped (c.loop-set.cells * n)) c.set_length.ensures) c.loop-set.invariant.told
      ∙ c.loop-set.invariant.whole;
  told = omega (arith, c.product-cells.ensures);
}

pub returns : goal.returns
returns c = cells_all c.args.indices.now c.loop-set.set-index c.loop-set.cells c.loop-set-test.false c.loop-set.invariant.told ∙ c.loop-set.invariant.whole
