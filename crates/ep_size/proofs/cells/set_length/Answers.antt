use Rattle.ep_size.proofs.Words.{◌+◌, ap, refl, length, ◌∙◌, arith, capped}
use Rattle.ep_size.proofs.Caps.{numbers_all, numbers_on}
use Rattle.ep_size.proofs.cells.set_length.Goals as goal

pub loop-run-init : goal.loop-run-init
loop-run-init c = record { whole = (let same = ap length c.runs-run-items.ensures.numbers in omega (arith, same)); told = omega arith }

pub loop-run-preserved : goal.loop-run-preserved
loop-run-preserved c = record {
  whole =
      numbers_on c.runs-run-items.result.now c.loop-run.run-index _ _ c.loop-run.count c.told-count.result c.loop-run-test.true refl
      (c.told-count.ensures ∙ ap (λ n. capped (c.loop-run.count + n)) c.run_length.ensures)
      ∙ c.loop-run.invariant.whole;
  told = omega (arith, c.told-count.ensures);
}

pub returns : goal.returns
returns c = numbers_all c.runs-run-items.result.now c.loop-run.run-index c.loop-run.count c.loop-run-test.false c.loop-run.invariant.told ∙ c.loop-run.invariant.whole
