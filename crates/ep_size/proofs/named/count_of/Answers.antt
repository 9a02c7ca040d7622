use Rattle.ep_size.proofs.Words.{ap, refl, length, arith}
use Rattle.ep_size.proofs.RunCounts.{count_more, numbers_none}
use Rattle.ep_size.proofs.named.count_of.Goals as goal

pub loop-run-init : goal.loop-run-init
loop-run-init c = let same = ap length c.runs-run-items.ensures.numbers in omega (arith, same)

pub loop-run-preserved : goal.loop-run-preserved
loop-run-preserved c =
    count_more c.runs-run-items.result.now c.loop-run.run-index _ _ c.loop-run.count c.count_in-more.result _ c.loop-run-test.true refl c.count_in-more.ensures
    c.loop-run.invariant

pub returns : goal.returns
returns c =
    let none = numbers_none c.runs-run-items.result.now c.loop-run.run-index c.loop-run-test.false in
    omega (arith, c.loop-run.invariant, none)
