use Rattle.std.proofs.Common.{arith}
use Rattle.ep_types_rules.proofs.RuleSteps.{count_end, count_next}
use Rattle.ep_types_rules.proofs.rules.count_slices.Goals as goal

pub loop-index-preserved : goal.loop-index-preserved
loop-index-preserved c =
    let e = count_next c.args.indices.now c.loop-index.index-index c.index-item.result c.loop-index-test.true c.index-item.is in
    (omega (arith, c.loop-index.invariant.0, c.count_one-one.ensures.within), omega (arith, c.loop-index.invariant.1, e, c.count_one-one.ensures.count))

pub returns-clause-count : goal.returns-clause-count
returns-clause-count c = let e = count_end c.args.indices.now c.loop-index.index-index c.loop-index-test.false in omega (arith, c.loop-index.invariant.1, e)
