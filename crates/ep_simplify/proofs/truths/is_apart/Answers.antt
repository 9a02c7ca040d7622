use Rattle.std.proofs.Common.{refl}
use Rattle.ep_base.specs.declared.run_lists.Run.{Run}
use Rattle.ep_numbers.specs.Spans.{interval_of}
use Rattle.ep_reach.proofs.Nodes.{all_next, all_whole}
use Rattle.ep_simplify.specs.Decided.{LacksAll}
use Rattle.ep_simplify.proofs.truths.is_apart.Goals as goal

pub loop-run-preserved : goal.loop-run-preserved
loop-run-preserved c =
    all_next {A = Run} (LacksAll (interval_of c.args.x)) c.args.runs.now c.loop-run.run-index _ _ c.loop-run-test.true refl
    c.loop-run.invariant (c.meets.ensures.apart c.if-meets.false)

pub returns-then-meets-clause-complete : goal.returns-then-meets-clause-complete
returns-then-meets-clause-complete c e filled some all =
    c.meets.ensures.meets c.if-meets.true (filled c.loop-run.run-index _ c.loop-run-test.true) some (all c.loop-run.run-index _ c.loop-run-test.true)

pub returns-clause-sound : goal.returns-clause-sound
returns-clause-sound c h = all_whole {A = Run} (LacksAll (interval_of c.args.x)) c.args.runs.now c.loop-run.run-index c.loop-run-test.false c.loop-run.invariant
