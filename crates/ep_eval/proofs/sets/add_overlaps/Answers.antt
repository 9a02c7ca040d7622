use Rattle.ep_eval.proofs.SetSteps.{overlaps_more}
use Rattle.ep_eval.proofs.Words.{runs_have}
use Rattle.ep_eval.proofs.sets.add_overlaps.Goals as goal

pub loop-run-preserved : goal.loop-run-preserved
loop-run-preserved c n =
    overlaps_more n c.args.runs.now c.loop-run.run-index _ c.args.other.now c.overlap.result (runs_have n c.args.parts.now.items) _ _
    c.loop-run-test.true (c.loop-run.invariant n) (c.overlap.ensures n) (c.in_ok-add_filled.ensures n)
