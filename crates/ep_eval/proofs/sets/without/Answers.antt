use Rattle.ep_eval.proofs.Words.{not, ◌&&◌, ap, ◌∙◌, run_has}
use Rattle.ep_eval.proofs.SetSteps.{has_all, without_more}
use Rattle.ep_eval.proofs.sets.without.Goals as goal

pub loop-run-preserved : goal.loop-run-preserved
loop-run-preserved c n =
    without_more n c.args.runs.now c.loop-run.run-index _ c.args.other.now _ _ c.loop-run-test.true (c.loop-run.invariant n) (c.in_ok-add_outside.ensures n)

pub returns : goal.returns
returns c n =
    c.loop-run.invariant n
    ∙ ap (λ b. b && not (run_has n c.args.other.now)) (has_all n c.args.runs.now c.loop-run.run-index c.loop-run-test.false)
