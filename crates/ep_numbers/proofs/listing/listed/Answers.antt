use Rattle.std.proofs.Common.{◌∙◌, pos}
use Rattle.ep_base.specs.declared.run_lists.Run.{Run}
use Rattle.ep_base.specs.Runs.{numbers}
use Rattle.ep_numbers.proofs.Counting.{numbers_more}
use Rattle.ep_numbers.proofs.listing.listed.Goals as goal

pub loop-run-init : goal.loop-run-init
unfolding numbers
loop-run-init c = c.new-list.ensures.items

pub loop-run-preserved : goal.loop-run-preserved
loop-run-preserved c =
    let d : Run = record { lo = pos 0; hi = pos 0 } in
    let more = numbers_more c.runs-run-items.result.now c.loop-run.run-index d c.loop-run-test.true in
    c.in_ok-push_run.ensures ∙ cc
