use Rattle.std.proofs.Common.{◌≡◌, ◌∙◌, ◌+◌, pos, length, get_or, refl, ap, arith, length-append, take}
use Rattle.std.proofs.lemmas.List.{take_all}
use Rattle.ep_base.specs.declared.run_lists.Run.{Run}
use Rattle.ep_base.specs.Runs.{numbers, numbers_in}
use Rattle.ep_numbers.proofs.Counting.{numbers_more}
use Rattle.ep_numbers.proofs.listing.set_length.Goals as goal

pub loop-run-init : goal.loop-run-init
unfolding numbers
loop-run-init c = (refl, omega arith)

pub loop-run-preserved : goal.loop-run-preserved
loop-run-preserved c =
    let runs = c.runs-run-items.result.now in
    let k = c.loop-run.run-index in
    let d : Run = record { lo = pos 0; hi = pos 0 } in
    let run : Run = get_or runs k d in
    let more : length (numbers (take (k + 1) runs)) ≡ length (numbers (take k runs)) + length (numbers_in run) =
    ap length (numbers_more runs k d c.loop-run-test.true) ∙ length-append (numbers (take k runs)) (numbers_in run) in
    (omega (arith, more, c.run_length-total.ensures.length), omega (arith, c.run_length-total.ensures.small))

pub returns : goal.returns
returns c =
    let all : numbers (take c.loop-run.run-index c.runs-run-items.result.now) ≡ c.args.set.now =
    ap numbers (take_all c.loop-run.run-index c.runs-run-items.result.now c.loop-run-test.false) ∙ c.runs-run-items.ensures.numbers in
    c.loop-run.invariant.0 ∙ ap length all
