use Rattle.std.proofs.Common.{get_or, pos, refl, subst}
use Rattle.std.specs.List.{All}
use Rattle.ep_base.specs.declared.run_lists.Run.{Run}
use Rattle.ep_base.specs.Reads.{IsWithinNumbers}
use Rattle.enc_all_tests.proofs.Small.{HasSmallEnds, all_next, all_whole, small_numbers}
use Rattle.enc_all_tests.proofs.sound.is_small.Goals as goal

pub loop-run-preserved : goal.loop-run-preserved
loop-run-preserved c =
    let none : Run = record { lo = pos 0; hi = pos 0 } in
    all_next HasSmallEnds c.runs-parts.result.now c.loop-run.run-index (get_or c.runs-parts.result.now c.loop-run.run-index none) none c.loop-run-test.true refl c.loop-run.invariant
    (c.has_small_ends.ensures.low c.if-not-has_small_ends.false, c.has_small_ends.ensures.high c.if-not-has_small_ends.false)

pub returns : goal.returns
returns c h =
    subst (All IsWithinNumbers) c.runs-parts.ensures.numbers
    (small_numbers c.runs-parts.result.now (all_whole HasSmallEnds c.runs-parts.result.now c.loop-run.run-index c.loop-run-test.false c.loop-run.invariant))
