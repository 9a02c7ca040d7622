use Rattle.std.proofs.Common.{◌≡◌, ◌+◌, ◌-◌, ◌/◌, ◌<◌, pos, ◌<ℤ◌, length, get_or, w64, to_z, of_z, arith}
use Rattle.std.proofs.lemmas.Int.{ints}
use Rattle.std.proofs.lemmas.List.{get_or_default}
use Rattle.ep_base.specs.declared.run_lists.Run.{Run}
use Rattle.ep_base.proofs.RunSteps.{narrow_low, narrow_high}
use Rattle.ep_base.proofs.run_lists.some_has.Goals as goal

pub loop-low-preserved-then-number-run : goal.loop-low-preserved-then-number-run
loop-low-preserved-then-number-run c =
    let runs = c.args.runs.now in
    let middle = c.loop-low.low + (c.loop-low.high - c.loop-low.low) / 2 in
    let run = get_or runs middle (record { lo = pos 0; hi = pos 0 }) in
    let below : middle < c.loop-low.high = omega arith in
    let inside : middle < length runs = omega (arith, c.loop-low.invariant.within) in
    let is : (d : Run) → get_or runs middle d ≡ run = λ d. get_or_default runs middle d (record { lo = pos 0; hi = pos 0 }) inside in
    let left : to_z w64 (of_z w64 c.args.number) <ℤ run.lo = omega (arith, ints) in
    narrow_high runs _ c.loop-low.low c.loop-low.high middle run c.requires c.loop-low.invariant (omega arith) below is left

pub loop-low-preserved : goal.loop-low-preserved
loop-low-preserved c =
    let runs = c.args.runs.now in
    let middle = c.loop-low.low + (c.loop-low.high - c.loop-low.low) / 2 in
    let run = get_or runs middle (record { lo = pos 0; hi = pos 0 }) in
    let below : middle < c.loop-low.high = omega arith in
    let inside : middle < length runs = omega (arith, c.loop-low.invariant.within) in
    let is : (d : Run) → get_or runs middle d ≡ run = λ d. get_or_default runs middle d (record { lo = pos 0; hi = pos 0 }) inside in
    let right : run.hi <ℤ to_z w64 (of_z w64 c.args.number) = omega (arith, ints) in
    narrow_low runs _ c.loop-low.low c.loop-low.high middle run c.requires c.loop-low.invariant (omega arith) below is right
