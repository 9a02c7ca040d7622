use Rattle.std.proofs.Common.{◌<◌, length, refl, arith}
use Rattle.sat_text.proofs.EventIds.{written_starts, written_given, written_step, written_ends, hints_there, given_is, step_is}
use Rattle.sat_text.proofs.writing.put_steps.Goals as goal
use Rattle.sat_text.proofs.writing.put_steps.Goals.{in-None, in-Some+in_ok-put_step-in-Some}

pub loop-place-init : goal.loop-place-init
loop-place-init c = written_starts c.args.out.now.items c.args.ids.now c.args.events.now

pub put_step-requires : goal.put_step-requires
put_step-requires c =
    let events = c.args.events.now in
    let k = c.loop-place.place in
    let below : k < length events = omega (arith, c.loop-place-test.true, c.len-place-end.ensures.value) in
    hints_there events k (length c.args.ids.now) c.clause.result.now c.in-Some.hints.now c.requires.hints below (step_is events k c.clause.result.now c.in-Some.hints.now below c.in-Some.ensures.step c.clause.ensures.value) c.requires.all

pub loop-place-preserved : goal.loop-place-preserved
loop-place-preserved c =
    let events = c.args.events.now in
    let k = c.loop-place.place in
    let below : k < length events = omega (arith, c.loop-place-test.true, c.len-place-end.ensures.value) in
    elim c.match-hints.branch [
      | in-None w ↦ rw w.out-is (written_given c.args.out.now.items c.loop-place.out.items c.args.ids.now k events _ c.loop-place.invariant (omega (arith, c.requires.all, below)) below (given_is events k below (w.in-None.ensures.given refl)))
      | in-Some+in_ok-put_step-in-Some w ↦
          rw (w.out-is, w.in_ok-put_step-in-Some.ensures)
          (written_step c.args.out.now.items c.loop-place.out.items c.args.ids.now k events _ _ c.loop-place.invariant (omega (arith, c.requires.all, below)) below (step_is events k w.clause.result.now w.in-Some.hints.now below w.in-Some.ensures.step w.clause.ensures.value))
    ]

pub returns : goal.returns
returns c = written_ends c.args.out.now.items c.loop-place.out.items c.args.ids.now c.loop-place.place c.args.events.now c.loop-place.invariant (omega (arith, c.loop-place-test.false, c.len-place-end.ensures.value)) c.requires.all
