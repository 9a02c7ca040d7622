use Rattle.std.proofs.Common.{◌<◌, ap, ◌∙◌, length, refl, arith}
use Rattle.cnf_core.specs.Events.{clause_of, event_at}
use Rattle.sat_text.proofs.EventIds.{length-event_ids, numbering_starts, numbering_given, numbering_step, numbering_ends, given_is, step_is}
use Rattle.sat_text.proofs.writing.ids.Goals as goal
use Rattle.sat_text.proofs.writing.ids.Goals.{in-Some+in_ok-push-in-Some, in-None+in_ok-push-in-None}

pub loop-place-init : goal.loop-place-init
loop-place-init c = rw c.new-made.ensures.items (numbering_starts c.args.events.now c.count_givens.result c.count_givens.ensures.value)

pub loop-place-preserved : goal.loop-place-preserved
loop-place-preserved c =
    let events = c.args.events.now in
    let k = c.loop-place.place in
    let below : k < length events = omega (arith, c.loop-place-test.true, c.len-place-end.ensures.value) in
    elim c.match-hints.branch [
      | in-Some+in_ok-push-in-Some w ↦
          rw (w.made-is, w.given_id-is, w.step_id-is, w.in_ok-push-in-Some.ensures.items)
          (numbering_step c.loop-place.made.items c.loop-place.given_id c.loop-place.step_id k events _ _ c.loop-place.invariant below (step_is events k (clause_of (event_at events k)) _ below w.in-Some.ensures.step refl))
      | in-None+in_ok-push-in-None w ↦
          rw (w.made-is, w.given_id-is, w.step_id-is, w.in_ok-push-in-None.ensures.items)
          (numbering_given c.loop-place.made.items c.loop-place.given_id c.loop-place.step_id k events _ c.loop-place.invariant below (given_is events k below (w.in-None.ensures.given refl)))
    ]

pub returns-clause-ids : goal.returns-clause-ids
returns-clause-ids c = numbering_ends c.loop-place.made.items c.loop-place.given_id c.loop-place.step_id c.loop-place.place c.args.events.now c.loop-place.invariant (omega (arith, c.loop-place-test.false, c.len-place-end.ensures.value))

pub returns-clause-all : goal.returns-clause-all
returns-clause-all c =
    ap length (numbering_ends c.loop-place.made.items c.loop-place.given_id c.loop-place.step_id c.loop-place.place c.args.events.now c.loop-place.invariant (omega (arith, c.loop-place-test.false, c.len-place-end.ensures.value)))
    ∙ length-event_ids c.args.events.now

pub returns-clause-few : goal.returns-clause-few
returns-clause-few c = omega (arith, c.len-place-end.ensures.value, c.len-place-end.ensures.few)
