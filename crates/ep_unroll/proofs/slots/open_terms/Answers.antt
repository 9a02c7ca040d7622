use Rattle.ep_unroll.proofs.Words.{ap, ◌∙◌, Every, At}
use Rattle.ep_unroll.proofs.SlotSteps.{none_at, none_every, opens_all, opens_more, opens_same}
use Rattle.ep_unroll.proofs.slots.open_terms.Goals as goal
use Rattle.ep_unroll.proofs.slots.open_terms.Goals.{in-Open+in_ok-push-in-Open, in-At, in-Every}

pub loop-slot-preserved : goal.loop-slot-preserved
loop-slot-preserved c =
    let ss = c.args.slots.now in
    let k = c.loop-slot.slot-index in
    let s = c.slot-item.result in
    elim c.match-slot.branch [
      | in-Open+in_ok-push-in-Open w ↦
          opens_more ss k s s w.in-Open.term c.loop-slot.terms.items c.match-slot.terms.items c.loop-slot-test.true c.slot-item.is w.in-Open.is c.loop-slot.invariant
          (ap (λ v. v.items) w.terms-is ∙ w.in_ok-push-in-Open.ensures.items)
      | in-At w ↦ opens_same ss k s s (At w.in-At.field-0) c.loop-slot.terms.items c.match-slot.terms.items c.loop-slot-test.true c.slot-item.is w.in-At.is (none_at w.in-At.field-0) c.loop-slot.invariant
          (ap (λ v. v.items) w.terms-is)
      | in-Every w ↦ opens_same ss k s s Every c.loop-slot.terms.items c.match-slot.terms.items c.loop-slot-test.true c.slot-item.is w.in-Every.is none_every c.loop-slot.invariant (ap (λ v. v.items) w.terms-is)
    ]

pub returns : goal.returns
returns c = opens_all c.args.slots.now c.loop-slot.slot-index c.loop-slot.terms.items c.loop-slot-test.false c.loop-slot.invariant
