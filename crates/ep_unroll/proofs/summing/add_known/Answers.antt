use Rattle.ep_unroll.proofs.Words.{Some, ◌∙◌, ap, arith, length, refl, sym, w64, ints, to_z-of_z}
use Rattle.ep_ground.specs.Nodes.{parts_of}
use Rattle.ep_unroll.proofs.FormSteps.{none_known}
use Rattle.ep_unroll.proofs.FormValues.{if_ok}
use Rattle.ep_unroll.proofs.SummingSteps.{added_same, undefined_added}
use Rattle.ep_unroll.proofs.summing.add_known.Goals as goal

pub put-requires : goal.put-requires
unfolding parts_of
put-requires c = none_known (length c.args.arena.now)

pub returns-in-Some : goal.returns-in-Some
returns-in-Some c =
    if_ok c.add_number.result _ _
    (λ sum. added_same c.args.arena.now c.add_number.new.arena c.args.terms.now.items c.add_number.new.terms.items _ sum c.args.constant sum _ _ (to_z-of_z w64 c.args.constant c.ranges.constant) refl
    (λ numbers. ap Some (to_z-of_z w64 c.in-Some.known (omega (arith, ints))) ∙ sym c.in-Some.is)) c.add_number.ensures

pub returns-in_ok-push-in-None : goal.returns-in_ok-push-in-None
returns-in_ok-push-in-None c =
    undefined_added c.args.arena.now c.put.new.arena c.args.terms.now.items c.push.new.self.items c.args.constant _ c.args.number c.in_ok-term-in-None.term (to_z-of_z w64 c.args.constant c.ranges.constant) c.in-None.is c.in_ok-term-in-None.ensures
    c.in_ok-push-in-None.ensures.items
