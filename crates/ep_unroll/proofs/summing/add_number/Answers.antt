use Rattle.ep_unroll.proofs.Words.{◌+ℤ◌, ◌∙◌, ap, arith, length, of_z, to_z, w64, ints, to_z-of_z}
use Rattle.ep_ground.specs.Nodes.{parts_of}
use Rattle.ep_unroll.proofs.FormSteps.{none_known}
use Rattle.ep_unroll.proofs.SummingSteps.{number_added, number_put}
use Rattle.ep_unroll.proofs.summing.add_number.Goals as goal

pub put-requires : goal.put-requires
unfolding parts_of
put-requires c = none_known (length c.args.arena.now)

pub returns-in-Some : goal.returns-in-Some
returns-in-Some c = number_added c.args.arena.now c.args.terms.now.items c.args.constant c.args.number _
    (to_z-of_z w64 c.in-Some.sum (omega (arith, ints)) ∙ c.in-Some.ensures ∙ ap (λ m. m +ℤ to_z w64 (of_z w64 c.args.number)) (to_z-of_z w64 c.args.constant c.ranges.constant)
    ∙ ap (λ m. c.args.constant +ℤ m) (to_z-of_z w64 c.args.number c.ranges.number))

pub returns-in_ok-push-in-None : goal.returns-in_ok-push-in-None
returns-in_ok-push-in-None c =
    number_put c.args.arena.now c.put.new.arena c.args.terms.now.items c.push.new.self.items c.args.constant c.args.number _ _ c.in_ok-term-in-None.term (to_z-of_z w64 c.args.constant c.ranges.constant) (to_z-of_z w64 c.args.number c.ranges.number) c.in_ok-term-in-None.ensures c.in_ok-push-in-None.ensures.items
