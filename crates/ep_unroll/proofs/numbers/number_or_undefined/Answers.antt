use Rattle.ep_unroll.proofs.Words.{subst, length, w64, arith, ints, to_z-of_z, constant, Puts}
use Rattle.ep_ground.specs.Nodes.{parts_of}
use Rattle.ep_unroll.proofs.FormSteps.{none_known}
use Rattle.ep_unroll.proofs.FormValues.{if_ok}
use Rattle.ep_unroll.proofs.NumberSteps.{constant_number, undefined_number}
use Rattle.ep_unroll.proofs.numbers.number_or_undefined.Goals as goal

pub put-requires : goal.put-requires
unfolding parts_of
put-requires c = none_known (length c.args.arena.now)

pub put-requires-in-None : goal.put-requires-in-None
unfolding parts_of
put-requires-in-None c = none_known (length c.args.arena.now)

pub returns-in-Some : goal.returns-in-Some
returns-in-Some c =
    if_ok c.put.result _ _
    (λ t put. constant_number c.args.arena.now c.put.new.arena c.in-Some.number c.args.number t c.in-Some.is
    (subst (λ x. Puts c.args.arena.now c.put.new.arena (constant x) t) (to_z-of_z w64 c.in-Some.number (omega (arith, ints))) put)) c.put.ensures

pub returns-in-None : goal.returns-in-None
returns-in-None c =
    if_ok c.put-in-None.result _ _ (λ t put. undefined_number c.args.arena.now c.put-in-None.new.arena (λ numbers. c.args.number) t (λ numbers. c.in-None.is) put) c.put-in-None.ensures
