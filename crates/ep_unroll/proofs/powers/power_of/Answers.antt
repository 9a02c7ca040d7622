use Rattle.ep_unroll.proofs.Words.{arith, length, ints}
use Rattle.ep_ground.specs.Nodes.{parts_of}
use Rattle.ep_unroll.proofs.FormSteps.{none_known, one_known}
use Rattle.ep_unroll.proofs.FormValues.{grown_value, if_ok}
use Rattle.ep_unroll.proofs.PowerSteps.{power_below, power_put}
use Rattle.ep_unroll.proofs.powers.power_of.Goals as goal

pub put-requires : goal.put-requires
unfolding parts_of
put-requires c = none_known (length c.args.arena.now)

pub put-requires-2 : goal.put-requires-2
unfolding parts_of
put-requires-2 c = one_known c.args.base (length c.args.arena.now) c.requires

pub returns-then-exponent-lt0 : goal.returns-then-exponent-lt0
returns-then-exponent-lt0 c =
    if_ok c.put.result _ _
    (λ t put. power_below c.args.arena.now c.put.new.arena c.args.base t c.args.exponent (omega (arith, ints, c.if-exponent-lt0.true, c.ranges.exponent)) put)
    c.put.ensures

pub returns : goal.returns
returns c =
    let old = c.args.arena.now in
    let new = c.put-2.new.arena in
    if_ok c.put-2.result _ _
    (λ t put. power_put old new c.args.base _ t c.args.exponent (omega (arith, ints, c.if-exponent-lt0.false, c.ranges.exponent)) put
    (λ ns. grown_value old new ns c.args.base put.grows c.requires)) c.put-2.ensures
