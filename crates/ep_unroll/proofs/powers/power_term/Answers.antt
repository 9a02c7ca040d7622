use Rattle.ep_unroll.proofs.Words.{length, rules, subst, w64, to_z-of_z, IsPower}
use Rattle.ep_ground.specs.Nodes.{parts_of}
use Rattle.ep_unroll.proofs.FormSteps.{none_known}
use Rattle.ep_unroll.proofs.FormValues.{if_ok}
use Rattle.ep_unroll.proofs.PowerSteps.{power_term, power_undefined}
use Rattle.ep_unroll.proofs.powers.power_term.Goals as goal

pub put-requires : goal.put-requires
unfolding parts_of
put-requires c = none_known (length c.args.arena.now)

pub returns-then-is_undefined : goal.returns-then-is_undefined
returns-then-is_undefined c n cells nodes p e f h k =
    if_ok c.put.result _ _
    (λ t put. power_undefined n cells nodes c.args.arena.now c.put.new.arena p e f c.args.exponent t k (c.is_undefined.ensures c.if-is_undefined.true) put) c.put.ensures

pub returns-in-Some : goal.returns-in-Some
returns-in-Some c n cells nodes p e f h k =
    let old = c.args.arena.now in
    let new = c.power_of.new.arena in
    if_ok c.power_of.result _ _
    (λ t has. power_term n cells nodes old new p e f c.args.base c.args.exponent t c.in-Some.number h k c.in-Some.ensures
    (subst (λ x. IsPower old new c.args.base x t) (to_z-of_z w64 c.in-Some.number (search rules)) has)) c.power_of.ensures
