use Rattle.std.proofs.Common.{◌∙◌, refl, arith}
use Rattle.std.proofs.lemmas.Int.{ints}
use Rattle.enc_adder.proofs.SideSums.{aside_left, aside_right}
use Rattle.enc_adder.proofs.sides.put_aside.Goals as goal

pub returns-in_ok-push-clause-moves : goal.returns-in_ok-push-clause-moves
returns-in_ok-push-clause-moves c layout has =
    aside_left layout c.args.sides.now _ c.args.sides.now.rest c.distance.result c.in_ok-remains.remains refl (c.distance.ensures.above (omega (arith, ints)) ∙ omega (arith, ints))
    (c.in_ok-remains.ensures.bits layout has) (λ values among. c.in_ok-remains.ensures.spells layout values has among) c.in_ok-push.ensures.items refl refl

pub returns-in_ok-push-2-clause-moves : goal.returns-in_ok-push-2-clause-moves
returns-in_ok-push-2-clause-moves c layout has =
    aside_right layout c.args.sides.now _ c.args.sides.now.rest c.distance.result c.in_ok-remains.remains refl (c.distance.ensures.below (omega (arith, ints)) ∙ omega (arith, ints))
    (c.in_ok-remains.ensures.bits layout has) (λ values among. c.in_ok-remains.ensures.spells layout values has among) c.in_ok-push-2.ensures.items refl refl
