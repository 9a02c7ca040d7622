use Rattle.ep_unroll.proofs.Words.{◌≡◌, ℤ, None, get_or, of_z, pos, refl, rules, to_z, w64, to_z-of_z}
use Rattle.ep_unroll.proofs.AscendSteps.{ascend_all, ascend_begin, ascend_more}
use Rattle.ep_unroll.proofs.chosen_values.ascend.Goals as goal

pub loop-number-init : goal.loop-number-init
loop-number-init c = ascend_begin c.args.numbers.now None refl

pub loop-number-preserved : goal.loop-number-preserved
loop-number-preserved c =
    let all = c.args.numbers.now in
    let k = c.loop-number.number-index in
    let x : ℤ = get_or all k (pos 0) in
    let word : to_z w64 (of_z w64 x) ≡ x = to_z-of_z w64 x (search rules) in
    ascend_more all k c.loop-number.last _ (to_z w64 (of_z w64 x)) (pos 0) c.loop-number-test.true word c.loop-number.invariant (λ before is. c.is_behind.ensures c.if-not-is_behind.false before is) refl

pub returns : goal.returns
returns c told = ascend_all c.args.numbers.now c.loop-number.number-index c.loop-number.last c.loop-number-test.false c.loop-number.invariant
